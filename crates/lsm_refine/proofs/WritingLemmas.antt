-- A good store whose last log is being written.
use Rattle.std.specs.Prelude.{◌≡◌, ℕ, ◌+◌, ◌≤◌, List, [], ◌∷◌, ◌++◌, map, drop, length, codes, take, Option, None}
use Rattle.std.proofs.Common.{inl, refl, sym, ap, subst, ◌∙◌, arith}
use Rattle.std.proofs.lemmas.List.{append_cancel_left, take-append-drop}
use Rattle.std.proofs.lemmas.List.Elements.{All-head, All-tail}
use Rattle.lsm_names.specs.FileNames.{IsFileName, spelled, six_digits}
use Rattle.lsm_names.specs.declared.file_names.FileName.{FileName}
use Rattle.lsm_names.specs.declared.file_names.FileName.TheVariants.{Log, Table, Manifest, Temp, Current}
use Rattle.lsm_rows.specs.declared.operations.Op.{Op}
use Rattle.lsm_rows.specs.declared.rows.Row.{Row}
use Rattle.lsm_rows.specs.Replay.{sequence_after}
use Rattle.lsm_rows.proofs.Replaying.{sequence_next, sequence_both}
use Rattle.lsm_disk.specs.State as disk
use Rattle.lsm_disk.specs.State.{state_of}
use Rattle.lsm_disk.specs.Dest.{path_in}
use Rattle.lsm_disk.specs.declared.calls.Halt.{Halt}
use Rattle.lsm_disk.proofs.Kept.{kept_at}
use Rattle.lsm_wal.proofs.Texts.{sequence_length}
use Rattle.lsm_folder.specs.Manifests.{last_after}
use Rattle.lsm_model.specs.declared.states.State.{State}
use Rattle.lsm_refine.specs.Kept.{Unfinished, Kept, Shown}
use Rattle.lsm_refine.specs.Parts.{Parts, batches_in, first_logged, first_in_last}
use Rattle.lsm_refine.specs.Sane.{IsAlone, IsHeld, in_hand}
use Rattle.lsm_refine.specs.Tied.{Tied}
use Rattle.lsm_refine.specs.Folders.{ChangesInside, FoldersRead}
use Rattle.lsm_refine.specs.Good.{IsRunning, IsInMode, Good}
use Rattle.lsm_refine.specs.Beside.{WritesAt, IsLone, Beside, last_path}
use Rattle.lsm_refine.proofs.BesideLemmas.{all_beside}
use Rattle.lsm_refine.proofs.LastLogLemmas.{last_is}
use Rattle.lsm_refine.proofs.OutsideLemmas.{folders_stay}
use Rattle.lsm_refine.proofs.PartsLemmas.{readable}
use Rattle.lsm_refine.proofs.TiedLemmas.{logged_many}

-- ---- names of logs and of tables

abbrev pub last_byte : List ℕ → ℕ
last_byte [] = 0
last_byte (x ∷ []) = x
last_byte (x ∷ y ∷ ys) = last_byte (y ∷ ys)

pub last_byte-append : (xs : List ℕ) (y : ℕ) (ys : List ℕ) → last_byte (xs ++ y ∷ ys) ≡ last_byte (y ∷ ys)
last_byte-append [] y ys = refl
last_byte-append (x ∷ []) y ys = refl
last_byte-append (x ∷ w ∷ xs) y ys = last_byte-append (w ∷ xs) y ys

-- a table's path is no log's
pub table_apart : (dir : List ℕ) (m n : ℕ) → path_in dir (Table m) ≡ path_in dir (Log n) → ⊥
unfolding spelled
table_apart dir m n same =
    let text : six_digits m ++ codes ".sst" ≡ six_digits n ++ codes ".log" =
    ap (λ (l : List ℕ). drop 1 l) (append_cancel_left dir (47 ∷ spelled (Table m)) (47 ∷ spelled (Log n)) same) in
    let clash : 116 ≡ 103 = sym (last_byte-append (six_digits m) 46 (codes "sst")) ∙ ap last_byte text ∙ last_byte-append
    (six_digits n) 46 (codes "log") in
    omega (arith, clash)

-- the same names are held, whatever the rows in memory and the length of the last log
pub held_same : (kept : Kept) (sequence : ℕ) (active : List Row) (log_len : ℕ) (name : FileName)
    → IsHeld (record kept { sequence = sequence; active = active; log_len = log_len }) name → IsHeld kept name
held_same kept sequence active log_len Current held = held
held_same kept sequence active log_len (Manifest n) held = held
held_same kept sequence active log_len (Table n) held = held
held_same kept sequence active log_len (Log n) held = held
held_same kept sequence active log_len (Temp n) held = held

-- ---- a running store

-- a good store that nothing has halted
pub runs : (v : Shown) (s : State) (good : Good v s) → v.halt ≡ None → IsRunning (state_of good.story) v s
runs v s good none = subst (λ (h : Option Halt). IsInMode h (state_of good.story) v s) none good.mode

-- the next sequence is that behind the last log's batches
pub next_first : (parts : Parts) (s : State) → Tied parts s → sequence_after s.began s.accepted + 1
    ≡ sequence_after (first_in_last parts) parts.last.batches
next_first parts s tied =
    ap (λ (l : List (List Op)). sequence_after s.began l + 1) (sym (take-append-drop tied.flushed s.accepted))
    ∙ ap (λ (n : ℕ). n + 1) (sym (sequence_both s.began (take tied.flushed s.accepted) (drop tied.flushed s.accepted)))
    ∙ ap (λ (n : ℕ). sequence_after n (drop tied.flushed s.accepted) + 1) (sym tied.last)
    ∙ ap (λ (l : List (List Op)). sequence_after (last_after parts.edits) l + 1) (sym tied.above)
    ∙ sym (sequence_next (last_after parts.edits) (batches_in parts.older ++ parts.last.batches))
    ∙ sym (sequence_both (first_logged parts) (batches_in parts.older) parts.last.batches)

module _ (v : Shown) (s : State) (good : Good v s) (run : IsRunning (state_of good.story) v s) where
  abbrev d : disk.State
  d = state_of good.story

  abbrev parts : Parts
  parts = run.parts

  abbrev name : FileName
  name = Log run.parts.last.number

  pub last_fits : IsFileName (Log run.parts.last.number)
  last_fits = (last_is d v.dir v.kept parts (readable d v.dir v.kept parts run.sane).logs).1

  last_alone : IsAlone d (last_path v.dir parts)
  last_alone =
      let rest : List (List ℕ) = map (λ (table : Unfinished). path_in v.dir (Table table.number)) v.kept.unfinished
      ++ in_hand v.kept.begun v.kept.hand in
      All-head (IsAlone d) (last_path v.dir parts) rest (All-tail (IsAlone d) (path_in v.dir (Manifest v.kept.manifest))
      (last_path v.dir parts ∷ rest) run.sane.written.alone)

  -- its last log has no other name
  pub last_lone : IsLone (state_of good.story) v.dir (Log run.parts.last.number) run.sane.logs.last.id
  last_lone = record { fits = last_fits; there = kept_at d (last_path v.dir parts) run.sane.logs.last.id run.sane.logs.last.file run.sane.logs.last.kept; alone = last_alone }

  -- how many of its batches are synced
  pub synced_few : run.parts.synced ≤ length run.parts.last.batches
  synced_few = subst (λ (n : ℕ). run.parts.synced ≤ n) (sequence_length (first_in_last parts) parts.last.batches) run.sane.logs.last.within

  pub durable_few : s.durable ≤ length s.accepted
  durable_few = omega (arith, run.tied.durable, logged_many parts s run.tied, synced_few)

  pub next_is : v.kept.sequence + 1 ≡ sequence_after (first_in_last run.parts) run.parts.last.batches
  next_is = ap (λ (n : ℕ). n + 1) good.kept.sequence ∙ next_first parts s run.tied

  module _ (x : disk.State) (writes : WritesAt v.dir (Log run.parts.last.number) (state_of good.story) x) where
    -- what stays while the log is written
    pub beside : Beside (state_of good.story) v.dir v.kept run.parts s (Log run.parts.last.number) x
    beside = all_beside d v.dir v.kept parts run.sane name last_fits
        (inl refl) x writes s run.sane.logs.last.id last_lone good.pinned.files run.jobs good.clear

    pub folders_beside : FoldersRead x s
    folders_beside = folders_stay d x s (subst (λ (own : List ℕ). ChangesInside own d x) good.kept.own writes.inside) good.folders
