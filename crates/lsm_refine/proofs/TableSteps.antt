-- The disk calls that write a table which no edit names yet, each with the store behind it, the images on the way, and
-- the store that a refusal there halts.
use Rattle.std.specs.Prelude.{◌≡◌, ℕ, List, [], ◌∷◌, ◌++◌, map, length, All, Contains, Some, None}
use Rattle.std.proofs.Common.{refl, sym, ap, subst, ◌∙◌}
use Rattle.std.proofs.lemmas.List.{append-nil}
use Rattle.std.proofs.lemmas.List.Elements.{All-nil, All-tail, All-weaker, All-contains}
use Rattle.std.specs.FinMap as finmap
use Rattle.lsm_names.specs.FileNames.{IsFileName}
use Rattle.lsm_names.specs.declared.file_names.FileName.TheVariants.{Log, Table, Manifest}
use Rattle.lsm_disk.specs.Names.{id_of}
use Rattle.lsm_disk.specs.State as disk
use Rattle.lsm_disk.specs.State.{FileState, Seen, Story, Change, Created, Names_synced, state_of, after, names_now, file_at, bytes_of, appended, file_synced, names_synced, sure}
use Rattle.lsm_disk.specs.Images.{Tree, IsImage, bytes_at, tree_now}
use Rattle.lsm_disk.specs.Kept.{IsKeptFile, InFile, OpSpares}
use Rattle.lsm_disk.specs.Tree.{IsLawful}
use Rattle.lsm_disk.specs.Building.{sealed}
use Rattle.lsm_disk.specs.Dest.{path_in}
use Rattle.lsm_disk.specs.declared.calls.Halt.{Halt}
use Rattle.lsm_disk.proofs.Images.{after_names_synced}
use Rattle.lsm_disk.proofs.Named.{now_at, now_synced, now_kept, appends_in_now, syncs_in_now}
use Rattle.lsm_disk.proofs.Now.{get_created, bytes_created, bytes_appended}
use Rattle.lsm_model.specs.declared.states.State.{State}
use Rattle.lsm_model.specs.declared.states.Pin.{Pin}
use Rattle.lsm_refine.specs.Kept.{Unfinished, Shown}
use Rattle.lsm_refine.specs.Sane.{IsWholeFile, IsAlone, in_hand}
use Rattle.lsm_refine.specs.Pins.{PinFiles}
use Rattle.lsm_refine.specs.Good.{IsRunning, Good}
use Rattle.lsm_refine.specs.Moments.{ReadsAsCrashed}
use Rattle.lsm_refine.specs.Beside.{WritesAt, MakesAt, IsLone}
use Rattle.lsm_refine.specs.Grown.{halted_shown, halted_state}
use Rattle.lsm_refine.specs.Obsolete.{HasAlso}
use Rattle.lsm_refine.specs.TableWork.{Work, working_kept, working_state, AreWith}
use Rattle.lsm_refine.specs.Flushed.{shown_with}
use Rattle.lsm_refine.proofs.AmongLemmas.{new_alone}
use Rattle.lsm_refine.proofs.BesideLemmas.{file_writes, names_write}
use Rattle.lsm_refine.proofs.TableWorkLemmas.{not_needed, table_free, begun_good, written_good}
use Rattle.lsm_refine.proofs.ChangeLemmas.{file_of, bytes_now}
use Rattle.lsm_refine.proofs.EditedLemmas.{both_all}
use Rattle.lsm_refine.proofs.NewFileLemmas.{makes_none, makes_more}
use Rattle.lsm_refine.proofs.UnneededLemmas.{unneeded_reads, unneeded_pins, unneeded_halts}

-- ---- what a crash leaves doesn't go by how far the work came

-- what it leaves of a store that wrote on at a table it may leave of the earlier one
pub working_crashed : (s : State) (seen : Seen) (p : Work) (t : Tree) → ReadsAsCrashed (working_state seen p s) t
    → ReadsAsCrashed s t
working_crashed s seen p t is = record {
  left = is.left;
  crashed = record {
    kept = is.crashed.kept;
    durable = is.crashed.durable;
    accepted = is.crashed.accepted;
    all = is.crashed.all;
    folders = is.crashed.folders;
    rest = is.crashed.rest;
  };
  reads = is.reads;
}

-- ---- the file's own state

module _ (d : disk.State) (path bytes : List ℕ) (has : bytes_at (tree_now d) path ≡ Some bytes) where
  abbrev id : ℕ
  id = (file_of d path bytes has).0

  abbrev file : FileState
  file = (file_of d path bytes has).1

  pub append_bytes : (more : List ℕ) → bytes_at (tree_now (after d (appended path more d))) path ≡ Some (bytes ++ more)
  append_bytes more = bytes_appended d path more bytes has

  pub sync_bytes : bytes_at (tree_now (after d (file_synced path d))) path ≡ Some bytes
  sync_bytes =
      let found = file_of d path bytes has in
      bytes_now (after d (file_synced path d)) path found.0 (sure found.1) (now_synced d path found.0 found.1 found.2)
      ∙ ap Some (append-nil (bytes_of found.1) ∙ found.3)

  pub names_bytes : bytes_at (tree_now (after d (names_synced d))) path ≡ Some bytes
  names_bytes = ap (λ (x : disk.State). bytes_at (tree_now x) path) (after_names_synced d) ∙ has

  -- once it is synced, and its name is, it is whole for good, and no operation on names is left that a crash may undo
  pub sealed_whole : IsWholeFile (after (after d (file_synced path d)) (names_synced (after d (file_synced path d)))) path bytes
  sealed_whole =
      let found = file_of d path bytes has in
      let x : disk.State = after d (file_synced path d) in
      record {
        id = found.0;
        file = subst (λ (held : List ℕ). IsKeptFile (after x (names_synced x)) path found.0 (sealed held)) found.3
            (now_kept x path found.0 (sure found.1) (now_synced d path found.0 found.1 found.2));
      }

-- no operation on names is left that a crash may undo
pub names_quiet : (d : disk.State) (path : List ℕ) → All (OpSpares path) (after d (names_synced d)).pending
names_quiet d path = subst (λ (x : disk.State). All (OpSpares path) x.pending) (sym (after_names_synced d))
    (All-nil (OpSpares path))

some_once : (a b : ℕ) → Some a ≡ Some b → a ≡ b
some_once a b same = cc

-- ---- the calls

module _ (v : Shown) (s : State) (good : Good v s) (run : IsRunning (state_of good.story) v s) (n : ℕ)
    (fits : IsFileName (Table n))
    (fresh : finmap.get v.kept.version n ≡ None) where
  abbrev d : disk.State
  d = state_of good.story

  abbrev path : List ℕ
  path = path_in v.dir (Table n)

  -- ---- its file is made

  module _ (lawful : IsLawful (state_of good.story)) (free : ¬ Contains v.kept.known (Table n)) where
    abbrev x : disk.State
    x = after d (Created path)

    pub created_makes : MakesAt v.dir (Table n) (state_of good.story)
        (after (state_of good.story) (Created (path_in v.dir (Table n))))
    created_makes = makes_more v.dir (Table n) run.sane.current.named fits d d
        (makes_none v.dir (Table n) run.sane.current.named fits d lawful.files) (Created path) refl

    created_alone : IsAlone x path
    created_alone = new_alone v.dir (Table n) d x created_makes (ap id_of (get_created d path))

    -- it has no other name
    pub created_lone : IsLone (after (state_of good.story) (Created (path_in v.dir (Table n)))) v.dir (Table n)
        (length (state_of good.story).files)
    created_lone = record { fits = fits; there = ap id_of (get_created d path); alone = created_alone }

    pub created_good : (p : Work) → HasAlso (Table n) v.kept.known p.known → AreWith v.kept.unfinished n [] p.unfinished
        → (seen : Seen) (story : Story) → seen.told ≡ Some story → v.halt ≡ None
        → state_of story ≡ after (state_of good.story) (Created (path_in v.dir (Table n)))
        → Good (shown_with seen (working_kept p v.kept) v) (working_state seen p s)
    created_good p also are seen story told none same =
        begun_good v s good run n fits fresh free x created_makes (length d.files) (get_created d path) created_alone []
        (bytes_created d path) p also are seen story told none same

    -- each image reads as a crash leaves the state
    pub created_reads : (t : Tree) → IsImage (after (state_of good.story) (Created (path_in v.dir (Table n)))) t
        → ReadsAsCrashed s t
    created_reads t i =
        unneeded_reads v s good run (Table n) fits (not_needed v.kept n fresh) x created_makes.at created_makes.inside t i

    -- and a halt leaves a good store
    pub created_halts : (seen : Seen) (by : Halt) (story : Story) → seen.told ≡ Some story
        → state_of story ≡ after (state_of good.story) (Created (path_in v.dir (Table n)))
        → Good (halted_shown seen by v) (halted_state seen by s.doubtful s)
    created_halts seen by story told same =
        let makes = subst (MakesAt v.dir (Table n) d) (sym same) created_makes in
        unneeded_halts v s good run (Table n) fits (not_needed v.kept n fresh) seen by story told makes.at makes.inside
        (unneeded_pins v s good run (Table n) fits (not_needed v.kept n fresh) (state_of story) makes.at
        (table_free v s good run n fits fresh free))

  -- ---- its file is written

  module _ (x : disk.State) (writes : WritesAt v.dir (Table n) (state_of good.story) x) where
    -- wherever it is written, each image reads as a crash leaves the state
    pub table_reads : (t : Tree) → IsImage x t → ReadsAsCrashed s t
    table_reads t i = unneeded_reads v s good run (Table n) fits (not_needed v.kept n fresh) x writes.at writes.inside t i

    -- and a halt leaves a good store
    pub table_halts : (seen : Seen) (by : Halt) (story : Story) → seen.told ≡ Some story → state_of story ≡ x
        → Good (halted_shown seen by v) (halted_state seen by s.doubtful s)
    table_halts seen by story told same =
        let at = subst (WritesAt v.dir (Table n) d) (sym same) writes in
        unneeded_halts v s good run (Table n) fits (not_needed v.kept n fresh) seen by story told at.at at.inside
        (All-weaker (λ (pin : Pin). PinFiles d v.dir pin.files) (λ (pin : Pin). PinFiles (state_of story) v.dir pin.files)
        (λ pin held. at.pinned pin.files held) s.pins good.pinned.files)

  module _ (id : ℕ) (lone : IsLone (state_of good.story) v.dir (Table n) id) (bytes : List ℕ)
      (has : bytes_at (tree_now (state_of good.story)) (path_in v.dir (Table n)) ≡ Some bytes) where
    same_id : (file_of d path bytes has).0 ≡ id
    same_id =
        let found = file_of d path bytes has in
        some_once found.0 id (sym (now_at d path found.0 found.1 found.2) ∙ lone.there)

    in_file : (c : Change) → InFile (file_of d path bytes has).0 c → InFile id c
    in_file c is = subst (λ (k : ℕ). InFile k c) same_id is

    pub append_writes : (more : List ℕ) → WritesAt v.dir (Table n) (state_of good.story)
        (after (state_of good.story) (appended (path_in v.dir (Table n)) more (state_of good.story)))
    append_writes more =
        let found = file_of d path bytes has in
        file_writes v.dir (Table n) d id lone (appended path more d)
        (in_file (appended path more d) (appends_in_now d path found.0 found.1 found.2 more))

    pub sync_writes : WritesAt v.dir (Table n) (state_of good.story)
        (after (state_of good.story) (file_synced (path_in v.dir (Table n)) (state_of good.story)))
    sync_writes =
        let found = file_of d path bytes has in
        file_writes v.dir (Table n) d id lone (file_synced path d)
        (in_file (file_synced path d) (syncs_in_now d path found.0 found.1 found.2))

    pub names_writes : WritesAt v.dir (Table n) (state_of good.story)
        (after (state_of good.story) (names_synced (state_of good.story)))
    names_writes = subst (WritesAt v.dir (Table n) d) (sym (after_names_synced d)) (names_write v.dir (Table n) d)

    module _ (p : Work) (same_known : p.known ≡ v.kept.known) (seen : Seen) (story : Story) (told : seen.told ≡ Some story)
        (none : v.halt ≡ None) where
      pub append_good : (more : List ℕ) → AreWith v.kept.unfinished n (bytes ++ more) p.unfinished
          → state_of story ≡ after (state_of good.story) (appended (path_in v.dir (Table n)) more (state_of good.story))
          → Good (shown_with seen (working_kept p v.kept) v) (working_state seen p s)
      append_good more are same =
          written_good v s good run n fits fresh id lone (after d (appended path more d)) (append_writes more) (bytes ++ more)
          (append_bytes d path bytes has more) p same_known are seen story told none same

      pub sync_good : AreWith v.kept.unfinished n bytes p.unfinished
          → state_of story ≡ after (state_of good.story) (file_synced (path_in v.dir (Table n)) (state_of good.story))
          → Good (shown_with seen (working_kept p v.kept) v) (working_state seen p s)
      sync_good are same =
          written_good v s good run n fits fresh id lone (after d (file_synced path d)) sync_writes bytes
          (sync_bytes d path bytes has) p same_known are seen story told none same

      pub names_good : AreWith v.kept.unfinished n bytes p.unfinished
          → state_of story ≡ after (state_of good.story) (names_synced (state_of good.story))
          → Good (shown_with seen (working_kept p v.kept) v) (working_state seen p s)
      names_good are same =
          written_good v s good run n fits fresh id lone (after d (names_synced d)) names_writes bytes
          (names_bytes d path bytes has) p same_known are seen story told none same

-- a table that is being written has one name
pub unfinished_lone : (v : Shown) (s : State) (good : Good v s) (run : IsRunning (state_of good.story) v s) (table : Unfinished)
    → Contains v.kept.unfinished table → IsFileName (Table table.number)
    → (id : ℕ) × IsLone (state_of good.story) v.dir (Table table.number) id
unfinished_lone v s good run table among fits =
    let d : disk.State = state_of good.story in
    let path : List ℕ = path_in v.dir (Table table.number) in
    let has = All-contains (λ (u : Unfinished). bytes_at (tree_now d) (path_in v.dir (Table u.number)) ≡ Some u.bytes)
    v.kept.unfinished table run.sane.written.tables among in
    let found = file_of d path table.bytes has in
    let behind = All-tail (IsAlone d) (path_in v.dir (Log run.parts.last.number))
    (map (λ (u : Unfinished). path_in v.dir (Table u.number)) v.kept.unfinished ++ in_hand v.kept.begun v.kept.hand)
    (All-tail (IsAlone d) (path_in v.dir (Manifest v.kept.manifest)) (path_in v.dir (Log run.parts.last.number)
    ∷ map (λ (u : Unfinished). path_in v.dir (Table u.number)) v.kept.unfinished ++ in_hand v.kept.begun v.kept.hand)
    run.sane.written.alone) in (
      found.0,
      record {
        fits = fits;
        there = now_at d path found.0 found.1 found.2;
        alone = All-contains (λ (u : Unfinished). IsAlone d (path_in v.dir (Table u.number))) v.kept.unfinished table
            (both_all (IsAlone d) (λ (u : Unfinished). path_in v.dir (Table u.number)) v.kept.unfinished
            (in_hand v.kept.begun v.kept.hand) behind).0 among;
      },
    )
