-- Files that stand now, under changes of other files.
use Rattle.std.specs.Prelude.{◌≡◌, ◌≢◌, ◌⊎◌, ℕ, zero, suc, ◌+◌, ◌<◌, ◌≤◌, List, [], ◌∷◌, ◌++◌, length, slice_get, Option, Some, None}
use Rattle.std.proofs.Common.{refl, sym, ap, subst, ◌∙◌, arith, length-append}
use Rattle.std.specs.FinMap as map
use Rattle.lsm_disk.specs.Names.{Node, File_node, Names, NameOp, Put, named, all_named}
use Rattle.lsm_disk.specs.State.{FileState, State, Story, Change, Created, Named, Appended, Synced, Names_synced, Idle, after, after_all, state_of, names_now, new_file, longer, sure, in_file}
use Rattle.lsm_disk.specs.Images.{Tree}
use Rattle.lsm_disk.specs.Goes.{Each, GoesOn, Went}
use Rattle.lsm_disk.specs.Kept.{IsFileNow, Spares, OpSpares}
use Rattle.lsm_disk.proofs.Files.{get_other, get_before}
use Rattle.lsm_disk.proofs.Paths.{get_put_other, get_spared}
use Rattle.lsm_disk.proofs.Images.{all_push}
use Rattle.lsm_disk.proofs.Runs.{goes_state, went_weaker, went_wider}
use Rattle.lsm_publish.specs.Publishing.{Writes}
use Rattle.bk_meta.specs.declared.metas.MetaFile.{MetaFile}
use Rattle.bk_tree.specs.Kept.{all_synced}
use Rattle.bk_tree.proofs.Sparing.{within}
use Rattle.bk_engine.specs.Copying.{Whatever, Anything, IsSealed}
use Rattle.bk_engine.specs.Preparing.{Prepares, IsOwnPath, Apart, IsNewFile, AreNew}
use Rattle.lsm_disk.proofs.Tree.{length_in}

-- ---- one change

module _ (s : State) (path : List ℕ) (id : ℕ) (f : FileState) (now : IsFileNow s path id f) where
  op_spared : (op : NameOp) → OpSpares path op → map.get (all_named (s.pending ++ op ∷ []) s.durable) path ≡ Some (File_node id)
  op_spared op spares = ap (λ (n : Names). map.get n path) (all_push s.pending op s.durable) ∙ get_spared path op (names_now s) spares ∙ now.named

  -- a change that doesn't touch it
  pub now_spared : (c : Change) → Spares path id c → IsFileNow (after s c) path id f
  now_spared (Created other) spares = record { named = op_spared (Put other (File_node (length s.files))) spares; file = get_before s.files (new_file ∷ []) id f now.file }
  now_spared (Named op) spares = record { named = op_spared op spares; file = now.file }
  now_spared (Appended k bytes) spares = record { named = now.named; file = get_other (longer bytes) s.files id k spares ∙ now.file }
  now_spared (Synced k) spares = record { named = now.named; file = get_other sure s.files id k spares ∙ now.file }
  now_spared Names_synced spares = record { named = now.named; file = now.file }
  now_spared Idle spares = now

pub writes_spare : (path other : List ℕ) (id k : ℕ) (c : Change) → path ≢ other → id < k → Writes other k c → Spares path id c
writes_spare path other id k (Created p) apart lt is = λ same. apart (same ∙ is)
writes_spare path other id k (Named op) apart lt is = absurd is
writes_spare path other id k (Appended n bytes) apart lt is = λ same. omega (arith, lt, same, is)
writes_spare path other id k (Synced n) apart lt is = λ same. omega (arith, lt, same, is)
writes_spare path other id k Names_synced apart lt is = tt
writes_spare path other id k Idle apart lt is = tt

-- ---- runs of changes

keeps_all : (q : Change → Type 0) (J : State → Type 0) → ((s : State) (c : Change) → q c → J s → J (after s c)) → (cs : List Change) (s : State) → Each q cs → J s → J (after_all cs s)
keeps_all q J step [] s each j = j
keeps_all q J step (c ∷ cs) s each j = keeps_all q J step cs (after s c) each.1 (step s c each.0 j)

-- what each change keeps holds at the end
pub went_also : {start : Story} {told : Option Story} (q : Change → Type 0) (P : State → Tree → Type 0) (I J : State → Type 0) → ((s : State) (c : Change) → q c → J s → J (after s c))
    → J (state_of start) → Went start told q P I → Went start told q P (λ s. I s × J s)
went_also {start} q P I J step j w = record {
  story = w.story;
  tells = w.tells;
  goes = w.goes;
  now = (w.now, subst J (sym (goes_state w.goes)) (keeps_all q J step w.goes.more (state_of start) w.goes.kind j));
}

-- a file is never taken away
pub no_fewer : (n : ℕ) (s : State) (c : Change) → n ≤ length s.files → n ≤ length (after s c).files
no_fewer n s (Created p) le = omega (arith, le, length-append s.files (new_file ∷ []))
no_fewer n s (Named op) le = le
no_fewer n s (Appended k bytes) le = omega (arith, le, length_in (longer bytes) k s.files)
no_fewer n s (Synced k) le = omega (arith, le, length_in sure k s.files)
no_fewer n s Names_synced le = le
no_fewer n s Idle le = le

-- ---- the files of a backup

-- the same of numbers below a bound, for as long as new numbers come
abbrev pub AreNewBelow : ℕ → ℕ → State → List MetaFile → List (List ℕ) → Type 0
AreNewBelow bound first s [] [] = Unit {0}
AreNewBelow bound first s [] (bytes ∷ texts) = ⊥
AreNewBelow bound first s (file ∷ files) [] = ⊥
AreNewBelow bound first s (file ∷ files) (bytes ∷ texts) = ((new : IsNewFile first s file.path bytes) × (new.id < bound)) × AreNewBelow bound first s files texts

pub bounded : (first : ℕ) (s : State) (files : List MetaFile) (texts : List (List ℕ)) → AreNew first s files texts → AreNewBelow (length s.files) first s files texts
bounded first s [] [] new = tt
bounded first s [] (bytes ∷ texts) new = absurd new
bounded first s (file ∷ files) [] new = absurd new
bounded first s (file ∷ files) (bytes ∷ texts) new = ((new.0, within s.files new.0.id (all_synced bytes) new.0.now.file), bounded first s files texts new.1)

unbounded : (bound first : ℕ) (s : State) (files : List MetaFile) (texts : List (List ℕ)) → AreNewBelow bound first s files texts → AreNew first s files texts
unbounded bound first s [] [] new = tt
unbounded bound first s [] (bytes ∷ texts) new = absurd new
unbounded bound first s (file ∷ files) [] new = absurd new
unbounded bound first s (file ∷ files) (bytes ∷ texts) new = (new.0.0, unbounded bound first s files texts new.1)

pub still_new : (other : List ℕ) (bound first : ℕ) (files : List MetaFile) (texts : List (List ℕ)) → Apart other files → (s : State) (c : Change) → Writes other bound c → AreNewBelow bound first s files texts → AreNewBelow bound first (after s c) files texts
still_new other bound first [] [] apart s c is new = tt
still_new other bound first [] (bytes ∷ texts) apart s c is new = absurd new
still_new other bound first (file ∷ files) [] apart s c is new = absurd new
still_new other bound first (file ∷ files) (bytes ∷ texts) apart s c is new =
    let one = new.0.0 in (
      (record { id = one.id; from = one.from; now = now_spared s file.path one.id (all_synced bytes) one.now c (writes_spare file.path other one.id bound c apart.0 new.0.1 is) }, new.0.1),
      still_new other bound first files texts apart.1 s c is new.1,
    )

pushed : (first : ℕ) (s : State) (files : List MetaFile) (texts : List (List ℕ)) (file : MetaFile) (bytes : List ℕ) → AreNew first s files texts → IsNewFile first s file.path bytes → AreNew first s (files ++ file ∷ []) (texts ++ bytes ∷ [])
pushed first s [] [] file bytes new one = (one, tt)
pushed first s [] (other ∷ texts) file bytes new one = absurd new
pushed first s (other ∷ files) [] file bytes new one = absurd new
pushed first s (other ∷ files) (text ∷ texts) file bytes new one = (new.0, pushed first s files texts file bytes new.1 one)

-- one file more
pub one_more : {start : Story} {told : Option Story} (first : ℕ) (files : List MetaFile) (texts : List (List ℕ)) (file : MetaFile) (bytes : List ℕ) → first ≤ length (state_of start).files → Apart file.path files
    → AreNew first (state_of start) files texts → Went start told (Writes file.path (length (state_of start).files)) Anything (IsSealed file.path (length (state_of start).files) bytes)
    → Went start told (Writes file.path (length (state_of start).files)) Anything (λ s. AreNew first s (files ++ file ∷ []) (texts ++ bytes ∷ []))
one_more {start} first files texts file bytes le apart new w =
    let n : ℕ = length (state_of start).files in
    went_weaker (λ s. IsSealed file.path n bytes s × AreNewBelow n first s files texts) (λ s. AreNew first s (files ++ file ∷ []) (texts ++ bytes ∷ []))
    (λ s both. pushed first s files texts file bytes (unbounded n first s files texts both.1) (record { id = n; from = le; now = both.0 }))
    (went_also (Writes file.path n) Anything (IsSealed file.path n bytes) (λ s. AreNewBelow n first s files texts) (still_new file.path n first files texts apart) (bounded first (state_of start) files texts new) w)

-- the copy of a file of the backup's own
pub writes_prepare : (id first n : ℕ) (path : List ℕ) → IsOwnPath id path → first ≤ n → (c : Change) → Writes path n c → Prepares id first c
writes_prepare id first n path own le (Created p) is = (own.0, is ∙ own.1)
writes_prepare id first n path own le (Named op) is = absurd is
writes_prepare id first n path own le (Appended k bytes) is = omega (arith, le, is)
writes_prepare id first n path own le (Synced k) is = omega (arith, le, is)
writes_prepare id first n path own le Names_synced is = tt
writes_prepare id first n path own le Idle is = tt

pub prepared : {start : Story} {told : Option Story} (id first n : ℕ) (path : List ℕ) (I : State → Type 0) → IsOwnPath id path → first ≤ n → Went start told (Writes path n) Anything I → Went start told (Prepares id first) Anything I
prepared id first n path I own le w = went_wider (Writes path n) (Prepares id first) Anything Anything (writes_prepare id first n path own le) (λ s t p. p) w
