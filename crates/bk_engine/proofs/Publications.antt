-- What the publication of a meta leaves.
use Rattle.std.specs.Prelude.{◌≡◌, ◌≢◌, ◌⊎◌, ℕ, zero, suc, ◌<◌, ◌≤◌, List, [], ◌∷◌, ◌++◌, codes, length, take, drop, slice_index, Option, Some, None, Result, Ok, Err}
use Rattle.std.proofs.Common.{inl, inr, ⊎_elim, refl, sym, ap, subst, ◌∙◌, arith, length-append}
use Rattle.std.specs.Fmt.{decimal}
use Rattle.std.specs.FinMap as map
use Rattle.lsm_disk.specs.Names.{Node, File_node, Names, NameOp, Put, Gone, Moved, all_named, under}
use Rattle.lsm_disk.specs.State.{FileState, State, Story, Change, Created, Named, Appended, Synced, Names_synced, Idle, after, state_of, names_now}
use Rattle.lsm_disk.specs.Images.{Tree}
use Rattle.lsm_disk.specs.Goes.{Went}
use Rattle.lsm_disk.specs.Kept.{IsFileNow, IsKeptFile, OpSpares, Spares}
use Rattle.lsm_disk.specs.Tree.{IsLawful}
use Rattle.lsm_disk.specs.declared.calls.DiskRefusal.{DiskRefusal}
use Rattle.lsm_disk.proofs.Cuts.{take_none}
use Rattle.lsm_disk.proofs.Kept.{kept_spared}
use Rattle.lsm_disk.proofs.Runs.{went_start, went_weaker, went_wider, went_then}
use Rattle.lsm_publish.specs.Publishing.{Old, Not_known, StillHas, HasOld, HasOldOrNew, Writes, Switches, IsMove, IsReady, IsPublished, Written, Switched, written}
use Rattle.bk_meta.specs.declared.backup_files.BackupFile.TheVariants.{Private}
use Rattle.bk_meta.specs.declared.metas.MetaFile.{MetaFile}
use Rattle.bk_meta.specs.declared.metas.Meta.{Meta}
use Rattle.bk_meta.specs.BackupFiles.{path_of}
use Rattle.bk_meta.specs.Metas.{IsMeta, meta_text}
use Rattle.bk_tree.specs.Places.{meta_path}
use Rattle.bk_tree.specs.Kept.{all_synced, IsKeptText, AreKept, IsKeptBackup}
use Rattle.bk_engine.specs.Copying.{Whatever, Anything}
use Rattle.bk_engine.specs.Paths.{temporary_path}
use Rattle.bk_engine.specs.Preparing.{IsOwnPath, Apart, IsNewFile, AreNew}
use Rattle.bk_engine.specs.Publishing.{Creates, AreOwn}
use Rattle.bk_engine.proofs.Frames.{AreNewBelow, bounded, still_new, writes_spare, went_also, no_fewer}

-- ---- the paths

own_is_not_temporary : (id j : ℕ) (path : List ℕ) → IsOwnPath id path → path ≢ temporary_path j
unfolding path_of temporary_path
own_is_not_temporary id j path own same = absurd (omega (arith, ap (λ (l : List ℕ). slice_index l 0) (sym own.1 ∙ same)))

pub own_is_not_meta : (id j : ℕ) (path : List ℕ) → IsOwnPath id path → path ≢ meta_path j
unfolding path_of meta_path
own_is_not_meta id j path own same = absurd (omega (arith, ap (λ (l : List ℕ). slice_index l 0) (sym own.1 ∙ same)))

own_under_temporary : (id j : ℕ) (path : List ℕ) → IsOwnPath id path → under (temporary_path j) path ≡ None
unfolding path_of temporary_path
own_under_temporary id j path own = ap (under (temporary_path j)) own.1

own_under_meta : (id j : ℕ) (path : List ℕ) → IsOwnPath id path → under (meta_path j) path ≡ None
unfolding path_of meta_path
own_under_meta id j path own = ap (under (meta_path j)) own.1

pub meta_is_not_temporary : (id : ℕ) → meta_path id ≢ temporary_path id
unfolding meta_path temporary_path
meta_is_not_temporary id same = differ (decimal id) refl (ap (λ (l : List ℕ). drop 5 l) same) where
  differ : (digits : List ℕ) → digits ≡ decimal id → digits ≡ 46 ∷ decimal id ++ codes ".tmp" → ⊥
  differ digits is then_is = omega (arith, ap length then_is, ap length is, length-append (decimal id) (codes ".tmp"))

-- ---- the files of the backup, while the meta is written

-- each file outlives a crash, and has a number below the bound
abbrev AreKeptBelow : ℕ → State → List MetaFile → List (List ℕ) → Type 0
AreKeptBelow bound s [] [] = Unit {0}
AreKeptBelow bound s [] (bytes ∷ texts) = ⊥
AreKeptBelow bound s (file ∷ files) [] = ⊥
AreKeptBelow bound s (file ∷ files) (bytes ∷ texts) = ((kept : IsKeptText s file.path bytes) × (kept.id < bound)) × AreKeptBelow bound s files texts

unbounded : (bound : ℕ) (s : State) (files : List MetaFile) (texts : List (List ℕ)) → AreKeptBelow bound s files texts → AreKept s files texts
unbounded bound s [] [] kept = tt
unbounded bound s [] (bytes ∷ texts) kept = absurd kept
unbounded bound s (file ∷ files) [] kept = absurd kept
unbounded bound s (file ∷ files) (bytes ∷ texts) kept = (kept.0.0, unbounded bound s files texts kept.1)

now_sure : (s : State) (path : List ℕ) (id : ℕ) (f : FileState) → IsFileNow s path id f → IsKeptFile (after s Names_synced) path id f
now_sure s path id f now = record { named = λ k. ap (λ (ops : List NameOp). map.get (all_named ops (names_now s)) path) (take_none k) ∙ now.named; file = now.file }

all_sure : (bound first : ℕ) (s : State) (files : List MetaFile) (texts : List (List ℕ)) → AreNewBelow bound first s files texts → AreKeptBelow bound (after s Names_synced) files texts
all_sure bound first s [] [] new = tt
all_sure bound first s [] (bytes ∷ texts) new = absurd new
all_sure bound first s (file ∷ files) [] new = absurd new
all_sure bound first s (file ∷ files) (bytes ∷ texts) new =
    ((record { id = new.0.0.id; kept = now_sure s file.path new.0.0.id (all_synced bytes) new.0.0.now }, new.0.1), all_sure bound first s files texts new.1)

still_kept : (temporary : List ℕ) (id bound : ℕ) (files : List MetaFile) (texts : List (List ℕ)) → ((path : List ℕ) → IsOwnPath id path → path ≢ temporary) → AreOwn id files → (s : State) (c : Change) → Writes temporary bound c → AreKeptBelow bound s files texts → AreKeptBelow bound (after s c) files texts
still_kept temporary id bound [] [] apart own s c is kept = tt
still_kept temporary id bound [] (bytes ∷ texts) apart own s c is kept = absurd kept
still_kept temporary id bound (file ∷ files) [] apart own s c is kept = absurd kept
still_kept temporary id bound (file ∷ files) (bytes ∷ texts) apart own s c is kept =
    let one = kept.0.0 in (
      (record { id = one.id; kept = kept_spared s file.path one.id (all_synced bytes) one.kept c (writes_spare file.path temporary one.id bound c (apart file.path own.0) kept.0.1 is) }, kept.0.1),
      still_kept temporary id bound files texts apart own.1 s c is kept.1,
    )

-- names were not synced yet, and the files are there now; or they outlive each crash
abbrev NewOrKept : Names → ℕ → ℕ → List MetaFile → List (List ℕ) → State → Type 0
NewOrKept durable bound first files texts s = ((s.durable ≡ durable) × AreNewBelow bound first s files texts) ⊎ AreKeptBelow bound s files texts

own_apart : (id : ℕ) (other : List ℕ) → ((path : List ℕ) → IsOwnPath id path → path ≢ other) → (files : List MetaFile) → AreOwn id files → Apart other files
own_apart id other apart [] own = tt
own_apart id other apart (file ∷ files) own = (apart file.path own.0, own_apart id other apart files own.1)

module _ (id first bound : ℕ) (files : List MetaFile) (texts : List (List ℕ)) (own : AreOwn id files) (durable : Names) where
  temporary_apart : (path : List ℕ) → IsOwnPath id path → path ≢ temporary_path id
  temporary_apart path is = own_is_not_temporary id id path is

  still_there : (s : State) (c : Change) → Writes (temporary_path id) bound c → AreNewBelow bound first s files texts → AreNewBelow bound first (after s c) files texts
  still_there s c is new = still_new (temporary_path id) bound first files texts (own_apart id (temporary_path id) temporary_apart files own) s c is new

  while_new : (s : State) (c : Change) → Writes (temporary_path id) bound c → s.durable ≡ durable → AreNewBelow bound first s files texts → NewOrKept durable bound first files texts (after s c)
  while_new s (Created p) is same new = inl (same, still_there s (Created p) is new)
  while_new s (Named op) is same new = absurd is
  while_new s (Appended k bytes) is same new = inl (same, still_there s (Appended k bytes) is new)
  while_new s (Synced k) is same new = inl (same, still_there s (Synced k) is new)
  while_new s Names_synced is same new = inr (all_sure bound first s files texts new)
  while_new s Idle is same new = inl (same, new)

  still_either : (s : State) (c : Change) → Writes (temporary_path id) bound c → NewOrKept durable bound first files texts s → NewOrKept durable bound first files texts (after s c)
  still_either s c is either = ⊎_elim (λ new. while_new s c is new.0 new.1) (λ kept. inr (still_kept (temporary_path id) id bound files texts temporary_apart own s c is kept)) either

-- once the temporary name outlives a crash, names were synced, since no name led to a file that wasn't made
surely_kept : (had : Old) (id first : ℕ) (files : List MetaFile) (texts : List (List ℕ)) (bytes : List ℕ) (old s : State) → IsLawful old → IsReady (temporary_path id) (meta_path id) had (length old.files) bytes s
    → NewOrKept old.durable (length old.files) first files texts s → AreKept s files texts
surely_kept had id first files texts bytes old s lawful ready either = ⊎_elim
    (λ new.
    let leads : map.get old.durable (temporary_path id) ≡ Some (File_node (length old.files)) = ap (λ (n : Names). map.get n (temporary_path id)) (sym new.0) ∙ ready.new.named 0 in
    let made : length old.files < length old.files = (lawful.files 0).made (temporary_path id) (length old.files) leads in
    absurd (omega (arith, made)))
    (λ kept. unbounded (length old.files) s files texts kept) either

-- ---- the footprint

pub writes_create : (id first n : ℕ) → first ≤ n → (c : Change) → Writes (temporary_path id) n c → Creates id first c
writes_create id first n le (Created p) is = inr is
writes_create id first n le (Named op) is = absurd is
writes_create id first n le (Appended k bytes) is = omega (arith, le, is)
writes_create id first n le (Synced k) is = omega (arith, le, is)
writes_create id first n le Names_synced is = tt
writes_create id first n le Idle is = tt

pub switches_create : (id first : ℕ) (c : Change) → Switches (temporary_path id) (meta_path id) c → Creates id first c
switches_create id first (Created p) is = absurd is
switches_create id first (Named op) is = inr is
switches_create id first (Appended k bytes) is = absurd is
switches_create id first (Synced k) is = absurd is
switches_create id first Names_synced is = tt
switches_create id first Idle is = tt

moved_spares : (id : ℕ) (path : List ℕ) (op : NameOp) → IsOwnPath id path → IsMove (temporary_path id) (meta_path id) op → OpSpares path op
moved_spares id path (Put other node) own is = absurd is
moved_spares id path (Gone other) own is = absurd is
moved_spares id path (Moved from to) own is =
    subst (λ (x : List ℕ). OpSpares path (Moved x to)) (sym is.0) (subst (λ (x : List ℕ). OpSpares path (Moved (temporary_path id) x)) (sym is.1)
    (own_is_not_temporary id id path own, own_is_not_meta id id path own, own_under_temporary id id path own, own_under_meta id id path own))

switch_spares : (id k : ℕ) (path : List ℕ) (c : Change) → IsOwnPath id path → Switches (temporary_path id) (meta_path id) c → Spares path k c
switch_spares id k path (Created p) own is = absurd is
switch_spares id k path (Named op) own is = moved_spares id path op own is
switch_spares id k path (Appended n bytes) own is = absurd is
switch_spares id k path (Synced n) own is = absurd is
switch_spares id k path Names_synced own is = tt
switch_spares id k path Idle own is = tt

pub kept_through : (id : ℕ) (files : List MetaFile) (texts : List (List ℕ)) → AreOwn id files → (s : State) (c : Change) → Switches (temporary_path id) (meta_path id) c → AreKept s files texts → AreKept (after s c) files texts
kept_through id [] [] own s c is kept = tt
kept_through id [] (bytes ∷ texts) own s c is kept = absurd kept
kept_through id (file ∷ files) [] own s c is kept = absurd kept
kept_through id (file ∷ files) (bytes ∷ texts) own s c is kept =
    (record { id = kept.0.id; kept = kept_spared s file.path kept.0.id (all_synced bytes) kept.0.kept c (switch_spares id kept.0.id file.path c own.0 is) }, kept_through id files texts own.1 s c is kept.1)

-- ---- the calls

module _ (meta : Meta) (first : ℕ) {story : Story} {t1 : Option Story} (le : first ≤ length (state_of story).files) where
  -- the temporary meta was written, or not
  pub some_written : (I : State → Type 0) → Went story t1 (Writes (temporary_path meta.id) (length (state_of story).files)) (HasOld (meta_path meta.id) Not_known) I → Went story t1 (Creates meta.id first) Anything Whatever
  some_written I w = went_wider _ (Creates meta.id first) _ Anything (writes_create meta.id first (length (state_of story).files) le) (λ s t p. tt) (went_weaker I Whatever (λ s i. tt) w)

  -- and the files outlive each crash
  pub all_written : (had : Old) (R : State → Tree → Type 0) → ((s : State) (t : Tree) → HasOld (meta_path meta.id) had s t → R s t) → (bytes : List ℕ) (texts : List (List ℕ)) → IsLawful (state_of story) → AreOwn meta.id meta.files → AreNew first (state_of story) meta.files texts
      → Went story t1 (Writes (temporary_path meta.id) (length (state_of story).files)) (HasOld (meta_path meta.id) had) (IsReady (temporary_path meta.id) (meta_path meta.id) had (length (state_of story).files) bytes)
      → Went story t1 (Creates meta.id first) R (λ s. IsReady (temporary_path meta.id) (meta_path meta.id) had (length (state_of story).files) bytes s × AreKept s meta.files texts)
  all_written had R shows bytes texts lawful own new w =
      let n : ℕ = length (state_of story).files in
      let Ready : State → Type 0 = IsReady (temporary_path meta.id) (meta_path meta.id) had n bytes in
      let Either : State → Type 0 = NewOrKept (state_of story).durable n first meta.files texts in
      went_wider (Writes (temporary_path meta.id) n) (Creates meta.id first) (HasOld (meta_path meta.id) had) R (writes_create meta.id first n le) shows
      (went_weaker (λ s. Ready s × Either s) (λ s. Ready s × AreKept s meta.files texts) (λ s both. (both.0, surely_kept had meta.id first meta.files texts bytes (state_of story) s lawful both.0 both.1))
      (went_also (Writes (temporary_path meta.id) n) (HasOld (meta_path meta.id) had) Ready Either (still_either meta.id first n meta.files texts own (state_of story).durable) (inl (refl, bounded first (state_of story) meta.files texts new)) w))

-- the switch, made or not
pub some_switched : {mid : Story} {t2 : Option Story} (id first : ℕ) (P : State → Tree → Type 0) (I : State → Type 0) → Went mid t2 (Switches (temporary_path id) (meta_path id)) P I → Went mid t2 (Creates id first) Anything Whatever
some_switched id first P I w = went_wider (Switches (temporary_path id) (meta_path id)) (Creates id first) P Anything (switches_create id first) (λ s t p. tt) (went_weaker I Whatever (λ s i. tt) w)

pub all_switched : {mid : Story} {t2 : Option Story} (meta : Meta) (first n : ℕ) (texts : List (List ℕ)) (P : State → Tree → Type 0) → IsMeta meta → AreOwn meta.id meta.files → AreKept (state_of mid) meta.files texts
    → Went mid t2 (Switches (temporary_path meta.id) (meta_path meta.id)) P (IsPublished (meta_path meta.id) n (meta_text meta)) → Went mid t2 (Creates meta.id first) Anything (λ s. IsKeptBackup s meta texts)
all_switched meta first n texts P lawful own kept w =
    went_wider (Switches (temporary_path meta.id) (meta_path meta.id)) (Creates meta.id first) P Anything (switches_create meta.id first) (λ s t p. tt)
    (went_weaker (λ s. IsPublished (meta_path meta.id) n (meta_text meta) s × AreKept s meta.files texts) (λ s. IsKeptBackup s meta texts) (λ s both. record { lawful = lawful; text = record { id = n; kept = both.0 }; each = both.1 })
    (went_also (Switches (temporary_path meta.id) (meta_path meta.id)) P (IsPublished (meta_path meta.id) n (meta_text meta)) (λ s. AreKept s meta.files texts) (kept_through meta.id meta.files texts own) kept w))

-- one part of the creation after another
pub then_created : {story : Story} {t1 t2 : Option Story} (id first : ℕ) (I K : State → Type 0) → Went story t1 (Creates id first) Anything I
    → ((mid : Story) → t1 ≡ Some mid → I (state_of mid) → Went mid t2 (Creates id first) Anything K) → Went story t2 (Creates id first) Anything K
then_created id first I K w next = went_then w next

-- ---- the clauses of the calls, at the paths that they were given

abbrev pub WriteClause : Option Story → Option Story → List ℕ → List ℕ → Result (Unit {0}) DiskRefusal → Type 0
WriteClause t0 t1 temporary bytes result = (story : Story) (path : List ℕ) (old : Old) → t0 ≡ Some story → StillHas path old (state_of story) → path ≢ temporary
    → Went story t1 (Writes temporary (length (state_of story).files)) (HasOld path old) (Written temporary path old (length (state_of story).files) bytes result)

abbrev pub SwitchClause : Option Story → Option Story → List ℕ → List ℕ → Result (Unit {0}) DiskRefusal → Type 0
SwitchClause t1 t2 temporary path result = (story : Story) (old : Old) (id : ℕ) (bytes : List ℕ) → t1 ≡ Some story → IsReady temporary path old id bytes (state_of story)
    → Went story t2 (Switches temporary path) (HasOldOrNew path old bytes) (Switched temporary path old id bytes result)

module _ (meta : Meta) (t0 t1 : Option Story) (temporary bytes : List ℕ) (is : temporary ≡ temporary_path meta.id) where
  pub writing_refused : (e : DiskRefusal) → WriteClause t0 t1 temporary bytes (Err e) → (story : Story) (first : ℕ) → t0 ≡ Some story → first ≤ length (state_of story).files → Went story t1 (Creates meta.id first) Anything Whatever
  writing_refused e clause story first tells le =
      let there : WriteClause t0 t1 (temporary_path meta.id) bytes (Err e) = subst (λ (x : List ℕ). WriteClause t0 t1 x bytes (Err e)) is clause in
      some_written meta first le (Written (temporary_path meta.id) (meta_path meta.id) Not_known (length (state_of story).files) bytes (Err e)) (there story (meta_path meta.id) Not_known tells tt (meta_is_not_temporary meta.id))

  pub writing_done : (value : Unit {0}) (had : Old) → WriteClause t0 t1 temporary bytes (Ok value) → (story : Story) → t0 ≡ Some story → StillHas (meta_path meta.id) had (state_of story)
      → Went story t1 (Writes (temporary_path meta.id) (length (state_of story).files)) (HasOld (meta_path meta.id) had) (IsReady (temporary_path meta.id) (meta_path meta.id) had (length (state_of story).files) bytes)
  writing_done value had clause story tells still =
      let there : WriteClause t0 t1 (temporary_path meta.id) bytes (Ok value) = subst (λ (x : List ℕ). WriteClause t0 t1 x bytes (Ok value)) is clause in
      there story (meta_path meta.id) had tells still (meta_is_not_temporary meta.id)

  module _ (t2 : Option Story) (path : List ℕ) (at : path ≡ meta_path meta.id) where
    pub at_paths : (r : Result (Unit {0}) DiskRefusal) → SwitchClause t1 t2 temporary path r → SwitchClause t1 t2 (temporary_path meta.id) (meta_path meta.id) r
    at_paths r clause = subst (λ (x : List ℕ). SwitchClause t1 t2 (temporary_path meta.id) x r) at (subst (λ (x : List ℕ). SwitchClause t1 t2 x path r) is clause)

    pub switch_ended : (value : Unit {0}) (r : Result (Unit {0}) DiskRefusal) → WriteClause t0 t1 temporary bytes (Ok value) → SwitchClause t1 t2 temporary path r → (story : Story) (first : ℕ) → t0 ≡ Some story → first ≤ length (state_of story).files
        → Went story t2 (Creates meta.id first) Anything Whatever
    switch_ended value r wrote clause story first tells le =
        let n : ℕ = length (state_of story).files in
        let Ready : State → Type 0 = IsReady (temporary_path meta.id) (meta_path meta.id) Not_known n bytes in
        then_created meta.id first Ready Whatever
        (went_wider (Writes (temporary_path meta.id) n) (Creates meta.id first) (HasOld (meta_path meta.id) Not_known) Anything (writes_create meta.id first n le) (λ s t p. tt) (writing_done value Not_known wrote story tells tt))
        (λ mid told ready. some_switched meta.id first (HasOldOrNew (meta_path meta.id) Not_known bytes) (Switched (temporary_path meta.id) (meta_path meta.id) Not_known n bytes r) (at_paths r clause mid Not_known n bytes told ready))

    pub switch_done : (v w : Unit {0}) → bytes ≡ meta_text meta → WriteClause t0 t1 temporary bytes (Ok v) → SwitchClause t1 t2 temporary path (Ok w) → IsMeta meta → (story : Story) (first : ℕ) (texts : List (List ℕ)) → t0 ≡ Some story → first ≤ length (state_of story).files
        → IsLawful (state_of story) → AreOwn meta.id meta.files → AreNew first (state_of story) meta.files texts → Went story t2 (Creates meta.id first) Anything (λ s. IsKeptBackup s meta texts)
    switch_done v w text wrote clause lawful_meta story first texts tells le lawful own new =
        let n : ℕ = length (state_of story).files in
        let Ready : List ℕ → State → Type 0 = λ b s. IsReady (temporary_path meta.id) (meta_path meta.id) Not_known n b s × AreKept s meta.files texts in
        then_created meta.id first (Ready bytes) (λ s. IsKeptBackup s meta texts) (all_written meta first le Not_known Anything (λ s t p. tt) bytes texts lawful own new (writing_done v Not_known wrote story tells tt))
        (λ mid told ready.
        all_switched meta first n texts (HasOldOrNew (meta_path meta.id) Not_known (meta_text meta)) lawful_meta own ready.1
        (at_paths (Ok w) clause mid Not_known n (meta_text meta) told (subst (λ (b : List ℕ). IsReady (temporary_path meta.id) (meta_path meta.id) Not_known n b (state_of mid)) text ready.0)))

pub created_whatever : (id first : ℕ) (story : Story) {told : Option Story} → told ≡ Some story → Went story told (Creates id first) Anything Whatever
created_whatever id first story tells = went_start Whatever tells tt (λ s i. record { each = λ t image. tt })
