-- What a restore leaves by its answer.
use Rattle.std.specs.Prelude.{◌≡◌, ◌≢◌, ◌⊎◌, ◌==◌, ℕ, ◌<◌, Bool, true, false, cond, IsTrue, is_some, List, [], ◌∷◌, length, map, Option, Some, None, Result, Ok, Err, IfSome}
use Rattle.std.specs.Str.{bytes_eq}
use Rattle.std.specs.List.{find}
use Rattle.std.proofs.Common.{inl, inr, refl, sym, ap, subst, ◌∙◌}
use Rattle.lsm_io.specs.Causes.{Rose}
use Rattle.lsm_names.specs.Folders.{is_folder_name}
use Rattle.lsm_names.specs.Paths.{parent_of}
use Rattle.lsm_disk.specs.Names.{is_in, stands}
use Rattle.lsm_disk.specs.State.{Seen, State, Story, state_of, names_now, file_at}
use Rattle.lsm_disk.specs.Images.{tree_now}
use Rattle.lsm_disk.specs.Goes.{Went}
use Rattle.lsm_disk.specs.Dest.{DestSeen}
use Rattle.lsm_disk.specs.Building.{IsWithin}
use Rattle.lsm_disk.proofs.Files.{same_some}
use Rattle.lsm_disk.proofs.Images.{reads_image}
use Rattle.lsm_disk.proofs.Kept.{kept_at}
use Rattle.lsm_folder.proofs.NameLemmas.{same_text}
use Rattle.bk_meta.specs.declared.metas.Meta.{Meta}
use Rattle.bk_tree.specs.Holds.{meta_in, held}
use Rattle.bk_tree.proofs.Keeping.{meta_in_image, held_in_image}
use Rattle.bk_tree.proofs.Sparing.{within}
use Rattle.bk_restore.specs.Wrong.{first_wrong, in_order}
use Rattle.bk_restore.specs.Restored.{IsFolderOf, MayHaveRestored, LeavesBy}
use Rattle.bk_restore.specs.declared.errors.RestoreError.{RestoreError}
use Rattle.bk_restore.specs.declared.errors.RestoreError.TheVariants as restore
use Rattle.bk_restore.proofs.Whole.{held_right}
use Rattle.bk_engine.specs.Creating.{info_of}
use Rattle.bk_engine.specs.Restoring.{meta_by, answered, Restores}
use Rattle.bk_engine.specs.Shown.{Shown as EngineShown}
use Rattle.bk_engine.specs.declared.errors.EngineError.{EngineError}
use Rattle.bk_engine.specs.declared.errors.EngineError.TheVariants as errors
use Rattle.bk_engine.specs.declared.infos.BackupInfo.{BackupInfo}
use Rattle.bk_engine.proofs.StandingRestored.{restored_names, restored_stands}
use Rattle.ldb_script.specs.Printed.{Backup}
use Rattle.ldb_script.specs.Plain.{Outcome, Reads, Untold, standing_among, standing_told, standing_of, shown_now, backup_of, restored}
use Rattle.ldb_script.specs.Vaults.{IsMetaOf, AreMetasOf, IsHeld, AreHeld, Keeps}
use Rattle.ldb_script.specs.Stored.{Shown, Stands, log_path}
use Rattle.ldb_script.specs.Folders.{HasFolders, FoldersStand}
use Rattle.ldb_script.specs.Opening.{SeenStay}
use Rattle.ldb_script.specs.Restoring.{PutsBeside, MayBeTaken, IsUntold, RestoresOr, over, RestoresOnto, taken_answer}
use Rattle.ldb_script.proofs.Folders.{parent_log}
use Rattle.ldb_script.proofs.Refused.{seen_same}
use Rattle.ldb_script.proofs.Shows.{stands_untouched}
use Rattle.ldb_script.proofs.Restores.{stands_after, stands_with, log_outside, is_free, is_full, folders_with}

-- ---- the backup of a meta

-- the backup of this identifier is listed, and the meta is its own
pub record IsListed (id : ℕ) (metas : List Meta) (backups : List Backup) (meta : Meta) : Type 0 where
  pub backup : Backup
  pub listed : backup_of backups id ≡ Some backup
  pub is : IsMetaOf meta backup
  pub held : (s : State) → AreHeld s metas backups → IsHeld s meta backup

module _ (id : ℕ) where
  found_by : (m : Meta) (backup : Backup) (metas : List Meta) (backups : List Backup) (t : Bool) → t ≡ (backup.id == id) → IsMetaOf m backup → (meta : Meta) → cond t (Some m) (meta_by id metas) ≡ Some meta
      → (meta_by id metas ≡ Some meta → IsListed id metas backups meta) → IsListed id (m ∷ metas) (backup ∷ backups) meta
  found_by m backup metas backups true test own meta is rest =
      let same : m ≡ meta = same_some m meta is in record {
        backup = backup;
        listed = ap (λ (b : Bool). cond b (Some backup) (backup_of backups id)) (sym test);
        is = subst (λ (x : Meta). IsMetaOf x backup) same own;
        held = λ s h. subst (λ (x : Meta). IsHeld s x backup) same h.0;
      }
  found_by m backup metas backups false test own meta is rest =
      let r = rest is in record {
        backup = r.backup;
        listed = ap (λ (b : Bool). cond b (Some backup) (backup_of backups id)) (sym test) ∙ r.listed;
        is = r.is;
        held = λ s h. r.held s h.1;
      }

  none_kept : (meta : Meta) → meta_by id [] ≡ Some meta → ⊥
  none_kept meta is = cc

  -- a meta that is kept is that of a backup that is listed
  pub found : (metas : List Meta) (backups : List Backup) → AreMetasOf metas backups → (meta : Meta) → meta_by id metas ≡ Some meta → IsListed id metas backups meta
  found [] backups are meta is = absurd (none_kept meta is)
  found (m ∷ metas) [] are meta is = absurd are
  found (m ∷ metas) (backup ∷ backups) are meta is = found_by m backup metas backups (m.id == id) (ap (λ (n : ℕ). n == id) are.0.id) are.0 meta is (found metas backups are.1 meta)

  unfound_by : (m : Meta) (backup : Backup) (metas : List Meta) (backups : List Backup) (t : Bool) → t ≡ (backup.id == id) → cond t (Some m) (meta_by id metas) ≡ None → (meta_by id metas ≡ None → backup_of backups id ≡ None)
      → backup_of (backup ∷ backups) id ≡ None
  unfound_by m backup metas backups true test is rest = cc
  unfound_by m backup metas backups false test is rest = ap (λ (b : Bool). cond b (Some backup) (backup_of backups id)) (sym test) ∙ rest is

  -- where none is kept, none is listed
  pub unfound : (metas : List Meta) (backups : List Backup) → AreMetasOf metas backups → meta_by id metas ≡ None → backup_of backups id ≡ None
  unfound [] [] are is = refl
  unfound [] (backup ∷ backups) are is = absurd are
  unfound (m ∷ metas) [] are is = absurd are
  unfound (m ∷ metas) (backup ∷ backups) are is = unfound_by m backup metas backups (m.id == id) (ap (λ (n : ℕ). n == id) are.0.id) is (unfound metas backups are.1)

  -- what is told of the backups has the identifiers of the metas
  told_of : (metas : List Meta) → is_some (find (λ (info : BackupInfo). info.id == id) (map info_of metas)) ≡ is_some (meta_by id metas)
  told_of [] = refl
  told_of (m ∷ metas) =
      let here : Option BackupInfo = find (λ (info : BackupInfo). info.id == id) (map info_of metas) in
      elim (m.id == id) as (λ b. is_some (cond b (Some (info_of m)) here) ≡ is_some (cond b (Some m) (meta_by id metas))) [ true ↦ refl | false ↦ told_of metas ]

  pub listed_by : (metas : List Meta) (lent : List BackupInfo) (found : Option BackupInfo) → found ≡ find (λ (info : BackupInfo). info.id == id) lent → lent ≡ map info_of metas → is_some (meta_by id metas) ≡ is_some found
  listed_by metas lent found is all = sym (told_of metas) ∙ ap (λ (infos : List BackupInfo). is_some (find (λ (info : BackupInfo). info.id == id) infos)) (sym all) ∙ ap is_some (sym is)

-- ---- a held backup has no wrong file

module _ (s : State) (meta : Meta) (backup : Backup) (h : IsHeld s meta backup) where
  meta_there : meta_in (tree_now s) meta.id ≡ Some meta
  meta_there = meta_in_image s (tree_now s) (reads_image s) meta h.kept.lawful h.kept.text

  held_there : held (tree_now s) meta.id ≡ Some h.files
  held_there = held_in_image s (tree_now s) (reads_image s) meta h.texts h.kept ∙ h.folder

  none_wrong : first_wrong meta.id (tree_now s) (in_order meta.id meta.files) ≡ None
  none_wrong = held_right (tree_now s) meta h.files meta_there held_there

-- ---- the counts

pub counts_stay : (id : ℕ) (metas : List Meta) (vault vault' old new : Seen) (name : List ℕ) (result : Result ℕ EngineError) → (meta_by id metas ≡ None → (vault' ≡ vault) × (new ≡ old))
    → ((meta : Meta) → meta_by id metas ≡ Some meta → RestoresOnto meta vault vault' old new name result) → SeenStay vault vault' × SeenStay old new
counts_stay id metas vault vault' old new name result none some = by_meta (meta_by id metas) refl where
  by_meta : (o : Option Meta) → meta_by id metas ≡ o → SeenStay vault vault' × SeenStay old new
  by_meta None is = let same = none is in (subst (SeenStay vault) (sym same.0) (seen_same vault), subst (SeenStay old) (sym same.1) (seen_same old))
  by_meta (Some meta) is =
      let r = some meta is in
      let cause = r.restores.cause in (
        record { faults = cause.disk_later.faults; refusals = cause.disk_later.refusals },
        subst (SeenStay old) r.disk (record { faults = cause.dest_later.faults; refusals = cause.dest_later.refusals }),
      )

-- ---- what is left

module _ (start backups : Option Story) (old : Shown) (after vault vault' : Seen) (engine : EngineShown) (outcome : Outcome) (was : Stands start old outcome) (keeps : Keeps backups vault engine outcome.after)
    (home name : List ℕ) (at : old.log ≡ log_path home) (id : ℕ) where
  abbrev new : Shown
  new = record { disk = after; log = old.log; len = old.len; contents = old.contents; sequence = old.sequence }

  home_is : outcome.after.start.home ≡ home
  home_is = sym (parent_log outcome.after.start.home) ∙ ap parent_of (sym was.home ∙ at) ∙ parent_log home

  own_taken : name ≡ home → MayBeTaken (standing_of outcome.after name)
  unfolding standing_of
  own_taken same = by_tells outcome.after.start.tells where
    is : bytes_eq name outcome.after.start.home ≡ true
    is = ap (λ (l : List ℕ). bytes_eq l outcome.after.start.home) (same ∙ sym home_is) ∙ same_text outcome.after.start.home

    by_tells : (b : Bool) → MayBeTaken (cond b (standing_told outcome.after name) Untold)
    by_tells false = tt
    by_tells true = subst MayBeTaken (sym (ap (λ (t : Bool). cond t (Reads (shown_now outcome.after)) (standing_among outcome.after.restored name (outcome.after.start.taken name))) is)) tt

  -- the store's own name
  pub own_answer : name ≡ home → (e : EngineError) → (e ≡ taken_answer id name (is_some (meta_by id engine.metas))) ⊎ (e ≡ errors.NoMemory) → RestoresOr start old old vault vault' outcome id name (Err e)
  own_answer same e (inr is) = subst (λ (x : EngineError). RestoresOr start old old vault vault' outcome id name (Err x)) (sym is) tt
  own_answer same e (inl is) = subst (λ (x : EngineError). RestoresOr start old old vault vault' outcome id name (Err x)) (sym is) (by_meta (meta_by id engine.metas) refl) where
    by_meta : (o : Option Meta) → meta_by id engine.metas ≡ o → RestoresOr start old old vault vault' outcome id name (Err (taken_answer id name (is_some o)))
    by_meta None none = (refl, unfound id engine.metas outcome.after.backups keeps.metas none, was)
    by_meta (Some meta) there =
        let l = found id engine.metas outcome.after.backups keeps.metas meta there in
        (refl, record { backup = l.backup; listed = l.listed; taken = own_taken same; stands = was })

  -- no backup of the identifier is kept
  pub unlisted_answer : meta_by id engine.metas ≡ None → after ≡ old.disk → (r : Result ℕ EngineError) → r ≡ Err (errors.NoSuchBackup id) → RestoresOr start old new vault vault' outcome id name r
  unlisted_answer none same r is =
      subst (λ (x : Result ℕ EngineError). RestoresOr start old new vault vault' outcome id name x) (sym is) (
        refl,
        unfound id engine.metas outcome.after.backups keeps.metas none,
        stands_untouched start old new outcome (record { told = ap (λ (s : Seen). s.told) same; log = refl; len = refl; contents = refl; sequence = refl }) was,
      )

  module _ (home_fits : is_folder_name home ≡ true) (fits : is_folder_name name ≡ true) (differ : name ≢ home) (meta : Meta) (there : meta_by id engine.metas ≡ Some meta) (left : DestSeen) (disk : left.disk ≡ after) where
    l : IsListed id engine.metas outcome.after.backups meta
    l = found id engine.metas outcome.after.backups keeps.metas meta there

    -- how the disk's story went on
    abbrev GoesBy : Result ℕ RestoreError → Type 0
    GoesBy r = (story : Story) → old.disk.told ≡ Some story → Went story after.told (IsWithin name (length (state_of story).files)) (MayHaveRestored meta vault.told (state_of story) name) (LeavesBy meta vault.told (state_of story) name r)

    goes_by : (r : Result ℕ RestoreError) → Restores meta vault vault' (over old.disk) left name r → GoesBy r
    goes_by r res story tells =
        subst (λ (s : Seen). Went story s.told (IsWithin name (length (state_of story).files)) (MayHaveRestored meta vault.told (state_of story) name) (LeavesBy meta vault.told (state_of story) name r)) disk (res.went story tells)

    stays : (r : Result ℕ RestoreError) → GoesBy r → (IsTrue outcome.after.start.tells → FoldersStand start after.told old.log outcome.after) → Stands start new outcome
    stays r goes folders = stands_after start old after outcome was home name at home_fits fits differ (λ story. MayHaveRestored meta vault.told (state_of story) name) (λ story. LeavesBy meta vault.told (state_of story) name r) goes folders

    log_out : is_in name old.log ≡ false
    log_out = log_outside start old after outcome was home name at home_fits fits differ

    -- ---- the folder was restored

    module _ (sequence : ℕ) (res : Restores meta vault vault' (over old.disk) left name (Ok sequence)) where
      goes : GoesBy (Ok sequence)
      goes = goes_by (Ok sequence) res

      was_free : (tells : IsTrue outcome.after.start.tells) → stands (names_now (state_of (was.folders tells).story)) name ≡ None
      was_free tells = subst (λ (o : Option Story). IfSome o (λ story. stands (names_now (state_of story)) name ≡ None)) (was.folders tells).tells res.taken

      folders : IsTrue outcome.after.start.tells → FoldersStand start after.told old.log (restored outcome.after l.backup name).after
      folders tells =
          let f = was.folders tells in
          let s : State = state_of f.story in
          let w = goes f.story f.tells in
          let logs = was.log f.first f.told_first in
          let same : logs.story ≡ f.story = same_some logs.story f.story (sym logs.tells ∙ f.tells) in
          let h = keeps.held tells in
          let own : IsHeld (state_of h.story) meta l.backup = l.held (state_of h.story) h.held in
          let whole = w.now.0 in
          record {
            first = f.first;
            told_first = f.told_first;
            taken = f.taken;
            lawful = f.lawful;
            story = w.story;
            tells = w.tells;
            has = folders_with (state_of f.first) f.story after.told (MayHaveRestored meta vault.told s name) (LeavesBy meta vault.told s name (Ok sequence)) old.log outcome.after f.has f.lawful name fits f.taken (was_free tells) log_out w
                l.backup whole (restored_names meta vault.told whole w.now.1) w.now.2
                (restored_stands h.story meta whole own.files l.backup.shown.contents l.backup.shown.sequence (meta_there (state_of h.story) meta l.backup own) (held_there (state_of h.story) meta l.backup own) own.shows
                (subst (λ (o : Option Story). IsFolderOf meta o whole) h.tells w.now.1))
                logs.wal.id (subst (λ (x : Story). logs.wal.id < length (state_of x).files) same (within (state_of logs.story).files logs.wal.id logs.wal.file logs.wal.kept.file))
                (subst (λ (x : Story). file_at (state_of x) old.log ≡ Some logs.wal.id) same (kept_at (state_of logs.story) old.log logs.wal.id logs.wal.file logs.wal.kept));
          }

      beside : PutsBeside start new outcome l.backup name (standing_of outcome.after name)
      unfolding standing_of
      beside = by_tells outcome.after.start.tells refl where
        by_tells : (b : Bool) → outcome.after.start.tells ≡ b → PutsBeside start new outcome l.backup name (cond b (standing_told outcome.after name) Untold)
        by_tells false untold = stays (Ok sequence) goes (λ tells. let both : true ≡ false = sym tells ∙ untold in absurd (cc both))
        by_tells true tells =
            let f = was.folders tells in
            subst (PutsBeside start new outcome l.backup name) (sym (is_free (state_of f.first) (state_of f.story) old.log outcome.after f.has f.taken name fits (was_free tells)))
            (stands_with start old after outcome was home name at home_fits fits differ (λ story. MayHaveRestored meta vault.told (state_of story) name) (λ story. LeavesBy meta vault.told (state_of story) name (Ok sequence)) goes l.backup folders)

    -- ---- the name was taken

    module _ (dir : List ℕ) (res : Restores meta vault vault' (over old.disk) left name (Err (restore.DestinationExists dir))) where
      same_folders : IsTrue outcome.after.start.tells → FoldersStand start after.told old.log outcome.after
      same_folders tells =
          let f = was.folders tells in
          let w = goes_by (Err (restore.DestinationExists dir)) res f.story f.tells in
          record {
            first = f.first;
            told_first = f.told_first;
            taken = f.taken;
            lawful = f.lawful;
            story = w.story;
            tells = w.tells;
            has = subst (λ (s : State). HasFolders (state_of f.first) s old.log outcome.after) (sym w.now) f.has;
          }

      name_taken : MayBeTaken (standing_of outcome.after name)
      unfolding standing_of
      name_taken = by_tells outcome.after.start.tells refl where
        by_tells : (b : Bool) → outcome.after.start.tells ≡ b → MayBeTaken (cond b (standing_told outcome.after name) Untold)
        by_tells false untold = tt
        by_tells true tells =
            let f = was.folders tells in
            is_full (state_of f.first) (state_of f.story) old.log outcome.after f.has f.taken name fits
            (subst (λ (o : Option Story). IfSome o (λ story. is_some (stands (names_now (state_of story)) name) ≡ true)) f.tells res.taken.1)

    -- ---- a file was wrong

    module _ (e : RestoreError) (wrong : IfSome vault.told (λ story. first_wrong meta.id (tree_now (state_of story)) (in_order meta.id meta.files) ≡ Some e)) where
      never_told : IsTrue outcome.after.start.tells → ⊥
      never_told tells =
          let h = keeps.held tells in
          let some : first_wrong meta.id (tree_now (state_of h.story)) (in_order meta.id meta.files) ≡ Some e = subst (λ (o : Option Story). IfSome o (λ story. first_wrong meta.id (tree_now (state_of story)) (in_order meta.id meta.files) ≡ Some e)) h.tells wrong in
          let both : None ≡ Some e = sym (none_wrong (state_of h.story) meta l.backup (l.held (state_of h.story) h.held)) ∙ some in
          cc

      is_untold : standing_of outcome.after name ≡ Untold
      unfolding standing_of
      is_untold = by_tells outcome.after.start.tells refl where
        by_tells : (b : Bool) → outcome.after.start.tells ≡ b → cond b (standing_told outcome.after name) Untold ≡ Untold
        by_tells false untold = refl
        by_tells true tells = absurd (never_told tells)

      untold : (r : Result ℕ RestoreError) → Restores meta vault vault' (over old.disk) left name r → IsUntold start new outcome id name
      untold r res = record { backup = l.backup; listed = l.listed; untold = is_untold; stands = stays r (goes_by r res) (λ tells. absurd (never_told tells)) }

    -- ---- each answer

    leaves : (r : Result ℕ RestoreError) → Restores meta vault vault' (over old.disk) left name r → RestoresOr start old new vault vault' outcome id name (answered r)
    leaves (Ok sequence) res = record { backup = l.backup; listed = l.listed; sequence_is = res.sequence ∙ l.is.sequence; beside = beside sequence res }
    leaves (Err restore.DiskFault) res = res.cause.counted
    leaves (Err restore.DestFault) res = subst (λ (s : Seen). Rose old.disk.faults s.faults) disk res.cause.counted
    leaves (Err (restore.Halted first)) res = let halt : None ≡ Some first = (res.halted first).0 refl in absurd (cc halt)
    leaves (Err (restore.DestinationExists dir)) res =
        (res.taken.0, record { backup = l.backup; listed = l.listed; taken = name_taken dir res; stands = stays (Err (restore.DestinationExists dir)) (goes_by (Err (restore.DestinationExists dir)) res) (same_folders dir res) })
    leaves (Err (restore.Missing path)) res = untold (restore.Missing path) res.right (Err (restore.Missing path)) res
    leaves (Err (restore.Changed call path)) res = subst (λ (s : Seen). Rose vault.refusals vault'.refusals ⊎ Rose old.disk.refusals s.refusals) disk res.cause.counted
    leaves (Err (restore.WrongSize path kept size)) res = untold (restore.WrongSize path kept size) res.right (Err (restore.WrongSize path kept size)) res
    leaves (Err (restore.Damaged path kept sum)) res = untold (restore.Damaged path kept sum) res.right (Err (restore.Damaged path kept sum)) res
    leaves (Err restore.NoMemory) res = tt

  -- under another name
  pub restored_answer : is_folder_name home ≡ true → is_folder_name name ≡ true → name ≢ home → (result : Result ℕ EngineError) → (meta_by id engine.metas ≡ None → (result ≡ Err (errors.NoSuchBackup id)) × (after ≡ old.disk))
      → ((meta : Meta) → meta_by id engine.metas ≡ Some meta → RestoresOnto meta vault vault' old.disk after name result) → RestoresOr start old new vault vault' outcome id name result
  restored_answer home_fits fits differ result none some = by_meta (meta_by id engine.metas) refl where
    by_meta : (o : Option Meta) → meta_by id engine.metas ≡ o → RestoresOr start old new vault vault' outcome id name result
    by_meta None is = unlisted_answer is (none is).1 result (none is).0
    by_meta (Some meta) is =
        let r = some meta is in
        subst (λ (x : Result ℕ EngineError). RestoresOr start old new vault vault' outcome id name x) (sym r.is) (leaves home_fits fits differ meta is r.left r.disk r.answer r.restores)
