-- What the folders of a store's disk read as.
use Rattle.std.specs.Prelude.{◌≡◌, ◌≢◌, ℕ, ◌≤◌, ◌<◌, Bool, true, false, cond, is_some, IsTrue, All, List, [], ◌∷◌, ◌++◌, length, Option, Some, None, option_map, Result, Ok, Err, codes, IfSome}
use Rattle.std.specs.Str.{bytes_eq}
use Rattle.std.specs.Fmt.{digits}
use Rattle.std.proofs.Common.{refl, sym, ap, subst, ◌∙◌, arith}
use Rattle.std.proofs.lemmas.List.Elements.{All-nil, All-cons, All-head, All-tail}
use Rattle.std.specs.FinMap as map
use Rattle.lsm_names.specs.FileNames.{spelled, IsFileName}
use Rattle.lsm_names.specs.Numbers.{padded_decimal}
use Rattle.lsm_names.specs.Folders.{is_folder_name}
use Rattle.lsm_names.specs.Paths.{parent_of}
use Rattle.lsm_names.specs.declared.file_names.FileName.TheVariants.{Log, Manifest, Current}
use Rattle.lsm_names.proofs.FileNameLemmas.{spelled_injective}
use Rattle.lsm_names.proofs.FolderLemmas.{folder_has_bytes, folder_is_component}
use Rattle.lsm_bytes.specs.Varint.{varint, varint_within}
use Rattle.lsm_rows.specs.declared.operations.Op.{Op}
use Rattle.lsm_rows.specs.Replay.{replayed, sequence_after}
use Rattle.lsm_disk.specs.Names.{Node, Folder_node, Names, is_in, stands}
use Rattle.lsm_disk.specs.State.{State, Story, state_of, names_now}
use Rattle.lsm_disk.specs.Images.{tree_now, bytes_at}
use Rattle.lsm_disk.proofs.Files.{same_some}
use Rattle.lsm_disk.proofs.Images.{reads_image}
use Rattle.lsm_disk.proofs.Kept.{kept_bytes}
use Rattle.lsm_wal.specs.Batches.{in_sequence, wal_text}
use Rattle.lsm_wal.specs.Standing.{IsWal}
use Rattle.lsm_wal.proofs.Fronts.{whole_reads}
use Rattle.lsm_folder.specs.Names.{current_text}
use Rattle.lsm_version.specs.EditText.{field_text, edit_text}
use Rattle.lsm_folder.specs.Manifests.{first_edit, manifest_text}
use Rattle.lsm_folder.specs.Files.{Item, Place, item_of, bytes_in, files_in, place_of}
use Rattle.lsm_folder.specs.Needed.{HasOneLog}
use Rattle.lsm_folder.specs.Reading.{Shown, reading}
use Rattle.lsm_folder.specs.declared.refusals.Refusal.{Refusal}
use Rattle.lsm_folder.specs.declared.refusals.Refusal.TheVariants.{NoFolder}
use Rattle.lsm_folder.proofs.FileLemmas.{files_are, file_is, file_names, no_place, folder_place}
use Rattle.lsm_folder.proofs.NameLemmas.{equal_texts, same_text}
use Rattle.lsm_folder.proofs.StandingLemmas.{stands_for}
use Rattle.lsm_recover.specs.Answers.{place_now}
use Rattle.lsm_recover.specs.Shown.{AnswersShown}
use Rattle.lsm_recover.specs.declared.errors.FolderError.{FolderError}
use Rattle.lsm_recover.specs.declared.folder.Found.{Found}
use Rattle.bk_engine.proofs.StandingKept.{roots_apart}
use Rattle.bk_engine.proofs.StandingRestored.{built_reads}
use Rattle.ldb_script.specs.Plain.{Plain, Outcome, Restored, Standing, Free, Reads, Taken, Untold, standing_among, standing_told, standing_of, shown_now}
use Rattle.ldb_script.specs.Stored.{Shown as Store, Stands, Logs, FilesBeside, HasFirstFiles, log_path, manifest_path, current_path, first_manifest, first_current}
use Rattle.ldb_script.specs.Folders.{IsNoFile, IsElsewhere, IsRestored, HasFolders, FoldersStand}
use Rattle.ldb_script.specs.Opening.{IsUntouched, ReadsAs}
use Rattle.ldb_script.proofs.Folders.{log_spelled, manifest_spelled, current_spelled, parent_log}
use Rattle.ldb_script.proofs.Besides.{beside_now}

-- ---- the store's own folder

pub current_is : first_current ≡ current_text 1
unfolding first_current current_text spelled padded_decimal digits
current_is = refl

pub manifest_is : first_manifest ≡ manifest_text (first_edit ∷ [])
unfolding first_manifest edit_text field_text varint varint_within
manifest_is = refl

manifest_name : spelled (Manifest 1) ≡ codes "MANIFEST-000001"
unfolding spelled padded_decimal digits
manifest_name = refl

current_name : spelled Current ≡ codes "CURRENT"
unfolding spelled
current_name = refl

log_name : spelled (Log 2) ≡ codes "000002.log"
unfolding spelled padded_decimal digits
log_name = refl

-- another log's name is none of the three
other_log : (number : ℕ) → 2 < number → IsFileName (Log number) → IsNoFile (spelled (Log number))
other_log number high fits =
    let P : List ℕ → Type 0 = λ own. spelled (Log number) ≢ own in
    All-cons P (codes "MANIFEST-000001") (codes "CURRENT" ∷ codes "000002.log" ∷ []) (λ same. manifest (spelled_injective (Log number) (Manifest 1) fits refl (same ∙ sym manifest_name)))
    (All-cons P (codes "CURRENT") (codes "000002.log" ∷ []) (λ same. current (spelled_injective (Log number) Current fits tt (same ∙ sym current_name)))
    (All-cons P (codes "000002.log") [] (λ same. absurd (omega (arith, high, number_of (spelled_injective (Log number) (Log 2) fits refl (same ∙ sym log_name))))) (All-nil P))) where
      manifest : Log number ≡ Manifest 1 → ⊥
      manifest is = cc

      current : Log number ≡ Current → ⊥
      current is = cc

      number_of : Log number ≡ Log 2 → number ≡ 2
      number_of is = cc

module _ (s : State) (folder : List ℕ) (accepted : List (List Op)) (durable : ℕ) (named : 1 ≤ length folder) (wal : IsWal s (log_path folder) (in_sequence 1 accepted) durable) (files : HasFirstFiles s folder (log_path folder))
    (stood : stands (names_now s) folder ≡ Some Folder_node) (home : (name : List ℕ) → IsNoFile name → map.get (names_now s) (folder ++ 47 ∷ name) ≡ None) where
  log_bytes : bytes_at (tree_now s) (log_path folder) ≡ Some (wal_text (in_sequence 1 accepted))
  log_bytes =
      let kept = kept_bytes s (log_path folder) wal.id wal.file wal.kept in
      kept.file.is_now ∙ ap (λ (b : List ℕ). Some b) (kept.whole ∙ wal.text)

  not_there : (number : ℕ) → 2 < number → (o : Option Item) → map.get (files_in folder (tree_now s)) (Log number) ≡ o → bytes_in o ≡ None
  not_there number high None is = refl
  not_there number high (Some item) is =
      let fits : IsFileName (Log number) = file_names folder (tree_now s) (Log number) item named is in
      ap bytes_in (sym is ∙ files_are folder (tree_now s) (Log number) named fits ∙ ap (option_map (item_of (tree_now s).contents)) (home (spelled (Log number)) (other_log number high fits)))

  has_log : HasOneLog (files_in folder (tree_now s)) (wal_text (in_sequence 1 accepted))
  has_log = record {
    current = ap bytes_in (file_is folder (tree_now s) Current (current_text 1) named tt
        (ap (bytes_at (tree_now s)) (current_spelled folder) ∙ beside_now s (log_path folder) (current_path folder) first_current files.current ∙ ap (λ (b : List ℕ). Some b) current_is));
    manifest = ap bytes_in (file_is folder (tree_now s) (Manifest 1) (manifest_text (first_edit ∷ [])) named refl
        (ap (bytes_at (tree_now s)) (manifest_spelled folder) ∙ beside_now s (log_path folder) (manifest_path folder) first_manifest files.manifest ∙ ap (λ (b : List ℕ). Some b) manifest_is));
    log = ap bytes_in (file_is folder (tree_now s) (Log 2) (wal_text (in_sequence 1 accepted)) named refl (ap (bytes_at (tree_now s)) (log_spelled folder) ∙ log_bytes));
    no_other = λ number high. not_there number high (map.get (files_in folder (tree_now s)) (Log number)) refl;
  }

  pub own_reads : reading (place_of folder (tree_now s)) ≡ Ok (record { sequence = sequence_after 0 accepted; contents = replayed map.empty accepted })
  own_reads =
      ap (λ (p : Place). reading p) (folder_place folder (tree_now s) stood)
      ∙ (stands_for (files_in folder (tree_now s)) (wal_text (in_sequence 1 accepted)) has_log accepted None (whole_reads 1 accepted wal.each)).read

-- ---- by what stands under a name

abbrev pub IsRead : Standing → Result Shown Refusal → Type 0
IsRead Free read = read ≡ Err NoFolder
IsRead (Reads shown) read = read ≡ Ok shown
IsRead Taken read = Unit {0}
IsRead Untold read = Unit {0}

-- what answers a reading answers the name
pub answers_as : (standing : Standing) (read : Result Shown Refusal) (result : Result Found FolderError) → IsRead standing read → AnswersShown read result → ReadsAs standing result
answers_as Free read result is answers = subst (λ (r : Result Shown Refusal). AnswersShown r result) is answers
answers_as (Reads shown) read result is answers = subst (λ (r : Result Shown Refusal). AnswersShown r result) is answers
answers_as Taken read result is answers = (read, answers)
answers_as Untold read result is answers = tt

free_reads : (names : Names) (s : State) (name : List ℕ) → names ≡ names_now s → stands names name ≡ None → reading (place_of name (tree_now s)) ≡ Err NoFolder
free_reads names s name is none = ap (λ (p : Place). reading p) (no_place name (tree_now s) (ap (λ (n : Names). stands n name) (sym is) ∙ none))

nothing_there : (o : Option Node) → is_some o ≡ false → o ≡ None
nothing_there None is = refl
nothing_there (Some node) is = cc

module _ (s first : State) (log : List ℕ) (plain : Plain) (has : HasFolders first s log plain) (taken : (name : List ℕ) → plain.start.taken name ≡ is_some (stands (names_now first) name)) (name : List ℕ) (fits : is_folder_name name ≡ true) where
  abbrev read : Result Shown Refusal
  read = reading (place_of name (tree_now s))

  -- as at the start, where none of the run's folders has the name
  by_taken : (t : Bool) → plain.start.taken name ≡ t → IsElsewhere plain name → IsRead (cond t Taken Free) read
  by_taken true is out = tt
  by_taken false is out = free_reads (names_now s) s name refl (has.elsewhere name out ∙ nothing_there (stands (names_now first) name) (sym (taken name) ∙ is))

  apart : (folder : List ℕ) → is_folder_name folder ≡ true → (name ≢ folder) → is_in folder name ≡ false
  apart folder named ne = roots_apart folder name (folder_is_component folder named) (folder_is_component name fits) (λ same. ne (sym same))

  not_equal : (folder : List ℕ) → bytes_eq name folder ≡ false → name ≢ folder
  not_equal folder differs same = let both : true ≡ false = sym (same_text folder) ∙ ap (λ (l : List ℕ). bytes_eq l folder) (sym same) ∙ differs in cc

  by_folder : (folder : Restored) (rest : Standing) (b : Bool) → bytes_eq name folder.name ≡ b → IsRestored s log folder → (bytes_eq name folder.name ≡ false → IsRead rest read) → IsRead (cond b (Reads folder.shown) rest) read
  by_folder folder rest true same r other =
      ap (λ (l : List ℕ). reading (place_of l (tree_now s))) (equal_texts name folder.name same)
      ∙ built_reads s folder.name r.parts (tree_now s) (folder_has_bytes folder.name r.named) r.files r.built (reads_image s) folder.shown.contents folder.shown.sequence r.shows
  by_folder folder rest false differs r other = other differs

  among : (folders : List Restored) → All (IsRestored s log) folders → (All (λ (folder : Restored). is_in folder.name name ≡ false) folders → IsRead (cond (plain.start.taken name) Taken Free) read)
      → IsRead (standing_among folders name (plain.start.taken name)) read
  among [] each out = out (All-nil (λ (folder : Restored). is_in folder.name name ≡ false))
  among (folder ∷ folders) each out =
      let r : IsRestored s log folder = All-head (IsRestored s log) folder folders each in
      by_folder folder (standing_among folders name (plain.start.taken name)) (bytes_eq name folder.name) refl r
      (λ differs. among folders (All-tail (IsRestored s log) folder folders each)
      (λ rest. out (All-cons (λ (f : Restored). is_in f.name name ≡ false) folder folders (apart folder.name r.named (not_equal folder.name differs)) rest)))

  by_home : (b : Bool) → bytes_eq name plain.start.home ≡ b → is_folder_name plain.start.home ≡ true → reading (place_of plain.start.home (tree_now s)) ≡ Ok (shown_now plain) → IsRead (cond b (Reads (shown_now plain)) (standing_among plain.restored name (plain.start.taken name))) read
  by_home true same named own = ap (λ (l : List ℕ). reading (place_of l (tree_now s))) (equal_texts name plain.start.home same) ∙ own
  by_home false differs named own = among plain.restored has.restored
      (λ out. by_taken (plain.start.taken name) refl (record { home = apart plain.start.home named (not_equal plain.start.home differs); restored = out }))

  pub told_reads : is_folder_name plain.start.home ≡ true → reading (place_of plain.start.home (tree_now s)) ≡ Ok (shown_now plain) → IsRead (standing_told plain name) read
  told_reads named own = by_home (bytes_eq name plain.start.home) refl named own

-- ---- a store that stands

module _ (start : Option Story) (old : Store) (outcome : Outcome) (was : Stands start old outcome) (name : List ℕ) (fits : is_folder_name name ≡ true) where
  own_shown : (tells : IsTrue outcome.after.start.tells) → reading (place_of outcome.after.start.home (tree_now (state_of (was.folders tells).story))) ≡ Ok (shown_now outcome.after)
  own_shown tells =
      let stood : FoldersStand start old.disk.told old.log outcome.after = was.folders tells in
      let s : State = state_of stood.story in
      let home : List ℕ = outcome.after.start.home in
      let logs = was.log stood.first stood.told_first in
      let beside = was.beside stood.first stood.told_first in
      let wal : IsWal s (log_path home) (in_sequence 1 outcome.accepted) outcome.after.durable =
      subst (λ (l : List ℕ). IsWal s l (in_sequence 1 outcome.accepted) outcome.after.durable) was.home
      (subst (λ (story : Story). IsWal (state_of story) old.log (in_sequence 1 outcome.accepted) outcome.after.durable) (same_some logs.story stood.story (sym logs.tells ∙ stood.tells)) logs.wal) in
      let files : HasFirstFiles s home (log_path home) =
      subst (λ (d : List ℕ). HasFirstFiles s d (log_path home)) (parent_log home)
      (subst (λ (l : List ℕ). HasFirstFiles s (parent_of l) l) was.home
      (subst (λ (story : Story). HasFirstFiles (state_of story) (parent_of old.log) old.log) (same_some beside.story stood.story (sym beside.tells ∙ stood.tells)) beside.files)) in
      own_reads s home outcome.accepted outcome.after.durable (folder_has_bytes home stood.has.named) wal files stood.has.stood stood.has.home
      ∙ (λ i. let shown : Shown = record { sequence = sym was.counted i; contents = sym was.replays i } in Ok shown)

  -- a reading of the disk is the name's answer
  pub show_reads : (result : Result Found FolderError) → IfSome old.disk.told (λ story. AnswersShown (reading (place_now name story)) result) → ReadsAs (standing_of outcome.after name) result
  unfolding standing_of
  show_reads result answer = by_tells outcome.after.start.tells refl where
    by_tells : (b : Bool) → outcome.after.start.tells ≡ b → ReadsAs (cond b (standing_told outcome.after name) Untold) result
    by_tells false untold = tt
    by_tells true tells =
        let stood : FoldersStand start old.disk.told old.log outcome.after = was.folders tells in
        answers_as (standing_told outcome.after name) (reading (place_of name (tree_now (state_of stood.story)))) result
        (told_reads (state_of stood.story) (state_of stood.first) old.log outcome.after stood.has stood.taken name fits stood.has.named (own_shown tells))
        (subst (λ (o : Option Story). IfSome o (λ story. AnswersShown (reading (place_now name story)) result)) stood.tells answer)

-- ---- a call that writes nothing

pub stands_untouched : (start : Option Story) (old new : Store) (outcome : Outcome) → IsUntouched old new → Stands start old outcome → Stands start new outcome
stands_untouched start old new outcome same was = record {
  contents = same.contents ∙ was.contents;
  sequence = same.sequence ∙ was.sequence;
  replays = was.replays;
  counted = was.counted;
  batches = was.batches;
  len = same.len ∙ was.len;
  log = λ story tells.
      subst (λ (o : Option Story). Logs o new.log outcome.accepted outcome.after.durable) (sym same.told)
      (subst (λ (l : List ℕ). Logs old.disk.told l outcome.accepted outcome.after.durable) (sym same.log) (was.log story tells));
  beside = λ story tells. subst (λ (o : Option Story). FilesBeside o new.log) (sym same.told) (subst (λ (l : List ℕ). FilesBeside old.disk.told l) (sym same.log) (was.beside story tells));
  home = same.log ∙ was.home;
  folders = λ tells.
      subst (λ (o : Option Story). FoldersStand start o new.log outcome.after) (sym same.told)
      (subst (λ (l : List ℕ). FoldersStand start old.disk.told l outcome.after) (sym same.log) (was.folders tells));
}
