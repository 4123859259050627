-- What folders read as while a restore goes on, as a state lists them.
use Rattle.std.specs.Prelude.{◌≡◌, ◌≢◌, ℕ, Bool, true, false, cond, is_some, List, [], ◌∷◌, ◌++◌, length, All, option_map, Option, Some, None, Result, Err}
use Rattle.std.proofs.Common.{refl, sym, ap, subst, ◌∙◌, arith}
use Rattle.std.proofs.lemmas.List.Elements.{All-nil, All-cons, All-head, All-tail, All-push, All-weaker}
use Rattle.std.specs.Str.{bytes_eq}
use Rattle.std.specs.FinMap as finmap
use Rattle.lsm_names.specs.Folders.{is_folder_name}
use Rattle.lsm_names.specs.FileNames.{spelled}
use Rattle.lsm_names.specs.declared.file_names.FileName.{FileName}
use Rattle.lsm_names.specs.declared.file_names.FileName.TheVariants.{Current}
use Rattle.lsm_names.proofs.FolderLemmas.{folder_has_bytes}
use Rattle.lsm_disk.specs.Names.{Node, Folder_node, stands}
use Rattle.lsm_disk.specs.State as disk
use Rattle.lsm_disk.specs.State.{FileState, Seen, names_now}
use Rattle.lsm_disk.specs.Images.{Tree, tree_now}
use Rattle.lsm_disk.specs.Dest.{IsPartName, path_in}
use Rattle.lsm_disk.specs.Building.{HoldsNames}
use Rattle.lsm_disk.proofs.Lawful.{get_named}
use Rattle.lsm_folder.specs.Files.{Files, Place, bytes_in, file_at, item_of, files_in}
use Rattle.lsm_folder.specs.Reading.{reading, current_of, edits_of, texts_behind, texts_in, read}
use Rattle.lsm_folder.specs.Steps.{◌>>=◌}
use Rattle.lsm_folder.specs.declared.refusals.Refusal.{Refusal}
use Rattle.lsm_folder.specs.declared.refusals.Refusal.TheVariants as refusal
use Rattle.lsm_folder.proofs.FileLemmas.{files_are, folder_place}
use Rattle.lsm_folder.proofs.CurrentLemmas.{no_current}
use Rattle.lsm_folder.proofs.NameLemmas.{same_text, equal_texts}
use Rattle.lsm_model.specs.declared.errors.StoreError.TheVariants as error
use Rattle.lsm_model.specs.declared.states.State.{State}
use Rattle.lsm_model.specs.declared.states.FolderRead.{FolderRead}
use Rattle.lsm_model.specs.States.{folder_of, with_folder}
use Rattle.lsm_model.specs.Reads.{known_reading}
use Rattle.lsm_model.specs.Destination.{unfinished}
use Rattle.lsm_model.proofs.PinLemmas.{folder_new, folder_kept, folder_placed}
use Rattle.lsm_refine.specs.Folders.{as_shown, folder_reading, IsSure, FoldersRead, ChangesInside}
use Rattle.lsm_refine.proofs.OtherFileLemmas.{current_apart}
use Rattle.lsm_refine.proofs.WithinRuns.{folders_within}
use Rattle.lsm_restoring.specs.Restoring.{LacksCurrentNow, restored_state}

-- ---- a folder without `CURRENT`

files_refused : (files : Files) → file_at files Current ≡ None → (texts_in files >>= read) ≡ Err refusal.NoCurrent
unfolding texts_in
files_refused files none =
    let current : current_of files ≡ Err refusal.NoCurrent = sym (no_current files (sym none)) in
    ap (λ (r : Result ℕ Refusal). (r >>= λ (manifest : ℕ). edits_of files manifest >>= texts_behind files) >>= read) current

-- it reads so
pub lacking_reads : (folder : List ℕ) → is_folder_name folder ≡ true → (t : Tree)
    → finmap.get t.names folder ≡ Some Folder_node
    → finmap.get t.names (path_in folder Current) ≡ None → folder_reading folder t ≡ Err (error.NoCurrent folder)
unfolding folder_reading
lacking_reads folder named t there lacks =
    let some = folder_has_bytes folder named in
    let node : stands t.names folder ≡ Some Folder_node = sym (get_named t.names folder
    (λ empty. omega (arith, some, ap (λ (p : List ℕ). length p) empty))) ∙ there in
    let none : file_at (files_in folder t) Current ≡ None =
    ap bytes_in (files_are folder t Current some tt ∙ ap (λ (n : Option Node). option_map (item_of t.contents) n) lacks) in
    ap (λ (place : Place). as_shown folder (reading place)) (folder_place folder t node)
    ∙ ap (as_shown folder) (files_refused (files_in folder t) none)

-- so it is while it is built
pub names_lack : (start : disk.State) (folder : List ℕ) (names : List FileName) (d : disk.State)
    → HoldsNames start folder names d
    → LacksCurrentNow folder d
names_lack start folder names d holds = record {
  stands = holds.stands;
  lacks = holds.only (spelled Current) (All-weaker IsPartName (λ (name : FileName). spelled Current ≢ spelled name)
      current_apart names holds.own);
}

-- ---- lists of folders

other_name : (a b : List ℕ) → (a ≡ b → ⊥) → bytes_eq a b ≡ false
other_name a b other = elim (bytes_eq a b) as (λ t. bytes_eq a b ≡ t → t ≡ false) [
  | true ↦ λ same. absurd (other (equal_texts a b same))
  | false ↦ λ is. refl
] refl

-- one more leaves those of other names
beside_same : (name : List ℕ) (new : FolderRead) → name ≢ new.name → (fs : List FolderRead)
    → folder_of name (fs ++ new ∷ []) ≡ folder_of name fs
beside_same name new other [] = ap (λ (b : Bool). cond b (Some new) None) (other_name new.name name (λ is. other (sym is)))
beside_same name new other (f ∷ fs) = ap (cond (bytes_eq f.name name) (Some f)) (beside_same name new other fs)

placed_all : (P : FolderRead → Type 0) (new : FolderRead) → P new → (fs : List FolderRead) → All P fs → All P
    (with_folder new fs)
placed_all P new one [] are = All-cons P new [] one (All-nil P)
placed_all P new one (f ∷ fs) are =
    let rest = placed_all P new one fs (All-tail P f fs are) in
    elim (bytes_eq f.name new.name) as (λ t. All P (cond t (new ∷ fs) (f ∷ with_folder new fs))) [
      | true ↦ All-cons P new fs one (All-tail P f fs are)
      | false ↦ All-cons P f (with_folder new fs) (All-head P f fs are) rest
    ]

-- ---- the folders of a state

module _ (folder : List ℕ) (named : is_folder_name folder ≡ true) (d x : disk.State) (changes : ChangesInside folder d x)
    (s : State)
    (apart : folder ≢ s.own) (are : FoldersRead d s) (seen : Seen) (begun : Option (List ℕ)) where
  abbrev IsOther : FolderRead → Type 0
  IsOther entry = (is_folder_name entry.name ≡ true) × (entry.name ≢ s.own)

  unlike : (entry new : FolderRead) → Some new ≡ Some entry → new ≡ entry
  unlike entry new is = cc

  -- the folder lacks `CURRENT` still
  pub reads_still : LacksCurrentNow folder d → LacksCurrentNow folder x
      → ((entry : FolderRead) → folder_of folder s.folders ≡ Some entry → entry.sure ≡ false)
      → FoldersRead x (restored_state seen s.folders begun s)
  reads_still was is unsure = folders_within folder d x s (restored_state seen s.folders begun s) changes refl
      (λ name other. refl)
      are are.now.only (record {
        reads = lacking_reads folder named (tree_now x) is.stands is.lacks
            ∙ sym (lacking_reads folder named (tree_now d) was.stands was.lacks)
            ∙ are.now.reads folder named apart;
        taken = are.now.taken folder named apart ∙ ap is_some (was.stands ∙ sym is.stands);
        sure = λ entry found sure. let clash : false ≡ true = sym (unsure entry found) ∙ sure in absurd (cc);
      })

  -- the folder is new
  pub reads_new : folder_of folder s.folders ≡ None → LacksCurrentNow folder x
      → FoldersRead x (restored_state seen (s.folders ++ unfinished folder ∷ []) begun s)
  reads_new none is =
      let found : folder_of folder (s.folders ++ unfinished folder ∷ []) ≡ Some (unfinished folder) =
      folder_new folder s.folders (unfinished folder) none (same_text folder) in
      folders_within folder d x s (restored_state seen (s.folders ++ unfinished folder ∷ []) begun s) changes refl
      (λ name other. beside_same name (unfinished folder) other s.folders) are
      (All-push IsOther s.folders (unfinished folder) are.now.only (named, apart)) (record {
        reads = lacking_reads folder named (tree_now x) is.stands is.lacks ∙ sym (ap (known_reading folder) found);
        taken = ap is_some found ∙ sym (ap is_some is.stands);
        sure = λ entry at sure.
            let same : unfinished folder ≡ entry = unlike entry (unfinished folder) (sym found ∙ at) in
            let clash : false ≡ true = ap (λ (e : FolderRead). e.sure) same ∙ sure in absurd (cc);
      })

  -- the folder as it reads now
  pub reads_placed : (sure : Bool) → is_some (finmap.get (names_now x) folder) ≡ true
      → (sure ≡ true → IsSure x (record { name = folder; reading = folder_reading folder (tree_now x); sure = sure }))
      → FoldersRead x (restored_state seen
      (with_folder (record { name = folder; reading = folder_reading folder (tree_now x); sure = sure }) s.folders) begun s)
  reads_placed sure there is =
      let new : FolderRead = record { name = folder; reading = folder_reading folder (tree_now x); sure = sure } in
      let found : folder_of folder (with_folder new s.folders) ≡ Some new = folder_placed new s.folders in
      folders_within folder d x s (restored_state seen (with_folder new s.folders) begun s) changes refl
      (λ name other. folder_kept name new s.folders (λ same. other (sym same))) are
      (placed_all IsOther new (named, apart) s.folders are.now.only) (record {
        reads = sym (ap (known_reading folder) found);
        taken = ap is_some found ∙ sym there;
        sure = λ entry at is_sure.
            let same : new ≡ entry = unlike entry new (sym found ∙ at) in
            subst (λ (e : FolderRead). IsSure x e) same (is (ap (λ (e : FolderRead). e.sure) same ∙ is_sure));
      })
