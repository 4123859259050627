-- The parts of a restored folder are what the backup holds.
use Rattle.std.specs.List.{filter}
use Rattle.std.specs.Prelude.{◌≡◌, ℕ, Bool, true, false, cond, not, List, [], ◌∷◌, ◌++◌, Option, Some}
use Rattle.std.proofs.Common.{refl, sym, ap, ◌∙◌}
use Rattle.std.specs.FinMap as map
use Rattle.lsm_names.specs.declared.file_names.FileName.{FileName}
use Rattle.lsm_names.specs.declared.file_names.FileName.TheVariants.{Log, Table, Manifest, Temp, Current}
use Rattle.lsm_disk.specs.State.{Story, state_of}
use Rattle.lsm_disk.specs.Images.{tree_now}
use Rattle.lsm_disk.specs.Building.{Part}
use Rattle.lsm_folder.specs.Files.{Item, A_file, Files}
use Rattle.bk_meta.specs.declared.backup_files.BackupFile.{BackupFile}
use Rattle.bk_meta.specs.declared.backup_files.BackupFile.TheVariants.{Private, Shared}
use Rattle.bk_meta.specs.declared.metas.MetaFile.{MetaFile}
use Rattle.bk_meta.specs.declared.metas.Meta.{Meta}
use Rattle.bk_meta.specs.BackupFiles.{file_at}
use Rattle.bk_meta.specs.Metas.{is_current}
use Rattle.bk_tree.specs.Holds.{◌>>=◌, only_if, meta_in, texts_in, store_name, is_right, entry_of, entries_of, folder_of, held}
use Rattle.bk_tree.proofs.Holding.{made_of, held_steps, texts_steps, no_texts}
use Rattle.bk_restore.specs.Wrong.{is_current_file, others, currents}
use Rattle.bk_restore.specs.Restored.{IsRestored, AreRestored, IsFolderOf}
use Rattle.bk_restore.specs.Held.{entries_of_parts, files_of, is_current_name, current_first}

-- ---- the folder that the meta makes, step by step

abbrev texts_of : List Part → List (List ℕ)
texts_of [] = []
texts_of (part ∷ parts) = part.bytes ∷ texts_of parts

pub entry_steps : (id : ℕ) (file : MetaFile) (bytes : List ℕ) → entry_of id file bytes ≡ (file_at id file.path >>= λ (which : BackupFile). only_if (is_right file which bytes) (store_name which, A_file bytes))
unfolding entry_of
entry_steps id file bytes = refl

pub entries_steps : (id : ℕ) (file : MetaFile) (files : List MetaFile) (bytes : List ℕ) (texts : List (List ℕ))
    → entries_of id (file ∷ files) (bytes ∷ texts) ≡ (entry_of id file bytes >>= λ (entry : FileName × Item). entries_of id files texts >>= λ (more : List (FileName × Item)). Some (entry ∷ more))
unfolding entries_of
entries_steps id file files bytes texts = refl

no_entries : (id : ℕ) → entries_of id [] [] ≡ Some []
unfolding entries_of
no_entries id = refl

abbrev pub folder_by : Option (List (FileName × Item)) → Option Files
folder_by entries = entries >>= λ (es : List (FileName × Item)). Some (map.from_entries es)

pub folder_steps : (meta : Meta) (texts : List (List ℕ)) → folder_of meta texts ≡ folder_by (entries_of meta.id meta.files texts)
unfolding folder_of
folder_steps meta texts = refl

-- ---- of restored parts

module _ (id : ℕ) (story : Story) where
  texts_restored : (files : List MetaFile) (parts : List Part) → AreRestored id (Some story) files parts → texts_in (tree_now (state_of story)) files ≡ Some (texts_of parts)
  texts_restored [] [] is = no_texts (tree_now (state_of story))
  texts_restored [] (part ∷ parts) is = absurd is
  texts_restored (file ∷ files) [] is = absurd is
  texts_restored (file ∷ files) (part ∷ parts) is =
      let same = is.0.same in
      texts_steps (tree_now (state_of story)) file files
      ∙ λ i. same i >>= λ (bytes : List ℕ). texts_restored files parts is.1 i >>= λ (more : List (List ℕ)). Some (bytes ∷ more)

  entry_restored : (file : MetaFile) (part : Part) → IsRestored id (Some story) file part → entry_of id file part.bytes ≡ Some (part.name, A_file part.bytes)
  entry_restored file part is =
      entry_steps id file part.bytes
      ∙ ap (λ (o : Option BackupFile). o >>= λ (which : BackupFile). only_if (is_right file which part.bytes) (store_name which, A_file part.bytes)) is.named
      ∙ ap (λ (test : Bool). only_if test (store_name is.which, A_file part.bytes)) is.right
      ∙ ap (λ (name : FileName). let o : Option (FileName × Item) = Some (name, A_file part.bytes) in o) (sym is.name)

  entries_restored : (files : List MetaFile) (parts : List Part) → AreRestored id (Some story) files parts → entries_of id files (texts_of parts) ≡ Some (entries_of_parts parts)
  entries_restored [] [] is = no_entries id
  entries_restored [] (part ∷ parts) is = absurd is
  entries_restored (file ∷ files) [] is = absurd is
  entries_restored (file ∷ files) (part ∷ parts) is =
      entries_steps id file files part.bytes (texts_of parts)
      ∙ λ i. entry_restored file part is.0 i >>= λ (entry : FileName × Item). entries_restored files parts is.1 i >>= λ (more : List (FileName × Item)). Some (entry ∷ more)

-- the folder of the parts in the meta's order is what the tree holds
held_of : (story : Story) (meta : Meta) (parts : List Part) → meta_in (tree_now (state_of story)) meta.id ≡ Some meta → AreRestored meta.id (Some story) meta.files parts → held (tree_now (state_of story)) meta.id ≡ Some (files_of parts)
held_of story meta parts there is =
    let t = tree_now (state_of story) in
    held_steps t meta.id ∙ ap (made_of t) there ∙ ap (λ (o : Option (List (List ℕ))). o >>= folder_of meta) (texts_restored meta.id story meta.files parts is)
    ∙ folder_steps meta (texts_of parts) ∙ ap folder_by (entries_restored meta.id story meta.files parts is)

-- ---- the meta's order

name_test : (which : BackupFile) → is_current_name (store_name which) ≡ is_current (Some which)
name_test (Private (Log number)) = refl
name_test (Private (Table number)) = refl
name_test (Private (Manifest number)) = refl
name_test (Private (Temp number)) = refl
name_test (Private Current) = refl
name_test (Shared name) = refl

module _ (id : ℕ) (told : Option Story) where
  -- parts in the order of the files, of which these are `CURRENT` and the others
  record Merged (files : List MetaFile) (first rest : List Part) : Type 0 where
    parts : List Part
    restored : AreRestored id told files parts
    currents_are : filter (λ part. is_current_name part.name) parts ≡ first
    others_are : filter (λ part. not (is_current_name part.name)) parts ≡ rest

  part_test : (file : MetaFile) (part : Part) (test : Bool) → IsRestored id told file part → is_current_file id file ≡ test → is_current_name part.name ≡ test
  part_test file part test restored is = ap is_current_name restored.name ∙ name_test restored.which ∙ sym (ap is_current restored.named) ∙ is

  by_test : (file : MetaFile) (files : List MetaFile) (test : Bool) (first rest : List Part) → is_current_file id file ≡ test
      → AreRestored id told (cond test (file ∷ currents id files) (currents id files)) first → AreRestored id told (cond (not test) (file ∷ others id files) (others id files)) rest
      → ((a b : List Part) → AreRestored id told (currents id files) a → AreRestored id told (others id files) b → Merged files a b) → Merged (file ∷ files) first rest
  by_test file files true [] rest is a b next = absurd a
  by_test file files true (part ∷ first) rest is a b next =
      let m = next first rest a.1 b in
      let test = part_test file part true a.0 is in
      record {
        parts = part ∷ m.parts;
        restored = (a.0, m.restored);
        currents_are = ap (λ (t : Bool). cond t (part ∷ filter (λ p. is_current_name p.name) m.parts) (filter (λ p. is_current_name p.name) m.parts)) test ∙ ap (λ (l : List Part). part ∷ l) m.currents_are;
        others_are = ap (λ (t : Bool). cond (not t) (part ∷ filter (λ p. not (is_current_name p.name)) m.parts) (filter (λ p. not (is_current_name p.name)) m.parts)) test ∙ m.others_are;
      }
  by_test file files false first [] is a b next = absurd b
  by_test file files false first (part ∷ rest) is a b next =
      let m = next first rest a b.1 in
      let test = part_test file part false b.0 is in
      record {
        parts = part ∷ m.parts;
        restored = (b.0, m.restored);
        currents_are = ap (λ (t : Bool). cond t (part ∷ filter (λ p. is_current_name p.name) m.parts) (filter (λ p. is_current_name p.name) m.parts)) test ∙ m.currents_are;
        others_are = ap (λ (t : Bool). cond (not t) (part ∷ filter (λ p. not (is_current_name p.name)) m.parts) (filter (λ p. not (is_current_name p.name)) m.parts)) test ∙ ap (λ (l : List Part). part ∷ l) m.others_are;
      }

  merge : (files : List MetaFile) (first rest : List Part) → AreRestored id told (currents id files) first → AreRestored id told (others id files) rest → Merged files first rest
  merge [] [] [] a b = record { parts = []; restored = tt; currents_are = refl; others_are = refl }
  merge [] (part ∷ first) rest a b = absurd a
  merge [] [] (part ∷ rest) a b = absurd b
  merge (file ∷ files) first rest a b = by_test file files (is_current_file id file) first rest refl a b (λ x y p q. merge files x y p q)

  cut : (front back : List MetaFile) (whole : List Part) → AreRestored id told (front ++ back) whole → (a : List Part) × (b : List Part) × (whole ≡ a ++ b) × AreRestored id told front a × AreRestored id told back b
  cut [] back whole is = ([], whole, refl, tt, is)
  cut (file ∷ front) back [] is = absurd is
  cut (file ∷ front) back (part ∷ whole) is =
      let c = cut front back whole is.1 in
      (part ∷ c.0, c.1, ap (λ (l : List Part). part ∷ l) c.2, (is.0, c.3), c.4)

pub parts_held : (story : Story) (meta : Meta) (whole : List Part) → meta_in (tree_now (state_of story)) meta.id ≡ Some meta → IsFolderOf meta (Some story) whole
    → (parts : List Part) × (whole ≡ current_first parts) × (held (tree_now (state_of story)) meta.id ≡ Some (files_of parts))
parts_held story meta whole there is =
    let c = cut meta.id (Some story) (currents meta.id meta.files) (others meta.id meta.files) whole is in
    let m = merge meta.id (Some story) meta.files c.0 c.1 c.3 c.4 in
    (m.parts, c.2 ∙ (λ i. sym m.currents_are i ++ sym m.others_are i), held_of story meta m.parts there m.restored)
