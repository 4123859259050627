-- The tables that a folder's manifest names are synced where a store has them whole; and no folder stands under a file's name.
use Rattle.std.specs.Prelude.{◌≡◌, ℕ, zero, suc, ◌≤◌, List, [], ◌∷◌, length, slice_get, All, Option, Some, None, Ok, Result}
use Rattle.std.proofs.Common.{refl, sym, ap, ◌∙◌}
use Rattle.std.proofs.lemmas.List.Elements.{All-head, All-tail}
use Rattle.std.specs.FinMap as finmap
use Rattle.lsm_names.specs.declared.file_names.FileName.TheVariants.{Table, Manifest, Current}
use Rattle.lsm_names.proofs.FolderLemmas.{folder_has_bytes}
use Rattle.lsm_rows.specs.declared.rows.Row.{Row}
use Rattle.lsm_disk.specs.Names.{Names}
use Rattle.lsm_disk.specs.State as disk
use Rattle.lsm_disk.specs.State.{FileState, file_at, file_or, file_by, file_now}
use Rattle.lsm_disk.specs.Images.{Tree, IsImage, tree_now}
use Rattle.lsm_disk.specs.Dest.{path_in}
use Rattle.lsm_disk.specs.Building.{sealed}
use Rattle.lsm_disk.proofs.Images.{reads_image}
use Rattle.lsm_disk.proofs.Kept.{kept_now}
use Rattle.lsm_version.specs.declared.edits.Edit.{Edit}
use Rattle.lsm_version.specs.Levels.{Tables}
use Rattle.lsm_folder.specs.declared.refusals.Refusal.{Refusal}
use Rattle.lsm_folder.specs.declared.refusals.Refusal.TheVariants.{NoCurrent, Missing, Malformed}
use Rattle.lsm_folder.specs.Files.{Files, files_in}
use Rattle.lsm_folder.specs.Names.{current_text, manifest_in}
use Rattle.lsm_folder.specs.Manifests.{manifest_text, edits_said, tables_after}
use Rattle.lsm_folder.specs.Needed.{edits_at}
use Rattle.lsm_folder.specs.Reading.{current_of, edits_of}
use Rattle.lsm_folder.specs.Steps.{◌>>=◌, some_or}
use Rattle.lsm_folder.proofs.ManifestLemmas.{manifest_says, manifest_written}
use Rattle.lsm_folder.proofs.NameLemmas.{manifest_again}
use Rattle.lsm_folder.proofs.StepLemmas.{ok_once}
use Rattle.lsm_refine.specs.Kept.{Kept}
use Rattle.lsm_refine.specs.Parts.{Parts}
use Rattle.lsm_refine.specs.Sane.{HasTables, AreFiles, TablesAreSynced}
use Rattle.lsm_refine.specs.Beside.{cut_names, IsReadable}
use Rattle.lsm_refine.specs.Naming.{NamesManifest}
use Rattle.lsm_refine.specs.Openings.{HasOnlyFiles}
use Rattle.lsm_refine.proofs.FileLemmas.{whole_image, file_there}

-- ---- the edits of a folder

-- the folder's edits are those of the manifest that CURRENT names
pub named_edits : (dir : List ℕ) (edits : List Edit) (t : Tree) → 1 ≤ length dir → NamesManifest dir edits t
    → edits_at (files_in dir t) ≡ Ok edits
unfolding current_of edits_of
named_edits dir edits t some names =
    let files : Files = files_in dir t in
    let current : current_of files ≡ Ok names.number =
    ap (λ (o : Option (List ℕ)). some_or NoCurrent o >>= λ (bytes : List ℕ). some_or (Malformed Current 0) (manifest_in bytes))
    (file_there dir t Current (current_text names.number) some tt names.current)
    ∙ ap (some_or (Malformed Current 0)) (manifest_again names.number names.numbered) in
    let said : edits_of files names.number ≡ Ok edits =
    ap (λ (o : Option (List ℕ)). some_or (Missing (Manifest names.number)) o >>= λ (bytes : List ℕ).
    edits_said (Manifest names.number) bytes)
    (file_there dir t (Manifest names.number) names.text some names.numbered names.there)
    ∙ manifest_says (Manifest names.number) names.text edits names.says in
    ap (λ (r : Result ℕ Refusal). r >>= edits_of files) current ∙ said

-- what a running store reads by names its manifest
pub readable_names : (d : disk.State) (dir : List ℕ) (kept : Kept) (parts : Parts) → IsReadable d dir kept parts → (t : Tree)
    → IsImage d t → NamesManifest dir parts.edits t
readable_names d dir kept parts reads t i = record {
  number = kept.manifest;
  numbered = reads.current.numbered;
  current = whole_image d (path_in dir Current) (current_text kept.manifest) reads.current.file t i;
  text = manifest_text parts.edits;
  there = whole_image d (path_in dir (Manifest kept.manifest)) (manifest_text parts.edits) reads.edits.file t i;
  says = manifest_written parts.edits reads.edits.are;
}

-- ---- its tables

-- where CURRENT names a manifest of these edits, and their tables are whole, these are synced
pub names_synced : (d : disk.State) (dir : List ℕ) (kept : Kept) (edits : List Edit) (rows : ℕ → List Row) → 1 ≤ length dir
    → NamesManifest dir edits (tree_now d) → kept.version ≡ tables_after edits → HasTables d dir kept rows
    → TablesAreSynced d dir
names_synced d dir kept edits rows some names version tables others number placed said found =
    let same : others ≡ edits = ok_once (edits_at (files_in dir (tree_now d))) others edits said
    (named_edits dir edits (tree_now d) some names) in
    let listed : finmap.get kept.version number ≡ Some placed =
    ap (λ (t : Tables). finmap.get t number) (version ∙ ap tables_after (sym same)) ∙ found in
    let table = tables.each number placed listed in
    ap (λ (f : FileState). f.unsynced)
    (kept_now d (path_in dir (Table number)) table.file.id (sealed table.bytes) table.file.file)

pub readable_synced : (d : disk.State) (dir : List ℕ) (kept : Kept) (parts : Parts) → IsReadable d dir kept parts
    → TablesAreSynced d dir
readable_synced d dir kept parts reads =
    names_synced d dir kept parts.edits parts.rows (folder_has_bytes dir reads.current.named)
    (readable_names d dir kept parts reads (tree_now d) (reads_image d)) reads.edits.version reads.tables

-- so they are where all files are synced
by_number : (fs : List FileState) (id : ℕ) → All (λ (f : FileState). f.unsynced ≡ []) fs
    → (file_or (slice_get fs id)).unsynced ≡ []
by_number [] id each = refl
by_number (f ∷ fs) zero each = All-head (λ (g : FileState). g.unsynced ≡ []) f fs each
by_number (f ∷ fs) (suc id) each = by_number fs id (All-tail (λ (g : FileState). g.unsynced ≡ []) f fs each)

pub all_synced : (d : disk.State) (dir : List ℕ) → All (λ (f : FileState). f.unsynced ≡ []) d.files → TablesAreSynced d dir
all_synced d dir each edits number placed said found = by (file_at d (path_in dir (Table number)))
  where
    by : (o : Option ℕ) → (file_by o d).unsynced ≡ []
    by None = refl
    by (Some id) = by_number d.files id each

-- ---- names

-- no folder stands under a file's name in an image
pub image_files : (d : disk.State) (dir : List ℕ) → AreFiles d dir → (t : Tree) → IsImage d t → HasOnlyFiles dir t.names
image_files d dir files t i name fits is =
    files.no_folder name i.kept fits (ap (λ (names : Names). finmap.get names (path_in dir name)) (sym i.names) ∙ is)

-- where that is so in each image, it is after each crash
pub files_image : (d : disk.State) (dir : List ℕ) → ((t : Tree) → IsImage d t → HasOnlyFiles dir t.names) → AreFiles d dir
files_image d dir each = record {
  no_folder = λ name k fits is. each (record { names = cut_names d k; contents = (tree_now d).contents })
      (record { kept = k; names = refl; files = (reads_image d).files }) name fits is;
}
