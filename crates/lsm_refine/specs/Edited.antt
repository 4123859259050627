-- What a running store keeps of itself with an edit more in its manifest.
use Rattle.std.specs.Prelude.{◌≡◌, ℕ, ◌≤◌, true, false, is_some, List, length, All, Contains}
use Rattle.std.specs.FinMap as finmap
use Rattle.lsm_names.specs.FileNames.{IsFileName}
use Rattle.lsm_names.specs.declared.file_names.FileName.TheVariants.{Table}
use Rattle.lsm_disk.specs.State.{State}
use Rattle.lsm_disk.specs.Kept.{OpSpares}
use Rattle.lsm_disk.specs.Dest.{path_in}
use Rattle.lsm_version.specs.declared.edits.Edit.{Edit}
use Rattle.lsm_folder.specs.Manifests.{tables_after, log_after, last_after, manifest_text}
use Rattle.lsm_refine.specs.Kept.{Kept}

-- the version, the log number, the last sequence and the manifest's length are those of these edits
abbrev pub edited_kept : List Edit → Kept → Kept
edited_kept edits kept = record kept {
  version = tables_after edits;
  log = log_after edits;
  last = last_after edits;
  manifest_len = length (manifest_text edits);
}

-- From the one to the other a store keeps its manifest's number, the names that it knows, its pins, and the folder that a
-- restore builds. The log number doesn't fall, and each table that is still being written was so before.
pub record KeepsTheRest (before kept : Kept) : Type 0 where
  pub manifest : kept.manifest ≡ before.manifest
  pub known : kept.known ≡ before.known
  pub pins : kept.pins ≡ before.pins
  pub begun : kept.begun ≡ before.begun
  pub hand : kept.hand ≡ before.hand
  pub log : before.log ≤ kept.log
  pub unfinished : All (Contains before.unfinished) kept.unfinished

-- no operation that a crash may undo touches the name of a table that wasn't live before
abbrev pub AreNewQuiet : State → List ℕ → Kept → Kept → Type 0
AreNewQuiet d dir before kept = (number : ℕ) → IsFileName (Table number)
    → is_some (finmap.get before.version number) ≡ false → is_some (finmap.get kept.version number) ≡ true
    → All (OpSpares (path_in dir (Table number))) d.pending
