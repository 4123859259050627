-- What a backup without tables is made of, and a store's folder without a log.
use Rattle.std.specs.Prelude.{◌≡◌, ℕ, ◌≤◌, List, [], ◌∷◌, Option, Some, None}
use Rattle.lsm_names.specs.declared.file_names.FileName.TheVariants.{Log, Manifest, Current}
use Rattle.lsm_rows.specs.declared.operations.Op.{Op}
use Rattle.lsm_wal.specs.Batches.{wal_text, in_sequence}
use Rattle.lsm_folder.specs.Names.{current_text}
use Rattle.lsm_folder.specs.Manifests.{first_edit, manifest_text}
use Rattle.lsm_folder.specs.Files.{Files, file_at}
use Rattle.bk_meta.specs.declared.metas.Meta.{Meta}
use Rattle.bk_engine.specs.Creating.{plain_names, plain_meta}

-- ---- the backup of a store that has no tables

-- the number of the log of a store of these batches, if it wrote any
abbrev pub plain_log : List (List Op) → Option ℕ
plain_log [] = None
plain_log (ops ∷ batches) = Some 2

-- the texts of its files: the log's, if it wrote any batches, that of `CURRENT`, and the manifest's
abbrev pub plain_texts : List (List Op) → List (List ℕ)
plain_texts [] = current_text 1 ∷ manifest_text (first_edit ∷ []) ∷ []
plain_texts (ops ∷ batches) = wal_text (in_sequence 1 (ops ∷ batches)) ∷ current_text 1 ∷ manifest_text (first_edit ∷ []) ∷ []

-- the meta of the backup of such a store
abbrev pub backup_meta : ℕ → ℕ → ℕ → List (List Op) → Meta
backup_meta id timestamp sequence batches = plain_meta id timestamp sequence (plain_names (plain_log batches) 1) (plain_texts batches)

-- CURRENT names MANIFEST-000001, which has a new store's edit; and from log 2 on there is no log.
pub record HasNoLog (files : Files) : Type 0 where
  pub current : file_at files Current ≡ Some (current_text 1)
  pub manifest : file_at files (Manifest 1) ≡ Some (manifest_text (first_edit ∷ []))
  pub no_log : (number : ℕ) → 2 ≤ number → file_at files (Log number) ≡ None
