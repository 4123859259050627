-- Which files a cut lists of what a store keeps, on every disk, also on one that tells nothing.
use Rattle.std.specs.Prelude.{◌≡◌, ℕ, ◌-◌, List, [], ◌∷◌, ◌++◌, map, take, drop, length, Some, None}
use Rattle.std.specs.FinMap as finmap
use Prim.Native.Nat.{zero, suc}
use Rattle.lsm_names.specs.declared.file_names.FileName.TheVariants.{Log, Table, Manifest}
use Rattle.lsm_version.specs.declared.tables.Placed.{Placed}
use Rattle.lsm_model.specs.declared.cuts.Cut.{Cut}
use Rattle.lsm_model.specs.declared.cuts.CutFile.{CutFile}
use Rattle.lsm_refine.specs.Kept.{Kept}

-- a live table, with the session that wrote it
abbrev pub table_listed : ℕ × Placed → CutFile
table_listed table = record { name = Table table.0; len = table.1.info.size; session = Some table.1.info.session }

-- logs of this length, where they aren't empty
abbrev pub logs_listed : ℕ → List ℕ → List CutFile
logs_listed zero numbers = []
logs_listed (suc less) numbers = map (λ (number : ℕ). record { name = Log number; len = suc less; session = None }) numbers

abbrev pub manifest_listed : Kept → CutFile
manifest_listed kept = record { name = Manifest kept.manifest; len = kept.manifest_len; session = None }

-- The live tables by number, the live logs that aren't empty, the last one behind the older one, and the manifest.
abbrev pub files_listed : Kept → List CutFile
files_listed kept =
    map table_listed (finmap.entries kept.version)
    ++ (logs_listed kept.older_len (take (length kept.logs - 1) kept.logs)
    ++ (logs_listed kept.log_len (drop (length kept.logs - 1) kept.logs) ++ manifest_listed kept ∷ []))

-- a cut lists them as they are behind it, and tells the manifest's number
pub record ListsLive (kept : Kept) (cut : Cut) : Type 0 where
  pub manifest : cut.manifest ≡ kept.manifest
  pub files : cut.files ≡ files_listed kept
