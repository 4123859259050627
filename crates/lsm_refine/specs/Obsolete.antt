-- Which of a store's files nothing needs any more.
use Rattle.std.specs.Prelude.{◌≡◌, ◌≢◌, ◌↔◌, ◌⊎◌, List, map, Contains}
use Rattle.std.specs.Cmp.Lexicographic.{slice_cmp}
use Rattle.std.specs.Ordering.{nat_cmp}
use Rattle.std.specs.declared.cmp.Ordering.TheVariants.{Greater}
use Rattle.lsm_names.specs.FileNames.{spelled}
use Rattle.lsm_names.specs.declared.file_names.FileName.{FileName}
use Rattle.lsm_names.specs.declared.file_names.FileName.TheVariants.{Table}
use Rattle.lsm_refine.specs.Kept.{Kept, Unfinished}
use Rattle.lsm_refine.specs.Sane.{IsHeld}

-- ---- obsolete names

-- the names of the tables that a flush or a compaction is writing, or has written and not yet made live
abbrev pub unfinished_names : Kept → List FileName
unfinished_names kept = map (λ (table : Unfinished). Table table.number) kept.unfinished

-- A name is obsolete: it is one of the folder's, and neither the version, a live log, the manifest, a pin nor a table that is
-- being written needs it.
pub record IsObsolete (kept : Kept) (name : FileName) : Type 0 where
  pub known : Contains kept.known name
  pub unheld : ¬ IsHeld kept name
  pub ended : ¬ Contains (unfinished_names kept) name

-- the first of the obsolete names, in the order of their spellings' bytes
pub record IsNextObsolete (kept : Kept) (name : FileName) : Type 0 where
  pub obsolete : IsObsolete kept name
  pub first : (other : FileName) → IsObsolete kept other → ¬ (slice_cmp nat_cmp (spelled name) (spelled other) ≡ Greater)

-- ---- the known names

-- the later names are the earlier ones and this one
abbrev pub HasAlso : FileName → List FileName → List FileName → Type 0
HasAlso name old new = (other : FileName) → Contains new other ↔ ((other ≡ name) ⊎ Contains old other)

-- the later names are the earlier ones without this one
abbrev pub HasWithout : FileName → List FileName → List FileName → Type 0
HasWithout name old new = (other : FileName) → Contains new other ↔ ((other ≢ name) × Contains old other)
