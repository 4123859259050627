-- A number that comes behind those of all known names is new: no live table has it, and no known file.
use Rattle.std.specs.Prelude.{◌≡◌, ℕ, ◌<◌, is_some, List, All, Contains, Option, Some, None}
use Rattle.std.specs.List.{flat_map}
use Rattle.std.specs.FinMap as finmap
use Rattle.std.proofs.Common.{refl, ap, arith}
use Rattle.std.proofs.lemmas.List.Elements.{All-contains}
use Rattle.lsm_names.specs.FileNames.{IsFileName}
use Rattle.lsm_names.specs.declared.file_names.FileName.TheVariants.{Table, Manifest, Temp, Current}
use Rattle.lsm_disk.specs.Names.{File_node}
use Rattle.lsm_disk.specs.State.{State}
use Rattle.lsm_disk.specs.Dest.{path_in}
use Rattle.lsm_disk.proofs.Named.{name_now}
use Rattle.lsm_version.specs.declared.tables.Placed.{Placed}
use Rattle.lsm_refine.specs.Kept.{Kept}
use Rattle.lsm_refine.specs.Parts.{Parts}
use Rattle.lsm_refine.specs.Sane.{Sane, names_held}
use Rattle.lsm_refine.specs.Grown.{IsDrawn}
use Rattle.lsm_refine.specs.Naming.{MayBeNext}

less_itself : (n : ℕ) → n < n → ⊥
less_itself n less = omega (arith, less)

module _ (kept : Kept) (n : ℕ) (drawn : All (IsDrawn n) kept.known) where
  -- no file of the number is known
  pub table_unknown : ¬ Contains kept.known (Table n)
  table_unknown among = less_itself n (All-contains (IsDrawn n) kept.known (Table n) drawn among)

  pub manifest_unknown : ¬ Contains kept.known (Manifest n)
  manifest_unknown among = less_itself n (All-contains (IsDrawn n) kept.known (Manifest n) drawn among)

  pub temporary_unknown : ¬ Contains kept.known (Temp n)
  temporary_unknown among = less_itself n (All-contains (IsDrawn n) kept.known (Temp n) drawn among)

  -- so a new manifest may have it
  pub drawn_next : IsFileName (Manifest n) → ¬ Contains (flat_map names_held kept.pins) Current → MayBeNext kept n
  drawn_next fits unpinned = record {
    numbered = fits;
    temporary = fits;
    unknown = manifest_unknown;
    free = temporary_unknown;
    unpinned = unpinned;
  }

  -- and no live table has it
  pub drawn_fresh : (d : State) (dir : List ℕ) (parts : Parts) → Sane d dir kept parts → finmap.get kept.version n ≡ None
  drawn_fresh d dir parts sane = by (finmap.get kept.version n) refl
    where
      by : (o : Option Placed) → finmap.get kept.version n ≡ o → o ≡ None
      by None is = refl
      by (Some placed) is =
          let table = sane.tables.each n placed is in
          absurd (table_unknown (sane.known.all (Table n) table.numbered
          (ap is_some (name_now d (path_in dir (Table n)) (Some (File_node table.file.id)) table.file.file.named))))
