-- A version with one table more, at level 0.
use Rattle.std.specs.Prelude.{◌≡◌, ℕ, Bool, true, false, cond, Some, None, Ok}
use Rattle.std.proofs.Common.{refl, sym, subst, ◌∙◌, arith}
use Rattle.std.proofs.lemmas.Bool.Decides.{nat_tests}
use Rattle.std.proofs.lemmas.Cmp.{nat_cmp_total}
use Rattle.std.specs.Ordering.{nat_cmp, eq_by_cmp}
use Rattle.std.specs.FinMap as finmap
use Rattle.lsm_names.specs.Numbers.{is_file_number}
use Rattle.lsm_version.specs.declared.tables.Placed.{Placed}
use Rattle.lsm_version.specs.declared.tables.TableInfo.{TableInfo}
use Rattle.lsm_version.specs.Edits.{IsPlace, IsTable, IsFileNumber}
use Rattle.lsm_version.specs.Levels.{Tables, overlaps}
use Rattle.lsm_version.specs.Versions.{added, dropped, changed, leveled, applied}
use Rattle.lsm_version.proofs.TableMaps.{same_number}
use Rattle.lsm_recover.specs.Stated.{AreSaid}
use Rattle.lsm_recover.proofs.SoundLemmas.{unrefused}
use Rattle.lsm_refine.specs.Flushed.{at_top}
use Rattle.lsm_refine.specs.WholeEdits.{AreInRange}
use Rattle.lsm_opening.specs.Edits.{top_edit}

-- what edits say is in range
pub said_range : (tables : Tables) → AreSaid tables → AreInRange tables
said_range tables are = record {
  each = λ number placed is. let said = are number placed is in (said.place, said.info, said.own);
}

by_free : (tables after : Tables) (info : TableInfo) (b : Bool)
    → leveled (cond b None (Some (finmap.insert tables info.number (at_top info)))) ≡ Ok after
    → after ≡ finmap.insert tables info.number (at_top info)
by_free tables after info true is = absurd (cc)
by_free tables after info false is =
    sym (unrefused (finmap.insert tables info.number (at_top info)) after
    (overlaps (finmap.insert tables info.number (at_top info))) is)

pub top_applied : (tables after : Tables) (info : TableInfo) → applied tables (top_edit info) ≡ Ok after
    → after ≡ finmap.insert tables info.number (at_top info)
unfolding applied changed added dropped
top_applied tables after info is = by_free tables after info (finmap.contains_key tables info.number) is

file_number : (n : ℕ) → is_file_number n ≡ true → IsFileNumber n
file_number n is = record { some = grind (arith, nat_tests, is); most = grind (arith, nat_tests, is) }

pub top_range : (tables : Tables) (info : TableInfo) → AreInRange tables → is_file_number info.number ≡ true → IsTable info
    → AreInRange (finmap.insert tables info.number (at_top info))
top_range tables info range fits said = record { each = each }
  where
    same_table : (a b : Placed) → Some a ≡ Some b → a ≡ b
    same_table a b same = cc

    its_own : IsPlace (at_top info).level info.number × IsTable (at_top info).info × ((at_top info).info.number ≡ info.number)
    its_own = (record { level_is = omega arith; number_is = file_number info.number fits }, said, refl)

    each : (number : ℕ) (placed : Placed) → finmap.get (finmap.insert tables info.number (at_top info)) number ≡ Some placed
        → IsPlace placed.level number × IsTable placed.info × (placed.info.number ≡ number)
    each number placed is =
        by_test (eq_by_cmp nat_cmp number info.number) refl
        (sym (finmap.get-insert nat_cmp_total tables info.number (at_top info) number) ∙ is)
      where
        by_test : (b : Bool) → eq_by_cmp nat_cmp number info.number ≡ b
            → cond b (Some (at_top info)) (finmap.get tables number) ≡ Some placed
            → IsPlace placed.level number × IsTable placed.info × (placed.info.number ≡ number)
        by_test true same found =
            subst (λ (n : ℕ). IsPlace placed.level n × IsTable placed.info × (placed.info.number ≡ n))
            (sym (same_number number info.number same))
            (subst (λ (p : Placed). IsPlace p.level info.number × IsTable p.info × (p.info.number ≡ info.number))
            (same_table (at_top info) placed found) its_own)
        by_test false other found = range.each number placed found
