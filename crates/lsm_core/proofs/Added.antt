-- The version that a flush's edit makes.
use Rattle.std.specs.Prelude.{◌≡◌, ℕ, Bool, true, false, cond, is_some, List, [], ◌∷◌, Some, None, Ok}
use Rattle.std.proofs.Common.{refl, sym, ap, ◌∙◌, subst, arith}
use Rattle.std.proofs.lemmas.Bool.Decides.{nat_tests}
use Rattle.std.specs.Ordering.{eq_by_cmp, nat_cmp}
use Rattle.std.specs.Cmp.{nat_cmp_total}
use Rattle.std.specs.FinMap as finmap
use Rattle.lsm_version.specs.declared.edits.Edit.{Edit}
use Rattle.lsm_version.specs.declared.tables.Placed.{Placed}
use Rattle.lsm_version.specs.declared.tables.TableInfo.{TableInfo}
use Rattle.lsm_version.specs.Edits.{IsFileNumber, IsPlace, IsTable}
use Rattle.lsm_version.specs.Levels.{Tables, Overlap, overlaps}
use Rattle.lsm_version.specs.Versions.{changed, leveled, refused_by, applied}
use Rattle.lsm_version.proofs.TableMaps.{added_is}
use Rattle.lsm_refine.specs.Flushed.{at_top, flush_edit}
use Rattle.lsm_refine.specs.WholeEdits.{AreInRange}
use Rattle.lsm_core.specs.Catalogs.{AreStill, HasTableMore}

refused_none : (found tables : Tables) (pairs : List Overlap) → refused_by found pairs ≡ Ok tables → found ≡ tables
refused_none found tables [] is = cc
refused_none found tables (pair ∷ pairs) is = absurd (cc)

-- where the edit isn't refused, it adds the table at level 0
added_tables : (tables later : Tables) (info : TableInfo) (log next last : ℕ) → finmap.get tables info.number ≡ None
    → applied tables (flush_edit info log next last) ≡ Ok later → later ≡ finmap.insert tables info.number (at_top info)
unfolding applied changed
added_tables tables later info log next last none is =
    let more : Tables = finmap.insert tables info.number (at_top info) in
    sym (refused_none more later (overlaps more)
    (sym (ap leveled (added_is tables (record { level = 0; table = info }) (ap is_some none))) ∙ is))

same_number : (a b : ℕ) → eq_by_cmp nat_cmp a b ≡ true → a ≡ b
same_number a b is = grind (arith, nat_tests)

some_once : (a b : Placed) → Some a ≡ Some b → a ≡ b
some_once a b same = cc

range_more : (tables : Tables) (info : TableInfo) → AreInRange tables → IsFileNumber info.number → IsTable info
    → AreInRange (finmap.insert tables info.number (at_top info))
range_more tables info range numbered fits = record {
  each = λ number placed found. by number placed (eq_by_cmp nat_cmp number info.number) refl
      (sym (finmap.get-insert nat_cmp_total tables info.number (at_top info) number) ∙ found);
}
  where
    by : (number : ℕ) (placed : Placed) (b : Bool) → eq_by_cmp nat_cmp number info.number ≡ b
        → cond (eq_by_cmp nat_cmp number info.number) (Some (at_top info)) (finmap.get tables number) ≡ Some placed
        → IsPlace placed.level number × IsTable placed.info × (placed.info.number ≡ number)
    by number placed true same found =
        let here : number ≡ info.number = same_number number info.number same in
        subst (λ (p : Placed). IsPlace p.level number × IsTable p.info × (p.info.number ≡ number))
        (some_once (at_top info) placed (ap (λ (b : Bool). cond b (Some (at_top info)) (finmap.get tables number)) (sym same)
        ∙ found))
        (subst (λ (n : ℕ). IsPlace 0 n × IsTable info × (info.number ≡ n)) (sym here)
        (record { level_is = omega arith; number_is = numbered }, fits, refl))
    by number placed false other found =
        range.each number placed (ap (λ (b : Bool). cond b (Some (at_top info)) (finmap.get tables number)) (sym other) ∙ found)

still_more : (tables : Tables) (info : TableInfo) → AreStill tables (finmap.insert tables info.number (at_top info))
still_more tables info number there = by (eq_by_cmp nat_cmp number info.number)
    (finmap.get-insert nat_cmp_total tables info.number (at_top info) number)
  where
    by : (b : Bool) → finmap.get (finmap.insert tables info.number (at_top info)) number
        ≡ cond b (Some (at_top info)) (finmap.get tables number)
        → is_some (finmap.get (finmap.insert tables info.number (at_top info)) number) ≡ true
    by true is = ap is_some is
    by false is = ap is_some is ∙ there

pub table_more : (tables later : Tables) (edit : Edit) (info : TableInfo) (log next last : ℕ) → AreInRange tables
    → edit ≡ flush_edit info log next last → finmap.get tables info.number ≡ None → IsFileNumber info.number → IsTable info
    → applied tables edit ≡ Ok later → HasTableMore tables info later
table_more tables later edit info log next last range edit_is none numbered fits is =
    let later_is : later ≡ finmap.insert tables info.number (at_top info) =
    added_tables tables later info log next last none (ap (applied tables) (sym edit_is) ∙ is) in record {
      is = later_is;
      range = subst (λ (t : Tables). AreInRange t) (sym later_is) (range_more tables info range numbered fits);
      still = subst (λ (t : Tables). AreStill tables t) (sym later_is) (still_more tables info);
    }
