-- A version with one table more at level 0: its entries, its rows, and what an edit that adds the table makes of it.
use Rattle.std.specs.Prelude.{◌≡◌, ℕ, zero, suc, ◌+◌, unwrap_or, Bool, true, false, ◌==◌, ◌&&◌, nat_lt, cond, List, [], ◌∷◌, ◌++◌, map, Option, Some, None, Result, Ok, Err, is_some}
use Rattle.std.specs.List.{flat_map, filter, fold}
use Rattle.std.specs.Ordering.{nat_cmp, is_eq}
use Rattle.std.specs.Cmp.{nat_cmp_total}
use Rattle.std.specs.declared.cmp.Ordering.{Ordering}
use Rattle.std.specs.declared.cmp.Ordering.TheVariants.{Less, Equal, Greater}
use Rattle.std.specs.FinMap as finmap
use Rattle.std.specs.FinMap.Entries.{put, by_order}
use Rattle.std.proofs.Common.{refl, sym, ap, subst, ◌∙◌, arith}
use Rattle.std.proofs.lemmas.Bool.Decides.{nat_tests}
use Rattle.std.proofs.lemmas.List.Elements.{filter-append, All-push}
use Rattle.std.proofs.lemmas.List.Sums.{fold-append}
use Rattle.lsm_version.specs.declared.edits.Edit.{Edit}
use Rattle.lsm_version.specs.declared.refusals.ApplyError.{ApplyError}
use Rattle.lsm_version.specs.declared.tables.Placed.{Placed}
use Rattle.lsm_version.specs.declared.tables.TableInfo.{TableInfo}
use Rattle.lsm_version.specs.Edits.{IsEdit}
use Rattle.lsm_version.specs.Levels.{Tables, Overlap, clash, overlap, overlaps_with, overlaps_at, overlaps_from, overlaps}
use Rattle.lsm_version.specs.Versions.{empty_version, changed, leveled, refused_by, applied, applied_after, version_after, numbers_set, numbers_after}
use Rattle.lsm_version.proofs.TableMaps.{added_is}
use Rattle.lsm_folder.specs.Manifests.{tables_or_none, tables_after, log_after, last_after}
use Rattle.lsm_folder.specs.Parts.{AreEdits, first_may}
use Rattle.lsm_refine.specs.Flushed.{at_top, flush_edit, AddTable}

-- ---- one entry more

-- the entry stands somewhere among the others
pub record IsAmong (entry : ℕ × Placed) (others all : List (ℕ × Placed)) : Type 0 where
  pub before : List (ℕ × Placed)
  pub behind : List (ℕ × Placed)
  pub others_are : others ≡ before ++ behind
  pub all_are : all ≡ before ++ entry ∷ behind

put_among : (k : ℕ) (v : Placed) (es : List (ℕ × Placed)) → finmap.find nat_cmp k es ≡ None
    → IsAmong (k, v) es (put nat_cmp k v es)
put_among k v [] none = record { before = []; behind = []; others_are = refl; all_are = refl }
put_among k v (e ∷ es) none = by (nat_cmp k e.0) refl (λ free. put_among k v es free)
  where
    by : (o : Ordering) → nat_cmp k e.0 ≡ o → (finmap.find nat_cmp k es ≡ None → IsAmong (k, v) es (put nat_cmp k v es))
        → IsAmong (k, v) (e ∷ es) (by_order o ((k, v) ∷ e ∷ es) ((e.0, v) ∷ es) (e ∷ put nat_cmp k v es))
    by Less is later = record { before = []; behind = e ∷ es; others_are = refl; all_are = refl }
    by Equal is later =
        let clash : Some e.1 ≡ None = ap (λ (o : Ordering). cond (is_eq o) (Some e.1) (finmap.find nat_cmp k es)) (sym is)
        ∙ none in
        absurd (cc)
    by Greater is later =
        let rest = later (ap (λ (o : Ordering). cond (is_eq o) (Some e.1) (finmap.find nat_cmp k es)) (sym is) ∙ none) in
        record {
          before = e ∷ rest.before;
          behind = rest.behind;
          others_are = ap (λ (l : List (ℕ × Placed)). e ∷ l) rest.others_are;
          all_are = ap (λ (l : List (ℕ × Placed)). e ∷ l) rest.all_are;
        }

-- a table of a new number stands somewhere among the others
pub inserted_among : (tables : Tables) (k : ℕ) (v : Placed) → finmap.get tables k ≡ None
    → IsAmong (k, v) (finmap.entries tables) (finmap.entries (finmap.insert tables k v))
inserted_among tables k v none =
    subst (IsAmong (k, v) (finmap.entries tables)) (sym (finmap.entries-insert nat_cmp_total tables k v))
    (put_among k v (finmap.entries tables) (sym (finmap.get-entries tables k) ∙ none))

-- ---- the order of levels doesn't change

no_clash_with : (x y z : Bool) → (x && (y && (false && z))) ≡ false
no_clash_with true true z = refl
no_clash_with true false z = refl
no_clash_with false y z = refl

no_clash_of : (x z : Bool) → (x && (false && z)) ≡ false
no_clash_of true z = refl
no_clash_of false z = refl

module _ (level : ℕ) (e : ℕ × Placed) (other : (e.1.level == level) ≡ false) where
  clash_with : (a : ℕ × Placed) → clash level a e ≡ false
  unfolding clash
  clash_with a = rw other (no_clash_with (nat_lt a.0 e.0) (a.1.level == level) (overlap a.1.info e.1.info))

  clash_of : (b : ℕ × Placed) → clash level e b ≡ false
  unfolding clash
  clash_of b = rw other (no_clash_of (nat_lt e.0 b.0) (b.1.level == level && overlap e.1.info b.1.info))

  none_of : (all : List (ℕ × Placed)) → overlaps_with level all e ≡ []
  none_of [] = refl
  none_of (b ∷ all) = rw (clash_of b) (none_of all)

  module _ (before behind : List (ℕ × Placed)) where
    abbrev pair_of : ℕ × Placed → ℕ × Placed → Overlap
    pair_of a b = record { level = level; left = a.0; right = b.0 }

    same_with : (a : ℕ × Placed) → overlaps_with level (before ++ e ∷ behind) a ≡ overlaps_with level (before ++ behind) a
    same_with a =
        ap (λ (l : List (ℕ × Placed)). map (pair_of a) l) (
        filter-append (clash level a) before (e ∷ behind)
        ∙ ap (λ (b : Bool). filter (clash level a) before ++ cond b (e ∷ filter (clash level a) behind)
        (filter (clash level a) behind))
        (clash_with a)
        ∙ sym (filter-append (clash level a) before behind))

    same_all : (some : List (ℕ × Placed)) → flat_map (overlaps_with level (before ++ e ∷ behind)) some
        ≡ flat_map (overlaps_with level (before ++ behind)) some
    same_all [] = refl
    same_all (a ∷ some) =
        ap (λ (l : List Overlap). l ++ flat_map (overlaps_with level (before ++ e ∷ behind)) some) (same_with a)
        ∙ ap (λ (l : List Overlap). overlaps_with level (before ++ behind) a ++ l) (same_all some)

    left_out : (front : List (ℕ × Placed)) → flat_map (overlaps_with level (before ++ e ∷ behind)) (front ++ e ∷ behind)
        ≡ flat_map (overlaps_with level (before ++ behind)) (front ++ behind)
    left_out [] =
        ap (λ (l : List Overlap). l ++ flat_map (overlaps_with level (before ++ e ∷ behind)) behind)
        (none_of (before ++ e ∷ behind))
        ∙ same_all behind
    left_out (a ∷ front) =
        ap (λ (l : List Overlap). l ++ flat_map (overlaps_with level (before ++ e ∷ behind)) (front ++ e ∷ behind))
        (same_with a)
        ∙ ap (λ (l : List Overlap). overlaps_with level (before ++ behind) a ++ l) (left_out front)

    same_at : overlaps_at level (before ++ e ∷ behind) ≡ overlaps_at level (before ++ behind)
    same_at = left_out before

is_other : (level : ℕ) → (0 == level + 1) ≡ false
is_other level = grind (arith, nat_tests)

same_from : (levels level : ℕ) (e : ℕ × Placed) (before behind : List (ℕ × Placed)) → e.1.level ≡ 0
    → overlaps_from levels (level + 1) (before ++ e ∷ behind) ≡ overlaps_from levels (level + 1) (before ++ behind)
same_from zero level e before behind top = refl
same_from (suc levels) level e before behind top =
    ap (λ (l : List Overlap). l ++ overlaps_from levels (level + 1 + 1) (before ++ e ∷ behind))
    (same_at (level + 1) e (ap (λ (n : ℕ). n == level + 1) top ∙ is_other level) before behind)
    ∙ ap (λ (l : List Overlap). overlaps_at (level + 1) (before ++ behind) ++ l)
    (same_from levels (level + 1) e before behind top)

-- a table of level 0 overlaps with none
added_overlaps : (tables : Tables) (info : TableInfo) → finmap.get tables info.number ≡ None
    → overlaps (finmap.insert tables info.number (at_top info)) ≡ overlaps tables
added_overlaps tables info none =
    let among = inserted_among tables info.number (at_top info) none in
    ap (λ (es : List (ℕ × Placed)). overlaps_from 6 1 es) among.all_are
    ∙ same_from 6 0 (info.number, at_top info) among.before among.behind refl
    ∙ ap (λ (es : List (ℕ × Placed)). overlaps_from 6 1 es) (sym among.others_are)

-- ---- versions that edits made

ok_is : (tables found : Tables) (os : List Overlap) → refused_by found os ≡ Ok tables → (found ≡ tables) × (os ≡ [])
ok_is tables found [] is = (cc, refl)
ok_is tables found (pair ∷ os) is = absurd (cc)

leveled_in_order : (found : Option Tables) (tables : Tables) → leveled found ≡ Ok tables → overlaps tables ≡ []
leveled_in_order None tables is = absurd (cc)
leveled_in_order (Some found) tables is =
    let parts = ok_is tables found (overlaps found) is in
    ap (λ (t : Tables). overlaps t) (sym parts.0) ∙ parts.1

applied_in_order : (tables after : Tables) (edit : Edit) → applied tables edit ≡ Ok after → overlaps after ≡ []
unfolding applied
applied_in_order tables after edit is = leveled_in_order (changed tables edit) after is

IsInOrder : Result Tables ApplyError → Type 0
IsInOrder r = (tables : Tables) → r ≡ Ok tables → overlaps tables ≡ []

after_in_order : (r : Result Tables ApplyError) (edit : Edit) → IsInOrder (applied_after r edit)
unfolding IsInOrder
after_in_order (Ok tables) edit = λ after is. applied_in_order tables after edit is
after_in_order (Err e) edit = λ after is. absurd (cc)

all_in_order : (edits : List Edit) (r : Result Tables ApplyError) → IsInOrder r → IsInOrder (fold applied_after r edits)
all_in_order [] r order = order
all_in_order (edit ∷ edits) r order = all_in_order edits (applied_after r edit) (after_in_order r edit)

pub version_in_order : (edits : List Edit) (tables : Tables) → first_may edits ≡ true → version_after edits ≡ Ok tables
    → overlaps tables ≡ []
unfolding version_after IsInOrder
version_in_order [] tables first is = let clash : false ≡ true = first in absurd (cc)
version_in_order (edit ∷ edits) tables first is =
    all_in_order edits (applied_after (Ok empty_version) edit) (after_in_order (Ok empty_version) edit) tables is

-- ---- the edit of a flush

pub tables_are : (edits : List Edit) (tables : Tables) → version_after edits ≡ Ok tables → tables_after edits ≡ tables
unfolding tables_after
tables_are edits tables is = ap tables_or_none is

free_test : (o : Option Placed) → o ≡ None → is_some o ≡ false
free_test o none = ap is_some none

-- it is never refused where the table's number is new
pub flush_applies : (edits : List Edit) → AreEdits edits → (info : TableInfo) (log next last : ℕ)
    → finmap.get (tables_after edits) info.number ≡ None
    → applied (tables_after edits) (flush_edit info log next last)
    ≡ Ok (finmap.insert (tables_after edits) info.number (at_top info))
unfolding applied changed
flush_applies edits are info log next last none =
    let tables : Tables = tables_after edits in
    let order : overlaps tables ≡ [] =
    version_in_order edits tables are.first (are.taken.is ∙ ap Ok (sym (tables_are edits are.taken.tables are.taken.is))) in
    ap leveled (added_is tables (record { level = 0; table = info }) (free_test (finmap.get tables info.number) none))
    ∙ ap (refused_by (finmap.insert tables info.number (at_top info))) (added_overlaps tables info none ∙ order)

version_more : (edits : List Edit) (tables : Tables) (edit : Edit) → version_after edits ≡ Ok tables
    → version_after (edits ++ edit ∷ []) ≡ applied tables edit
unfolding version_after
version_more edits tables edit is =
    fold-append applied_after (Ok empty_version) edits (edit ∷ [])
    ∙ ap (λ (r : Result Tables ApplyError). applied_after r edit) is

first_still : (edits : List Edit) (edit : Edit) → first_may edits ≡ true → first_may (edits ++ edit ∷ []) ≡ true
first_still [] edit first = let clash : false ≡ true = first in absurd (cc)
first_still (one ∷ edits) edit first = first

log_more : (edits : List Edit) (info : TableInfo) (log next last : ℕ)
    → log_after (edits ++ flush_edit info log next last ∷ []) ≡ log
unfolding log_after numbers_after
log_more edits info log next last =
    ap (λ numbers. unwrap_or numbers.log 0)
    (fold-append numbers_set (record { log = None; next = None; last = None }) edits (flush_edit info log next last ∷ []))

last_more : (edits : List Edit) (info : TableInfo) (log next last : ℕ)
    → last_after (edits ++ flush_edit info log next last ∷ []) ≡ last
unfolding last_after numbers_after
last_more edits info log next last =
    ap (λ numbers. unwrap_or numbers.last 0)
    (fold-append numbers_set (record { log = None; next = None; last = None }) edits (flush_edit info log next last ∷ []))

-- behind the others it adds the table
pub flush_adds : (edits : List Edit) → AreEdits edits → (info : TableInfo) (log next last : ℕ)
    → IsEdit (flush_edit info log next last) → finmap.get (tables_after edits) info.number ≡ None
    → AddTable edits info log last (edits ++ flush_edit info log next last ∷ [])
flush_adds edits are info log next last fits none =
    let edit : Edit = flush_edit info log next last in
    let with : Tables = finmap.insert (tables_after edits) info.number (at_top info) in
    let taken : version_after (edits ++ edit ∷ []) ≡ Ok with =
    version_more edits (tables_after edits) edit (are.taken.is ∙ ap Ok (sym (tables_are edits are.taken.tables are.taken.is)))
    ∙ flush_applies edits are info log next last none in
    record {
      are = record {
        first = first_still edits edit are.first;
        each = All-push IsEdit edits edit are.each fits;
        taken = record { tables = with; is = taken };
      };
      tables = tables_are (edits ++ edit ∷ []) with taken;
      log_is = log_more edits info log next last;
      last_is = last_more edits info log next last;
    }
