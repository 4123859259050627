-- A table's blocks are forgotten one by one.
use Rattle.std.proofs.Common.{◌≡◌, ℕ, ◌<◌, Bool, true, false, cond, not, ◌==◌, ◌&&◌, List, [], ◌∷◌, length, map, filter, find, Option, Some, None, refl, sym, ap, subst, arith}
use Rattle.std.proofs.lemmas.Bool.{eqb-true, eq-eqb}
use Rattle.std.specs.Map.{remove_entry}
use Rattle.lru.specs.LruCache.{lru_cache}
use Rattle.lsm_block.specs.declared.entries.Entry.{Entry}
use Rattle.lsm_cache.specs.declared.blocks.BlockPlace.{BlockPlace}
use Rattle.lsm_cache.specs.Kept.{Kept, is_at, without_table}

abbrev Blocks : Type 0
Blocks = List (BlockPlace × List Entry)

module _ (number : ℕ) where
  abbrev of_others : Blocks → Blocks
  of_others es = filter (λ e. not (number == e.0.number)) es

  abbrev first_place : Blocks → Option BlockPlace
  first_place es = find (λ at. number == at.number) (map (λ e. e.0) es)

  -- the first block of the table is of the table
  found_number : (es : Blocks) (at : BlockPlace) → first_place es ≡ Some at → at.number ≡ number
  found_number [] at found = cc
  found_number (e ∷ es) at found = by_number (number == e.0.number) refl found (found_number es at)
    where
      by_number : (t : Bool) → (number == e.0.number) ≡ t → cond t (Some e.0) (first_place es) ≡ Some at → (first_place es ≡ Some at → at.number ≡ number) → at.number ≡ number
      by_number true test is rest = let same : e.0 ≡ at = cc in subst (λ (a : BlockPlace). a.number ≡ number) same (sym (eqb-true number e.0.number test))
      by_number false test is rest = rest is

  -- without a block of the table the blocks of others are the same
  others_same : (place : ℕ) (es : Blocks) → of_others (remove_entry (is_at number place) es) ≡ of_others es
  others_same place [] = refl
  others_same place (e ∷ es) = by_tests (number == e.0.number) (place == e.0.place) refl (others_same place es)
    where
      by_tests : (t u : Bool) → (number == e.0.number) ≡ t → of_others (remove_entry (is_at number place) es) ≡ of_others es → of_others (cond (t && u) es (e ∷ remove_entry (is_at number place) es)) ≡ cond (not t) (e ∷ of_others es) (of_others es)
      by_tests true true test rest = refl
      by_tests true false test rest = rw test rest
      by_tests false true test rest = rw test (ap (λ l. e ∷ l) rest)
      by_tests false false test rest = rw test (ap (λ l. e ∷ l) rest)

  -- where there is none of the table all are of others
  all_others : (es : Blocks) → first_place es ≡ None → of_others es ≡ es
  all_others [] none = refl
  all_others (e ∷ es) none = by_number (number == e.0.number) none (all_others es)
    where
      by_number : (t : Bool) → cond t (Some e.0) (first_place es) ≡ None → (first_place es ≡ None → of_others es ≡ es) → cond (not t) (e ∷ of_others es) (of_others es) ≡ e ∷ es
      by_number true is rest = cc
      by_number false is rest = ap (λ l. e ∷ l) (rest is)

  -- a block that is there goes
  one_less : (es : Blocks) (at : BlockPlace) → first_place es ≡ Some at → length (remove_entry (is_at at.number at.place) es) < length es
  one_less [] at found = cc
  one_less (e ∷ es) at found = by_number (number == e.0.number) refl found (one_less es at)
    where
      shorter : (t : Bool) → length (remove_entry (is_at at.number at.place) es) < length es → length (cond t es (e ∷ remove_entry (is_at at.number at.place) es)) < length (e ∷ es)
      shorter true less = omega arith
      shorter false less = omega (arith, less)

      is_it : e.0 ≡ at → length (remove_entry (is_at at.number at.place) (e ∷ es)) < length (e ∷ es)
      is_it same = rw (eq-eqb at.number e.0.number (ap (λ (a : BlockPlace). a.number) (sym same)), eq-eqb at.place e.0.place (ap (λ (a : BlockPlace). a.place) (sym same))) (omega arith)

      by_number : (t : Bool) → (number == e.0.number) ≡ t → cond t (Some e.0) (first_place es) ≡ Some at → (first_place es ≡ Some at → length (remove_entry (is_at at.number at.place) es) < length es) → length (remove_entry (is_at at.number at.place) (e ∷ es)) < length (e ∷ es)
      by_number true test is rest = is_it (let same : e.0 ≡ at = cc in same)
      by_number false test is rest = shorter (is_at at.number at.place e.0) (rest is)

  pub forgets_one : (kept : Kept) (at : BlockPlace) → first_place kept.entries ≡ Some at → without_table number (lru_cache (remove_entry (is_at at.number at.place) kept.entries) kept.cap) ≡ without_table number kept
  forgets_one kept at found =
      ap (λ es. lru_cache es kept.cap) (rw (found_number kept.entries at found) (others_same at.place kept.entries))

  pub forgets_less : (kept : Kept) (at : BlockPlace) → first_place kept.entries ≡ Some at → length (remove_entry (is_at at.number at.place) kept.entries) < length kept.entries
  forgets_less kept at found = one_less kept.entries at found

  pub forgets_all : (kept : Kept) → first_place kept.entries ≡ None → kept ≡ without_table number kept
  forgets_all kept none = ap (λ es. lru_cache es kept.cap) (sym (all_others kept.entries none))
