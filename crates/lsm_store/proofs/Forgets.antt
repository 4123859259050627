-- A name that is taken out of names is in them no more, and the others stay.
use Rattle.std.specs.Prelude.{◌≡◌, ◌≢◌, true, false, cond, not, List, [], ◌∷◌, filter, Contains}
use Rattle.std.proofs.Common.{⊎_elim, refl, sym, ap, subst, ◌∙◌}
use Rattle.lsm_names.specs.declared.file_names.FileName.{FileName}
use Rattle.lsm_model.specs.Causes.{same_name}
use Rattle.lsm_refine.specs.Obsolete.{HasWithout}
use Rattle.lsm_core.proofs.UsedNames.{cons_cases, first_among, later_among, nothing_among, is_same_name, name_itself}

module _ (name : FileName) where
  abbrev others : List FileName → List FileName
  others names = filter (λ (other : FileName). not (same_name other name)) names

  differs : (other : FileName) → same_name other name ≡ false → other ≢ name
  differs other test same =
      let clash : true ≡ false = sym (name_itself name) ∙ ap (λ (n : FileName). same_name n name) (sym same) ∙ test in
      absurd (cc)

  left : (names : List FileName) (other : FileName) → Contains (filter (λ (n : FileName). not (same_name n name)) names) other
      → (other ≢ name) × Contains names other
  left [] other among = absurd (nothing_among other among)
  left (first ∷ names) other among =
      elim (same_name first name) as (λ b. same_name first name ≡ b
      → Contains (cond (not b) (first ∷ others names) (others names)) other
      → (other ≢ name) × Contains (first ∷ names) other) [
        | true ↦ λ test later. let is = left names other later in (is.0, later_among first names other is.1)
        | false ↦ λ test there. ⊎_elim
            (λ here. subst (λ (n : FileName). (n ≢ name) × Contains (first ∷ names) n) here
            (differs first test, first_among first names))
            (λ later. let is = left names other later in (is.0, later_among first names other is.1))
            (cons_cases first (others names) other there)
      ] refl among

  stays : (names : List FileName) (other : FileName) → other ≢ name → Contains names other
      → Contains (filter (λ (n : FileName). not (same_name n name)) names) other
  stays [] other apart among = absurd (nothing_among other among)
  stays (first ∷ names) other apart among =
      elim (same_name first name) as (λ b. same_name first name ≡ b
      → Contains (cond (not b) (first ∷ others names) (others names)) other) [
        | true ↦ λ test. ⊎_elim (λ here. absurd (apart (sym here ∙ is_same_name first name test)))
            (λ later. stays names other apart later) (cons_cases first names other among)
        | false ↦ λ test. ⊎_elim (λ here. subst (λ (n : FileName). Contains (first ∷ others names) n) here
            (first_among first (others names)))
            (λ later. later_among first (others names) other (stays names other apart later))
            (cons_cases first names other among)
      ] refl

  pub without_it : (names : List FileName) → HasWithout name names (filter (λ (n : FileName). not (same_name n name)) names)
  without_it names other = (left names other, λ is. stays names other is.0 is.1)
