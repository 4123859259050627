-- The first of the names that aren't used, name by name.
use Rattle.std.specs.Prelude.{◌≡◌, ◌≢◌, ◌⊎◌, ◌↔◌, ℕ, Bool, true, false, cond, List, [], ◌∷◌, Contains, Option, Some, None}
use Rattle.std.proofs.Common.{inl, inr, ⊎_elim, refl, sym, ap, subst, ◌∙◌}
use Rattle.std.specs.Cmp.Lexicographic.{slice_cmp}
use Rattle.std.specs.Ordering.{nat_cmp}
use Rattle.std.specs.List.{fold}
use Rattle.std.specs.Cmp.{IsTotalOrder}
use Rattle.std.specs.Ordering.{ordering_reverse}
use Rattle.std.proofs.lemmas.Cmp.{nat_list_cmp_total}
use Rattle.std.specs.declared.cmp.Ordering.{Ordering}
use Rattle.std.specs.declared.cmp.Ordering.TheVariants.{Less, Equal, Greater}
use Rattle.lsm_names.specs.FileNames.{spelled}
use Rattle.lsm_names.specs.declared.file_names.FileName.{FileName}
use Rattle.lsm_refine.specs.Kept.{Kept}
use Rattle.lsm_refine.specs.Obsolete.{IsObsolete, IsNextObsolete}
use Rattle.lsm_core.specs.Obsolete.{deleting, earlier, earlier_of, earlier_by, is_used, with_name, first_unused, IsNext}
use Rattle.lsm_core.proofs.UsedNames.{used_means, unused_means, cons_cases, first_among, later_among, nothing_among}

-- the first name isn't behind the second in the order of their bytes
abbrev IsFirst : FileName → FileName → Type 0
IsFirst a b = ¬ (slice_cmp nat_cmp (spelled a) (spelled b) ≡ Greater)

abbrev order : FileName → FileName → Ordering
order a b = slice_cmp nat_cmp (spelled a) (spelled b)

turned : (a b : FileName) (o : Ordering) → order a b ≡ o → order b a ≡ ordering_reverse o
turned a b o is = nat_list_cmp_total.antisymm (spelled b) (spelled a) ∙ ap ordering_reverse is

not_behind_itself : (a : FileName) → IsFirst a a
not_behind_itself a behind = let clash : Less ≡ Greater = sym (turned a a Greater behind) ∙ behind in absurd (cc)

-- what an earlier name is behind, the first is behind too
first_still : (a n x : FileName) → order a n ≡ Greater → IsFirst a x → IsFirst n x
first_still a n x earlier first behind =
    first (turned x a Less (nat_list_cmp_total.trans (spelled x) (spelled n) (spelled a) (turned n x Greater behind)
    (turned a n Greater earlier)))

-- ---- the first of those that a test leaves

module _ (used : FileName → Bool) where
  abbrev look : Option FileName → FileName → Option FileName
  look first n = cond (used n) first (Some (earlier_of first n))

  -- none of these is left, or this is the first one
  abbrev pub Least : (FileName → Type 0) → Option FileName → Type 0
  Least In None = (x : FileName) → In x → used x ≡ true
  Least In (Some n) = In n × (used n ≡ false) × ((x : FileName) → In x → used x ≡ false → IsFirst n x)

  clash : {A : Type 0} (x : FileName) → used x ≡ true → used x ≡ false → A
  clash x is other = let never : true ≡ false = sym is ∙ other in absurd (cc)

  module _ (In Out : FileName → Type 0) (out : (x : FileName) → In x → Out x) (back : (x : FileName) → Out x → In x) where
    same_names : (o : Option FileName) → Least In o → Least Out o
    same_names None none = λ x among. none x (back x among)
    same_names (Some n) least = (out n least.0, least.1, λ x among free. least.2 x (back x among) free)

  module _ (In : FileName → Type 0) (n : FileName) where
    abbrev More : FileName → Type 0
    More x = In x ⊎ (n ≡ x)

    passed : (first : Option FileName) → used n ≡ true → Least In first → Least (λ x. In x ⊎ (n ≡ x)) first
    passed None is none = λ x among. ⊎_elim (λ old. none x old) (λ here. subst (λ (y : FileName). used y ≡ true) here is) among
    passed (Some a) is least = (
      inl least.0,
      least.1,
      λ x among free. ⊎_elim (λ old. least.2 x old free)
          (λ here. clash x (subst (λ (y : FileName). used y ≡ true) here is) free) among,
    )

    module _ (free_n : used n ≡ false) where
      kept_first : (a : FileName) → IsFirst a n → Least In (Some a) → Least (λ x. In x ⊎ (n ≡ x)) (Some a)
      kept_first a first least = (
        inl least.0,
        least.1,
        λ x among free. ⊎_elim (λ old. least.2 x old free) (λ here. subst (IsFirst a) here first) among,
      )

      by_order : (a : FileName) (o : Ordering) → order a n ≡ o → Least In (Some a)
          → Least (λ x. In x ⊎ (n ≡ x)) (Some (earlier_by o a n))
      by_order a Greater is least = (
        inr refl,
        free_n,
        λ x among free. ⊎_elim (λ old. first_still a n x is (least.2 x old free))
            (λ here. subst (IsFirst n) here (not_behind_itself n)) among,
      )
      by_order a Less is least = kept_first a (λ behind. let never : Less ≡ Greater = sym is ∙ behind in absurd (cc)) least
      by_order a Equal is least = kept_first a (λ behind. let never : Equal ≡ Greater = sym is ∙ behind in absurd (cc)) least

      taken : (first : Option FileName) → Least In first → Least (λ x. In x ⊎ (n ≡ x)) (Some (earlier_of first n))
      taken None none = (
        inr refl,
        free_n,
        λ x among free. ⊎_elim (λ old. clash x (none x old) free) (λ here. subst (IsFirst n) here (not_behind_itself n)) among,
      )
      taken (Some a) least = by_order a (order a n) refl least

    looked : (first : Option FileName) → Least In first → Least (λ x. In x ⊎ (n ≡ x)) (look first n)
    looked first least =
        elim (used n) as (λ b. used n ≡ b → Least (λ x. In x ⊎ (n ≡ x)) (cond b first (Some (earlier_of first n)))) [
          | true ↦ λ is. passed first is least
          | false ↦ λ free. taken free first least
        ] refl

  all_looked : (names : List FileName) (In : FileName → Type 0) (first : Option FileName) → Least In first
      → Least (λ x. In x ⊎ Contains names x) (fold look first names)
  all_looked [] In first least =
      same_names In (λ x. In x ⊎ Contains [] x) (λ x old. inl old) (λ x among. ⊎_elim (λ old. old)
      (λ none. absurd (nothing_among x none)) among) first least
  all_looked (n ∷ names) In first least =
      same_names (λ x. (In x ⊎ (n ≡ x)) ⊎ Contains names x) (λ x. In x ⊎ Contains (n ∷ names) x)
      (λ x among. ⊎_elim (λ before. ⊎_elim (λ old. inl old)
      (λ here. inr (subst (λ (y : FileName). Contains (n ∷ names) y) here (first_among n names))) before)
      (λ later. inr (later_among n names x later)) among)
      (λ x among. ⊎_elim (λ old. inl (inl old))
      (λ there. ⊎_elim (λ here. inl (inr here)) (λ later. inr later) (cons_cases n names x there)) among)
      (fold look (look first n) names)
      (all_looked names (λ x. In x ⊎ (n ≡ x)) (look first n) (looked In n first least))

-- ---- the next obsolete name

module _ (known : List FileName) (kept : Kept) (manifest : ℕ) (writing : Option ℕ) where
  abbrev used : FileName → Bool
  used = is_used kept manifest writing

  obsolete_unused : (n : FileName) → IsObsolete (deleting known manifest writing kept) n → used n ≡ false
  obsolete_unused n obsolete = by (used n) refl where
    by : (b : Bool) → used n ≡ b → used n ≡ false
    by false is = is
    by true is = ⊎_elim (λ held. absurd (obsolete.unheld held)) (λ writes. absurd (obsolete.ended writes))
        (used_means known kept manifest writing n is)

  is_next : (o : Option FileName) → Least used (λ x. ⊥ ⊎ Contains known x) o → IsNext (deleting known manifest writing kept) o
  is_next None none = λ n obsolete.
      clash used n (none n (inr obsolete.known)) (obsolete_unused n obsolete)
  is_next (Some n) least =
      let free = unused_means known kept manifest writing n least.1 in
      record {
        obsolete = record {
          known = ⊎_elim (λ never. absurd never) (λ among. among) least.0;
          unheld = free.0;
          ended = free.1;
        };
        first = λ other obsolete. least.2 other (inr obsolete.known) (obsolete_unused other obsolete);
      }

  pub next_is : IsNext (deleting known manifest writing kept) (first_unused kept manifest writing None known)
  next_is = is_next (first_unused kept manifest writing None known) (all_looked used known (λ x. ⊥) None (λ x never. absurd never))
