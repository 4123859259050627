-- What one fault_of of one source changes of a merge.
use Rattle.std.proofs.Common.{◌≡◌, ℕ, ◌<◌, ◌≤◌, Bool, true, List, [], ◌∷◌, ◌++◌, length, slice_set, refl, sym, ap, ◌∙◌, subst, arith, inl, inr, ⊎_elim}
use Rattle.std.specs.Prelude.{◌⊎◌, Option, Some, None, Result, All, Contains, slice_get}
use Rattle.std.specs.List.Sorted.{IsStrictlySortedBy}
use Rattle.std.proofs.lemmas.List.{length-set}
use Rattle.std.proofs.lemmas.List.Elements.{All-tail}
use Rattle.lsm_rows.specs.declared.rows.Row.{Row}
use Rattle.lsm_merge.specs.declared.heads.Head.{Head}
use Rattle.lsm_merge.specs.declared.faults.MergeFault.{MergeFault}
use Rattle.lsm_merge.specs.Order.{row_cmp, IsFrom}
use Rattle.lsm_merge.specs.Merging.{Merging, IsHeld, IsInSource, IsLeft, IsOutdone, KeepsRows, IsReady, HasGiven, IsAhead, HasAnswered, IsRefusedBy, ToldFaults}
use Rattle.lsm_merge.proofs.Lists.{some_same, cons_cases, cons_here, cons_there, set_here, set_cases, unset_cases, rest_ascends}
use Rattle.lsm_merge.proofs.Orders.{rest_from}

-- the row of an fault_of, if there is one
abbrev pub listed : Option Row → List Row
listed None = []
listed (Some row) = row ∷ []

-- a source has given an fault_of, and one held row may have been taken
pub record IsMoved {S : Type 0} (left : S → List Row) (ended : S → Bool) (old new : Merging S) (place : ℕ)
    (before after : S) (gave : Option Row) (took : Option Head) : Type 0 where
  pub at : slice_get old.sources place ≡ Some before
  pub sources : new.sources ≡ slice_set old.sources place after
  pub rows : left before ≡ listed gave ++ left after
  pub end : ended before ≡ true → ended after ≡ true
  pub into : (head : Head) → Contains new.heads head → Contains old.heads head ⊎ ((head.place ≡ place) × (gave ≡ Some head.row))
  pub out : (head : Head) → Contains old.heads head → Contains new.heads head ⊎ (took ≡ Some head)
  pub held : (row : Row) → gave ≡ Some row → (head : Head) × Contains new.heads head × (head.row ≡ row) × (head.place ≡ place)

-- a row of an fault_of was left, as the others are that are left
pub gave_was_left : (gave : Option Row) (rows : List Row) (row : Row) → gave ≡ Some row → Contains (listed gave ++ rows) row
gave_was_left None rows row is = cc
gave_was_left (Some first) rows row is = subst (λ (r : Row). Contains (first ∷ rows) r) (some_same first row is)
    (cons_here first rows)

pub rest_was_left : (gave : Option Row) (rows : List Row) (row : Row) → Contains rows row → Contains (listed gave ++ rows) row
rest_was_left None rows row has = has
rest_was_left (Some first) rows row has = cons_there first rows row has

pub left_cases : (gave : Option Row) (rows : List Row) (row : Row) → Contains (listed gave ++ rows) row
    → (gave ≡ Some row) ⊎ Contains rows row
left_cases None rows row has = inr has
left_cases (Some first) rows row has = ⊎_elim (λ same. inl (ap Some (sym same))) (λ other. inr other)
    (cons_cases first rows row has)

rest_all : (P : Row → Type 0) (gave : Option Row) (rows : List Row) → All P (listed gave ++ rows) → All P rows
rest_all P None rows all = all
rest_all P (Some first) rows all = All-tail P first rows all

rest_sorted : (gave : Option Row) (rows : List Row) → IsStrictlySortedBy row_cmp (listed gave ++ rows)
    → IsStrictlySortedBy row_cmp rows
rest_sorted None rows sorted = sorted
rest_sorted (Some first) rows sorted = rest_ascends row_cmp first rows sorted

gave_first : (gave : Option Row) (rows : List Row) (row : Row) → gave ≡ Some row → IsStrictlySortedBy row_cmp
    (listed gave ++ rows) → All (IsFrom row) rows
gave_first None rows row is sorted = cc
gave_first (Some first) rows row is sorted = subst (λ (r : Row). All (IsFrom r) rows) (some_same first row is)
    (rest_from first rows sorted)

module _ {S : Type 0} (left : S → List Row) (ended : S → Bool) (old new : Merging S) (place : ℕ) (before after : S)
    (gave : Option Row) (took : Option Head) (moved : IsMoved left ended old new place before after gave took) where
  here_now : slice_get new.sources place ≡ Some after
  here_now = ap (λ (l : List S). slice_get l place) moved.sources ∙ set_here old.sources place before after moved.at

  now_cases : (at : ℕ) (source : S) → slice_get new.sources at ≡ Some source → ((at ≡ place) × (source ≡ after))
      ⊎ (slice_get old.sources at ≡ Some source)
  now_cases at source is = set_cases old.sources place after at source
      (ap (λ (l : List S). slice_get l at) (sym moved.sources) ∙ is)

  old_cases : (at : ℕ) (source : S) → slice_get old.sources at ≡ Some source → (at ≡ place)
      ⊎ (slice_get new.sources at ≡ Some source)
  old_cases at source is = ⊎_elim (λ same. inl same)
      (λ other. inr (ap (λ (l : List S). slice_get l at) moved.sources ∙ other))
      (unset_cases old.sources place after at source is)

  was_before : (at : ℕ) (source : S) → at ≡ place → slice_get old.sources at ≡ Some source → source ≡ before
  was_before at source same is = some_same source before (sym is ∙ ap (slice_get old.sources) same ∙ moved.at)

  same_count : length new.sources ≡ length old.sources
  same_count = ap (length {A = S}) moved.sources ∙ length-set old.sources place after

  was_in_source : (row : Row) → Contains (left before) row → IsInSource left old.sources row
  unfolding IsInSource
  was_in_source row has = (place, before, moved.at, has)

  in_source_was : (row : Row) → IsInSource left new.sources row → IsInSource left old.sources row
  unfolding IsInSource
  in_source_was row (at, source, is, has) =
      ⊎_elim
      (λ same. (
        place,
        before,
        moved.at,
        subst (λ (l : List Row). Contains l row) (sym moved.rows)
            (rest_was_left gave (left after) row (subst (λ (s : S). Contains (left s) row) same.1 has)),
      ))
      (λ other. (at, source, other, has))
      (now_cases at source is)

  in_source_now : (row : Row) → IsInSource left old.sources row → IsInSource left new.sources row ⊎ (gave ≡ Some row)
  unfolding IsInSource
  in_source_now row (at, source, is, has) =
      ⊎_elim
      (λ same. ⊎_elim (λ given. inr given) (λ rest. inl (place, after, here_now, rest))
      (left_cases gave (left after) row (subst (λ (l : List Row). Contains l row) moved.rows
      (subst (λ (s : S). Contains (left s) row) (was_before at source same is) has))))
      (λ other. inl (at, source, other, has))
      (old_cases at source is)

  -- no row is lost
  pub moved_rows : ((row : Row) → new.found ≡ Some row → (old.found ≡ Some row) ⊎ IsHeld old.heads row)
      → ((row : Row) → old.found ≡ Some row → new.found ≡ Some row)
      → ((head : Head) → took ≡ Some head → IsOutdone new.found head.row) → KeepsRows left old new
  unfolding IsLeft IsHeld
  moved_rows found_was found_stays outdone = record {
    found = found_stays;
    kept = λ row is. ⊎_elim
        (λ found. ⊎_elim (λ was. inl was) (λ held. inr (inl held)) (found_was row found))
        (λ more. ⊎_elim
        (λ held. ⊎_elim (λ was. inr (inl (held.0, was, held.2)))
        (λ came. inr (inr (was_in_source row (subst (λ (l : List Row). Contains l row) (sym moved.rows)
        (gave_was_left gave (left after) row (came.1 ∙ ap Some held.2))))))
        (moved.into held.0 held.1))
        (λ source. inr (inr (in_source_was row source))) more) is;
    others = λ row is. ⊎_elim
        (λ found. inl (inl (found_stays row found)))
        (λ more. ⊎_elim
        (λ held. ⊎_elim (λ stays. inl (inr (inl (held.0, stays, held.2))))
        (λ taken. inr (subst (λ (r : Row). IsOutdone new.found r) held.2 (outdone held.0 taken)))
        (moved.out held.0 held.1))
        (λ source. ⊎_elim (λ stays. inl (inr (inr stays)))
        (λ given. let head = moved.held row given in inl (inr (inl (head.0, head.1, head.2))))
        (in_source_now row source)) more) is;
  }

  -- each source has given the rows that it gave
  pub moved_ahead : old.asked ≤ new.asked → IsAhead left ended old new
  moved_ahead asked = record {
    count = same_count;
    asked = asked;
    given = λ at was now was_is now_is. ⊎_elim
        (λ same. subst (λ (s : S). HasGiven left ended was s) (sym same.1)
        (subst (λ (s : S). HasGiven left ended s after) (sym (was_before at was same.0 was_is))
        (record { gone = listed gave; rows = moved.rows; end = moved.end })))
        (λ other. let same : was ≡ now = some_same was now (sym was_is ∙ other) in subst
        (λ (s : S). HasGiven left ended was s) same (record { gone = []; rows = refl; end = λ e. e }))
        (now_cases at now now_is);
    heads = λ head has. ⊎_elim (λ was. inl was)
        (λ came. inr (
          before,
          ap (slice_get old.sources) came.0 ∙ moved.at,
          subst
              (λ (l : List Row). Contains l head.row) (sym moved.rows) (gave_was_left gave (left after) head.row came.1),
        ))
        (moved.into head has);
  }

  -- only this source has answered
  pub moved_answers : {F A : Type 0} (fault_of : S → Option F) (result : Result A (MergeFault F))
      → HasAnswered fault_of before after ⊎ IsRefusedBy fault_of result place after
      → ToldFaults fault_of result old.sources new.sources
  unfolding ToldFaults HasAnswered
  moved_answers fault_of result told at was now was_is now_is =
      ⊎_elim
      (λ same. subst (λ (s : S). HasAnswered fault_of was s ⊎ IsRefusedBy fault_of result at s) (sym same.1)
      (subst (λ (s : S). HasAnswered fault_of s after ⊎ IsRefusedBy fault_of result at after)
      (sym (was_before at was same.0 was_is))
      (subst (λ (p : ℕ). HasAnswered fault_of before after ⊎ IsRefusedBy fault_of result p after) (sym same.0) told)))
      (λ other. let same : was ≡ now = some_same was now (sym was_is ∙ other) in inl (inl (ap fault_of (sym same))))
      (now_cases at now now_is)

  -- what the answered source has now is met
  met_here : IsReady left ended old → (gave ≡ None → (ended after ≡ true) ⊎ ((took ≡ None) × (new.asked ≡ old.asked)))
      → place < new.asked
      → (ended after ≡ true) ⊎ ((head : Head) × Contains new.heads head × (head.place ≡ place))
  met_here ready quiet within = by_gave gave refl
    where
      by_gave : (g : Option Row) → gave ≡ g → (ended after ≡ true)
          ⊎ ((head : Head) × Contains new.heads head × (head.place ≡ place))
      by_gave (Some row) is = let head = moved.held row is in inr (head.0, head.1, head.3)
      by_gave None is =
          ⊎_elim (λ over. inl over)
          (λ same. ⊎_elim (λ over. inl (moved.end over))
          (λ head. ⊎_elim (λ stays. inr (head.0, stays, head.2))
          (λ taken. absurd (let clash : None ≡ Some head.0 = sym same.0 ∙ taken in cc)) (moved.out head.0 head.1))
          (ready.met place before (subst (λ (n : ℕ). place < n) same.1 within) moved.at))
          (quiet is)

  -- the merge stays ready
  pub moved_ready : IsReady left ended old → old.asked ≤ new.asked → new.asked ≤ length old.sources
      → ((row : Row) → gave ≡ Some row → place < new.asked) → ((at : ℕ) → at < new.asked → (at ≡ place) ⊎ (at < old.asked))
      → (gave ≡ None → (ended after ≡ true) ⊎ ((took ≡ None) × (new.asked ≡ old.asked)))
      → ((head : Head) → took ≡ Some head → head.place ≡ place)
      → ((row : Row) → new.found ≡ Some row → (new.asked ≡ length old.sources)
      × ((head : Head) → Contains new.heads head → IsFrom row head.row)) → IsReady left ended new
  moved_ready ready more within here asks quiet taken_here first = record {
    few = omega (arith, same_count, ready.few);
    within = omega (arith, same_count, within);
    places = λ head has. ⊎_elim (λ was. let h = ready.places head was in omega (arith, h, more))
        (λ came. let h = here head.row came.1 in omega (arith, came.0, h)) (moved.into head has);
    sorted = λ at source is. ⊎_elim
        (λ same. subst (λ (s : S). IsStrictlySortedBy row_cmp (left s)) (sym same.1) after_sorted)
        (λ other. ready.sorted at source other) (now_cases at source is);
    past = λ head source has is. ⊎_elim
        (λ was. ⊎_elim
        (λ same. subst (λ (s : S). All (IsFrom head.row) (left s)) (sym same.1)
        (rest_all (IsFrom head.row) gave (left after)
        (subst (λ (l : List Row). All (IsFrom head.row) l) moved.rows
        (ready.past head before was (ap (slice_get old.sources) same.0 ∙ moved.at)))))
        (λ other. ready.past head source was other) (now_cases head.place source is))
        (λ came. let same : source ≡ after = some_same source after (sym is ∙ ap (slice_get new.sources) came.0 ∙ here_now) in
        subst (λ (s : S). All (IsFrom head.row) (left s)) (sym same)
        (gave_first gave (left after) head.row came.1 before_sorted))
        (moved.into head has);
    met = λ at source below is. ⊎_elim (λ same. at_place at source same below is)
        (λ was. ⊎_elim (λ same. at_place at source same.0 below is)
        (λ other. ⊎_elim (λ over. inl over)
        (λ head. ⊎_elim (λ stays. inr (head.0, stays, head.2))
        (λ taken. at_place at source (sym head.2 ∙ taken_here head.0 taken) below is) (moved.out head.0 head.1))
        (ready.met at source was other))
        (now_cases at source is))
        (asks at below);
    first = λ row found. let h = first row found in (h.0 ∙ sym same_count, h.1);
  }
    where
      before_sorted : IsStrictlySortedBy row_cmp (listed gave ++ left after)
      before_sorted = subst (λ (l : List Row). IsStrictlySortedBy row_cmp l) moved.rows (ready.sorted place before moved.at)

      after_sorted : IsStrictlySortedBy row_cmp (left after)
      after_sorted = rest_sorted gave (left after) before_sorted

      at_place : (at : ℕ) (source : S) → at ≡ place → at < new.asked → slice_get new.sources at ≡ Some source
          → (ended source ≡ true) ⊎ ((head : Head) × Contains new.heads head × (head.place ≡ at))
      at_place at source same below is =
          let now : source ≡ after = some_same source after (sym is ∙ ap (slice_get new.sources) same ∙ here_now) in
          subst (λ (s : S). (ended s ≡ true) ⊎ ((head : Head) × Contains new.heads head × (head.place ≡ at))) (sym now)
          (subst (λ (p : ℕ). (ended after ≡ true) ⊎ ((head : Head) × Contains new.heads head × (head.place ≡ p)))
          (sym same) (met_here ready quiet (omega (arith, same, below))))
