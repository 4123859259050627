-- What a merge gives once its next row is found.
use Rattle.std.proofs.Common.{◌+◌, ◌<◌, ◌≤◌, inl, inr, ⊎_elim, ◌≡◌, ℕ, Bool, true, List, [], sym, ap, ◌∙◌, subst, arith}
use Rattle.std.specs.Prelude.{◌⊎◌, Contains, Option, Some, None, IfSome, MatchOption, slice_get}
use Rattle.std.proofs.lemmas.List.Elements.{All-contains}
use Rattle.std.proofs.lemmas.Option.{slice_get_within}
use Rattle.std.specs.declared.cmp.Ordering.TheVariants.{Less}
use Rattle.lsm_rows.specs.declared.rows.Row.{Row}
use Rattle.lsm_rows.specs.Replay.{key_cmp}
use Rattle.lsm_merge.specs.declared.heads.Head.{Head}
use Rattle.lsm_merge.specs.Order.{IsFrom}
use Rattle.lsm_merge.specs.Merging.{Merging, IsHeld, IsInSource, IsLeft, IsNext, IsOver, IsOutdone, KeepsRows, IsReady, IsAhead}
use Rattle.lsm_merge.specs.Steps.{IsSettled, IsFound, found_count, rows_ahead, rows_to_come}
use Rattle.lsm_merge.proofs.Lists.{some_same, none_in_nil}
use Rattle.lsm_merge.proofs.Orders.{from_later, less_is_from, from_of_key}

-- a merge whose row was given
abbrev pub given : {S : Type 0} → Merging S → Merging S
given m = record { found = None; heads = m.heads; asked = m.asked; sources = m.sources }

module _ {S : Type 0} (left : S → List Row) (ended : S → Bool)
    (none_at_end : (source : S) → ended source ≡ true → left source ≡ []) (a m : Merging S)
    (ready : IsReady left ended m) (found : IsFound m) (rows : KeepsRows left a m) where
  -- a source is at its end, or a row of it is held
  met : (place : ℕ) (source : S) → slice_get m.sources place ≡ Some source → (ended source ≡ true)
      ⊎ ((head : Head) × Contains m.heads head × (head.place ≡ place))
  met place source is = ready.met place source
      (let within = slice_get_within m.sources place source is in omega (arith, within, found.asked)) is

  none_ended : (source : S) (row : Row) → ended source ≡ true → Contains (left source) row → ⊥
  none_ended source row over has = none_in_nil row (subst (λ (l : List Row). Contains l row) (none_at_end source over) has)

  module _ (none : m.found ≡ None) where
    none_held : (head : Head) → Contains m.heads head → ⊥
    unfolding IsSettled
    none_held head has = let first = found.settled head has in absurd
        (let clash : None ≡ Some first.0 = sym none ∙ first.1 in cc)

    none_left : (row : Row) → IsLeft left m row → ⊥
    unfolding IsLeft IsHeld IsInSource
    none_left row is =
        ⊎_elim (λ first. absurd (let clash : None ≡ Some row = sym none ∙ first in cc))
        (λ more. ⊎_elim (λ held. none_held held.0 held.1)
        (λ source. ⊎_elim (λ over. none_ended source.1 row over source.3) (λ head. none_held head.0 head.1)
        (met source.0 source.1 source.2)) more) is

    over : IsOver left ended a (given m)
    unfolding IsOutdone IsLeft
    over = record {
      none = λ row is. ⊎_elim (λ stays. none_left row stays)
          (λ outdone. absurd (let clash : None ≡ Some outdone.0 = sym none ∙ outdone.1 in cc)) (rows.others row is);
      still = λ row is. none_left row (⊎_elim (λ gone. cc) (λ more. inr more) is);
      ends = λ place source is. ⊎_elim (λ over. over) (λ head. absurd (none_held head.0 head.1)) (met place source is);
    }

  module _ (first : Row) (some : m.found ≡ Some first) where
    later_head : (head : Head) → Contains m.heads head → key_cmp first.key head.row.key ≡ Less
    unfolding IsSettled
    later_head head has = let f = found.settled head has in ap (λ (r : Row). key_cmp r.key head.row.key)
        (some_same first f.0 (sym some ∙ f.1)) ∙ f.2

    later : (row : Row) → IsHeld m.heads row ⊎ IsInSource left m.sources row → key_cmp first.key row.key ≡ Less
    unfolding IsHeld IsInSource
    later row more =
        ⊎_elim (λ held. ap (λ (r : Row). key_cmp first.key r.key) (sym held.2) ∙ later_head held.0 held.1)
        (λ source. ⊎_elim (λ over. absurd (none_ended source.1 row over source.3))
        (λ head. from_later first.key head.0.row row (later_head head.0 head.1)
        (All-contains (IsFrom head.0.row) (left source.1) row
        (ready.past head.0 source.1 head.1 (ap (slice_get m.sources) head.2 ∙ source.2)) source.3))
        (met source.0 source.1 source.2)) more

    of_first : (other : Row) → IsOutdone m.found other → (other.key ≡ first.key) × (other.sequence ≤ first.sequence)
    unfolding IsOutdone
    of_first other outdone =
        subst (λ (r : Row). (other.key ≡ r.key) × (other.sequence ≤ r.sequence))
        (some_same outdone.0 first (sym outdone.1 ∙ some)) (outdone.2, outdone.3)

    next : IsNext left a first (given m)
    unfolding IsLeft
    next = record {
      among = rows.kept first (inl some);
      newest = λ other is same. ⊎_elim
          (λ stays. ⊎_elim (λ it. let e : other.sequence ≡ first.sequence = ap (λ (r : Row). r.sequence)
          (some_same other first (sym it ∙ some)) in omega (arith, e))
          (λ more. from_of_key first other (less_is_from first other (later other more)) same) stays)
          (λ outdone. (of_first other outdone).1) (rows.others other is);
      kept = λ other is. ⊎_elim (λ none. cc) (λ more. (rows.kept other (inr more), later other more)) is;
      others = λ other is. ⊎_elim
          (λ stays. ⊎_elim (λ it. inl (ap (λ (r : Row). r.key) (some_same other first (sym it ∙ some))))
          (λ more. inr (inr more)) stays)
          (λ outdone. inl (of_first other outdone).0) (rows.others other is);
    }

  gives : (o : Option Row) → o ≡ m.found → MatchOption o (IsOver left ended a (given m)) (λ row. IsNext left a row (given m))
  gives None is = over (sym is)
  gives (Some row) is = next row (sym is)

module _ {S : Type 0} (left : S → List Row) (ended : S → Bool) where
  -- what a call leaves that gives the row
  pub close_gives : ((source : S) → ended source ≡ true → left source ≡ []) → (a m was : Merging S)
      (left_found o : Option Row) → was ≡ m → left_found ≡ None → o ≡ was.found → IsReady left ended m → IsFound m
      → KeepsRows left a m
      → MatchOption o (IsOver left ended a (record
      { found = left_found; heads = was.heads; asked = was.asked; sources = was.sources }))
      (λ row. IsNext left a row (record { found = left_found; heads = was.heads; asked = was.asked; sources = was.sources }))
  close_gives none_at_end a m was left_found o same none is ready found rows =
      subst (λ (n : Merging S). MatchOption o (IsOver left ended a n) (λ row. IsNext left a row n))
      (ap given (sym same) ∙ ap (λ (f : Option Row).
      record { found = f; heads = was.heads; asked = was.asked; sources = was.sources }) (sym none))
      (gives left ended none_at_end a m ready found rows o (is ∙ ap (λ (n : Merging S). n.found) same))

  pub close_ready : (m was : Merging S) (left_found : Option Row) → was ≡ m → left_found ≡ None → IsReady left ended m
      → IsReady left ended (record { found = left_found; heads = was.heads; asked = was.asked; sources = was.sources })
  close_ready m was left_found same none ready =
      subst (λ (n : Merging S). IsReady left ended n)
      (ap given (sym same) ∙ ap (λ (f : Option Row).
      record { found = f; heads = was.heads; asked = was.asked; sources = was.sources }) (sym none))
      (record {
        few = ready.few;
        within = ready.within;
        places = ready.places;
        sorted = ready.sorted;
        past =
            ready.past;
        met = ready.met;
        first = λ row is. cc;
      })

  pub close_ahead : (a m was : Merging S) (left_found : Option Row) → was ≡ m → IsAhead left ended a m
      → IsAhead left ended a (record { found = left_found; heads = was.heads; asked = was.asked; sources = was.sources })
  close_ahead a m was left_found same ahead =
      subst (λ (n : Merging S). IsAhead left ended a
      (record { found = left_found; heads = n.heads; asked = n.asked; sources = n.sources })) (sym same)
      (record { count = ahead.count; asked = ahead.asked; given = ahead.given; heads = ahead.heads })

  -- a row that was given isn't to come
  pub close_fewer : (a m was : Merging S) (left_found o : Option Row) → was ≡ m → left_found ≡ None → o ≡ was.found
      → rows_to_come left m ≤ rows_to_come left a
      → IfSome o (λ row. rows_to_come left (record
      { found = left_found; heads = was.heads; asked = was.asked; sources = was.sources })
      < rows_to_come left a)
  unfolding rows_to_come rows_ahead
  close_fewer a m was left_found None same none is count = tt
  close_fewer a m was left_found (Some row) same none is count =
      let found : found_count was.found ≡ 1 = ap found_count (sym is) in
      let gone : found_count left_found ≡ 0 = ap found_count none in
      let as_was : found_count was.found + rows_ahead left was ≡ found_count m.found + rows_ahead left m = ap
      (λ (n : Merging S). found_count n.found + rows_ahead left n) same in
      omega (arith, found, gone, as_was, count)

  pub close_count : (a m was : Merging S) (left_found : Option Row) → was ≡ m → left_found ≡ None
      → rows_to_come left m ≤ rows_to_come left a
      → rows_to_come left (record { found = left_found; heads = was.heads; asked = was.asked; sources = was.sources })
      ≤ rows_to_come left a
  unfolding rows_to_come rows_ahead
  close_count a m was left_found same none count =
      let gone : found_count left_found ≡ 0 = ap found_count none in
      let as_was : found_count was.found + rows_ahead left was ≡ found_count m.found + rows_ahead left m = ap
      (λ (n : Merging S). found_count n.found + rows_ahead left n) same in
      omega (arith, gone, as_was, count)
