-- The steps of a merge towards its next row.
use Rattle.std.proofs.Common.{inl, inr, ⊎_elim, ◌≡◌, ◌≢◌, ℕ, ◌+◌, ◌<◌, Bool, true, List, [], ◌∷◌, ◌++◌, length, slice_set, refl, sym, ap, ◌∙◌, subst, arith, length-append}
use Rattle.std.specs.Prelude.{◌⊎◌, Contains, Option, Some, None, Result, Ok, Err, MatchOption, IfSome, IfErr, slice_get, unwrap_or}
use Rattle.std.proofs.lemmas.Bool.{cases_lt}
use Rattle.std.proofs.lemmas.List.Elements.{All-contains}
use Rattle.std.proofs.lemmas.List.Sorted.{length_permutation}
use Rattle.lsm_rows.specs.declared.rows.Row.{Row}
use Rattle.lsm_merge.specs.declared.heads.Head.{Head}
use Rattle.lsm_merge.specs.declared.faults.MergeFault.{MergeFault}
use Rattle.lsm_merge.specs.declared.faults.MergeFault.TheVariants.{Source, NoMemory}
use Rattle.lsm_merge.specs.Order.{IsFrom}
use Rattle.lsm_merge.specs.Held.{AreFrom, IsPut, IsReplaced}
use Rattle.lsm_merge.specs.Merging.{Merging, IsHeld, IsOutdone, IsReady, HasGiven, HasAnswered, IsRefusedBy, ToldFaults, HasCause}
use Rattle.lsm_merge.specs.Steps.{HasMore, IsStep, rows_ahead, rows_to_come}
use Rattle.lsm_merge.proofs.Lists.{some_same, got_is_in, set_here, sum_set}
use Rattle.lsm_merge.proofs.Moves.{IsMoved, listed, gave_was_left, moved_rows, moved_ahead, moved_answers, moved_ready}
use Rattle.lsm_merge.proofs.Orders.{from_trans, from_of_key}
use Rattle.lsm_merge.proofs.Tops.{put_into, put_out, put_held, put_length, replaced_into, replaced_out}

module _ {S F : Type 0} (left : S → List Row) (ended : S → Bool) (fault_of : S → Option F) where
  -- what a source's fault_of says of its rows
  pub answer_rows : (gave : Option Row) (before after : S) → MatchOption gave
      ((left before ≡ []) × (left after ≡ []) × (ended after ≡ true)) (λ row. left before ≡ row ∷ left after)
      → left before ≡ listed gave ++ left after
  answer_rows None before after says = says.0 ∙ sym says.1
  answer_rows (Some row) before after says = says

  pub answer_end : (gave : Option Row) (before after : S) → MatchOption gave
      ((left before ≡ []) × (left after ≡ []) × (ended after ≡ true)) (λ row. left before ≡ row ∷ left after)
      → gave ≡ None → ended after ≡ true
  answer_end None before after says is = says.2
  answer_end (Some row) before after says is = cc

  -- nothing has changed
  step_same : {U : Type 0} (result : Result U (MergeFault F)) (m : Merging S) → IsReady left ended m → IfErr result
      (λ fault. HasCause fault_of fault m.sources) → IsStep {A = U} left ended fault_of result m m
  unfolding ToldFaults HasAnswered
  step_same result m ready cause = record {
    count = omega arith;
    rows = record { found = λ row is. is; kept = λ row is. is; others = λ row is. inl is };
    answers = λ at before after was is. inl (inl (ap fault_of (some_same after before (sym is ∙ was))));
    cause = cause;
    ahead = record {
      count = refl;
      asked = omega arith;
      given = λ at before after was is. subst (λ (s : S). HasGiven left ended before s)
          (some_same before after (sym was ∙ is)) (record { gone = []; rows = refl; end = λ e. e });
      heads = λ head has. inl has;
    };
    ready = ready;
  }

  pub step_none : {U : Type 0} (m : Merging S) → IsReady left ended m → IsStep {A = U} left ended fault_of (Err NoMemory) m m
  unfolding HasCause
  step_none m ready = step_same (Err NoMemory) m ready tt

  pub step_start : {U : Type 0} (u : U) (m : Merging S) → IsReady left ended m → IsStep {A = U} left ended fault_of (Ok u) m m
  step_start u m ready = step_same (Ok u) m ready tt

  -- a source has answered a fault
  pub step_fault : {U : Type 0} (m : Merging S) (place : ℕ) (before after : S) (fault : F) → IsReady left ended m
      → slice_get m.sources place ≡ Some before → left after ≡ left before
      → (ended before ≡ true → ended after ≡ true) → fault_of after ≡ Some fault → IsStep {A = U} left ended
      fault_of (Err (Source place fault)) m (record m { sources = slice_set m.sources place after })
  unfolding IsRefusedBy HasCause rows_ahead rows_to_come
  step_fault m place before after fault ready at same end told = record {
    count =
        let e : length (left after) ≡ length (left before) = ap (length {A = Row}) same in
        omega (arith, e, sum_set (λ (source : S). length (left source)) m.sources place before after at);
    rows = moved_rows left ended m new place before after None None moved (λ row is. inl is) (λ row is. is) (λ head is. cc);
    answers = moved_answers left ended m new place before after None None moved fault_of (Err (Source place fault))
        (inr (fault, refl, told));
    cause = (after, set_here m.sources place before after at, told);
    ahead = moved_ahead left ended m new place before after None None moved (omega arith);
    ready = moved_ready left ended m new place before after None None moved ready (omega arith) ready.within
        (λ row is. cc) (λ q below. inr below) (λ is. inr (refl, refl)) (λ head is. cc) (λ row is. ready.first row is);
  }
    where
      new : Merging S
      new = record m { sources = slice_set m.sources place after }

      moved : IsMoved left ended m new place before after None None
      moved = record {
        at = at;
        sources = refl;
        rows = sym same;
        end = end;
        into = λ head has. inl has;
        out = λ head has. inl has;
        held = λ row is. cc;
      }

  -- a source that wasn't asked yet has answered
  pub step_asked : {U : Type 0} (m : Merging S) (before after : S) (gave : Option Row) (heads : List Head) (u : U)
      → IsReady left ended m → m.asked < length m.sources → slice_get m.sources m.asked ≡ Some before
      → MatchOption gave ((left before ≡ []) × (left after ≡ []) × (ended after ≡ true)) (λ row. left before ≡ row ∷ left after)
      → (ended before ≡ true → ended after ≡ true) → fault_of after ≡ None → IsPut gave m.asked m.heads heads
      → IsStep {A = U} left ended fault_of (Ok u) m
      (record { found = m.found; heads = heads; asked = m.asked + 1; sources = slice_set m.sources m.asked after })
  unfolding HasAnswered rows_ahead rows_to_come
  step_asked m before after gave heads u ready more at says end told put = record {
    count =
        let n : ℕ = length (listed gave) in
        let shorter : length (left before) ≡ n + length (left after) =
        ap (length {A = Row}) (answer_rows gave before after says) ∙ length-append (listed gave) (left after) in
        omega (
          arith,
          shorter,
          put_length gave m.asked m.heads heads put,
          sum_set (λ (source : S). length (left source)) m.sources m.asked before after at,
        );
    rows = moved_rows left ended m new m.asked before after gave None moved (λ row is. inl is) (λ row is. is) (λ head is. cc);
    answers = moved_answers left ended m new m.asked before after gave None moved fault_of (Ok u) (inl (inr told));
    cause = tt;
    ahead = moved_ahead left ended m new m.asked before after gave None moved (omega arith);
    ready = moved_ready left ended m new m.asked before after gave None moved ready (omega arith)
        (omega (arith, more)) (λ row is. omega arith) (λ q below. asks q below)
        (λ is. inl (answer_end gave before after says is)) (λ head is. cc)
        (λ row is. absurd (omega (arith, (ready.first row is).0, more)));
  }
    where
      new : Merging S
      new = record { found = m.found; heads = heads; asked = m.asked + 1; sources = slice_set m.sources m.asked after }

      asks : (q : ℕ) → q < m.asked + 1 → (q ≡ m.asked) ⊎ (q < m.asked)
      asks q below = ⊎_elim (λ less. inr less) (λ past. inl (omega (arith, below, past))) (cases_lt q m.asked)

      moved : IsMoved left ended m new m.asked before after gave None
      moved = record {
        at = at;
        sources = refl;
        rows = answer_rows gave before after says;
        end = end;
        into = put_into gave m.asked m.heads heads put;
        out = λ head has. inl (put_out gave m.asked m.heads heads put head has);
        held = put_held gave m.asked m.heads heads put;
      }

  -- the first held row and its source
  pub first_held : (m : Merging S) → HasMore m → m.heads ≢ []
  unfolding HasMore
  first_held m more none = let clash : slice_get [] 0 ≡ Some more.0 = ap (λ (l : List Head). slice_get l 0) (sym none)
      ∙ more.1 in cc

  pub place_within : (m : Merging S) (place : ℕ) → IsReady left ended m → HasMore m → IfSome (slice_get m.heads 0)
      (λ head. head.place ≡ place) → place < length m.sources
  unfolding HasMore
  place_within m place ready more is =
      let same : more.0.place ≡ place = subst (λ (o : Option Head). IfSome o (λ head. head.place ≡ place)) more.1 is in
      let below = ready.places more.0 (got_is_in m.heads 0 more.0 more.1) in
      omega (arith, same, below, ready.within)

  module _ (m : Merging S) (head : Head) (before after : S) (gave : Option Row) (heads : List Head)
      (ready : IsReady left ended m) (more : HasMore m) (asked : m.asked ≡ length m.sources)
      (top : slice_get m.heads 0 ≡ Some head) (bound : AreFrom head.row m.heads)
      (at : slice_get m.sources head.place ≡ Some before)
      (says : MatchOption gave ((left before ≡ []) × (left after ≡ []) × (ended after ≡ true))
      (λ row. left before ≡ row ∷ left after)) (put : IsReplaced gave head m.heads heads) where
    abbrev pub found : Row
    found = unwrap_or m.found head.row

    abbrev pub taken : Merging S
    taken = record { found = Some found; heads = heads; asked = m.asked; sources = slice_set m.sources head.place after }

    has_top : Contains m.heads head
    has_top = got_is_in m.heads 0 head top

    of_key : (first : Row) → m.found ≡ Some first → head.row.key ≡ first.key
    unfolding HasMore
    of_key first is = ap (λ (h : Head). h.row.key) (some_same head more.0 (sym top ∙ more.1)) ∙ more.2 first is

    -- what is found comes first
    found_first : (o : Option Row) → m.found ≡ o → (other : Head) → Contains m.heads other
        → IsFrom (unwrap_or o head.row) other.row
    unfolding AreFrom
    found_first None is other has = bound other has
    found_first (Some first) is other has = (ready.first first is).1 other has

    found_top : (o : Option Row) → m.found ≡ o → IsOutdone (Some (unwrap_or o head.row)) head.row
    unfolding IsOutdone
    found_top None is = (head.row, refl, refl, omega arith)
    found_top (Some first) is = (
      first,
      refl,
      of_key first is,
      from_of_key first head.row
          ((ready.first first is).1 head has_top) (of_key first is),
    )

    found_was : (o : Option Row) → m.found ≡ o → (row : Row) → Some (unwrap_or o head.row) ≡ Some row
        → (m.found ≡ Some row) ⊎ IsHeld m.heads row
    unfolding IsHeld
    found_was None is row same = inr (head, has_top, some_same head.row row same)
    found_was (Some first) is row same = inl (is ∙ same)

    found_stays : (row : Row) → m.found ≡ Some row → Some found ≡ Some row
    found_stays row is = ap (λ (o : Option Row). Some (unwrap_or o head.row)) is

    moved : (ended before ≡ true → ended after ≡ true) → IsMoved left ended m taken head.place before after gave (Some head)
    moved end = record {
      at = at;
      sources = refl;
      rows = answer_rows gave before after says;
      end = end;
      into = replaced_into gave head m.heads heads put;
      out = replaced_out gave head m.heads heads put;
      held = put_held gave head.place put.rest heads put.put;
    }

    came_behind : (other : Head) → gave ≡ Some other.row → IsFrom head.row other.row
    came_behind other is =
        All-contains (IsFrom head.row) (left before) other.row (ready.past head before has_top at)
        (subst (λ (l : List Row). Contains l other.row) (sym (answer_rows gave before after says))
        (gave_was_left gave (left after) other.row is))

    found_before : (other : Head) → Contains heads other → IsFrom found other.row
    found_before other has =
        ⊎_elim (λ was. found_first m.found refl other was)
        (λ came. from_trans found head.row other.row (found_first m.found refl head has_top) (came_behind other came.1))
        (replaced_into gave head m.heads heads put other has)

    -- fewer are ahead once it was taken
    pub fewer_ahead : rows_ahead left taken < rows_ahead left m
    unfolding rows_ahead
    fewer_ahead =
        let n : ℕ = length (listed gave) in
        let shorter : length (left before) ≡ n + length (left after) = ap (length {A = Row})
        (answer_rows gave before after says) ∙ length-append (listed gave) (left after) in
        omega (
          arith,
          shorter,
          put_length gave head.place put.rest heads put.put,
          length_permutation m.heads
              (head ∷ put.rest) put.taken,
          sum_set (λ (source : S). length (left source)) m.sources head.place before after at,
        )

    -- the first held row was taken
    pub step_taken : {U : Type 0} (u : U) → (ended before ≡ true → ended after ≡ true) → fault_of after ≡ None
        → IsStep {A = U} left ended fault_of (Ok u) m taken
    unfolding HasAnswered rows_to_come
    step_taken u end told = record {
      count = let less = fewer_ahead in omega (arith, less);
      rows = moved_rows left ended m taken head.place before after gave (Some head) (moved end)
          (found_was m.found refl) found_stays
          (λ other is. subst (λ (h : Head). IsOutdone (Some found) h.row) (some_same head other is) (found_top m.found refl));
      answers = moved_answers left ended m taken head.place before after gave (Some head) (moved end) fault_of (Ok u)
          (inl (inr told));
      cause = tt;
      ahead = moved_ahead left ended m taken head.place before after gave (Some head) (moved end) (omega arith);
      ready = moved_ready left ended m taken head.place before after gave (Some head) (moved end) ready (omega arith)
          ready.within (λ row is. ready.places head has_top) (λ q below. inr below)
          (λ is. inl (answer_end gave before after says is))
          (λ other is. ap (λ (h : Head). h.place) (some_same other head (sym is)))
          (λ row is. (
            asked,
            subst (λ (r : Row). (other : Head) → Contains heads other → IsFrom r other.row)
                (some_same found row is) found_before,
          ));
    }
