-- Whole runs of a merge.
use Rattle.std.proofs.Common.{cond, inl, inr, ⊎_elim, ◌≡◌, ℕ, ◌≤◌, Bool, true, false, List, [], ◌∷◌, ◌++◌, length, map, refl, sym, ap, ◌∙◌, subst, arith}
use Rattle.std.specs.Prelude.{All, Contains, Option, Some, None, slice_get, slice_set}
use Rattle.std.specs.List.{AllByRecursion}
use Rattle.std.specs.Ordering.{eq_by_cmp}
use Rattle.std.specs.List.Sorted.{IsStrictlySortedBy}
use Rattle.std.proofs.lemmas.List.{length-set}
use Rattle.std.proofs.lemmas.List.Elements.{All-contains, All-weaker, All-contains_itself, All-append, Contains-append_left, Contains-push, Contains-push_cases}
use Rattle.std.specs.declared.cmp.Ordering.TheVariants.{Less}
use Rattle.lsm_rows.specs.declared.rows.Row.{Row}
use Rattle.lsm_rows.specs.Replay.{key_cmp}
use Rattle.lsm_rows.specs.Contents.{newer, newest, contents_of, IsNewest}
use Rattle.lsm_rows.proofs.NewestRows.{newest_is, tied, contents_by_newest}
use Rattle.lsm_merge.specs.Order.{row_cmp, IsFrom}
use Rattle.lsm_merge.specs.Merging.{Merging, IsLeft, IsOutdone, IsNext, IsOver, KeepsRows, IsReady, with_source}
use Rattle.lsm_merge.specs.Runs.{HasKey, KeysAscend, AreNewest, AreDistinct, IsToCome, IsMerged, HasGained}
use Rattle.lsm_merge.proofs.Lists.{set_cases, none_in_nil, cons_here, cons_there, cons_cases}
use Rattle.lsm_merge.proofs.Orders.{not_less_itself}

keys_push : (rows : List Row) (row : Row) → KeysAscend rows
    → ((first : Row) → Contains rows first → key_cmp first.key row.key ≡ Less) → KeysAscend (rows ++ row ∷ [])
unfolding KeysAscend IsStrictlySortedBy
keys_push [] row ascend before = (tt, tt)
keys_push (first ∷ rows) row ascend before =
    (pushed rows ascend.0, keys_push rows row ascend.1 (λ other has. before other (cons_there first rows other has)))
  where
    pushed : (rest : List Row) → AllByRecursion (λ key. key_cmp first.key key ≡ Less) (map (λ (r : Row). r.key) rest)
        → AllByRecursion (λ key. key_cmp first.key key ≡ Less) (map (λ (r : Row). r.key) (rest ++ row ∷ []))
    pushed [] less = (before first (cons_here first rows), tt)
    pushed (x ∷ rest) less = (less.0, pushed rest less.1)

module _ {S : Type 0} (left : S → List Row) (inputs : List Row) where
  -- a run begins
  pub run_begins : (m : Merging S) → ((row : Row) → IsLeft left m row → Contains inputs row)
      → ((row : Row) → Contains inputs row → IsLeft left m row) → IsMerged left inputs [] m
  unfolding KeysAscend IsStrictlySortedBy IsToCome
  run_begins m are has = record {
    ascend = tt;
    newest = λ row none. absurd (none_in_nil row none);
    among = are;
    later = λ row other none is. absurd (none_in_nil row none);
    all = λ row is. inr (row, has row is, refl, omega arith);
  }

  -- a refused call leaves a run as it is
  pub run_stays : (given : List Row) (old new : Merging S) → IsMerged left inputs given old → KeepsRows left old new
      → IsMerged left inputs given new
  unfolding IsToCome IsOutdone IsLeft
  run_stays given old new run keeps = record {
    ascend = run.ascend;
    newest = run.newest;
    among = λ row is. run.among row (keeps.kept row is);
    later = λ row other has is. run.later row other has (keeps.kept other is);
    all = λ row is. ⊎_elim (λ key. inl key)
        (λ come. ⊎_elim (λ stays. inr (come.0, stays, come.2, come.3))
        (λ outdone. let a = come.3 in let b = outdone.3 in inr
        (outdone.0, inl outdone.1, come.2 ∙ outdone.2, omega (arith, a, b)))
        (keeps.others come.0 come.1))
        (run.all row is);
  }

  -- a run goes on by the next row
  pub run_grows : (given : List Row) (old new : Merging S) (row : Row) → IsMerged left inputs given old
      → IsNext left old row new → IsMerged left inputs (given ++ row ∷ []) new
  unfolding IsToCome HasKey
  run_grows given old new row run next = record {
    ascend = keys_push given row run.ascend (λ first has. run.later first row has next.among);
    newest = λ other has. ⊎_elim (λ was. run.newest other was)
        (λ same. subst (λ (r : Row). IsNewest r.key inputs r) same row_newest) (Contains-push_cases given row other has);
    among = λ other is. run.among other (next.kept other is).0;
    later = λ first other has is. ⊎_elim (λ was. run.later first other was (next.kept other is).0)
        (λ same. ap (λ (r : Row). key_cmp r.key other.key) (sym same) ∙ (next.kept other is).1)
        (Contains-push_cases given row first has);
    all = λ other is. ⊎_elim (λ key. inl (key.0, Contains-append_left given (row ∷ []) key.0 key.1, key.2))
        (λ come. ⊎_elim (λ same. inl (row, Contains-push given row, sym (come.2 ∙ same)))
        (λ stays. inr (come.0, stays, come.2, come.3)) (next.others come.0 come.1))
        (run.all other is);
  }
    where
      no_older : (other : Row) → Contains inputs other → other.key ≡ row.key → other.sequence ≤ row.sequence
      no_older other is same =
          ⊎_elim
          (λ key. absurd (not_less_itself row.key (ap (λ (k : List ℕ). key_cmp k row.key) (sym (key.2 ∙ same))
          ∙ run.later key.0 row key.1 next.among)))
          (λ come. let a = come.3 in let b = next.newest come.0 come.1 (sym come.2 ∙ same) in omega (arith, a, b))
          (run.all other is)

      row_newest : IsNewest row.key inputs row
      row_newest = record {
        among = run.among row next.among;
        of_key = refl;
        greatest = All-weaker (Contains inputs) (λ other. other.key ≡ row.key → other.sequence ≤ row.sequence)
            no_older inputs (All-contains_itself inputs);
      }

  -- a run ends
  pub run_ends : (ended : S → Bool) (given : List Row) (old new : Merging S) → IsMerged left inputs given old
      → IsOver left ended old new → AreNewest inputs given
  unfolding IsToCome
  run_ends ended given old new run over = record {
    ascend = run.ascend;
    newest = run.newest;
    all = λ row is. ⊎_elim (λ key. key) (λ come. absurd (over.none come.0 come.1)) (run.all row is);
  }

-- a key without a newest row has none
none_has : (key : List ℕ) (rows : List Row) (row : Row) → newest key rows ≡ None → Contains rows row → row.key ≡ key → ⊥
none_has key [] row none has same = none_in_nil row has
none_has key (r ∷ rows) row none has same =
    ⊎_elim
    (λ first. let test : eq_by_cmp key_cmp key r.key ≡ true = tied key r.key (sym (ap (λ (x : Row). x.key) first) ∙ same) in
    absurd (let clash : Some (newer r (newest key rows)) ≡ None = ap
    (λ b. cond b (Some (newer r (newest key rows))) (newest key rows)) (sym test) ∙ none in cc))
    (λ rest. none_has key rows row (by_test (eq_by_cmp key_cmp key r.key) none) rest same) (cons_cases r rows row has)
  where
    by_test : (b : Bool) → cond b (Some (newer r (newest key rows))) (newest key rows) ≡ None → newest key rows ≡ None
    by_test true is = absurd (cc)
    by_test false is = is

-- the one row that is a key's newest
pub only_newest : (key : List ℕ) (rows : List Row) (row : Row) → AreDistinct rows → IsNewest key rows row
    → newest key rows ≡ Some row
unfolding AreDistinct
only_newest key rows row distinct is = by_newest (newest key rows) refl
  where
    by_newest : (o : Option Row) → newest key rows ≡ o → o ≡ Some row
    by_newest None none = absurd (none_has key rows row none is.among is.of_key)
    by_newest (Some q) found =
        let q_is = newest_is key rows q found in
        let a : row.sequence ≤ q.sequence = All-contains (λ other. other.key ≡ key → other.sequence ≤ q.sequence) rows
        row q_is.greatest is.among is.of_key in
        let b : q.sequence ≤ row.sequence = All-contains (λ other. other.key ≡ key → other.sequence ≤ row.sequence)
        rows q is.greatest q_is.among q_is.of_key in
        ap Some (distinct q row q_is.among is.among (q_is.of_key ∙ sym is.of_key) (omega (arith, a, b)))

-- each key has the same newest row
pub newest_same : (inputs rows : List Row) → AreDistinct inputs → AreNewest inputs rows → (key : List ℕ)
    → newest key rows ≡ newest key inputs
unfolding HasKey
newest_same inputs rows distinct are key = by_newest (newest key rows) refl
  where
    by_inputs : newest key rows ≡ None → (o : Option Row) → newest key inputs ≡ o → None ≡ o
    by_inputs none None is = refl
    by_inputs none (Some q) found =
        let q_is = newest_is key inputs q found in
        let has = are.all q q_is.among in
        absurd (none_has key rows has.0 none has.1 (has.2 ∙ q_is.of_key))

    by_newest : (o : Option Row) → newest key rows ≡ o → o ≡ newest key inputs
    by_newest None none = by_inputs none (newest key inputs) refl
    by_newest (Some q) found =
        let q_is = newest_is key rows q found in
        sym (only_newest key inputs q distinct (subst (λ (k : List ℕ). IsNewest k inputs q) q_is.of_key
        (are.newest q q_is.among)))

pub contents_same : (inputs rows : List Row) → AreDistinct inputs → AreNewest inputs rows
    → contents_of rows ≡ contents_of inputs
contents_same inputs rows distinct are = contents_by_newest rows inputs (newest_same inputs rows distinct are)

-- a source that has gained rows leaves a merge ready
pub gained_ready : {S : Type 0} (left : S → List Row) (ended : S → Bool) (m : Merging S) (place : ℕ) (old new : S)
    → IsReady left ended m → HasGained left ended m place old new → IsReady left ended (with_source m place new)
gained_ready {S} left ended m place old new ready gained = record {
  few = omega (arith, ready.few, count);
  within = omega (arith, ready.within, count);
  places = ready.places;
  sorted = λ at source is. ⊎_elim (λ same. subst (λ (s : S). IsStrictlySortedBy row_cmp (left s)) (sym same.1)
      gained.sorted) (λ was. ready.sorted at source was) (set_cases m.sources place new at source is);
  past = λ head source has is. ⊎_elim
      (λ same. subst (λ (s : S). All (IsFrom head.row) (left s)) (sym same.1)
      (subst (λ (l : List Row). All (IsFrom head.row) l) (sym gained.rows)
      (All-append (IsFrom head.row) (left old) gained.more
      (ready.past head old has (ap (slice_get m.sources) same.0 ∙ gained.at)) (gained.past head has same.0))))
      (λ was. ready.past head source has was) (set_cases m.sources place new head.place source is);
  met = λ at source below is. ⊎_elim
      (λ same. ⊎_elim (λ over. inl (subst (λ (s : S). ended s ≡ true) (sym same.1) (gained.end over)))
      (λ head. inr head) (ready.met at old below (ap (slice_get m.sources) same.0 ∙ gained.at)))
      (λ was. ready.met at source below was) (set_cases m.sources place new at source is);
  first = λ row found. let h = ready.first row found in (h.0 ∙ sym count, h.1);
}
  where
    count : length (slice_set m.sources place new) ≡ length m.sources
    count = length-set m.sources place new
