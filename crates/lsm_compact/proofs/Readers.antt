-- The inputs of a compaction as they are read: what a call of the merge leaves, and what a run leaves that was read.
use Rattle.std.specs.Prelude.{◌≡◌, ◌⊎◌, ℕ, zero, suc, false, ◌^◌, ◌<◌, get_or, List, [], ◌∷◌, length, Contains, slice_get, slice_set, Option, Some, None, MatchOption, IfSome, IfNone}
use Rattle.std.proofs.Common.{refl, sym, ap, subst, inl, inr, ⊎_elim, ◌∙◌, arith}
use Rattle.std.proofs.lemmas.Bool.{false≢true}
use Rattle.std.proofs.lemmas.List.{length-set}
use Rattle.std.proofs.lemmas.List.Elements.{All-contains, Contains-append_right, All-weaker, All-contains_itself}
use Rattle.std.proofs.lemmas.Option.{slice_get_within}
use Rattle.std.specs.List.{AllByRecursion}
use Rattle.std.specs.List.Sorted.{IsStrictlySortedBy}
use Rattle.lsm_merge.specs.declared.faults.MergeFault.{MergeFault}
use Rattle.lsm_merge.specs.declared.faults.MergeFault.TheVariants.{Source}
use Rattle.std.specs.declared.cmp.Ordering.TheVariants.{Less}
use Rattle.lsm_rows.specs.declared.rows.Row.{Row}
use Rattle.lsm_rows.specs.Replay.{key_cmp}
use Rattle.lsm_merge.specs.declared.heads.Head.{Head}
use Rattle.lsm_merge.specs.Order.{row_cmp, IsFrom}
use Rattle.lsm_merge.specs.Merging.{Merging, IsLeft, IsHeld, IsInSource, IsReady, IsAhead, IsNext, IsOver, HasGiven, HasCause, with_source}
use Rattle.lsm_merge.specs.Runs.{HasGained}
use Rattle.lsm_merge.proofs.Lists.{set_cases, set_here, some_same, none_in_nil}
use Rattle.lsm_merge.proofs.Orders.{from_later, from_trans}
use Rattle.lsm_merge.proofs.Lending.{new_ready}
use Rattle.lsm_merge.proofs.Running.{gained_ready}
use Rattle.lsm_compact.specs.declared.input.Input.{Input}
use Rattle.lsm_compact.specs.declared.input.Input.TheVariants.{Run, Wanting, Ended}
use Rattle.lsm_compact.specs.declared.input.Reading.{Reading}
use Rattle.lsm_compact.specs.declared.input.Unfilled.{Unfilled}
use Rattle.lsm_compact.specs.Calls.{IsRowOfStore, IsRun}
use Rattle.lsm_compact.specs.Reading.{left_rows, is_ended, fault_of, read_to}
use Rattle.lsm_compact.specs.Readers.{HasRead, AreSound, IsPast, IsAtEnd, IsLater, IsFilled, IsGivenRow, IsWanting}
use Rattle.lsm_compact.proofs.RunOrder.{run_sorted, run_from, read_on, run_read}

pub some_at : {X : Type 0} (xs : List X) (i : ℕ) → i < length xs → (x : X) × (slice_get xs i ≡ Some x)
some_at [] i within = absurd (omega (arith, within))
some_at (x ∷ xs) zero within = (x, refl)
some_at (x ∷ xs) (suc i) within = some_at xs i (omega (arith, within))

-- ---- one call after another

pub later_itself : (m : Merging Input) → IsLater m m
later_itself m = record { past = λ key is. is; end = λ is. is }

pub later_then : (a b c : Merging Input) → IsLater a b → IsLater b c → IsLater a c
later_then a b c first second = record
    { past = λ key is. second.past key (first.past key is); end = λ is. second.end (first.end is) }

-- ---- a call of the merge

module _ (readings : List Reading) (a m : Merging Input) (ready : IsReady left_rows is_ended m)
    (ahead : IsAhead left_rows is_ended a m) (kept : (row : Row) → IsLeft left_rows m row → IsLeft left_rows a row) where
  given_of : (place : ℕ) (source : Input) → slice_get m.sources place ≡ Some source
      → (before : Input) × (slice_get a.sources place ≡ Some before) × HasGiven left_rows is_ended before source
  given_of place source is =
      let within = slice_get_within m.sources place source is in
      let count = ahead.count in
      let before = some_at a.sources place (omega (arith, within, count)) in
      (before.0, before.1, ahead.given place before.0 source before.1 is)

  pub called_sound : AreSound readings a → AreSound readings m
  called_sound sound = record {
    ready = ready;
    places = sound.places ∙ sym ahead.count;
    rows = λ row is. sound.rows row (kept row is);
    held = λ head reading has at. ⊎_elim (λ was. sound.held head reading was at)
        (λ from. sound.left head.place reading from.0 at from.1 head.row from.2) (ahead.heads head has);
    left = λ place reading source at is row has.
        let g = given_of place source is in
        sound.left place reading g.0 at g.1 row
        (subst (λ (l : List Row). Contains l row) (sym g.2.rows) (Contains-append_right g.2.gone (left_rows source) row has));
  }

  all_asked : a.asked ≡ length a.sources → m.asked ≡ length m.sources
  all_asked asked =
      let count = ahead.count in let more = ahead.asked in let within = ready.within in omega
      (arith, asked, count, more, within)

  pub called_later : IsLater a m
  called_later = record {
    past = λ key is. record { asked = all_asked is.asked; later = λ row left. is.later row (kept row left) };
    end = λ is. record {
      none = λ row left. is.none row (kept row left);
      ends = λ place source at. let g = given_of place source at in g.2.end (is.ends place g.0 g.1);
    };
  }

-- what is left after a call was left before it
pub ok_kept : (a m : Merging Input) (next : Option Row) → MatchOption next (IsOver left_rows is_ended a m)
    (λ row. IsNext left_rows a row m)
    → (row : Row) → IsLeft left_rows m row → IsLeft left_rows a row
ok_kept a m None over row is = absurd (over.still row is)
ok_kept a m (Some given) next row is = (next.kept row is).0

-- the merge gave a row
pub given_row : (readings : List Reading) (a m : Merging Input) (next : Option Row) → AreSound readings a
    → MatchOption next (IsOver left_rows is_ended a m) (λ row. IsNext left_rows a row m)
    → m.asked ≡ length m.sources → (before : Merging Input) → IsLater before a → IfSome next (λ row. IsGivenRow before row m)
given_row readings a m None sound over asked before later = tt
given_row readings a m (Some row) sound next asked before later = record {
  of_store = sound.rows row next.among;
  behind = λ key is. (later.past key is).later row next.among;
  past = record { asked = asked; later = λ other left. (next.kept other left).1 };
  more = λ end. (later.end end).none row next.among;
}

-- the merge is over
pub at_end : (a m : Merging Input) (next : Option Row) → MatchOption next (IsOver left_rows is_ended a m)
    (λ row. IsNext left_rows a row m)
    → IfNone next (IsAtEnd m)
at_end a m None over = record { none = over.still; ends = over.ends }
at_end a m (Some row) next = tt

-- an input that answers a fault has used up its run
wanting_of : (m : Merging Input) (place : ℕ) (source : Input) (fault : Unfilled) → slice_get m.sources place ≡ Some source
    → fault_of source ≡ Some fault → IsWanting m place
wanting_of m place (Run rows) fault at is = absurd (let clash : ⊥ = cc in clash)
wanting_of m place (Wanting why) fault at is = record { why = why; source_is = at }
wanting_of m place Ended fault at is = absurd (let clash : ⊥ = cc in clash)

told_by : (m : Merging Input) (place : ℕ) (why : Unfilled) → HasCause fault_of (Source place why) m.sources
    → IsWanting m place
unfolding HasCause
told_by m place why cause = wanting_of m place cause.0 why cause.1 cause.2

pub wanting_from : (m : Merging Input) (fault : MergeFault Unfilled) (place : ℕ) (why : Unfilled) → fault ≡ Source place why
    → HasCause fault_of fault m.sources → IsWanting m place
wanting_from m fault place why is cause =
    told_by m place why (subst (λ (f : MergeFault Unfilled). HasCause fault_of f m.sources) is cause)

pub wanting_within : (m : Merging Input) (place : ℕ) → IsWanting m place → place < length m.sources
wanting_within m place w = slice_get_within m.sources place (Wanting w.why) w.source_is

-- ---- a run that was read

-- what is left once a source has these rows
left_cases : (m : Merging Input) (place : ℕ) (source : Input) (row : Row) → IsLeft left_rows (with_source m place source) row
    → IsLeft left_rows m row ⊎ Contains (left_rows source) row
unfolding IsLeft IsInSource
left_cases m place source row is = ⊎_elim (λ found. inl (inl found))
    (λ rest. ⊎_elim (λ held. inl (inr (inl held)))
    (λ left. ⊎_elim (λ same. inr (subst (λ (s : Input). Contains (left_rows s) row) same.1 left.3))
    (λ was. inl (inr (inr (left.0, left.1, was, left.3)))) (set_cases m.sources place source left.0 left.1 left.2)) rest) is

pub held_left : (m : Merging Input) (head : Head) → Contains m.heads head → IsLeft left_rows m head.row
unfolding IsLeft IsHeld
held_left m head has = inr (inl (head, has, refl))

module _ (readings : List Reading) (m : Merging Input) (place count : ℕ) (run : List Row) (reading now : Reading)
    (source : Input)
    (sound : AreSound readings m) (wanting : IsWanting m place) (at : slice_get readings place ≡ Some reading)
    (is : IsRun reading.after count run) (after : now.after ≡ read_to reading.after run)
    (filled : left_rows source ≡ run) where
  row_behind : (head : Head) → Contains m.heads head → head.place ≡ place → (row : Row) → Contains run row
      → IsFrom head.row row
  row_behind head has same row in_run =
      let read = sound.held head reading has (ap (slice_get readings) same ∙ at) in
      from_trans head.row read.last row read.from
      (run_from reading.after count run read.last row is read.after_is read.small in_run)

  gained : HasGained left_rows is_ended m place (Wanting wanting.why) source
  gained = record {
    at = wanting.source_is;
    more = run;
    rows = filled;
    sorted = subst (IsStrictlySortedBy row_cmp) (sym filled) (run_sorted run is.ascend);
    past = λ head has same. All-weaker (Contains run) (IsFrom head.row) (row_behind head has same) run
        (All-contains_itself run);
    end = λ ended. absurd (false≢true ended);
  }

  pub filled_sound : AreSound (slice_set readings place now) (with_source m place source)
  filled_sound = record {
    ready = gained_ready left_rows is_ended m place (Wanting wanting.why) source sound.ready gained;
    places = length-set readings place now ∙ sound.places ∙ sym (length-set m.sources place source);
    rows = λ row left. ⊎_elim (λ was. sound.rows row was)
        (λ new. All-contains IsRowOfStore run row is.rows (subst (λ (l : List Row). Contains l row) filled new))
        (left_cases m place source row left);
    held = λ head one has there. ⊎_elim
        (λ same. subst (λ (d : Reading). HasRead d head.row) (sym same.1) (read_on reading now count run head.row is after
        (sound.held head reading has (ap (slice_get readings) same.0 ∙ at))))
        (λ was. sound.held head one has was) (set_cases readings place now head.place one there);
    left = λ p one from there here row has. ⊎_elim
        (λ same. by_reading p one from there row has (subst (λ (s : Input). Contains (left_rows s) row) same.1 has) same.0)
        (λ was. ⊎_elim
        (λ same. absurd (none_in_nil row (subst (λ (s : Input). Contains (left_rows s) row)
        (some_same from (Wanting wanting.why) (sym was ∙ ap (slice_get m.sources) same.0 ∙ wanting.source_is)) has)))
        (λ old. sound.left p one from old was row has) (set_cases readings place now p one there))
        (set_cases m.sources place source p from here);
  }
    where
      by_reading : (p : ℕ) (one : Reading) (from : Input) → slice_get (slice_set readings place now) p ≡ Some one →
          (row : Row)
          → Contains (left_rows from) row → Contains (left_rows source) row → p ≡ place → HasRead one row
      by_reading p one from there row has new same =
          let now_is : now ≡ one = some_same now one
          (sym (set_here readings place reading now at) ∙ ap (slice_get (slice_set readings place now)) (sym same)
          ∙ there) in
          subst (λ (d : Reading). HasRead d row) now_is
          (run_read reading now count run row is after (subst (λ (l : List Row). Contains l row) filled new))

  -- the input isn't at its end, so a row of it is held where all were asked
  run_later : (key : List ℕ) → IsPast key m → (row : Row) → Contains run row → key_cmp key row.key ≡ Less
  run_later key past row in_run =
      let within = wanting_within m place wanting in let asked = past.asked in
      ⊎_elim (λ ended. absurd (false≢true ended))
      (λ head. from_later key head.0.row row (past.later head.0.row (held_left m head.0 head.1))
      (row_behind head.0 head.1 head.2 row in_run))
      (sound.ready.met place (Wanting wanting.why) (omega (arith, within, asked)) wanting.source_is)

  pub filled_later : IsLater m (with_source m place source)
  filled_later = record {
    past = λ key past. record {
      asked = past.asked ∙ sym (length-set m.sources place source);
      later = λ row left. ⊎_elim (λ was. past.later row was)
          (λ new. run_later key past row (subst (λ (l : List Row). Contains l row) filled new))
          (left_cases m place source row left);
    };
    end = λ ended. absurd (false≢true (ended.ends place (Wanting wanting.why) wanting.source_is));
  }

-- an input that answers no fault is filled
pub now_filled : (m : Merging Input) (place : ℕ) (source : Input) → IsWanting m place → fault_of source ≡ None
    → IsFilled (with_source m place source) place
now_filled m place source was none now =
    let same : source ≡ Wanting now.why = some_same source (Wanting now.why)
    (sym (set_here m.sources place (Wanting was.why) source was.source_is) ∙ now.source_is) in
    let fault : None ≡ Some now.why = sym none ∙ ap fault_of same in
    absurd (let clash : ⊥ = cc in clash)

-- ---- nothing was read yet

-- what is read of a list
pub got : {X : Type 0} (xs : List X) (i : ℕ) (x : X) → i < length xs → x ≡ get_or xs i x → slice_get xs i ≡ Some x
got [] i x within is = absurd (omega (arith, within))
got (y ∷ xs) zero x within is = ap Some (sym is)
got (y ∷ xs) (suc i) x within is = got xs i x (omega (arith, within)) is

-- the inputs have no rows, and aren't at their end
abbrev pub AreFresh : List Input → Type 0
AreFresh sources = AllByRecursion (λ (source : Input). (left_rows source ≡ []) × (is_ended source ≡ false)) sources

fresh_at : (sources : List Input) → AreFresh sources → (place : ℕ) (source : Input) → slice_get sources place ≡ Some source
    → left_rows source ≡ []
fresh_at [] fresh place source is = absurd (let clash : ⊥ = cc in clash)
fresh_at (first ∷ sources) fresh zero source is = ap left_rows (sym (some_same first source is)) ∙ fresh.0.0
fresh_at (first ∷ sources) fresh (suc place) source is = fresh_at sources fresh.1 place source is

pub fresh_open : (sources : List Input) → AreFresh sources → (place : ℕ) (source : Input)
    → slice_get sources place ≡ Some source → is_ended source ≡ false
fresh_open [] fresh place source is = absurd (let clash : ⊥ = cc in clash)
fresh_open (first ∷ sources) fresh zero source is = ap is_ended (sym (some_same first source is)) ∙ fresh.0.1
fresh_open (first ∷ sources) fresh (suc place) source is = fresh_open sources fresh.1 place source is

pub none_left : (sources : List Input) → AreFresh sources → (row : Row)
    → IsLeft left_rows (record { found = None; heads = []; asked = 0; sources = sources }) row → ⊥
unfolding IsLeft IsHeld IsInSource
none_left sources fresh row is = ⊎_elim (λ found. absurd (let clash : ⊥ = cc in clash))
    (λ rest. ⊎_elim (λ held. none_in_nil held.0 held.1)
    (λ left. none_in_nil row (subst (λ (l : List Row). Contains l row)
    (fresh_at sources fresh left.0 left.1 left.2) left.3)) rest) is

sorted_none : IsStrictlySortedBy row_cmp []
unfolding IsStrictlySortedBy
sorted_none = tt

pub new_sound : (readings : List Reading) (m : Merging Input) (sources : List Input)
    → m ≡ record { found = None; heads = []; asked = 0; sources = sources } → length sources < 2 ^ 32
    → length readings ≡ length sources → AreFresh sources → AreSound readings m
new_sound readings m sources new few same fresh = subst (λ (n : Merging Input). AreSound readings n) (sym new) (record {
  ready = new_ready left_rows is_ended sources few
      (λ place source is. subst (IsStrictlySortedBy row_cmp) (sym (fresh_at sources fresh place source is)) sorted_none);
  places = same;
  rows = λ row is. absurd (none_left sources fresh row is);
  held = λ head reading has at. absurd (none_in_nil head has);
  left = λ place reading source at is row has.
      absurd (none_in_nil row (subst (λ (l : List Row). Contains l row) (fresh_at sources fresh place source is) has));
})
