-- What each call keeps of the stage of a compaction's outputs.
use Rattle.std.specs.Prelude.{◌≡◌, ◌⊎◌, ℕ, ◌<◌, ◌≤◌, Bool, true, false, List, [], ◌∷◌, length}
use Rattle.std.proofs.Common.{refl, sym, ap, subst, inl, inr, ◌∙◌, arith, length-append}
use Rattle.std.proofs.lemmas.List.{take_at}
use Rattle.std.proofs.lemmas.Bool.Decides.{nat_tests}
use Rattle.lsm_rows.specs.declared.rows.Row.{Row}
use Rattle.lsm_compact.specs.declared.outputs.Stage.{Stage}
use Rattle.lsm_compact.specs.declared.outputs.Stage.TheVariants.{Closed, Open, Ending, Sealing}
use Rattle.lsm_compact.specs.Building.{Table}
use Rattle.lsm_compact.specs.Outputs.{ended_len, is_full}
use Rattle.lsm_compact.specs.Writing.{CanAdd, CanEnd, HasNoMore, HasNoPiece, HasRow, IsBegun, IsGrown, IsNotToEnd, IsSettled, IsSound, IsToEnd, MayEnd, open_rows}
use Rattle.lsm_compact.proofs.Keys.{untrue}
use Rattle.lsm_compact.proofs.Drafts.{no_rows, no_ended}

-- ---- rows

pub same_stage : (stage : Stage) → HasNoMore stage stage
unfolding HasNoMore
same_stage stage = (inl refl, λ some. some)

pub same_table : (old : Stage) (table new : Table) (piece bytes : List ℕ) (ended len : ℕ) → old ≡ Open table piece ended
    → new.rows ≡ table.rows → HasNoMore old (Open new bytes len)
unfolding HasNoMore
same_table old table new piece bytes ended len is rows = (
  inl (rows ∙ ap open_rows (sym is)),
  λ some.
      subst (λ (r : List Row). 1 ≤ length r) (sym rows) (subst HasRow is some),
)

pub none_now : (old new : Stage) → open_rows new ≡ [] → HasRow new → HasNoMore old new
unfolding HasNoMore
none_now old new is some = (inr is, λ _. some)

-- one call after another
pub no_more : (a b c : Stage) → HasNoMore a b → HasNoMore b c → HasNoMore a c
unfolding HasNoMore
no_more a b c first second = (
  elim second.0
      [ inr none ↦ inr none | inl same ↦ elim first.0 [ inl is ↦ inl (same ∙ is) | inr none ↦ inr (same ∙ none) ] ],
  λ some. second.1 (first.1 some),
)

-- ---- full tables

none_ended : ended_len [] ≡ 0
none_ended = ap (length {A = ℕ}) no_ended

is_full_from : (rows : List Row) → 2097152 ≤ ended_len rows → is_full rows ≡ true
unfolding is_full
is_full_from rows is = grind (arith, nat_tests)

not_full_from : (rows : List Row) → ended_len rows < 2097152 → is_full rows ≡ false
unfolding is_full
not_full_from rows is = grind (arith, nat_tests)

full_len_of : (rows : List Row) → is_full rows ≡ true → 2097152 ≤ ended_len rows
unfolding is_full
full_len_of rows is = grind (arith, nat_tests)

open_len_of : (rows : List Row) → is_full rows ≡ false → ended_len rows < 2097152
unfolding is_full
open_len_of rows is = grind (arith, nat_tests)

-- where a row may come the ended blocks are small
pub add_small : (row : Row) (table : Table) (piece : List ℕ) (ended : ℕ) (stage : Stage) → stage ≡ Open table piece ended
    → CanAdd row stage
    → ended < 2097152
add_small row table piece ended stage is can =
    let all = subst (CanAdd row) is can in
    let count = length-append table.rows (row ∷ []) in
    let open_now : is_full table.rows ≡ false =
    ap is_full (sym (take_at table.rows (row ∷ []) (length table.rows) refl)) ∙ all.3.before (length table.rows)
    (omega (arith, count)) in
    let small = open_len_of table.rows open_now in
    subst (λ n. n < 2097152) (sym all.2) small

-- a full table has a row
pub full_some : (rows : List Row) → is_full rows ≡ true → 1 ≤ length rows
full_some [] is = let n = none_ended in let m = full_len_of [] is in absurd (omega (arith, n, m))
full_some (row ∷ rows) is = omega arith

-- the count tells whether the table is full
pub counted_full : (over : Bool) (table : Table) (piece : List ℕ) (ended : ℕ) (stage : Stage) → stage ≡ Open table piece ended
    → IsSound over stage → 2097152 ≤ ended → IsToEnd stage
counted_full over table piece ended stage is sound full =
    let s : IsGrown over table ended = subst (IsSound over) is sound in
    subst IsToEnd (sym is) (is_full_from table.rows (subst (λ n. 2097152 ≤ n) s.ended_is full))

pub counted_open : (over : Bool) (table : Table) (piece : List ℕ) (ended : ℕ) (stage : Stage) → stage ≡ Open table piece ended
    → IsSound over stage → ended < 2097152 → IsNotToEnd stage
counted_open over table piece ended stage is sound open_now =
    let s : IsGrown over table ended = subst (IsSound over) is sound in
    subst IsNotToEnd (sym is) (not_full_from table.rows (subst (λ n. n < 2097152) s.ended_is open_now))

-- ---- what may be ended

pub can_end : (stage : Stage) → IsToEnd stage → HasNoPiece stage → CanEnd stage
can_end Closed full none = tt
can_end (Open table piece ended) full none = (full_some table.rows full, none)
can_end (Ending number tail) full none = tt
can_end (Sealing number) full none = tt

pub may_end : (over : Bool) (stage : Stage) → IsToEnd stage → MayEnd over stage
may_end over Closed full = tt
may_end over (Open table piece ended) full = inr full
may_end over (Ending number tail) full = tt
may_end over (Sealing number) full = tt

pub settled_closed : (stage : Stage) → stage ≡ Closed → IsSettled stage
settled_closed stage is = subst IsSettled (sym is) tt

pub settled_open : (stage : Stage) → IsNotToEnd stage → HasNoPiece stage → IsSettled stage
settled_open Closed open_now none = tt
settled_open (Open table piece ended) open_now none = (none, open_now)
settled_open (Ending number tail) open_now none = open_now
settled_open (Sealing number) open_now none = open_now

-- ---- stages that are left as they are

pub not_open_piece : (s : Stage) → ((t : Table) (p : List ℕ) (e : ℕ) → s ≡ Open t p e → ⊥) → HasNoPiece s
not_open_piece Closed other = tt
not_open_piece (Open t p e) other = absurd (other t p e refl)
not_open_piece (Ending number tail) other = tt
not_open_piece (Sealing number) other = tt

pub not_closed_begun : (s : Stage) → (s ≡ Closed → ⊥) → IsSettled s → IsBegun s
not_closed_begun Closed other settled = other refl
not_closed_begun (Open t p e) other settled = settled
not_closed_begun (Ending number tail) other settled = settled
not_closed_begun (Sealing number) other settled = settled

-- ---- soundness

pub grown_of : (over : Bool) (table : Table) (piece : List ℕ) (ended : ℕ) (stage : Stage) → stage ≡ Open table piece ended
    → IsSound over stage
    → IsGrown over table ended
grown_of over table piece ended stage is sound = subst (IsSound over) is sound

pub new_grown : (over : Bool) (number : ℕ) (session : List ℕ) → IsGrown over
    (record { number = number; session = session; rows = []; whole = true }) 0
new_grown over number session = record { rows_are = no_rows; ended_is = sym none_ended; whole_is = λ _ _. refl }

pub new_open : is_full [] ≡ false
new_open = not_full_from [] (let n = none_ended in omega (arith, n))

follows : (over next : Bool) → (over ≡ true → next ≡ true) → next ≡ false → over ≡ false
follows true next leads is = absurd (untrue (sym is ∙ leads refl))
follows false next leads is = refl

pub sound_weaker : (over next : Bool) → (over ≡ true → next ≡ true) → (stage : Stage) → IsSound over stage
    → IsSound next stage
sound_weaker over next leads Closed s = s
sound_weaker over next leads (Open table piece ended) s = record
    { rows_are = s.rows_are; ended_is = s.ended_is; whole_is = λ is. s.whole_is (follows over next leads is) }
sound_weaker over next leads (Ending number tail) s = s
sound_weaker over next leads (Sealing number) s = s

-- a table that may end was ended, and not added
pub ended_grown : (over next : Bool) (table new : Table) (piece : List ℕ) (ended : ℕ) (stage : Stage)
    → stage ≡ Open table piece ended → IsSound over stage
    → MayEnd next stage → new ≡ record table { whole = false } → IsGrown next new ended
ended_grown over next table new piece ended stage is sound may is_new =
    let s : IsGrown over table ended = subst (IsSound over) is sound in
    let m : (next ≡ true) ⊎ (is_full table.rows ≡ true) = subst (MayEnd next) is may in
    subst (λ (t : Table). IsGrown next t ended) (sym is_new) (record {
      rows_are = s.rows_are;
      ended_is = s.ended_is;
      whole_is = λ rows_follow open_now. elim m [
        | inl is_over ↦ absurd (untrue (sym rows_follow ∙ is_over))
        | inr is_full_now ↦ absurd (untrue (sym open_now ∙ is_full_now))
      ];
    })
