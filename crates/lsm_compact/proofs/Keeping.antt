-- A compaction keeps what the tables stand for.
use Rattle.std.specs.Prelude.{◌≡◌, ◌≢◌, ℕ, ◌<◌, ◌≤◌, Bool, true, false, cond, not, List, ◌++◌, Contains, Option, Some, None, is_none}
use Rattle.std.proofs.Common.{refl, sym, ap, subst, inl, inr, ⊎_elim, ◌∙◌, arith}
use Rattle.std.proofs.lemmas.Bool.{cases_lt}
use Rattle.std.proofs.lemmas.List.Elements.{Contains-append_left, Contains-append_right, Contains-append_cases}
use Rattle.std.specs.FinMap as finite
use Rattle.lsm_rows.specs.declared.rows.Row.{Row}
use Rattle.lsm_rows.specs.Contents.{KeepsKey, newest, contents_of}
use Rattle.lsm_rows.proofs.NewestRows.{newest_is, contents_kept}
use Rattle.lsm_version.specs.declared.choices.Choice.{Choice}
use Rattle.lsm_version.specs.declared.edits.Edit.{Edit}
use Rattle.lsm_version.specs.declared.tables.Add.{Add}
use Rattle.lsm_version.specs.declared.tables.Place.{Place}
use Rattle.lsm_version.specs.declared.tables.Placed.{Placed}
use Rattle.lsm_version.specs.Levels.{Tables}
use Rattle.lsm_compact.specs.Closed.{IsClosed, IsOutside}
use Rattle.lsm_compact.specs.Installed.{KeepsRows, IsInstalled, added_rows}
use Rattle.lsm_compact.specs.Orderly.{IsOrderly, rows_of_tables}
use Rattle.lsm_compact.specs.Outputs.{IsEditOf, joined}
use Rattle.lsm_compact.specs.Written.{AreWritten, is_input, input_rows, is_below, is_left_out, unless_left_out}
use Rattle.lsm_compact.proofs.Keys.{untrue, first_true, later_true}
use Rattle.lsm_compact.proofs.Ascending.{newest_own}
use Rattle.lsm_compact.proofs.Lookups.{Between, between, stood, stays, still, stands_added, placed_of, which}
use Rattle.lsm_compact.proofs.Members.{Contains-map, map_source, source_of, from_source, no_table}
use Rattle.lsm_compact.proofs.Newest.{HasOneEach, same_contents}
use Rattle.lsm_compact.proofs.Outside.{RowOf, row_of, of_row, input_row, among_is, in_other, no_newer, sequences_differ, found_below}

-- ---- at each key

is_nothing : {A : Type 0} (o : Option A) → is_none o ≡ true → o ≡ None
is_nothing None e = refl
is_nothing (Some x) e = absurd (untrue e)

not_true : (b : Bool) → not b ≡ true → b ≡ false
not_true true e = absurd (untrue e)
not_true false e = refl

-- what a row that is left out is: a delete, and no table that is deeper and isn't read has its key in its range
left_out_is : (tables : Tables) (choice : Choice) (row : Row) → is_left_out tables choice row ≡ true
    → (row.value ≡ None) × (is_below tables choice row.key ≡ false)
unfolding is_left_out
left_out_is tables choice row is = (
  is_nothing row.value (first_true (is_none row.value) (not (is_below tables choice row.key)) is),
  not_true (is_below tables choice row.key) (later_true (is_none row.value) (not (is_below tables choice row.key)) is),
)

-- the rows of the tables that stay are those of tables outside
abbrev pub AreOutside : Tables → Choice → Tables → Type 0
AreOutside tables choice mid = (n : ℕ) (placed : Placed) → finite.get mid n ≡ Some placed → IsOutside tables choice n placed

module _ (tables mid : Tables) (rows : ℕ → List Row) (choice : Choice) (o : IsOrderly tables rows)
    (closed : IsClosed tables rows choice)
    (outside : AreOutside tables choice mid) (written : List Row)
    (w : AreWritten tables choice (input_rows rows choice) written) where
  -- under a delete that is left out nothing is hidden: what else has its key is newer
  newer_than : (gone other : Row) → Contains (input_rows rows choice) gone → is_left_out tables choice gone ≡ true
      → Contains (rows_of_tables mid rows) other → other.key ≡ gone.key → gone.sequence < other.sequence
  newer_than gone other has left has_other same =
      let i = input_row tables rows choice closed gone has in
      let r = row_of mid rows other has_other in
      let out = outside r.number r.placed r.there in
      let differ : gone.sequence ≢ other.sequence =
      sequences_differ tables rows choice o closed i.number r.number i.placed r.placed i.read out gone other i.has r.has same in
      let within =
      in_other tables rows choice o closed i.number r.number i.placed r.placed i.read out gone other i.has r.has same in
      ⊎_elim
      (λ (deeper : choice.output < r.placed.level). absurd (untrue (
      sym (left_out_is tables choice gone left).1 ∙ found_below tables choice gone.key r.number r.placed out deeper within)))
      (λ (above : r.placed.level ≤ choice.output).
      let most : gone.sequence ≤ other.sequence =
      no_newer tables rows choice o closed i.number r.number i.placed r.placed i.read out gone other i.has r.has same above in
      ⊎_elim (λ (less : gone.sequence < other.sequence). less)
      (λ (least : other.sequence ≤ gone.sequence). absurd (differ (omega (arith, most, least))))
      (cases_lt gone.sequence other.sequence))
      (cases_lt choice.output r.placed.level)

  keeps : (key : List ℕ) → KeepsKey (rows_of_tables mid rows) (input_rows rows choice) written key
  keeps key = by_newest (newest key (input_rows rows choice)) refl
    where
      by_left : (gone : Row) → newest key (input_rows rows choice) ≡ Some gone → (b : Bool)
          → is_left_out tables choice gone ≡ b
          → KeepsKey (rows_of_tables mid rows) (input_rows rows choice) written key
      by_left gone found true left =
          let n = newest_is key (input_rows rows choice) gone found in
          inr (
            w.each key ∙ ap (unless_left_out tables choice) found ∙ ap (λ b. cond b None (Some gone)) left,
            gone,
            found,
            (left_out_is tables choice gone left).0,
            λ other newest_other.
                let m = newest_is key (rows_of_tables mid rows) other newest_other in
                newer_than gone other n.among left m.among (m.of_key ∙ sym n.of_key),
          )
      by_left gone found false stays_in =
          inl (w.each key ∙ ap (unless_left_out tables choice) found ∙ ap (λ b. cond b None (Some gone)) stays_in ∙ sym found)

      by_newest : (n : Option Row) → newest key (input_rows rows choice) ≡ n → KeepsKey (rows_of_tables mid rows)
          (input_rows rows choice) written key
      by_newest None none = inl (w.each key ∙ ap (unless_left_out tables choice) none ∙ sym none)
      by_newest (Some gone) found = by_left gone found (is_left_out tables choice gone) refl

  -- what is written was read
  pub written_read : (row : Row) → Contains written row → Contains (input_rows rows choice) row
  written_read row has = by_newest (newest row.key (input_rows rows choice)) refl
      (sym (w.each row.key) ∙ newest_own written row w.ascend has)
    where
      some_is : (a b : Row) → Some a ≡ Some b → a ≡ b
      some_is a b is = cc

      by_left : (gone : Row) (b : Bool) → cond b None (Some gone) ≡ Some row → gone ≡ row
      by_left gone true none = absurd (no_table row (sym none))
      by_left gone false is = some_is gone row is

      by_newest : (n : Option Row) → newest row.key (input_rows rows choice) ≡ n → unless_left_out tables choice n ≡ Some row
          → Contains (input_rows rows choice) row
      by_newest None none is = absurd (no_table row (sym is))
      by_newest (Some gone) found is =
          subst (λ (r : Row). Contains (input_rows rows choice) r) (by_left gone (is_left_out tables choice gone) is)
          (newest_is row.key (input_rows rows choice) gone found).among

-- ---- in all

-- rows of tables that stand have one row for each sequence
pub own_each : (tables : Tables) (rows : ℕ → List Row) → IsOrderly tables rows → (all : List Row)
    → ((row : Row) → Contains all row → RowOf tables rows row) → HasOneEach all
own_each tables rows o all of = record {
  same = λ a b has_a has_b _ tie.
      let r = of a has_a in
      let q = of b has_b in
      (o.own r.number q.number r.placed q.placed r.there q.there a b r.has q.has tie).1;
}

module _ (tables after : Tables) (rows later : ℕ → List Row) (choice : Choice) (edit : Edit) (o : IsOrderly tables rows)
    (closed : IsClosed tables rows choice)
    (e : IsEditOf tables choice (input_rows rows choice) (added_rows later edit.adds) edit) (b : Between tables edit after)
    (stay : KeepsRows tables after rows later) where
  pub left : AreOutside tables choice b.mid
  left n placed there =
      let s = stood edit.drops tables b.mid b.dropped_is n placed there in
      record { there = s.0; not_read = subst (λ (places : List Place). is_input places n ≡ false) e.drops s.1 }

  stays_out : (n : ℕ) (placed : Placed) → IsOutside tables choice n placed → finite.get b.mid n ≡ Some placed
  stays_out n placed out =
      stays edit.drops tables b.mid b.dropped_is n placed out.there
      (subst (λ (places : List Place). is_input places n ≡ false) (sym e.drops) out.not_read)

  others : List Row
  others = rows_of_tables b.mid rows

  -- a row of a table that stands is one of a table outside, or was read
  sorted_out : (row : Row) → RowOf tables rows row → Contains (others ++ input_rows rows choice) row
  unfolding others
  sorted_out row r =
      elim (is_input choice.inputs r.number) as
      (λ t. is_input choice.inputs r.number ≡ t → Contains (rows_of_tables b.mid rows ++ input_rows rows choice) row) [
        | true ↦ λ is.
            let p = among_is choice.inputs r.number is in
            Contains-append_right (rows_of_tables b.mid rows) (input_rows rows choice) row
            (from_source (λ (place : Place). rows place.number) choice.inputs p.0 row p.1
            (subst (λ (n : ℕ). Contains (rows n) row) (sym p.2) r.has))
        | false ↦ λ is. Contains-append_left (rows_of_tables b.mid rows) (input_rows rows choice) row
            (of_row b.mid rows row r.number r.placed
            (stays_out r.number r.placed (record { there = r.there; not_read = is })) r.has)
      ] refl

  pub was_row : (row : Row) → Contains (input_rows rows choice) row → RowOf tables rows row
  was_row row has = let i = input_row tables rows choice closed row has in record
      { number = i.number; placed = i.placed; there = i.read.there; has = i.has }

  other_row : (row : Row) → Contains (rows_of_tables b.mid rows) row → RowOf tables rows row
  other_row row has = let r = row_of b.mid rows row has in record
      { number = r.number; placed = r.placed; there = (left r.number r.placed r.there).there; has = r.has }

  either_row : (xs : List Row) → ((row : Row) → Contains xs row → RowOf tables rows row) → (row : Row) → Contains
      (rows_of_tables b.mid rows ++ xs) row → RowOf tables rows row
  either_row xs each row has =
      elim (Contains-append_cases (rows_of_tables b.mid rows) xs row has)
      [ inl one ↦ other_row row one | inr more ↦ each row more ]

  before : contents_of (rows_of_tables tables rows) ≡ contents_of (rows_of_tables b.mid rows ++ input_rows rows choice)
  unfolding others
  before = same_contents (rows_of_tables tables rows) (rows_of_tables b.mid rows ++ input_rows rows choice)
      (record {
        to = λ row has. sorted_out row (row_of tables rows row has);
        back = λ row has. let r = either_row (input_rows rows choice) was_row row has
            in of_row tables rows row r.number r.placed r.there r.has;
      })
      (own_each tables rows o (rows_of_tables b.mid rows ++ input_rows rows choice)
      (either_row (input_rows rows choice) was_row))

  abbrev outs : List Row
  outs = joined (added_rows later edit.adds)

  pub out_read : (row : Row) → Contains outs row → Contains (input_rows rows choice) row
  out_read = written_read tables b.mid rows choice o closed left outs e.written

  pub stay_rows : (n : ℕ) (placed : Placed) → finite.get b.mid n ≡ Some placed → later n ≡ rows n
  stay_rows n placed there = stay n placed (left n placed there).there (still edit.adds b.mid after b.added_is n placed there)

  add_source : (add : Add) (row : Row) → Contains edit.adds add → Contains (later add.table.number) row → Contains outs row
  add_source add row among has =
      from_source (λ (r : List Row). r) (added_rows later edit.adds) (later add.table.number) row
      (Contains-map (λ (a : Add). later a.table.number) edit.adds add among) has

  split : (row : Row) → RowOf after later row → Contains (rows_of_tables b.mid rows ++ outs) row
  split row r =
      elim (which edit.adds b.mid after b.added_is r.number r.placed r.there) [
        | inl was ↦ Contains-append_right (rows_of_tables b.mid rows) outs row
            (add_source was.add row was.among (subst (λ (n : ℕ). Contains (later n) row) (sym was.number_is) r.has))
        | inr there ↦ Contains-append_left (rows_of_tables b.mid rows) outs row
            (of_row b.mid rows row r.number r.placed there
            (subst (λ (xs : List Row). Contains xs row) (stay_rows r.number r.placed there) r.has))
      ]

  join : (row : Row) → Contains (rows_of_tables b.mid rows ++ outs) row → Contains (rows_of_tables after later) row
  join row has =
      elim (Contains-append_cases (rows_of_tables b.mid rows) outs row has) [
        | inl one ↦ let r = row_of b.mid rows row one in
            of_row after later row r.number r.placed (still edit.adds b.mid after b.added_is r.number r.placed r.there)
            (subst (λ (xs : List Row). Contains xs row) (sym (stay_rows r.number r.placed r.there)) r.has)
        | inr more ↦
            let s = source_of (λ (r : List Row). r) (added_rows later edit.adds) row more in
            let m = map_source (λ (a : Add). later a.table.number) edit.adds s.of s.among in
            of_row after later row m.0.table.number (placed_of m.0) (stands_added edit.adds b.mid after b.added_is m.0 m.1)
            (subst (λ (xs : List Row). Contains xs row) (sym m.2) s.has)
      ]

  afterwards : contents_of (rows_of_tables after later) ≡ contents_of (rows_of_tables b.mid rows ++ outs)
  afterwards = same_contents (rows_of_tables after later) (rows_of_tables b.mid rows ++ outs)
      (record { to = λ row has. split row (row_of after later row has); back = join })
      (own_each tables rows o (rows_of_tables b.mid rows ++ outs)
      (either_row outs (λ row has. was_row row (out_read row has))))

  was_there : (row : Row) → Contains (rows_of_tables after later) row → Contains (rows_of_tables tables rows) row
  was_there row has =
      let r = either_row outs (λ other read. was_row other (out_read other read)) row
      (split row (row_of after later row has)) in
      of_row tables rows row r.number r.placed r.there r.has

  contents_same : contents_of (rows_of_tables after later) ≡ contents_of (rows_of_tables tables rows)
  contents_same = afterwards
      ∙ contents_kept (rows_of_tables b.mid rows) (input_rows rows choice) outs
      (keeps tables b.mid rows choice o closed left outs e.written)
      ∙ sym before

pub contents_stay : (tables after : Tables) (rows later : ℕ → List Row) (choice : Choice) (edit : Edit)
    → IsOrderly tables rows → IsClosed tables rows choice
    → IsEditOf tables choice (input_rows rows choice) (added_rows later edit.adds) edit
    → IsInstalled tables after rows later edit
    → contents_of (rows_of_tables after later) ≡ contents_of (rows_of_tables tables rows)
contents_stay tables after rows later choice edit o closed e installed =
    contents_same tables after rows later choice edit o closed e (between tables edit after installed.is) installed.stay

pub no_rows_made : (tables after : Tables) (rows later : ℕ → List Row) (choice : Choice) (edit : Edit) → IsOrderly tables rows
    → IsClosed tables rows choice → IsEditOf tables choice (input_rows rows choice) (added_rows later edit.adds) edit
    → IsInstalled tables after rows later edit → (row : Row) → Contains (rows_of_tables after later) row → Contains
    (rows_of_tables tables rows) row
no_rows_made tables after rows later choice edit o closed e installed =
    was_there tables after rows later choice edit o closed e (between tables edit after installed.is) installed.stay
