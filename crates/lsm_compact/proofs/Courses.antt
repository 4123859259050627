-- The course of a compaction: it begins, goes on, and ends with the edit of its inputs.
use Rattle.std.specs.Prelude.{◌≡◌, ℕ, Bool, true, false, cond, not, is_none, ◌&&◌, List, [], ◌++◌, filter, Contains, Option, Some, None, option_to_list, is_some}
use Rattle.std.proofs.Common.{refl, sym, ap, subst, ◌∙◌, append_assoc}
use Rattle.lsm_rows.specs.declared.rows.Row.{Row}
use Rattle.lsm_rows.specs.Contents.{newest}
use Rattle.lsm_rows.proofs.NewestRows.{newest_is}
use Rattle.lsm_version.specs.declared.choices.Choice.{Choice}
use Rattle.lsm_version.specs.declared.edits.Edit.{Edit}
use Rattle.lsm_version.specs.Levels.{Tables}
use Rattle.lsm_merge.specs.Runs.{AreDistinct, AreNewest, KeysAscend}
use Rattle.lsm_merge.proofs.Running.{newest_same}
use Rattle.lsm_compact.specs.declared.compaction.Compaction.{Compaction}
use Rattle.lsm_compact.specs.declared.deeper.KeyRange.{KeyRange}
use Rattle.lsm_compact.specs.declared.port.PortFault.{PortFault}
use Rattle.lsm_compact.specs.Calls.{Called, files_after}
use Rattle.lsm_compact.specs.Closed.{IsClosed}
use Rattle.lsm_compact.specs.Compacting.{HasEnded, HasMoved, IsNew, IsSoundCompaction, is_bare, written_of}
use Rattle.lsm_compact.specs.Course.{HasMade, IsUnderWay}
use Rattle.lsm_compact.specs.Given.{AreInOrder, GivesMore, HasGiven}
use Rattle.lsm_compact.specs.Orderly.{AreListed, IsOrderly}
use Rattle.lsm_compact.specs.Outputs.{AreAdds}
use Rattle.lsm_compact.specs.Ranges.{has_key}
use Rattle.lsm_compact.specs.Written.{AreWritten, input_rows, is_below, is_left_out, unless_left_out}
use Rattle.lsm_compact.proofs.Ascending.{Ascend, newest_own}
use Rattle.lsm_compact.proofs.Given.{run_whole}
use Rattle.lsm_compact.proofs.Keeping.{own_each}
use Rattle.lsm_compact.proofs.Keys.{untrue}
use Rattle.lsm_compact.proofs.Members.{from_filter, to_filter}
use Rattle.lsm_compact.proofs.Newest.{has_newest}
use Rattle.lsm_compact.proofs.Outside.{input_row}
use Rattle.lsm_compact.proofs.RunsOn.{filter_ascends}

-- ---- what is written of the newest rows

no_row : (k : List ℕ) (rows : List Row) → newest k rows ≡ None → (row : Row) → Contains rows row → row.key ≡ k → ⊥
no_row k rows none row has same = untrue (sym (ap is_some none) ∙ has_newest k rows row has same)

-- what is left of a key's newest row, where those are left that pass a test
abbrev if_passes : (Row → Bool) → Option Row → Option Row
if_passes p None = None
if_passes p (Some row) = cond (p row) (Some row) None

same_row : (a b : Row) → Some a ≡ Some b → a ≡ b
same_row a b is = cc

module _ (p : Row → Bool) (rows : List Row) (ascend : Ascend rows) (key : List ℕ) where
  none_passes : newest key rows ≡ None → (o : Option Row) → newest key (filter p rows) ≡ o → o ≡ None
  none_passes none None is = refl
  none_passes none (Some row) is =
      let n = newest_is key (filter p rows) row is in
      absurd (no_row key rows none row (from_filter p rows row n.among).0 n.of_key)

  passes : (row : Row) → newest key rows ≡ Some row → p row ≡ true → newest key (filter p rows) ≡ Some row
  passes row found is =
      let n = newest_is key rows row found in
      ap (λ (k : List ℕ). newest k (filter p rows)) (sym n.of_key)
      ∙ newest_own (filter p rows) row (filter_ascends p rows ascend) (to_filter p rows row n.among is)

  -- the one row of the key fails
  fails : (row : Row) → newest key rows ≡ Some row → p row ≡ false → (o : Option Row) → newest key (filter p rows) ≡ o
      → o ≡ None
  fails row found not_so None is = refl
  fails row found not_so (Some other) is =
      let n = newest_is key (filter p rows) other is in
      let f = from_filter p rows other n.among in
      let own : newest key rows ≡ Some other = ap (λ (k : List ℕ). newest k rows) (sym n.of_key)
      ∙ newest_own rows other ascend f.0 in
      absurd (untrue (sym not_so ∙ ap p (sym (same_row other row (sym own ∙ found))) ∙ f.1))

  by_test : (row : Row) → newest key rows ≡ Some row → (b : Bool) → p row ≡ b
      → newest key (filter p rows) ≡ cond b (Some row) None
  by_test row found true is = passes row found is
  by_test row found false is = fails row found is (newest key (filter p rows)) refl

  by_newest : (o : Option Row) → newest key rows ≡ o → newest key (filter p rows) ≡ if_passes p o
  by_newest None none = none_passes none (newest key (filter p rows)) refl
  by_newest (Some row) found = by_test row found (p row) refl

  newest_filtered : newest key (filter p rows) ≡ if_passes p (newest key rows)
  newest_filtered = by_newest (newest key rows) refl

module _ (tables : Tables) (choice : Choice) (ranges : List KeyRange)
    (same : (key : List ℕ) → has_key ranges key ≡ is_below tables choice key) where
  bare_is : (row : Row) → is_bare ranges row ≡ is_left_out tables choice row
  unfolding is_left_out
  bare_is row = ap (λ (b : Bool). is_none row.value && not b) (same row.key)

  kept_is : (o : Option Row) → if_passes (λ (row : Row). not (is_bare ranges row)) o ≡ unless_left_out tables choice o
  kept_is None = refl
  kept_is (Some row) = by_bare (is_bare ranges row) (bare_is row)
    where
      by_bare : (b : Bool) → b ≡ is_left_out tables choice row
          → cond (not b) (Some row) None ≡ cond (is_left_out tables choice row) None (Some row)
      by_bare true is = ap (λ (c : Bool). cond c None (Some row)) is
      by_bare false is = ap (λ (c : Bool). cond c None (Some row)) is

  -- of the newest rows of the inputs those that aren't left out are what is to be written
  are_written : (inputs rows : List Row) → AreDistinct inputs → AreNewest inputs rows
      → AreWritten tables choice inputs (written_of ranges rows)
  unfolding written_of KeysAscend
  are_written inputs rows distinct are = record {
    ascend = filter_ascends (λ (row : Row). not (is_bare ranges row)) rows are.ascend;
    each = λ key. newest_filtered (λ (row : Row). not (is_bare ranges row)) rows are.ascend key
        ∙ ap (if_passes (λ (row : Row). not (is_bare ranges row))) (newest_same inputs rows distinct are key)
        ∙ kept_is (newest key inputs);
  }

-- ---- the inputs

module _ (tables : Tables) (rows : ℕ → List Row) (choice : Choice) (o : IsOrderly tables rows)
    (closed : IsClosed tables rows choice) (listed : AreListed tables rows) where
  inputs_ordered : AreInOrder rows choice.inputs
  inputs_ordered place has = let s = closed.stand place has in (listed place.number s.placed s.there).are

  inputs_distinct : AreDistinct (input_rows rows choice)
  unfolding AreDistinct
  inputs_distinct = (own_each tables rows o (input_rows rows choice) (λ row has.
      let i = input_row tables rows choice closed row has in
      record { number = i.number; placed = i.placed; there = i.read.there; has = i.has })).same

-- ---- a compaction's course

module _ {P : Type 0} (went : P → List Called → P → Type 0) (told : P → Option (ℕ → List Row)) where
  pub course_begins : ((port : P) → went port [] port) → (port : P) (tables : Tables) (choice : Choice) (c : Compaction)
      → IsNew tables choice c → IsUnderWay went told port port tables choice c
  unfolding files_after
  course_begins stays port tables choice c new = record {
    sound = new.sound;
    ranges = new.ranges;
    inputs_are = new.inputs_are;
    level_is = new.level_is;
    calls = [];
    led = stays port;
    done = [];
    over = false;
    written = new.written;
    given = λ rows told_is order. subst (λ (k : Option Row).
        HasGiven (told port) (input_rows rows choice) (option_to_list k) c.reader) (sym new.none_kept)
        (subst (λ (t : Option (ℕ → List Row)). HasGiven t (input_rows rows choice) [] c.reader) (sym told_is)
        (new.contents rows order));
  }

  pub course_goes_on : (start before now : P) (tables : Tables) (choice : Choice) (old new : Compaction)
      (fault : Option PortFault) (count : ℕ) → told now ≡ told before → IsUnderWay went told start before tables choice old
      → HasMoved went told before now old new fault count → IsSoundCompaction new
      → IsUnderWay went told start now tables choice new
  unfolding GivesMore
  course_goes_on start before now tables choice old new fault count tells u moved sound =
      let g = moved.goes u.over start u.calls u.done u.led u.written in record {
        sound = sound;
        ranges = λ key. ap (λ (ranges : List KeyRange). has_key ranges key) moved.deeper_are ∙ u.ranges key;
        inputs_are = moved.inputs_are ∙ u.inputs_are;
        level_is = moved.level_is ∙ u.level_is;
        calls = u.calls ++ g.goes.more;
        led = g.goes.led;
        done = u.done ++ moved.more;
        over = g.over;
        written = record { writing = g.goes.writing; end = g.end };
        given = λ rows told_is order.
            subst (λ (l : List Row). HasGiven (told now) (input_rows rows choice) l new.reader)
            (append_assoc u.done (option_to_list old.kept) moved.come
            ∙ ap (λ (l : List Row). u.done ++ l) (sym moved.rows)
            ∙ sym (append_assoc u.done moved.more (option_to_list new.kept)))
            (moved.contents (input_rows rows choice) (u.done ++ option_to_list old.kept)
            (u.given rows (sym tells ∙ told_is) order));
      }

  pub course_ends : (start before now : P) (tables : Tables) (rows : ℕ → List Row) (choice : Choice) (old new : Compaction)
      (edit : Edit) (count : ℕ) → told before ≡ Some rows → told now ≡ told before → IsOrderly tables rows
      → AreListed tables rows → IsClosed tables rows choice → IsUnderWay went told start before tables choice old
      → HasEnded went told before now old new edit count → IsSoundCompaction new
      → HasMade went start now tables rows choice edit
  unfolding GivesMore
  course_ends start before now tables rows choice old new edit count told_is tells o listed closed u ended sound =
      let e = ended.goes u.over start u.calls u.done u.led u.written in
      let run = (ended.contents (input_rows rows choice) (u.done ++ option_to_list old.kept)
      (u.given rows told_is (inputs_ordered tables rows choice o closed listed))).run rows (tells ∙ told_is) in
      let newest_rows = run_whole rows (input_rows rows choice) ((u.done ++ option_to_list old.kept) ++ ended.come)
      new.reader.readings.items new.reader.merge sound.reader run ended.end in
      let written = are_written tables choice old.deeper u.ranges (input_rows rows choice)
      (u.done ++ (option_to_list old.kept ++ ended.come)) (inputs_distinct tables rows choice o closed listed)
      (subst (AreNewest (input_rows rows choice)) (append_assoc u.done (option_to_list old.kept) ended.come) newest_rows) in
      record {
        calls = u.calls ++ e.later;
        led = e.led;
        outputs = e.whole.outputs;
        edit_is = record {
          written = subst (AreWritten tables choice (input_rows rows choice)) e.whole.rows written;
          ended = e.whole.ended;
          drops = ended.drops_are ∙ u.inputs_are;
          adds = subst (λ (level : ℕ). AreAdds level e.whole.outputs edit.adds) u.level_is e.whole.adds;
          log = ended.log_is;
          next = ended.next_is;
          last = ended.last_is;
        };
        files_are = e.whole.files_are;
      }
