-- What a reader has given of its tables' rows: how each call moves it on.
use Prim.Native.Nat.{zero, suc}
use Rattle.std.specs.Prelude.{◌≡◌, ◌⊎◌, ℕ, ◌<◌, ◌^◌, true, List, [], ◌∷◌, ◌++◌, get_or, length, map, take, Contains, slice_get, slice_set, Option, Some, None, option_to_list, IfSome, MatchOption}
use Rattle.std.proofs.Common.{refl, sym, ap, subst, inl, inr, ⊎_elim, ◌∙◌, arith, append-nil, append_assoc}
use Rattle.std.proofs.lemmas.Bool.{false≢true}
use Rattle.std.proofs.lemmas.List.{length-map}
use Rattle.std.proofs.lemmas.List.Elements.{All-contains, Contains-append_left, Contains-append_right, Contains-append_cases}
use Rattle.std.proofs.lemmas.Option.{slice_get_within}
use Rattle.std.specs.declared.cmp.Ordering.TheVariants.{Less}
use Rattle.lsm_rows.specs.declared.rows.Row.{Row}
use Rattle.lsm_rows.specs.Replay.{key_cmp}
use Rattle.lsm_block.specs.Runs.{comes_after, rows_after}
use Rattle.lsm_block.specs.TableText.{AreTableRows, row_entry}
use Rattle.lsm_block.proofs.Sought.{is_less}
use Rattle.lsm_version.specs.declared.tables.Place.{Place}
use Rattle.lsm_rows.specs.InternalKeys.{internal_cmp}
use Rattle.lsm_merge.specs.Merging.{Merging, IsLeft, IsInSource, IsReady, IsAhead, IsNext, IsOver, KeepsRows, with_source}
use Rattle.lsm_merge.specs.Runs.{AreNewest, IsMerged, IsToCome}
use Rattle.lsm_merge.proofs.Lending.{lent_stays}
use Rattle.lsm_merge.proofs.Lists.{set_cases, set_here, some_same, none_in_nil}
use Rattle.lsm_merge.proofs.Orders.{from_later, from_trans, not_less_itself}
use Rattle.lsm_merge.proofs.Running.{run_begins, run_grows, run_stays}
use Rattle.lsm_compact.specs.declared.input.Input.{Input}
use Rattle.lsm_compact.specs.declared.input.Input.TheVariants.{Wanting}
use Rattle.lsm_compact.specs.declared.input.Reading.{Reading}
use Rattle.lsm_compact.specs.declared.reader.Reader.{Reader}
use Rattle.lsm_compact.specs.Given.{GivesMore, HasGiven, HasRun, Whole, unread, whole_merge, whole_rows, wholes}
use Rattle.lsm_compact.specs.Reading.{left_rows, is_ended, read_to, run_len}
use Rattle.lsm_compact.specs.Readers.{AreSound, IsAtEnd, IsWanting}
use Rattle.lsm_compact.specs.Written.{rows_at}
use Rattle.lsm_compact.proofs.Members.{by_first, from_filter, from_source, has_first, has_later, source_of}
use Rattle.lsm_compact.proofs.Readers.{AreFresh, called_sound, fresh_open, held_left, none_left, some_at}
use Rattle.lsm_compact.proofs.RunOrder.{after_is_from}
use Rattle.lsm_compact.proofs.RunsOn.{none_behind, run_and_rest}

-- ---- the inputs with their unread rows

-- what stands at a place of them
record IsWholeAt (rows : ℕ → List Row) (readings : List Reading) (sources : List Input) (place : ℕ) (whole : Whole)
    : Type 0 where
  pub reading : Reading
  pub source : Input
  pub reading_is : slice_get readings place ≡ Some reading
  pub source_is : slice_get sources place ≡ Some source
  pub whole_is : whole ≡ record { input = source; behind = unread rows reading }

whole_at : (rows : ℕ → List Row) (readings : List Reading) (sources : List Input) (place : ℕ) (whole : Whole)
    → slice_get (wholes rows readings sources) place ≡ Some whole → IsWholeAt rows readings sources place whole
unfolding wholes
whole_at rows [] sources place whole is = absurd (let clash : ⊥ = cc in clash)
whole_at rows (reading ∷ readings) [] place whole is = absurd (let clash : ⊥ = cc in clash)
whole_at rows (reading ∷ readings) (source ∷ sources) zero whole is = record {
  reading = reading;
  source = source;
  reading_is = refl;
  source_is = refl;
  whole_is = sym (some_same (record { input = source; behind = unread rows reading }) whole is);
}
whole_at rows (reading ∷ readings) (source ∷ sources) (suc place) whole is =
    let at = whole_at rows readings sources place whole is in record {
      reading = at.reading;
      source = at.source;
      reading_is = at.reading_is;
      source_is = at.source_is;
      whole_is = at.whole_is;
    }

at_whole : (rows : ℕ → List Row) (readings : List Reading) (sources : List Input) (place : ℕ) (reading : Reading)
    (source : Input) → slice_get readings place ≡ Some reading → slice_get sources place ≡ Some source
    → slice_get (wholes rows readings sources) place ≡ Some (record { input = source; behind = unread rows reading })
unfolding wholes
at_whole rows [] sources place reading source reading_is source_is = absurd (let clash : ⊥ = cc in clash)
at_whole rows (first ∷ readings) [] place reading source reading_is source_is = absurd (let clash : ⊥ = cc in clash)
at_whole rows (first ∷ readings) (one ∷ sources) zero reading source reading_is source_is =
    λ i. Some (record { input = some_same one source source_is i; behind = unread rows (some_same first reading reading_is i) })
at_whole rows (first ∷ readings) (one ∷ sources) (suc place) reading source reading_is source_is =
    at_whole rows readings sources place reading source reading_is source_is

wholes_set : (rows : ℕ → List Row) (readings : List Reading) (sources : List Input) (place : ℕ) (reading : Reading)
    (source : Input) → wholes rows (slice_set readings place reading) (slice_set sources place source)
    ≡ slice_set (wholes rows readings sources) place (record { input = source; behind = unread rows reading })
unfolding wholes
wholes_set rows [] sources place reading source = refl
wholes_set rows (first ∷ readings) [] zero reading source = refl
wholes_set rows (first ∷ readings) [] (suc place) reading source = refl
wholes_set rows (first ∷ readings) (one ∷ sources) zero reading source = refl
wholes_set rows (first ∷ readings) (one ∷ sources) (suc place) reading source =
    ap (λ (l : List Whole). record { input = one; behind = unread rows first } ∷ l)
    (wholes_set rows readings sources place reading source)

-- ---- rows to come: left in the merge, or unread

-- the row wasn't read of its table
record IsUnread (rows : ℕ → List Row) (readings : List Reading) (row : Row) : Type 0 where
  pub place : ℕ
  pub reading : Reading
  pub reading_is : slice_get readings place ≡ Some reading
  pub among : Contains (unread rows reading) row

module _ (rows : ℕ → List Row) (readings : List Reading) (m : Merging Input) where
  parted : (row : Row) → IsLeft whole_rows (whole_merge rows readings m) row
      → IsLeft left_rows m row ⊎ IsUnread rows readings row
  unfolding IsLeft IsInSource
  parted row is = ⊎_elim (λ found. inl (inl found))
      (λ rest. ⊎_elim (λ held. inl (inr (inl held)))
      (λ has. let at = whole_at rows readings m.sources has.0 has.1 has.2 in
      ⊎_elim (λ left. inl (inr (inr (has.0, at.source, at.source_is, left))))
      (λ later. inr
      (record { place = has.0; reading = at.reading; reading_is = at.reading_is; among = later }))
      (Contains-append_cases (left_rows at.source) (unread rows at.reading) row
      (subst (λ (w : Whole). Contains (whole_rows w) row) at.whole_is has.3))) rest) is

  module _ (places : length readings ≡ length m.sources) where
    reading_at : (place : ℕ) (source : Input) → slice_get m.sources place ≡ Some source
        → (reading : Reading) × (slice_get readings place ≡ Some reading)
    reading_at place source is = let within = slice_get_within m.sources place source is in
        some_at readings place (omega (arith, within, places))

    source_at : (place : ℕ) (reading : Reading) → slice_get readings place ≡ Some reading
        → (source : Input) × (slice_get m.sources place ≡ Some source)
    source_at place reading is = let within = slice_get_within readings place reading is in
        some_at m.sources place (omega (arith, within, places))

    left_whole : (row : Row) → IsLeft left_rows m row → IsLeft whole_rows (whole_merge rows readings m) row
    unfolding IsLeft IsInSource
    left_whole row is = ⊎_elim (λ found. inl found)
        (λ rest. ⊎_elim (λ held. inr (inl held))
        (λ has. let at = reading_at has.0 has.1 has.2 in inr (inr (
          has.0,
          record { input = has.1; behind = unread rows at.0 },
          at_whole rows readings m.sources has.0 at.0 has.1 at.1 has.2,
          Contains-append_left (left_rows has.1) (unread rows at.0) row has.3,
        ))) rest) is

    unread_whole : (row : Row) → IsUnread rows readings row → IsLeft whole_rows (whole_merge rows readings m) row
    unfolding IsLeft IsInSource
    unread_whole row is = let at = source_at is.place is.reading is.reading_is in inr (inr (
      is.place,
      record { input = at.0; behind = unread rows is.reading },
      at_whole rows readings m.sources is.place is.reading at.0 is.reading_is at.1,
      Contains-append_right (left_rows at.0) (unread rows is.reading) row is.among,
    ))

-- ---- a call of the merge

map_at : {X Y : Type 0} (f : X → Y) (xs ys : List X) (i : ℕ) (x y : X) → map f xs ≡ map f ys → slice_get xs i ≡ Some x
    → slice_get ys i ≡ Some y → f x ≡ f y
map_at f [] ys i x y same x_is y_is = absurd (let clash : ⊥ = cc in clash)
map_at f (z ∷ xs) [] i x y same x_is y_is = absurd (let clash : ⊥ = cc in clash)
map_at f (z ∷ xs) (w ∷ ys) zero x y same x_is y_is =
    let first : f z ≡ f w = cc in ap f (sym (some_same z x x_is)) ∙ first ∙ ap f (some_same w y y_is)
map_at f (z ∷ xs) (w ∷ ys) (suc i) x y same x_is y_is =
    map_at f xs ys i x y (let rest : map f xs ≡ map f ys = cc in rest) x_is y_is

over_keeps : (a m : Merging Input) → IsOver left_rows is_ended a m → KeepsRows left_rows a m
unfolding IsLeft
over_keeps a m over = record {
  found = λ row found. absurd (over.none row (inl found));
  kept = λ row is. absurd (over.still row is);
  others = λ row is. absurd (over.none row is);
}

module _ (rows : ℕ → List Row) (inputs given : List Row) (readings : List Reading) (a m : Merging Input)
    (sound : AreSound readings a) (ready : IsReady left_rows is_ended m) (ahead : IsAhead left_rows is_ended a m)
    (same : map is_ended m.sources ≡ map is_ended a.sources) (run : HasRun rows inputs given readings a) where
  now_places : length readings ≡ length m.sources
  now_places = sound.places ∙ sym ahead.count

  still_ends : (place : ℕ) (reading : Reading) (source : Input) → slice_get readings place ≡ Some reading
      → slice_get m.sources place ≡ Some source → is_ended source ≡ true → unread rows reading ≡ []
  still_ends place reading source reading_is source_is ended =
      let was = source_at rows readings a sound.places place reading reading_is in
      run.ends place reading was.0 reading_is was.1
      (sym (map_at is_ended m.sources a.sources place source was.0 same source_is was.1) ∙ ended)

  call_stays : KeepsRows left_rows a m → HasRun rows inputs given readings m
  call_stays keeps = record {
    order = run.order;
    merged = run_stays whole_rows inputs given (whole_merge rows readings a) (whole_merge rows readings m) run.merged (record {
      found = keeps.found;
      kept = λ row is. ⊎_elim (λ left. left_whole rows readings a sound.places row (keeps.kept row left))
          (λ later. unread_whole rows readings a sound.places row later) (parted rows readings m row is);
      others = λ row is. ⊎_elim
          (λ left. ⊎_elim (λ stays. inl (left_whole rows readings m now_places row stays)) (λ outdone. inr outdone)
          (keeps.others row left))
          (λ later. inl (unread_whole rows readings m now_places row later)) (parted rows readings a row is);
    });
    ends = still_ends;
  }

  module _ (row : Row) (next : IsNext left_rows a row m) (asked : m.asked ≡ length m.sources) where
    -- an unread row comes behind the one that is held of its input
    unread_later : (other : Row) → IsUnread rows readings other → key_cmp row.key other.key ≡ Less
    unfolding rows_after
    unread_later other is =
        let at = source_at rows readings m now_places is.place is.reading is.reading_is in
        let within = slice_get_within m.sources is.place at.0 at.1 in
        let after = from_filter (λ (r : Row). comes_after is.reading.after (row_entry r).key) (rows is.reading.number) other
        is.among in
        let small = All-contains (λ (r : Row). r.sequence < 2 ^ 56) (rows is.reading.number) other
        (run.order is.place is.reading is.reading_is).sequences after.0 in
        ⊎_elim
        (λ ended. absurd (none_in_nil other (subst (λ (l : List Row). Contains l other)
        (still_ends is.place is.reading at.0 is.reading_is at.1 ended) is.among)))
        (λ head.
        let now = called_sound readings a m ready ahead (λ r left. (next.kept r left).0) sound in
        let read = now.held head.0 is.reading head.1 (ap (slice_get readings) head.2 ∙ is.reading_is) in
        from_later row.key head.0.row other (next.kept head.0.row (held_left m head.0 head.1)).1
        (from_trans head.0.row read.last other read.from
        (after_is_from read.last other read.small small
        (is_less (internal_cmp (row_entry read.last).key (row_entry other).key)
        (ap (λ (k : Option (List ℕ)). comes_after k (row_entry other).key) (sym read.after_is) ∙ after.1)))))
        (ready.met is.place at.0 (omega (arith, within, asked)) at.1)

    call_gives : HasRun rows inputs (given ++ row ∷ []) readings m
    call_gives = record {
      order = run.order;
      merged = run_grows whole_rows inputs given (whole_merge rows readings a) (whole_merge rows readings m) row run.merged
          (record {
            among = left_whole rows readings a sound.places row next.among;
            newest = λ other is key. ⊎_elim (λ left. next.newest other left key)
                (λ later. absurd (not_less_itself row.key
                (ap (key_cmp row.key) (sym key) ∙ unread_later other later))) (parted rows readings a other is);
            kept = λ other is. ⊎_elim
                (λ left. let k = next.kept other left in (left_whole rows readings a sound.places other k.0, k.1))
                (λ later. (unread_whole rows readings a sound.places other later, unread_later other later))
                (parted rows readings m other is);
            others = λ other is. ⊎_elim
                (λ left. ⊎_elim (λ key. inl key) (λ stays. inr (left_whole rows readings m now_places other stays))
                (next.others other left))
                (λ later. inr (unread_whole rows readings m now_places other later)) (parted rows readings a other is);
          });
      ends = still_ends;
    }

  -- the merge gave a row, or is over
  call_answers : (next : Option Row) → MatchOption next (IsOver left_rows is_ended a m) (λ row. IsNext left_rows a row m)
      → m.asked ≡ length m.sources → HasRun rows inputs (given ++ option_to_list next) readings m
  call_answers None over asked = subst (λ (l : List Row). HasRun rows inputs l readings m) (sym (append-nil given))
      (call_stays (over_keeps a m over))
  call_answers (Some row) next asked = call_gives row next asked

-- ---- a run that was read

module _ (rows : ℕ → List Row) (inputs given : List Row) (readings : List Reading) (m : Merging Input) (place : ℕ)
    (run : List Row) (reading now : Reading) (source : Input) (wanting : IsWanting m place)
    (at : slice_get readings place ≡ Some reading) (has : HasRun rows inputs given readings m)
    (is : run ≡ take run_len (unread rows reading)) (after : now.after ≡ read_to reading.after run)
    (number : now.number ≡ reading.number) (filled : left_rows source ≡ run)
    (ended : is_ended source ≡ true → run ≡ []) where
  now_order : AreTableRows (rows now.number)
  now_order = subst (λ (n : ℕ). AreTableRows (rows n)) (sym number) (has.order place reading at)

  rest_is : run ++ unread rows now ≡ unread rows reading
  rest_is = ap (λ (n : ℕ). run ++ rows_after now.after (rows n)) number
      ∙ run_and_rest run_len reading.after (rows reading.number) (has.order place reading at).ascend run now.after is after

  now_ends : run ≡ [] → unread rows now ≡ []
  now_ends none = ap (λ (n : ℕ). rows_after now.after (rows n)) number
      ∙ none_behind 15 reading.after now.after (rows reading.number) run is after none

  pub run_filled : HasRun rows inputs given (slice_set readings place now) (with_source m place source)
  run_filled = record {
    order = λ p one there. ⊎_elim (λ same. subst (λ (d : Reading). AreTableRows (rows d.number)) (sym same.1) now_order)
        (λ was. has.order p one was) (set_cases readings place now p one there);
    merged = subst (λ (l : List Whole). IsMergedNow l) (sym (wholes_set rows readings m.sources place now source))
        (lent_stays whole_rows (whole_merge rows readings m) place
        (record { input = Wanting wanting.why; behind = unread rows reading })
        (record { input = source; behind = unread rows now })
        (at_whole rows readings m.sources place reading (Wanting wanting.why) at wanting.source_is)
        (ap (λ (l : List Row). l ++ unread rows now) filled ∙ rest_is) inputs given has.merged);
    ends = λ p one from there here e. ⊎_elim
        (λ same. ends_here p one from there here e same.0)
        (λ was. ⊎_elim
        (λ same. ends_here p one from there here e same.0)
        (λ old. has.ends p one from was old e) (set_cases m.sources place source p from here))
        (set_cases readings place now p one there);
  }
    where
      IsMergedNow : List Whole → Type 0
      IsMergedNow l = IsMerged whole_rows inputs given
          (record { found = m.found; heads = m.heads; asked = m.asked; sources = l })

      ends_here : (p : ℕ) (one : Reading) (from : Input) → slice_get (slice_set readings place now) p ≡ Some one
          → slice_get (slice_set m.sources place source) p ≡ Some from → is_ended from ≡ true → p ≡ place
          → unread rows one ≡ []
      ends_here p one from there here e same =
          let one_is : now ≡ one = some_same now one
          (sym (set_here readings place reading now at) ∙ ap (slice_get (slice_set readings place now)) (sym same)
          ∙ there) in
          let from_is : source ≡ from = some_same source from
          (sym (set_here m.sources place (Wanting wanting.why) source wanting.source_is)
          ∙ ap (slice_get (slice_set m.sources place source)) (sym same) ∙ here) in
          ap (unread rows) (sym one_is) ∙ now_ends (ended (ap is_ended from_is ∙ e))

-- ---- the begin, and the end

-- a table of which nothing was read
abbrev pub start : Place → Reading
start place = record { number = place.number; after = None }

-- the tables at these places, of which nothing was read
abbrev pub started : List Place → List Reading
started places = map start places

started_at : (places : List Place) (i : ℕ) (reading : Reading) → slice_get (started places) i ≡ Some reading
    → (place : Place) × Contains places place × (reading ≡ record { number = place.number; after = None })
started_at [] i reading is = absurd (let clash : ⊥ = cc in clash)
started_at (place ∷ places) zero reading is =
    (place, has_first place places, sym (some_same (record { number = place.number; after = None }) reading is))
started_at (place ∷ places) (suc i) reading is =
    let more = started_at places i reading is in (more.0, has_later place places more.0 more.1, more.2)

at_started : (places : List Place) (place : Place) → Contains places place
    → (i : ℕ) × (slice_get (started places) i ≡ Some (record { number = place.number; after = None }))
at_started [] place has = absurd (none_in_nil place has)
at_started (first ∷ places) place has = ⊎_elim
    (λ same. (0, ap (λ (p : Place). Some (record { number = p.number; after = None })) same))
    (λ rest. let more = at_started places place rest in (suc more.0, more.1)) (by_first first places place has)

-- of a table of which nothing was read all rows are unread
all_unread : (rows : List Row) → rows_after None rows ≡ rows
unfolding rows_after
all_unread [] = refl
all_unread (row ∷ rows) = ap (λ (l : List Row). row ∷ l) (all_unread rows)

-- the merge of inputs of which nothing was read
abbrev pub new_merge : List Input → Merging Input
new_merge sources = record { found = None; heads = []; asked = 0; sources = sources }

module _ (rows : ℕ → List Row) (places : List Place) (sources : List Input) (long : length sources ≡ length places)
    (fresh : AreFresh sources) (order : (place : Place) → Contains places place → AreTableRows (rows place.number)) where
  new_places : length (started places) ≡ length sources
  new_places = length-map places start ∙ sym long

  new_order : (i : ℕ) (reading : Reading) → slice_get (started places) i ≡ Some reading → AreTableRows (rows reading.number)
  new_order i reading is = let at = started_at places i reading is in
      subst (λ (d : Reading). AreTableRows (rows d.number)) (sym at.2) (order at.0 at.1)

  all_read : (row : Row) → IsUnread rows (started places) row → Contains (rows_at rows places) row
  all_read row is = let at = started_at places is.place is.reading is.reading_is in
      from_source (λ (place : Place). rows place.number) places at.0 row at.1
      (subst (λ (l : List Row). Contains l row) (all_unread (rows at.0.number))
      (subst (λ (d : Reading). Contains (unread rows d) row) at.2 is.among))

  none_read : (row : Row) → Contains (rows_at rows places) row → IsUnread rows (started places) row
  none_read row has =
      let from = source_of (λ (place : Place). rows place.number) places row has in
      let at = at_started places from.of from.among in record {
        place = at.0;
        reading = record { number = from.of.number; after = None };
        reading_is = at.1;
        among = subst (λ (l : List Row). Contains l row) (sym (all_unread (rows from.of.number))) from.has;
      }

  pub run_new : HasRun rows (rows_at rows places) [] (started places) (new_merge sources)
  run_new = record {
    order = new_order;
    merged = run_begins whole_rows (rows_at rows places) (whole_merge rows (started places) (new_merge sources))
        (λ row is. ⊎_elim (λ left. absurd (none_left sources fresh row left)) (λ later. all_read row later)
        (parted rows (started places) (new_merge sources) row is))
        (λ row has. unread_whole rows (started places) (new_merge sources) new_places row (none_read row has));
    ends = λ place reading source reading_is source_is ended.
        absurd (false≢true (sym (fresh_open sources fresh place source source_is) ∙ ended));
  }

-- where no row is left and all inputs are at their end, the newest row of each user key was given
pub run_whole : (rows : ℕ → List Row) (inputs given : List Row) (readings : List Reading) (m : Merging Input)
    → AreSound readings m → HasRun rows inputs given readings m → IsAtEnd m → AreNewest inputs given
unfolding IsToCome
run_whole rows inputs given readings m sound run end = record {
  ascend = run.merged.ascend;
  newest = run.merged.newest;
  all = λ row is. ⊎_elim (λ key. key)
      (λ come. absurd (⊎_elim (λ left. end.none come.0 left)
      (λ later. let at = source_at rows readings m sound.places later.place later.reading later.reading_is in
      none_in_nil come.0 (subst (λ (l : List Row). Contains l come.0)
      (run.ends later.place later.reading at.0 later.reading_is at.1 (end.ends later.place at.0 at.1)) later.among))
      (parted rows readings m come.0 come.1))) (run.merged.all row is);
}

-- ---- one call after another

pub gives_none : (before now : Option (ℕ → List Row)) (r : Reader) → now ≡ before → GivesMore before r now r []
unfolding GivesMore
gives_none before now r same inputs given was = record {
  run = λ rows told. subst (λ (l : List Row). HasRun rows inputs l r.readings.items r.merge) (sym (append-nil given))
      (was.run rows (sym same ∙ told));
}

pub gives_then : (a b c : Option (ℕ → List Row)) (r s t : Reader) (xs ys : List Row) → GivesMore a r b s xs
    → GivesMore b s c t ys → GivesMore a r c t (xs ++ ys)
unfolding GivesMore
gives_then a b c r s t xs ys first second inputs given was =
    subst (λ (l : List Row). HasGiven c inputs l t) (append_assoc given xs ys)
    (second inputs (given ++ xs) (first inputs given was))

pub gives_as : (before now : Option (ℕ → List Row)) (r s : Reader) (o next : Option Row) → o ≡ next
    → GivesMore before r now s (option_to_list o) → GivesMore before r now s (option_to_list next)
gives_as before now r s o next is gives = subst (λ (p : Option Row). GivesMore before r now s (option_to_list p)) is gives

-- a call that gave a run on has given the rows more
pub gives_run : (before now : Option (ℕ → List Row)) (r s : Reader) (more : List Row) → now ≡ before
    → ((rows : ℕ → List Row) (inputs given : List Row) → before ≡ Some rows
    → HasRun rows inputs given r.readings.items r.merge → HasRun rows inputs (given ++ more) s.readings.items s.merge)
    → GivesMore before r now s more
unfolding GivesMore
gives_run before now r s more same step inputs given was = record {
  run = λ rows told. let told_was = sym same ∙ told in step rows inputs given told_was (was.run rows told_was);
}

-- ---- a call of the merge, and a run that was read

module _ (told : Option (ℕ → List Row)) (r : Reader) (m : Merging Input) (sound : AreSound r.readings.items r.merge)
    (ready : IsReady left_rows is_ended m) (ahead : IsAhead left_rows is_ended r.merge m)
    (same : map is_ended m.sources ≡ map is_ended r.merge.sources) where
  pub refused_gives : KeepsRows left_rows r.merge m → GivesMore told r told (record r { merge = m }) []
  refused_gives keeps = gives_run told told r (record r { merge = m }) [] refl (λ rows inputs given told_is run.
      subst (λ (l : List Row). HasRun rows inputs l r.readings.items m) (sym (append-nil given))
      (call_stays rows inputs given r.readings.items r.merge m sound ready ahead same run keeps))

  pub answer_gives : (next : Option Row)
      → MatchOption next (IsOver left_rows is_ended r.merge m) (λ row. IsNext left_rows r.merge row m)
      → m.asked ≡ length m.sources → GivesMore told r told (record r { merge = m }) (option_to_list next)
  answer_gives next answer asked = gives_run told told r (record r { merge = m }) (option_to_list next) refl
      (λ rows inputs given told_is run.
      call_answers rows inputs given r.readings.items r.merge m sound ready ahead same run next answer asked)

-- the reader has read a run more of one of its inputs
pub filled_gives : (before now : Option (ℕ → List Row)) (r s : Reader) (place : ℕ) (run : List Row)
    (reading after : Reading) (source : Input) → IsWanting r.merge place → slice_get r.readings.items place ≡ Some reading
    → now ≡ before → s.readings.items ≡ slice_set r.readings.items place after → s.merge ≡ with_source r.merge place source
    → IfSome before (λ rows. run ≡ take run_len (unread rows reading)) → after.after ≡ read_to reading.after run
    → after.number ≡ reading.number → left_rows source ≡ run → (is_ended source ≡ true → run ≡ [])
    → GivesMore before r now s []
filled_gives before now r s place run reading after source wanting at same readings merge is to number filled ended =
    gives_run before now r s [] same (λ rows inputs given told has.
    subst (λ (l : List Row). HasRun rows inputs l s.readings.items s.merge) (sym (append-nil given))
    (subst (λ (ds : List Reading). HasRun rows inputs given ds s.merge) (sym readings)
    (subst (λ (m : Merging Input). HasRun rows inputs given (slice_set r.readings.items place after) m) (sym merge)
    (run_filled rows inputs given r.readings.items r.merge place run reading after source wanting at has
    (subst (λ (o : Option (ℕ → List Row)). IfSome o (λ t. run ≡ take run_len (unread t reading))) told is) to number
    filled ended))))

set_same : {X : Type 0} (xs : List X) (i : ℕ) (x : X) → x ≡ get_or xs i x → slice_set xs i x ≡ xs
set_same [] i x is = refl
set_same (y ∷ xs) zero x is = ap (λ (z : _). z ∷ xs) is
set_same (y ∷ xs) (suc i) x is = ap (λ (l : List _). y ∷ l) (set_same xs i x is)

-- a run could not be read, and its input is read as far as it was
pub unread_gives : (before now : Option (ℕ → List Row)) (r s : Reader) (place : ℕ) (reading after : Reading) → now ≡ before
    → s.readings.items ≡ slice_set r.readings.items place after → s.merge ≡ r.merge → after ≡ reading
    → reading ≡ get_or r.readings.items place reading → GivesMore before r now s []
unread_gives before now r s place reading after same readings merge is at =
    gives_run before now r s [] same (λ rows inputs given told has.
    subst (λ (l : List Row). HasRun rows inputs l s.readings.items s.merge) (sym (append-nil given))
    (subst (λ (ds : List Reading). HasRun rows inputs given ds s.merge)
    (sym (readings ∙ ap (slice_set r.readings.items place) is ∙ set_same r.readings.items place reading at))
    (subst (λ (m : Merging Input). HasRun rows inputs given r.readings.items m) (sym merge) has)))

-- the reader that was made has given nothing
pub new_gives : (rows : ℕ → List Row) (places : List Place) (sources : List Input) (r : Reader)
    → r.readings.items ≡ started places
    → r.merge ≡ new_merge sources
    → length sources ≡ length places → AreFresh sources
    → ((place : Place) → Contains places place → AreTableRows (rows place.number))
    → HasGiven (Some rows) (rows_at rows places) [] r
new_gives rows places sources r readings merge long fresh order = record {
  run = λ told is.
      subst (λ (t : ℕ → List Row). HasRun t (rows_at rows places) [] r.readings.items r.merge) (some_same rows told is)
      (subst (λ (ds : List Reading). HasRun rows (rows_at rows places) [] ds r.merge) (sym readings)
      (subst (λ (m : Merging Input). HasRun rows (rows_at rows places) [] (started places) m) (sym merge)
      (run_new rows places sources long fresh order)));
}
