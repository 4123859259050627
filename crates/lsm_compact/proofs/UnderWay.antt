-- A compaction under way stays sound.
use Rattle.std.specs.Prelude.{◌≡◌, ℕ, ◌<◌, Bool, true, false, List, [], ◌∷◌, ◌++◌, length, map, take, Contains, Some, None, OnOk, OnErr, Result, Ok, Err}
use Rattle.std.proofs.Common.{refl, sym, ap, subst, inl, ⊎_elim, ◌∙◌, arith, length-append}
use Rattle.std.proofs.lemmas.Bool.{cases_lt}
use Rattle.std.proofs.lemmas.List.{take-append-le, take_all}
use Rattle.std.proofs.lemmas.List.Elements.{All-push, Contains-push_cases}
use Rattle.std.specs.List.{AllByRecursion}
use Rattle.std.specs.List.Sorted.{IsStrictlySortedBy}
use Rattle.std.specs.declared.cmp.Ordering.TheVariants.{Less}
use Rattle.lsm_rows.specs.declared.rows.Row.{Row}
use Rattle.lsm_rows.specs.Replay.{key_cmp}
use Rattle.lsm_version.specs.declared.choices.Choice.{Choice}
use Rattle.lsm_version.specs.declared.tables.Place.{Place}
use Rattle.lsm_version.specs.Levels.{Tables}
use Rattle.lsm_compact.specs.declared.compaction.Compaction.{Compaction}
use Rattle.lsm_compact.specs.declared.outputs.Outputs.{Outputs}
use Rattle.lsm_compact.specs.declared.outputs.Stage.{Stage}
use Rattle.lsm_compact.specs.declared.outputs.Stage.TheVariants.{Closed, Open, Ending, Sealing}
use Rattle.lsm_compact.specs.declared.port.CompactFault.{CompactFault}
use Rattle.lsm_compact.specs.declared.reader.Reader.{Reader}
use Rattle.lsm_compact.specs.Building.{AreRows}
use Rattle.lsm_compact.specs.Calls.{IsRowOfStore, no_files}
use Rattle.lsm_compact.specs.Compacting.{HasAdded, IsKeptRow, IsNew, IsSoundCompaction, IsUsedUp, is_bare}
use Rattle.lsm_compact.specs.Given.{AreInOrder, HasGiven}
use Rattle.lsm_compact.specs.Outputs.{is_full}
use Rattle.lsm_compact.specs.Ranges.{has_key}
use Rattle.lsm_compact.specs.Readers.{IsGivenRow, IsLater, IsPast, IsSoundReader}
use Rattle.lsm_compact.specs.Writing.{CanAdd, CanEnd, HasNoMore, HasRow, IsBegun, IsSettled, IsSound, IsWriting, MayEnd, open_rows}
use Rattle.lsm_compact.specs.Written.{is_below, rows_at}
use Rattle.lsm_compact.proofs.Ascending.{Ascend}
use Rattle.lsm_compact.proofs.Compacts.{written_none}
use Rattle.lsm_compact.proofs.Keys.{untrue}
use Rattle.lsm_compact.proofs.Members.{nothing, has_first, has_later}
use Rattle.lsm_compact.proofs.Stages.{none_now}

-- ---- a row behind those of a table

below_push : (k : List ℕ) (rows : List Row) (row : Row)
    → AllByRecursion (λ l. key_cmp k l ≡ Less) (map (λ (r : Row). r.key) rows) → key_cmp k row.key ≡ Less
    → AllByRecursion (λ l. key_cmp k l ≡ Less) (map (λ (r : Row). r.key) (rows ++ row ∷ []))
below_push k [] row all less = (less, tt)
below_push k (r ∷ rows) row all less = (all.0, below_push k rows row all.1 less)

ascend_push : (rows : List Row) (row : Row) → Ascend rows
    → ((other : Row) → Contains rows other → key_cmp other.key row.key ≡ Less) → Ascend (rows ++ row ∷ [])
unfolding IsStrictlySortedBy
ascend_push [] row ascend behind = (tt, tt)
ascend_push (r ∷ rows) row ascend behind = (
  below_push r.key rows row ascend.0 (behind r (has_first r rows)),
  ascend_push rows row ascend.1 (λ other has. behind other (has_later r rows other has)),
)

open_before : (rows : List Row) (row : Row) → ((count : ℕ) → count < length rows → is_full (take count rows) ≡ false)
    → is_full rows ≡ false → (count : ℕ) → count < length (rows ++ row ∷ []) → is_full (take count (rows ++ row ∷ [])) ≡ false
open_before rows row before open_now count within =
    let long = length-append rows (row ∷ []) in
    ap is_full (take-append-le count rows (row ∷ []) (omega (arith, long, within)))
    ∙ ⊎_elim (λ inside. before count inside)
    (λ at_end. ap is_full (take_all count rows (omega (arith, at_end))) ∙ open_now) (cases_lt count (length rows))

rows_push : (rows : List Row) (row : Row) → AreRows rows → is_full rows ≡ false → IsRowOfStore row
    → ((other : Row) → Contains rows other → key_cmp other.key row.key ≡ Less) → AreRows (rows ++ row ∷ [])
rows_push rows row are open_now of_store behind = record {
  ascend = ascend_push rows row are.ascend behind;
  each = All-push IsRowOfStore rows row are.each of_store;
  before = open_before rows row are.before open_now;
}

can_add : (stage : Stage) (row : Row) → IsSound false stage → IsBegun stage → IsRowOfStore row
    → ((other : Row) → Contains (open_rows stage) other → key_cmp other.key row.key ≡ Less) → CanAdd row stage
can_add Closed row sound begun of_store behind = begun
can_add (Open table piece ended) row sound begun of_store behind =
    (sound.whole_is refl begun.1, begun.0, sound.ended_is, rows_push table.rows row sound.rows_are begun.1 of_store behind)
can_add (Ending number tail) row sound begun of_store behind = begun
can_add (Sealing number) row sound begun of_store behind = begun

-- ---- what may be ended

pub can_end : (stage : Stage) → IsSettled stage → HasRow stage → CanEnd stage
can_end Closed settled some = tt
can_end (Open table piece ended) settled some = (some, settled.0)
can_end (Ending number tail) settled some = tt
can_end (Sealing number) settled some = tt

pub may_end : (stage : Stage) → MayEnd true stage
may_end Closed = tt
may_end (Open table piece ended) = inl refl
may_end (Ending number tail) = tt
may_end (Sealing number) = tt

-- ---- the outputs' calls

still_open : (old new : Stage) → HasNoMore old new → (row : Row) → Contains (open_rows new) row → Contains (open_rows old) row
unfolding HasNoMore
still_open old new kept row has = ⊎_elim (λ same. subst (λ (l : List Row). Contains l row) same has)
    (λ none. absurd (nothing row (subst (λ (l : List Row). Contains l row) none has))) kept.0

still_some : (old new : Stage) → HasNoMore old new → HasRow old → HasRow new
unfolding HasNoMore
still_some old new kept = kept.1

some_of : (stage : Stage) (rows : List Row) (row : Row) → open_rows stage ≡ rows ++ row ∷ [] → HasRow stage
some_of Closed rows row is = tt
some_of (Open table piece ended) rows row is =
    let long = ap (length {A = Row}) is ∙ length-append rows (row ∷ []) in omega (arith, long)
some_of (Ending number tail) rows row is = tt
some_of (Sealing number) rows row is = tt

module _ (c : Compaction) (s : IsSoundCompaction c) where
  -- what is written may be ended, where no row is kept
  pub ends : IsUsedUp c → IsSettled c.outputs.stage → CanEnd c.outputs.stage
  ends used settled = can_end c.outputs.stage settled
      (s.some (λ row is. absurd (let none = used.0 in let clash : ⊥ = cc in clash)))

  outputs_so : (o : Outputs) (over : Bool) → (over ≡ true → IsUsedUp c) → IsSound over o.stage
      → HasNoMore c.outputs.stage o.stage → IsSoundCompaction (record c { outputs = o })
  outputs_so o over end stage same = record {
    reader = s.reader;
    over = over;
    stage = stage;
    end = end;
    kept = λ row is. let k = s.kept row is in record {
      of_store = k.of_store;
      past = k.past;
      behind = λ other has. k.behind other (still_open c.outputs.stage o.stage same other has);
    };
    past = λ row has. s.past row (still_open c.outputs.stage o.stage same row has);
    some = λ all. still_some c.outputs.stage o.stage same (s.some all);
  }

  pub outputs_sound : (o : Outputs) → ((over : Bool) → IsSound over c.outputs.stage → IsSound over o.stage)
      → HasNoMore c.outputs.stage o.stage → IsSoundCompaction (record c { outputs = o })
  outputs_sound o sound same = outputs_so o s.over s.end (sound s.over s.stage) same

  pub closed_sound : (o : Outputs) → IsUsedUp c
      → ((over next : Bool) → (over ≡ true → next ≡ true) → MayEnd next c.outputs.stage → IsSound over c.outputs.stage
      → IsSound next o.stage) → HasNoMore c.outputs.stage o.stage → IsSoundCompaction (record c { outputs = o })
  closed_sound o used sound same =
      outputs_so o true (λ _. used) (sound s.over true (λ _. refl) (may_end c.outputs.stage) s.stage) same

  pub finished_sound : (o : Outputs) → IsUsedUp c → o.stage ≡ Closed → IsSoundCompaction (record c { outputs = o })
  finished_sound o used closed = outputs_so o true (λ _. used) (subst (λ (t : Stage). IsSound true t) (sym closed) tt)
      (subst (HasNoMore c.outputs.stage) (sym closed) (none_now c.outputs.stage Closed refl tt))

  -- a row is kept that is to be written
  module _ (row : Row) (kept : c.kept ≡ Some row) where
    pub rows_follow : s.over ≡ false
    rows_follow = open_now s.over s.end
      where
        open_now : (over : Bool) → (over ≡ true → IsUsedUp c) → over ≡ false
        open_now true end = absurd (let none = (end refl).0 in let clash : ⊥ = cc in clash)
        open_now false end = refl

    pub begun_sound : (o : Outputs) → is_bare c.deeper row ≡ false
        → ((over : Bool) → IsSound over c.outputs.stage → IsSound over o.stage)
        → open_rows o.stage ≡ open_rows c.outputs.stage → IsSoundCompaction (record c { outputs = o })
    begun_sound o full sound rows = record {
      reader = s.reader;
      over = s.over;
      stage = sound s.over s.stage;
      end = s.end;
      kept = λ r is. subst (λ (l : List Row). IsKeptRow c.reader.merge l r) (sym rows) (s.kept r is);
      past = λ r has. s.past r (subst (λ (l : List Row). Contains l r) rows has);
      some = λ all. absurd (untrue (sym full ∙ all row kept));
    }

    pub begun_add : (stage : Stage) → ((over : Bool) → IsSound over c.outputs.stage → IsSound over stage)
        → open_rows stage ≡ open_rows c.outputs.stage → IsBegun stage → CanAdd row stage
    begun_add stage sound rows begun = let k = s.kept row kept in
        can_add stage row (subst (λ (b : Bool). IsSound b stage) rows_follow (sound s.over s.stage)) begun k.of_store
        (λ other has. k.behind other (subst (λ (l : List Row). Contains l other) rows has))

    pub added_sound : (o : Outputs) → HasAdded c.outputs o row → IsSoundCompaction (record c { kept = None; outputs = o })
    added_sound o added = record {
      reader = s.reader;
      over = false;
      stage = added.sound;
      end = λ is. absurd (untrue is);
      kept = λ r is. absurd (let clash : ⊥ = cc in clash);
      past = λ r has. ⊎_elim (λ was. s.past r was)
          (λ same. subst (λ (x : Row). IsPast x.key c.reader.merge) same (s.kept row kept).past)
          (Contains-push_cases (open_rows c.outputs.stage) row r (subst (λ (l : List Row). Contains l r) added.rows has));
      some = λ _. some_of o.stage (open_rows c.outputs.stage) row added.rows;
    }

    pub left_sound : is_bare c.deeper row ≡ true → IsSoundCompaction (record c { kept = None })
    left_sound bare = record {
      reader = s.reader;
      over = s.over;
      stage = s.stage;
      end = λ is. (refl, (s.end is).1);
      kept = λ r is. absurd (let clash : ⊥ = cc in clash);
      past = s.past;
      some = λ _. s.some (λ r is. subst (λ (x : Row). is_bare c.deeper x ≡ true) (same_row row r (sym kept ∙ is)) bare);
    }
      where
        same_row : (a b : Row) → Some a ≡ Some b → a ≡ b
        same_row a b is = cc

  -- ---- the reader's calls

  pub read_sound : (r : Reader) → IsSoundReader r → IsLater c.reader.merge r.merge
      → IsSoundCompaction (record c { reader = r })
  read_sound r sound later = record {
    reader = sound;
    over = s.over;
    stage = s.stage;
    end = λ is. ((s.end is).0, later.end (s.end is).1);
    kept = λ row is. let k = s.kept row is in
        record { of_store = k.of_store; past = later.past row.key k.past; behind = k.behind };
    past = λ row has. later.past row.key (s.past row has);
    some = s.some;
  }

  pub taken_sound : (r : Reader) (row : Row) → c.kept ≡ None → IsSoundReader r → IsLater c.reader.merge r.merge
      → IsGivenRow c.reader.merge row r.merge → IsSoundCompaction (record c { reader = r; kept = Some row })
  taken_sound r row none sound later given = record {
    reader = sound;
    over = s.over;
    stage = s.stage;
    end = λ is. absurd (given.more (s.end is).1);
    kept = λ other is. subst (λ (x : Row). IsKeptRow r.merge (open_rows c.outputs.stage) x) (same_row row other is) (record {
      of_store = given.of_store;
      past = given.past;
      behind = λ before has. given.behind before.key (s.past before has);
    });
    past = λ other has. later.past other.key (s.past other has);
    some = λ _. s.some (λ other is. absurd (let clash : ⊥ = cc in clash));
  }
    where
      same_row : (a b : Row) → Some a ≡ Some b → a ≡ b
      same_row a b is = cc

-- ---- the kept row is written, or stays kept

pub kept_sound : (b c : Compaction) (row : Row) (result : Result (Unit {0}) CompactFault) → IsSoundCompaction b
    → b.kept ≡ Some row
    → OnOk result ((r : Row) → b.kept ≡ Some r → HasAdded b.outputs c.outputs r)
    → OnOk result (c ≡ record b { kept = None; outputs = c.outputs }) → OnErr result (c ≡ b) → IsSoundCompaction c
kept_sound b c row (Ok done) sound kept added ok err =
    subst IsSoundCompaction (sym ok) (added_sound b sound row kept c.outputs (added row kept))
kept_sound b c row (Err fault) sound kept added ok err = subst IsSoundCompaction (sym err) sound

-- ---- a new compaction

pub new_is : (tables : Tables) (choice : Choice) (c : Compaction) (places : List Place) → IsSoundReader c.reader
    → places ≡ choice.inputs
    → ((rows : ℕ → List Row) → AreInOrder rows places → HasGiven (Some rows) (rows_at rows places) [] c.reader)
    → c.kept ≡ None
    → c.outputs.stage ≡ Closed → ((key : List ℕ) → has_key c.deeper key ≡ is_below tables choice key)
    → c.inputs ≡ choice.inputs → c.outputs.level ≡ choice.output → IsWriting false c.outputs no_files []
    → IsNew tables choice c
new_is tables choice c places reader same contents none closed ranges inputs level writing = record {
  sound = record {
    reader = reader;
    over = false;
    stage = subst (λ (t : Stage). IsSound false t) (sym closed) tt;
    end = λ is. absurd (untrue is);
    kept = λ row is. absurd (let clash : ⊥ = cc in clash);
    past = λ row has. absurd (nothing row (subst (λ (t : Stage). Contains (open_rows t) row) closed has));
    some = λ _. subst HasRow (sym closed) tt;
  };
  ranges = ranges;
  inputs_are = inputs;
  level_is = level;
  none_kept = none;
  contents = subst (λ (l : List Place). (rows : ℕ → List Row) → AreInOrder rows l
      → HasGiven (Some rows) (rows_at rows l) [] c.reader) same contents;
  written = record {
    writing = subst (λ (l : List Row). IsWriting false c.outputs no_files l) (sym (written_none c.deeper)) writing;
    end = λ is. absurd (untrue is);
  };
}
