-- A compaction keeps the order of the tables.
use Rattle.std.specs.Prelude.{◌≡◌, ◌⊎◌, ◌≢◌, ℕ, ◌<◌, ◌≤◌, Bool, true, false, ◌&&◌, List, [], ◌∷◌, length, map, All, Contains, Some, ◌^◌}
use Rattle.std.proofs.Common.{refl, sym, ap, subst, inl, inr, ◌∙◌, arith}
use Rattle.std.proofs.lemmas.List.Elements.{All-contains}
use Rattle.std.specs.Ordering.{is_le}
use Rattle.std.specs.declared.cmp.Ordering.TheVariants.{Less}
use Rattle.std.specs.FinMap as finite
use Rattle.lsm_rows.specs.declared.rows.Row.{Row}
use Rattle.lsm_rows.specs.InternalKeys.{user_key}
use Rattle.lsm_rows.specs.Replay.{key_cmp}
use Rattle.lsm_block.specs.Parts.{last_key}
use Rattle.lsm_block.specs.TableText.{row_entry}
use Rattle.lsm_version.specs.declared.choices.Choice.{Choice}
use Rattle.lsm_version.specs.declared.edits.Edit.{Edit}
use Rattle.lsm_version.specs.declared.tables.Add.{Add}
use Rattle.lsm_version.specs.declared.tables.Placed.{Placed}
use Rattle.lsm_version.specs.declared.tables.TableInfo.{TableInfo}
use Rattle.lsm_version.specs.Levels.{Tables, overlap}
use Rattle.lsm_compact.specs.Closed.{IsClosed, IsOutside}
use Rattle.lsm_compact.specs.Installed.{KeepsRows, IsInstalled, added_rows}
use Rattle.lsm_compact.specs.Orderly.{IsOrderly, IsListed, AreListed, in_range}
use Rattle.lsm_compact.specs.Outputs.{IsEditOf, IsOutput, IsAddOf, AreOutputs, AreAdds, joined}
use Rattle.lsm_compact.specs.Written.{input_rows}
use Rattle.lsm_compact.proofs.Keys.{untrue, both_true, first_true, later_true, not_so, AtMost, most_itself, most_trans, not_below, from_least, to_greatest}
use Rattle.lsm_compact.proofs.Ascending.{Ascend, Before, Spans, spans, front_ascends, back_ascends, front_before}
use Rattle.lsm_compact.proofs.Keeping.{left, out_read}
use Rattle.lsm_compact.proofs.Lookups.{Between, WasAdded, between, placed_of, which}
use Rattle.lsm_compact.proofs.Members.{Contains-map, nothing, by_first, from_source, All-from_contained}
use Rattle.lsm_compact.proofs.Outside.{InputRow, input_row, apart_numbers, no_newer}

-- ---- the outputs, each by itself

add_of : (level : ℕ) (f : Add → List Row) (adds : List Add) → AreAdds level (map f adds) adds → (add : Add)
    → Contains adds add → IsAddOf level (f add) add
unfolding AreAdds
add_of level f [] all add c = absurd (nothing add c)
add_of level f (one ∷ adds) all add c =
    elim (by_first one adds add c) [
      | inl same ↦ subst (λ (x : Add). IsAddOf level (f x) x) same all.0
      | inr more ↦ add_of level f adds all.1 add more
    ]

output_of : (f : Add → List Row) (adds : List Add) → AreOutputs (map f adds) → (add : Add) → Contains adds add → IsOutput
    (f add)
unfolding AreOutputs
output_of f [] all add c = absurd (nothing add c)
output_of f (one ∷ adds) all add c =
    elim (by_first one adds add c) [
      | inl same ↦ subst (λ (x : Add). IsOutput (f x)) same all.0
      | inr more ↦ output_of f adds all.2 add more
    ]

ascends_of : (f : Add → List Row) (adds : List Add) → Ascend (joined (map f adds)) → (add : Add) → Contains adds add → Ascend
    (f add)
ascends_of f [] ascend add c = absurd (nothing add c)
ascends_of f (one ∷ adds) ascend add c =
    elim (by_first one adds add c) [
      | inl same ↦ subst (λ (x : Add). Ascend (f x)) same (front_ascends (f one) (joined (map f adds)) ascend)
      | inr more ↦ ascends_of f adds (back_ascends (f one) (joined (map f adds)) ascend) add more
    ]

-- of two outputs one comes before the other
Ordered : (Add → List Row) → Add → Add → Type 0
Ordered f a c = (a ≡ c) ⊎ (Before (f a) (f c) ⊎ Before (f c) (f a))

ordered : (f : Add → List Row) (adds : List Add) → Ascend (joined (map f adds)) → (a c : Add) → Contains adds a
    → Contains adds c → Ordered f a c
unfolding Ordered
ordered f [] ascend a c has_a has_c = absurd (nothing a has_a)
ordered f (one ∷ adds) ascend a c has_a has_c =
    let first : (x : Add) → Contains adds x → Before (f one) (f x) = λ x more p q has_p has_q. front_before (f one)
    (joined (map f adds)) ascend p q has_p
    (from_source (λ (r : List Row). r) (map f adds) (f x) q (Contains-map f adds x more) has_q) in
    elim (by_first one adds a has_a) [
      | inl is ↦ elim (by_first one adds c has_c) [
        | inl too ↦ inl (sym is ∙ too)
        | inr more ↦ inr (inl (subst (λ (x : Add). Before (f x) (f c)) is (first c more)))
      ]
      | inr more_a ↦ elim (by_first one adds c has_c) [
        | inl too ↦ inr (inr (subst (λ (x : Add). Before (f x) (f a)) too (first a more_a)))
        | inr more ↦ ordered f adds (back_ascends (f one) (joined (map f adds)) ascend) a c more_a more
      ]
    ]

-- ---- overlaps

-- the two parts of an overlap
reaches : (a c : TableInfo) → overlap a c ≡ true → AtMost (user_key a.smallest) (user_key c.largest) × AtMost
    (user_key c.smallest) (user_key a.largest)
unfolding overlap
reaches a c is = (
  first_true (is_le (key_cmp (user_key a.smallest) (user_key c.largest)))
      (is_le (key_cmp (user_key c.smallest) (user_key a.largest))) is,
  later_true (is_le (key_cmp (user_key a.smallest) (user_key c.largest)))
      (is_le (key_cmp (user_key c.smallest) (user_key a.largest))) is,
)

overlap_back : (a c : TableInfo) → overlap c a ≡ false → overlap a c ≡ false
unfolding overlap
overlap_back a c is = by_both (is_le (key_cmp (user_key a.smallest) (user_key c.largest)))
    (is_le (key_cmp (user_key c.smallest) (user_key a.largest))) is
  where
    by_both : (s t : Bool) → (t && s) ≡ false → (s && t) ≡ false
    by_both true true is = is
    by_both true false is = refl
    by_both false t is = refl

-- rows before other rows don't overlap them
before_apart : (xs ys : List Row) (a c : TableInfo) → Spans xs a.smallest a.largest → Spans ys c.smallest c.largest
    → Before xs ys → overlap a c ≡ false
before_apart xs ys a c s t before =
    not_so (overlap a c) (λ is.
    not_below t.first.key s.last.key
    (subst (λ (k : List ℕ). AtMost k s.last.key) t.least
    (subst (λ (k : List ℕ). AtMost (user_key c.smallest) k) s.greatest (reaches a c is).1))
    (before s.last t.first s.has_last t.has_first))

pub in_span : (rows : List Row) (info : TableInfo) → Spans rows info.smallest info.largest → (row : Row) → Contains rows row
    → in_range row.key info ≡ true
in_span rows info s row has =
    both_true (is_le (key_cmp (user_key info.smallest) row.key)) (is_le (key_cmp row.key (user_key info.largest)))
    (subst (λ (k : List ℕ). AtMost k row.key) (sym s.least) (s.from row has))
    (subst (λ (k : List ℕ). AtMost row.key k) (sym s.greatest) (s.to row has))

-- ---- the version after the edit

module _ (tables after : Tables) (rows later : ℕ → List Row) (choice : Choice) (edit : Edit) (o : IsOrderly tables rows)
    (closed : IsClosed tables rows choice)
    (e : IsEditOf tables choice (input_rows rows choice) (added_rows later edit.adds) edit) (b : Between tables edit after)
    (stay : KeepsRows tables after rows later) where
  abbrev rows_of : Add → List Row
  rows_of add = later add.table.number

  -- a table that was added: its rows were read, and its range is theirs
  record New (n : ℕ) (placed : Placed) : Type 0 where
    add : Add
    among : Contains edit.adds add
    number_is : add.table.number ≡ n
    level : placed.level ≡ choice.output
    some : 1 ≤ length (later n)
    ascend : Ascend (later n)
    smallest_is : (row : Row) (more : List Row) → later n ≡ row ∷ more → placed.info.smallest ≡ (row_entry row).key
    largest_is : placed.info.largest ≡ last_key (map row_entry (later n))
    span : Spans (later n) placed.info.smallest placed.info.largest
    read : (row : Row) → Contains (later n) row → InputRow tables rows choice row

  -- a table that stayed: it isn't read, and has the rows that it had
  record Old (n : ℕ) (placed : Placed) : Type 0 where
    outside : IsOutside tables choice n placed
    same : later n ≡ rows n

  new_add : (add : Add) → Contains edit.adds add → New add.table.number (placed_of add)
  new_add add among =
      let is = add_of choice.output rows_of edit.adds e.adds add among in
      let output = output_of rows_of edit.adds e.ended add among in
      let ascend = ascends_of rows_of edit.adds e.written.ascend add among in
      record {
        add = add;
        among = among;
        number_is = refl;
        level = is.level_is;
        some = output.some;
        ascend = ascend;
        smallest_is = is.smallest_is;
        largest_is = is.largest_is;
        span = spans (rows_of add) add.table.smallest add.table.largest output.some ascend is.smallest_is is.largest_is;
        read = λ row has. input_row tables rows choice closed row
            (out_read tables after rows later choice edit o closed e b stay row
            (from_source (λ (r : List Row). r) (added_rows later edit.adds) (rows_of add) row
            (Contains-map rows_of edit.adds add among) has));
      }

  new_of : (n : ℕ) (placed : Placed) → WasAdded edit.adds n placed → New n placed
  new_of n placed was = subst (λ (k : ℕ). New k placed) was.number_is
      (subst (λ (p : Placed). New was.add.table.number p) was.placed_is (new_add was.add was.among))

  each : (n : ℕ) (placed : Placed) → finite.get after n ≡ Some placed → New n placed ⊎ Old n placed
  each n placed there =
      elim (which edit.adds b.mid after b.added_is n placed there) [
        | inl was ↦ inl (new_of n placed was)
        | inr stayed ↦
            let out = left tables after rows later choice edit o closed e b stay n placed stayed in
            inr (record { outside = out; same = stay n placed out.there there })
      ]

  -- ---- each table by itself

  some_after : (n : ℕ) (placed : Placed) → finite.get after n ≡ Some placed → 1 ≤ length (later n)
  some_after n placed there =
      elim (each n placed there) [
        | inl new ↦ new.some
        | inr old ↦ subst (λ (xs : List Row). 1 ≤ length xs) (sym old.same) (o.some n placed old.outside.there)
      ]

  ranged_after : (n : ℕ) (placed : Placed) → finite.get after n ≡ Some placed → All
      (λ (row : Row). in_range row.key placed.info ≡ true) (later n)
  ranged_after n placed there =
      elim (each n placed there) [
        | inl new ↦ All-from_contained (λ (row : Row). in_range row.key placed.info ≡ true) (later n)
            (in_span (later n) placed.info new.span)
        | inr old ↦ subst (λ (xs : List Row). All (λ (row : Row). in_range row.key placed.info ≡ true) xs) (sym old.same)
            (o.ranged n placed old.outside.there)
      ]

  pub listed_made : AreListed tables rows → AreListed after later
  listed_made listed n placed there =
      elim (each n placed there) [
        | inl new ↦ record {
          are = record {
            some = new.some;
            ascend = new.ascend;
            sequences = All-from_contained (λ (row : Row). row.sequence < 2 ^ 56) (later n) (λ row has.
                let i = new.read row has in
                All-contains (λ (r : Row). r.sequence < 2 ^ 56) (rows i.number) row
                (listed i.number i.placed i.read.there).are.sequences i.has);
          };
          smallest_is = new.smallest_is;
          largest_is = new.largest_is;
        }
        | inr old ↦ subst (λ (xs : List Row). IsListed placed.info xs) (sym old.same) (listed n placed old.outside.there)
      ]

  -- ---- two tables

  was : (n : ℕ) (placed : Placed) → Old n placed → (row : Row) → Contains (later n) row → Contains (rows n) row
  was n placed old row has = subst (λ (xs : List Row). Contains xs row) old.same has

  own_mixed : (m n : ℕ) (a c : Placed) → New m a → Old n c → (row other : Row) → Contains (later m) row → Contains
      (later n) other → row.sequence ≡ other.sequence → ⊥
  own_mixed m n a c new old row other has has_other tie =
      let i = new.read row has in
      apart_numbers tables choice i.number n i.placed c i.read old.outside
      (o.own i.number n i.placed c i.read.there old.outside.there row other i.has (was n c old other has_other) tie).0

  own_new : (m n : ℕ) (a c : Placed) (p : New m a) (q : New n c) (row other : Row) → Contains (later m) row → Contains
      (later n) other → row ≡ other → m ≡ n
  unfolding Ordered
  own_new m n a c p q row other has has_other same =
      let in_p = subst (λ (k : ℕ). Contains (later k) row) (sym p.number_is) has in
      let in_q = subst (λ (k : ℕ). Contains (later k) other) (sym q.number_is) has_other in
      elim (ordered rows_of edit.adds e.written.ascend p.add q.add p.among q.among) [
        | inl one ↦ sym p.number_is ∙ ap (λ (x : Add). x.table.number) one ∙ q.number_is
        | inr (inl before) ↦ absurd (never row.key
            (subst (λ (r : Row). key_cmp row.key r.key ≡ Less) (sym same) (before row other in_p in_q)))
        | inr (inr before) ↦ absurd (never row.key
            (subst (λ (r : Row). key_cmp r.key row.key ≡ Less) (sym same) (before other row in_q in_p)))
      ]
    where
      never : (k : List ℕ) → key_cmp k k ≡ Less → ⊥
      never k less = not_below k k (most_itself k) less

  own_after : (m n : ℕ) (a c : Placed) → finite.get after m ≡ Some a → finite.get after n ≡ Some c → (row other : Row)
      → Contains (later m) row → Contains (later n) other
      → row.sequence ≡ other.sequence → (m ≡ n) × (row ≡ other)
  own_after m n a c there_m there_n row other has has_other tie =
      elim (each m a there_m) [
        | inl p ↦ elim (each n c there_n) [
          | inl q ↦
              let i = p.read row has in
              let j = q.read other has_other in
              let same = (o.own i.number j.number i.placed j.placed i.read.there j.read.there row other i.has j.has tie).1 in
              (own_new m n a c p q row other has has_other same, same)
          | inr q ↦ absurd (own_mixed m n a c p q row other has has_other tie)
        ]
        | inr p ↦ elim (each n c there_n) [
          | inl q ↦ absurd (own_mixed n m c a q p other row has_other has (sym tie))
          | inr q ↦ o.own m n a c p.outside.there q.outside.there row other (was m a p row has)
              (was n c q other has_other) tie
        ]
      ]

  apart_new : (m n : ℕ) (a c : Placed) → New m a → New n c → m ≢ n → overlap a.info c.info ≡ false
  unfolding Ordered
  apart_new m n a c p q differ =
      let before : (x y : ℕ) → x ≡ m → y ≡ n → Before (later x) (later y) → Before (later m)
      (later n) = λ x y is_m is_n so. subst (λ (k : ℕ). Before (later k) (later n)) is_m
      (subst (λ (k : ℕ). Before (later x) (later k)) is_n so) in
      let behind : (x y : ℕ) → x ≡ m → y ≡ n → Before (later y) (later x) → Before (later n)
      (later m) = λ x y is_m is_n so. subst (λ (k : ℕ). Before (later n) (later k)) is_m
      (subst (λ (k : ℕ). Before (later k) (later x)) is_n so) in
      elim (ordered rows_of edit.adds e.written.ascend p.add q.add p.among q.among) [
        | inl one ↦ absurd (differ (sym p.number_is ∙ ap (λ (x : Add). x.table.number) one ∙ q.number_is))
        | inr (inl so) ↦ before_apart (later m) (later n) a.info c.info p.span q.span
            (before p.add.table.number q.add.table.number p.number_is q.number_is so)
        | inr (inr so) ↦ overlap_back a.info c.info
            (before_apart (later n) (later m) c.info a.info q.span p.span
            (behind p.add.table.number q.add.table.number p.number_is q.number_is so))
      ]

  apart_mixed : (m n : ℕ) (a c : Placed) → New m a → Old n c → a.level ≡ c.level → overlap a.info c.info ≡ false
  apart_mixed m n a c p q same_level =
      let i = p.read p.span.first p.span.has_first in
      let j = p.read p.span.last p.span.has_last in
      let in_i = All-contains (λ (r : Row). in_range r.key i.placed.info ≡ true) (rows i.number) p.span.first
      (o.ranged i.number i.placed i.read.there) i.has in
      let in_j = All-contains (λ (r : Row). in_range r.key j.placed.info ≡ true) (rows j.number) p.span.last
      (o.ranged j.number j.placed j.read.there) j.has in
      not_so (overlap a.info c.info) (λ is.
      untrue (sym (closed.beside i.number j.number n i.placed j.placed c i.read j.read q.outside (sym same_level ∙ p.level))
      ∙ both_true (is_le (key_cmp (user_key c.info.smallest) (user_key j.placed.info.largest)))
      (is_le (key_cmp (user_key i.placed.info.smallest) (user_key c.info.largest)))
      (most_trans (user_key c.info.smallest) p.span.last.key (user_key j.placed.info.largest)
      (subst (λ (k : List ℕ). AtMost (user_key c.info.smallest) k) p.span.greatest (reaches a.info c.info is).1)
      (to_greatest p.span.last.key j.placed.info in_j))
      (most_trans (user_key i.placed.info.smallest) p.span.first.key (user_key c.info.largest)
      (from_least p.span.first.key i.placed.info in_i)
      (subst (λ (k : List ℕ). AtMost k (user_key c.info.largest)) p.span.least (reaches a.info c.info is).0))))

  apart_after : (m n : ℕ) (a c : Placed) → finite.get after m ≡ Some a → finite.get after n ≡ Some c → m ≢ n → 1 ≤ a.level
      → a.level ≡ c.level → overlap a.info c.info ≡ false
  apart_after m n a c there_m there_n differ least same_level =
      elim (each m a there_m) [
        | inl p ↦ elim (each n c there_n) [
          | inl q ↦ apart_new m n a c p q differ
          | inr q ↦ apart_mixed m n a c p q same_level
        ]
        | inr p ↦ elim (each n c there_n) [
          | inl q ↦ overlap_back a.info c.info (apart_mixed n m c a q p (sym same_level))
          | inr q ↦ o.leveled.apart m n a c p.outside.there q.outside.there differ least same_level
        ]
      ]

  -- of two tables, the row of the deeper one isn't newer
  older_at : (m n : ℕ) (a c : Placed) → finite.get after m ≡ Some a → finite.get after n ≡ Some c → a.level < c.level →
      (row other : Row) → Contains (later m) row → Contains (later n) other
      → other.key ≡ row.key → other.sequence ≤ row.sequence
  older_at m n a c there_m there_n deeper row other has has_other same =
      elim (each m a there_m) [
        | inl p ↦ elim (each n c there_n) [
          | inl q ↦ let level_p = p.level in let level_q = q.level in absurd (omega (arith, level_p, level_q, deeper))
          | inr q ↦
              let i = p.read row has in
              let above = closed.above (record { level = i.placed.level; number = i.number }) i.read.among in
              let level = p.level in
              was_older i.number n i.placed c i.read.there q.outside.there
              (omega (arith, above, level, deeper)) row other i.has (was n c q other has_other) same
        ]
        | inr p ↦ elim (each n c there_n) [
          | inl q ↦
              let j = q.read other has_other in
              let level = q.level in
              no_newer tables rows choice o closed j.number m j.placed a j.read p.outside other row j.has (was m a p row has)
              (sym same) (omega (arith, level, deeper))
          | inr q ↦ was_older m n a c p.outside.there q.outside.there deeper row other (was m a p row has)
              (was n c q other has_other) same
        ]
      ]
    where
      was_older : (x y : ℕ) (s t : Placed) → finite.get tables x ≡ Some s → finite.get tables y ≡ Some t → s.level < t.level
          → (r q : Row) → Contains (rows x) r → Contains (rows y) q
          → q.key ≡ r.key → q.sequence ≤ r.sequence
      was_older x y s t there_x there_y less r q has_r has_q =
          All-contains (λ (z : Row). z.key ≡ r.key → z.sequence ≤ r.sequence) (rows y) q
          (All-contains (λ (w : Row). All (λ (z : Row). z.key ≡ w.key → z.sequence ≤ w.sequence) (rows y)) (rows x) r
          (o.leveled.older x y s t there_x there_y less) has_r) has_q

  pub orderly_made : IsOrderly after later
  orderly_made = record {
    leveled = record {
      apart = apart_after;
      older = λ m n a c there_m there_n deeper. All-from_contained
          (λ (row : Row). All (λ (other : Row). other.key ≡ row.key → other.sequence ≤ row.sequence) (later n)) (later m)
          (λ row has. All-from_contained (λ (other : Row). other.key ≡ row.key → other.sequence ≤ row.sequence) (later n)
          (λ other has_other. older_at m n a c there_m there_n deeper row other has has_other));
    };
    some = some_after;
    ranged = ranged_after;
    own = own_after;
  }

pub orderly_after : (tables after : Tables) (rows later : ℕ → List Row) (choice : Choice) (edit : Edit)
    → IsOrderly tables rows → IsClosed tables rows choice
    → IsEditOf tables choice (input_rows rows choice) (added_rows later edit.adds) edit
    → IsInstalled tables after rows later edit → IsOrderly after later
orderly_after tables after rows later choice edit o closed e installed =
    orderly_made tables after rows later choice edit o closed e (between tables edit after installed.is) installed.stay

pub listed_after : (tables after : Tables) (rows later : ℕ → List Row) (choice : Choice) (edit : Edit) → IsOrderly tables rows
    → IsClosed tables rows choice → IsEditOf tables choice (input_rows rows choice) (added_rows later edit.adds) edit
    → IsInstalled tables after rows later edit → AreListed tables rows → AreListed after later
listed_after tables after rows later choice edit o closed e installed =
    listed_made tables after rows later choice edit o closed e (between tables edit after installed.is) installed.stay
