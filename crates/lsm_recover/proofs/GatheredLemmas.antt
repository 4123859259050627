-- Rows that are gathered one by one stand for the contents of all of them.
use Rattle.std.specs.Prelude.{◌≡◌, ℕ, Bool, true, false, cond, List, [], ◌∷◌, ◌++◌, Option, Some, None, option_map}
use Rattle.std.proofs.Common.{refl, sym, ap, subst, ◌∙◌, append_assoc, append-nil}
use Rattle.std.specs.Ordering.{is_eq, eq_by_cmp, match_ordering}
use Rattle.std.specs.declared.cmp.Ordering.TheVariants.{Less, Equal, Greater}
use Rattle.std.specs.Cmp.Lexicographic.{nat_list_cmp_total}
use Rattle.std.specs.Map.{lookup}
use Rattle.std.specs.BTreeMap.{insert_entry}
use Rattle.std.specs.FinMap as finmap
use Rattle.std.specs.FinMap.Entries.{by_order, find-put}
use Rattle.lsm_rows.specs.declared.rows.Row.{Row}
use Rattle.lsm_rows.specs.Contents.{newer, newest, value_of, contents_of}
use Rattle.lsm_rows.specs.Replay.{Contents, key_cmp}
use Rattle.lsm_rows.proofs.NewestRows.{newest-append, newest_of, get_contents, same_contents, same_key}
use Rattle.lsm_recover.specs.Gathered.{Gathered, none_gathered, is_newer, with_value, with_row, with_rows}

-- ---- sequences in a sorted map of std

abbrev pub Sequences : Type 0
Sequences = finmap.FinMap key_cmp ℕ

abbrev pub sequences_of : List (List ℕ × ℕ) → Sequences
sequences_of entries = finmap.from_entries entries

found : (key : List ℕ) (es : List (List ℕ × ℕ)) → finmap.find key_cmp key es ≡ lookup (λ (k : List ℕ). is_eq (key_cmp key k)) es
found key [] = refl
found key (e ∷ es) = ap (cond (is_eq (key_cmp key e.0)) (Some e.1)) (found key es)

-- what is kept of a key
pub sequence_at : (es : List (List ℕ × ℕ)) (key : List ℕ) → lookup (λ (k : List ℕ). is_eq (key_cmp key k)) es ≡ finmap.get (sequences_of es) key
sequence_at es key = sym (finmap.get-from_entries nat_list_cmp_total es key ∙ found key es)

put_entry : (es : List (List ℕ × ℕ)) (key : List ℕ) (n : ℕ) → insert_entry key_cmp es key n ≡ finmap.put key_cmp key n es
put_entry [] key n = refl
put_entry (e ∷ es) key n =
    elim (key_cmp key e.0) as (λ o. match_ordering o ((key, n) ∷ e ∷ es) ((e.0, n) ∷ es) (e ∷ insert_entry key_cmp es key n)
    ≡ by_order o ((key, n) ∷ e ∷ es) ((e.0, n) ∷ es) (e ∷ finmap.put key_cmp key n es)) [
      | Less ↦ refl
      | Equal ↦ refl
      | Greater ↦ ap (λ (l : List (List ℕ × ℕ)). e ∷ l) (put_entry es key n)
    ]

-- one more entry sets its key's sequence
pub sequences_put : (es new : List (List ℕ × ℕ)) (key : List ℕ) (n : ℕ) → new ≡ insert_entry key_cmp es key n → sequences_of new ≡ finmap.insert (sequences_of es) key n
sequences_put es new key n is =
    ap sequences_of is ∙ finmap.same_map nat_list_cmp_total (finmap.slice_cmp-IsAntisymmetric finmap.nat_cmp-IsAntisymmetric) _ _ (λ q.
    finmap.get-from_entries nat_list_cmp_total (insert_entry key_cmp es key n) q
    ∙ ap (finmap.find key_cmp q) (put_entry es key n)
    ∙ find-put key_cmp nat_list_cmp_total q key n es
    ∙ sym (finmap.get-insert nat_list_cmp_total (sequences_of es) key n q ∙ ap (cond (eq_by_cmp key_cmp q key) (Some n)) (finmap.get-from_entries nat_list_cmp_total es q)))

-- ---- a row by its test

pub row_counts : (gathered : Gathered) (row : Row) → is_newer (finmap.get gathered.sequences row.key) row.sequence ≡ true
    → with_row gathered row ≡ record { contents = with_value gathered.contents row.key row.value; sequences = finmap.insert gathered.sequences row.key row.sequence }
unfolding with_row
row_counts gathered row is = ap (λ (b : Bool). cond b (record { contents = with_value gathered.contents row.key row.value; sequences = finmap.insert gathered.sequences row.key row.sequence }) gathered) is

pub row_is_older : (gathered : Gathered) (row : Row) → is_newer (finmap.get gathered.sequences row.key) row.sequence ≡ false → with_row gathered row ≡ gathered
unfolding with_row
row_is_older gathered row is = ap (λ (b : Bool). cond b (record { contents = with_value gathered.contents row.key row.value; sequences = finmap.insert gathered.sequences row.key row.sequence }) gathered) is

-- ---- what is kept of rows

abbrev sequence_of : Option Row → Option ℕ
sequence_of o = option_map (λ (row : Row). row.sequence) o

record Keeps (gathered : Gathered) (rows : List Row) : Type 0 where
  values : (key : List ℕ) → finmap.get gathered.contents key ≡ value_of (newest key rows)
  newest_are : (key : List ℕ) → finmap.get gathered.sequences key ≡ sequence_of (newest key rows)

get_value : (m : Contents) (key : List ℕ) (value : Option (List ℕ)) (q : List ℕ) → finmap.get (with_value m key value) q ≡ cond (eq_by_cmp key_cmp q key) value (finmap.get m q)
get_value m key None q = finmap.get-remove nat_list_cmp_total m key q
get_value m key (Some value) q = finmap.get-insert nat_list_cmp_total m key value q

-- the newest row of a key, with one more row behind
newest_last : (rows : List Row) (row : Row) (q : List ℕ) (b : Bool) → eq_by_cmp key_cmp q row.key ≡ b → newest q (rows ++ row ∷ []) ≡ cond b (newest_of (newest q rows) (Some row)) (newest q rows)
newest_last rows row q b is =
    newest-append rows (row ∷ []) q
    ∙ ap (λ (t : Bool). newest_of (newest q rows) (cond t (Some (newer row None)) None)) is
    ∙ by_test b (newest q rows)
  where
    by_test : (b : Bool) (o : Option Row) → newest_of o (cond b (Some (newer row None)) None) ≡ cond b (newest_of o (Some row)) o
    by_test true o = refl
    by_test false None = refl
    by_test false (Some p) = refl

-- a row that is newer than the newest of its key is the newest then, and another isn't
newer_is : (o : Option Row) (row : Row) → is_newer (sequence_of o) row.sequence ≡ true → newest_of o (Some row) ≡ Some row
newer_is None row is = refl
newer_is (Some p) row is = ap (λ (t : Bool). Some (cond t row p)) is

older_is : (o : Option Row) (row : Row) → is_newer (sequence_of o) row.sequence ≡ false → newest_of o (Some row) ≡ o
older_is None row is = cc
older_is (Some p) row is = ap (λ (t : Bool). Some (cond t row p)) is

module _ (gathered : Gathered) (rows : List Row) (row : Row) (keeps : Keeps gathered rows) where
  abbrev all : List Row
  all = rows ++ row ∷ []

  same_test : (t : Bool) → is_newer (finmap.get gathered.sequences row.key) row.sequence ≡ t → is_newer (sequence_of (newest row.key rows)) row.sequence ≡ t
  same_test t is = ap (λ (o : Option ℕ). is_newer o row.sequence) (sym (keeps.newest_are row.key)) ∙ is

  -- a row that counts
  newest_new : is_newer (finmap.get gathered.sequences row.key) row.sequence ≡ true → (q : List ℕ) (b : Bool) → eq_by_cmp key_cmp q row.key ≡ b → newest q all ≡ cond b (Some row) (newest q rows)
  newest_new counts q true is =
      newest_last rows row q true is
      ∙ ap (λ (k : List ℕ). newest_of (newest k rows) (Some row)) (same_key q row.key is)
      ∙ newer_is (newest row.key rows) row (same_test true counts)
  newest_new counts q false is = newest_last rows row q false is

  -- one that doesn't
  newest_old : is_newer (finmap.get gathered.sequences row.key) row.sequence ≡ false → (q : List ℕ) (b : Bool) → eq_by_cmp key_cmp q row.key ≡ b → newest q all ≡ newest q rows
  newest_old older q true is =
      newest_last rows row q true is
      ∙ ap (λ (k : List ℕ). newest_of (newest k rows) (Some row)) (same_key q row.key is)
      ∙ older_is (newest row.key rows) row (same_test false older)
      ∙ ap (λ (k : List ℕ). newest k rows) (sym (same_key q row.key is))
  newest_old older q false is = newest_last rows row q false is

  value_by : (b : Bool) (o : Option Row) → cond b row.value (value_of o) ≡ value_of (cond b (Some row) o)
  value_by true o = refl
  value_by false o = refl

  sequence_by : (b : Bool) (o : Option Row) → cond b (Some row.sequence) (sequence_of o) ≡ sequence_of (cond b (Some row) o)
  sequence_by true o = refl
  sequence_by false o = refl

  kept_new : is_newer (finmap.get gathered.sequences row.key) row.sequence ≡ true → Keeps (with_row gathered row) all
  kept_new counts =
      let is = row_counts gathered row counts in
      record {
        values = λ q.
            ap (λ (g : Gathered). finmap.get g.contents q) is
            ∙ get_value gathered.contents row.key row.value q
            ∙ ap (cond (eq_by_cmp key_cmp q row.key) row.value) (keeps.values q)
            ∙ value_by (eq_by_cmp key_cmp q row.key) (newest q rows)
            ∙ ap value_of (sym (newest_new counts q (eq_by_cmp key_cmp q row.key) refl));
        newest_are = λ q.
            ap (λ (g : Gathered). finmap.get g.sequences q) is
            ∙ finmap.get-insert nat_list_cmp_total gathered.sequences row.key row.sequence q
            ∙ ap (cond (eq_by_cmp key_cmp q row.key) (Some row.sequence)) (keeps.newest_are q)
            ∙ sequence_by (eq_by_cmp key_cmp q row.key) (newest q rows)
            ∙ ap sequence_of (sym (newest_new counts q (eq_by_cmp key_cmp q row.key) refl));
      }

  kept_old : is_newer (finmap.get gathered.sequences row.key) row.sequence ≡ false → Keeps (with_row gathered row) all
  kept_old older =
      let is = row_is_older gathered row older in
      record {
        values = λ q. ap (λ (g : Gathered). finmap.get g.contents q) is ∙ keeps.values q ∙ ap value_of (sym (newest_old older q (eq_by_cmp key_cmp q row.key) refl));
        newest_are = λ q. ap (λ (g : Gathered). finmap.get g.sequences q) is ∙ keeps.newest_are q ∙ ap sequence_of (sym (newest_old older q (eq_by_cmp key_cmp q row.key) refl));
      }

  kept_by : (b : Bool) → is_newer (finmap.get gathered.sequences row.key) row.sequence ≡ b → Keeps (with_row gathered row) all
  kept_by true is = kept_new is
  kept_by false is = kept_old is

  kept_more : Keeps (with_row gathered row) all
  kept_more = kept_by (is_newer (finmap.get gathered.sequences row.key) row.sequence) refl

kept_all : (gathered : Gathered) (before rows : List Row) → Keeps gathered before → Keeps (with_rows gathered rows) (before ++ rows)
kept_all gathered before [] keeps = subst (Keeps gathered) (sym (append-nil before)) keeps
kept_all gathered before (row ∷ rows) keeps =
    subst (Keeps (with_rows (with_row gathered row) rows)) (append_assoc before (row ∷ []) rows)
    (kept_all (with_row gathered row) (before ++ row ∷ []) rows (kept_more gathered before row keeps))

none_kept : Keeps none_gathered []
none_kept = record { values = λ q. finmap.get-empty key_cmp q; newest_are = λ q. finmap.get-empty key_cmp q }

-- gathered rows stand for the contents of all of them
pub gathered_contents : (rows : List Row) → (with_rows none_gathered rows).contents ≡ contents_of rows
gathered_contents rows =
    let keeps = kept_all none_gathered [] rows none_kept in
    same_contents (with_rows none_gathered rows).contents (contents_of rows) (λ q. keeps.values q ∙ sym (get_contents rows q))
