-- A table that is whole, and what a writing of it answers.
use Rattle.std.specs.Prelude.{◌≡◌, ℕ, ◌<◌, ◌≤◌, List, [], ◌∷◌, length, not, Option, Some, None, Result, Ok, Err, OnOk, IfOk, IfErr, MatchOption}
use Rattle.std.proofs.Common.{refl, sym, ap, subst, ◌∙◌, arith}
use Rattle.std.proofs.lemmas.List.Filters.{length-filter_both}
use Rattle.std.specs.FinMap as finmap
use Rattle.lsm_rows.specs.declared.rows.Row.{Row}
use Rattle.lsm_version.specs.declared.tables.TableInfo.{TableInfo}
use Rattle.lsm_version.specs.Edits.{IsFileNumber}
use Rattle.lsm_memtable.specs.Newest.{is_newest, newest_each}
use Rattle.lsm_model.specs.declared.errors.StoreError.{StoreError}
use Rattle.lsm_model.specs.declared.errors.StoreError.TheVariants as error
use Rattle.lsm_refine.specs.Kept.{Shown}
use Rattle.lsm_table.specs.WholeTables.{IsTable}
use Rattle.lsm_flush.specs.declared.frozen.Held.{Held}
use Rattle.lsm_flush.specs.declared.frozen.Held.TheVariants as held
use Rattle.lsm_flush.specs.Frozen.{rows_of, number_of, whole_table}
use Rattle.lsm_flush.specs.declared.writing.Ahead.{Ahead}
use Rattle.lsm_flush.specs.declared.writing.Ahead.TheVariants.{Nothing, Piece, Last, Whole}
use Rattle.lsm_flush.specs.Writing.{Written, text_of, given_by, in_file, whole, whole_by, IsWholeTable, IsFurther}
use Rattle.lsm_store.specs.FlushParts.{Came, Refuses, HasWrittenMore, HasWhole}
use Rattle.lsm_store.specs.Inside.{Inner, IsInside, flushing_of, shown_of}
use Rattle.lsm_store.proofs.Infos.{are_flushed, info_said}

-- a whole table's file was given its text
given_whole : (rows : List Row) (number : ℕ) (session : List ℕ) (taken : ℕ) (ahead : Ahead) (info : TableInfo)
    → whole_by ahead ≡ Some info → given_by rows number session taken ahead ≡ text_of rows number session
given_whole rows number session taken Nothing info same = let clash : None ≡ Some info = same in absurd (cc)
given_whole rows number session taken (Piece bytes) info same = let clash : None ≡ Some info = same in absurd (cc)
given_whole rows number session taken (Last last) info same = let clash : None ≡ Some info = same in absurd (cc)
given_whole rows number session taken (Whole other) info same = refl

pub whole_kept : (x : Inner) (w : Written) → IsInside (record x { frozen = held.Table w }) → (info : TableInfo)
    → whole w ≡ Some info → IsWholeTable w.rows w.number w.session info
    → HasWhole (shown_of (record x { frozen = held.Table w })).kept info
whole_kept x w inside info same is = record {
  rows = newest_each w.rows;
  bytes = text_of w.rows w.number w.session;
  picked = are_flushed w.rows;
  keys = record { smallest = is.smallest_is; largest = is.largest_is };
  table = subst (λ (n : ℕ). IsTable (text_of w.rows w.number w.session) (newest_each w.rows) n info.session) (sym is.number_is)
      (subst (λ (name : List ℕ). IsTable (text_of w.rows w.number w.session) (newest_each w.rows) w.number name)
      (sym is.session_is) is.table);
  size = is.size_is;
  given = ap (λ (bytes : List ℕ). record { number = w.number; bytes = bytes } ∷ [])
      (given_whole w.rows w.number w.session w.taken w.ahead info same)
      ∙ ap (λ (n : ℕ). record { number = n; bytes = text_of w.rows w.number w.session } ∷ []) (sym is.number_is);
  begun = ap Some (sym is.number_is);
  numbered = subst IsFileNumber (sym is.number_is) inside.flush.table.0;
  said = info_said w.rows w.number w.session info is inside.flush.frozen_keys;
  fresh = ap (λ (n : ℕ). finmap.get x.catalog.version n) is.number_is ∙ inside.flush.table.2;
}

few_newest : (rows : List Row) → length (newest_each rows) ≤ length rows
unfolding newest_each
few_newest rows =
    omega (arith, length-filter_both (is_newest rows) (λ row. not (is_newest rows row)) (λ row. refl) rows)

-- what a writing says of the table: more of it is in its file
pub more_written : (x y : Inner) (w now : Written) → x.frozen ≡ held.Table w → y.frozen ≡ held.Table now → IsFurther w now
    → whole now ≡ None → HasWrittenMore (shown_of x).kept (shown_of y).kept
more_written x y w now x_is y_is further none =
    let parts = subst (λ (o : Option TableInfo). MatchOption o ((in_file w < in_file now)
    × (in_file now < length (newest_each now.rows))) (λ info. IsWholeTable now.rows now.number now.session info)) none further in
    let before : (shown_of x).kept.flushing.taken ≡ in_file w = ap (λ (h : Held). (flushing_of h).taken) x_is in
    let behind : (shown_of y).kept.flushing.taken ≡ in_file now = ap (λ (h : Held). (flushing_of h).taken) y_is in
    let rows : length (shown_of y).kept.frozen ≡ length now.rows = ap (λ (h : Held). length (rows_of h)) y_is in record {
      goes_on = omega (arith, before, behind, parts.0);
      within = omega (arith, behind, parts.1, few_newest now.rows, rows);
    }

-- the three clauses of a writing that ends with a copy
pub copied_ok : (info : TableInfo) (v w : Shown) (r : Result (Option TableInfo) StoreError) → IfErr r (λ e. e ≡ error.NoMemory)
    → Came 0 v w → OnOk r (Came 0 v w)
copied_ok info v w (Ok copy) err came = came
copied_ok info v w (Err e) err came = tt

pub copied_err : (info : TableInfo) (v w : Shown) (r : Result (Option TableInfo) StoreError) → IfErr r (λ e. e ≡ error.NoMemory)
    → Came 0 v w → IfErr r (λ e. Refuses 0 e v w)
unfolding Refuses
copied_err info v w (Ok copy) err came = tt
copied_err info v w (Err e) err came = subst (λ (f : StoreError). Refuses 0 f v w) (sym err) came

pub copied_found : (info : TableInfo) (v w : Shown) (r : Result (Option TableInfo) StoreError) → IfOk r (λ copy. copy ≡ Some info)
    → HasWhole w.kept info
    → IfOk r (λ found. MatchOption found (HasWrittenMore v.kept w.kept) (HasWhole w.kept))
copied_found info v w (Ok copy) ok has =
    subst (λ (found : Option TableInfo). MatchOption found (HasWrittenMore v.kept w.kept) (HasWhole w.kept)) (sym ok) has
copied_found info v w (Err e) ok has = tt

-- ---- how the rows are held

table_once : (a b : ℕ) → Some a ≡ Some b → a ≡ b
table_once a b same = cc

-- a table of this number is begun
pub table_held : (h : Held) (n : ℕ) → number_of h ≡ Some n → (w : Written) × (h ≡ held.Table w) × (n ≡ w.number)
table_held (held.Rows rows) n is = let clash : None ≡ Some n = is in absurd (cc)
table_held (held.Table w) n is = (w, refl, sym (table_once w.number n is))

-- a table is whole
pub whole_held : (h : Held) (info : TableInfo) → whole_table h ≡ Some info
    → (w : Written) × (h ≡ held.Table w) × (whole w ≡ Some info)
whole_held (held.Rows rows) info is = let clash : None ≡ Some info = is in absurd (cc)
whole_held (held.Table w) info is = (w, refl, is)

-- a flush that has a table's number has begun it
pub number_begun : (h : Held) (n : ℕ) → (flushing_of h).table ≡ Some n → number_of h ≡ Some n
number_begun (held.Rows rows) n is = is
number_begun (held.Table w) n is = is
