-- The tables of a version, gathered one after another by their numbers.
use Rattle.std.specs.Prelude.{◌≡◌, ℕ, true, List, [], ◌∷◌, ◌++◌, All, Some, Result, Ok, Err}
use Rattle.std.proofs.Common.{refl, sym, ap, subst, ◌∙◌, append_assoc, append-nil}
use Rattle.std.proofs.lemmas.List.Sums.{fold-append}
use Rattle.std.proofs.lemmas.Grind.{flat_map-append}
use Rattle.std.proofs.lemmas.List.Elements.{All-head, All-tail, All-weaker}
use Rattle.std.specs.Map.{lookup}
use Rattle.std.specs.Ordering.{nat_cmp, is_eq}
use Rattle.std.specs.FinMap as finmap
use Rattle.lsm_names.specs.FileNames.{is_file_number}
use Rattle.lsm_version.specs.Levels.{Tables}
use Rattle.lsm_version.proofs.TableMaps.{value_at, entries_tables, InOrder}
use Rattle.lsm_rows.specs.declared.rows.Row.{Row}
use Rattle.lsm_version.specs.declared.tables.Placed.{Placed}
use Rattle.lsm_folder.specs.declared.refusals.Refusal.{Refusal}
use Rattle.lsm_folder.specs.Files.{Files}
use Rattle.lsm_folder.specs.Reading.{table_of, tables_in}
use Rattle.lsm_folder.specs.Steps.{◌>>=◌}
use Rattle.lsm_folder.specs.Tables.{TableRead}
use Rattle.lsm_recover.specs.declared.errors.FolderError.{FolderError}
use Rattle.lsm_recover.specs.Answers.{IsRefusedBy}
use Rattle.lsm_recover.specs.Gathered.{Gathered, with_row, with_rows}
use Rattle.lsm_recover.specs.Stated.{AreNumbered}
use Rattle.lsm_recover.specs.Tables.{rows_in_turn, GathersTable, GathersTables}
use Rattle.lsm_recover.proofs.AnswerLemmas.{refused_too}

-- tables before those that are still to be read
abbrev before_tables : List (ℕ × TableRead) → Result (List (ℕ × TableRead)) Refusal → Result (List (ℕ × TableRead)) Refusal
before_tables tables rest = rest >>= λ (more : List (ℕ × TableRead)). Ok (tables ++ more)

none_before : (r : Result (List (ℕ × TableRead)) Refusal) → r ≡ before_tables [] r
none_before (Ok more) = refl
none_before (Err refusal) = refl

one_before : (done : List (ℕ × TableRead)) (table : ℕ × TableRead) (r : Result (List (ℕ × TableRead)) Refusal)
    → before_tables done (r >>= λ (more : List (ℕ × TableRead)). Ok (table ∷ more)) ≡ before_tables (done ++ table ∷ []) r
one_before done table (Ok more) = ap Ok (sym (append_assoc done (table ∷ []) more))
one_before done table (Err refusal) = refl

-- the tables before the rest were read and gathered
pub record HasRead (files : Files) (all rest : List (ℕ × Placed)) (before now : Gathered) : Type 0 where
  pub done_tables : List (ℕ × TableRead)
  pub is : tables_in files all ≡ before_tables done_tables (tables_in files rest)
  pub rows_are : now ≡ with_rows before (rows_in_turn done_tables)

pub read_begun : (files : Files) (all : List (ℕ × Placed)) (rows : Gathered) → HasRead files all all rows rows
read_begun files all rows = record { done_tables = []; is = none_before (tables_in files all); rows_are = refl }

module _ (files : Files) (all : List (ℕ × Placed)) (table : ℕ × Placed) (rest : List (ℕ × Placed)) (before now : Gathered) (so_far : HasRead files all (table ∷ rest) before now) where
  abbrev behind : Result TableRead Refusal → Result (List (ℕ × TableRead)) Refusal
  behind r = r >>= λ (first : TableRead). tables_in files rest >>= λ (more : List (ℕ × TableRead)). Ok ((table.0, first) ∷ more)

  pub read_more : (after : Gathered) → GathersTable (table_of files table.0 table.1) now after → HasRead files all rest before after
  read_more after gathers =
      let one : ℕ × TableRead = (table.0, gathers.table) in
      record {
        done_tables = so_far.done_tables ++ one ∷ [];
        is =
            so_far.is
            ∙ ap (λ (r : Result TableRead Refusal). before_tables so_far.done_tables (behind r)) gathers.is
            ∙ one_before so_far.done_tables one (tables_in files rest);
        rows_are =
            gathers.rows_are
            ∙ ap (λ (g : Gathered). with_rows g gathers.table.rows) so_far.rows_are
            ∙ sym (fold-append with_row before (rows_in_turn so_far.done_tables) gathers.table.rows)
            ∙ ap (λ (l : List Row). with_rows before (rows_in_turn so_far.done_tables ++ l)) (sym (append-nil gathers.table.rows))
            ∙ ap (with_rows before) (sym (flat_map-append (λ (t : ℕ × TableRead). t.1.rows) so_far.done_tables (one ∷ [])));
      }

  pub read_refused : (error : FolderError) → IsRefusedBy (table_of files table.0 table.1) error → IsRefusedBy (tables_in files all) error
  read_refused = refused_too (table_of files table.0 table.1) (tables_in files all) (λ refused is. so_far.is ∙ ap (λ (r : Result TableRead Refusal). before_tables so_far.done_tables (behind r)) is)

pub all_read : (files : Files) (all : List (ℕ × Placed)) (before now : Gathered) → HasRead files all [] before now → GathersTables (tables_in files all) before now
all_read files all before now so_far = record { tables = so_far.done_tables; is = so_far.is ∙ ap Ok (append-nil so_far.done_tables); rows_are = so_far.rows_are }

-- ---- a version's entries

abbrev pub Numbered : List (ℕ × Placed) → Type 0
Numbered es = All (λ (e : ℕ × Placed). is_file_number e.0 ≡ true) es

-- the entries of a numbered version are numbered
pub entries_numbered : (tables : Tables) (es : List (ℕ × Placed)) → AreNumbered tables → finmap.from_entries es ≡ tables → All (λ (e : ℕ × Placed). lookup (λ (k : ℕ). is_eq (nat_cmp e.0 k)) es ≡ Some e.1) es → Numbered es
entries_numbered tables es numbered is each = All-weaker (λ (e : ℕ × Placed). lookup (λ (k : ℕ). is_eq (nat_cmp e.0 k)) es ≡ Some e.1) (λ (e : ℕ × Placed). is_file_number e.0 ≡ true)
    (λ e found. numbered e.0 e.1 (ap (λ (t : Tables). finmap.get t e.0) (sym is) ∙ sym (value_at es e.0) ∙ found)) es each

pub number_first : (all rest : List (ℕ × Placed)) (number : ℕ) (placed : Placed) → all ≡ (number, placed) ∷ rest → Numbered all → is_file_number number ≡ true
number_first all rest number placed is each = All-head (λ (e : ℕ × Placed). is_file_number e.0 ≡ true) (number, placed) rest (subst Numbered is each)

pub numbers_behind : (all rest : List (ℕ × Placed)) (number : ℕ) (placed : Placed) → all ≡ (number, placed) ∷ rest → Numbered all → Numbered rest
numbers_behind all rest number placed is each = All-tail (λ (e : ℕ × Placed). is_file_number e.0 ≡ true) (number, placed) rest (subst Numbered is each)

-- the entries of a map of std are those of its version
pub entries_are : (tables : Tables) (es : List (ℕ × Placed)) → finmap.from_entries es ≡ tables → InOrder es → es ≡ finmap.entries tables
entries_are tables es is ordered = sym (entries_tables es ordered) ∙ ap (λ (t : Tables). finmap.entries t) is
