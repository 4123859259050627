-- A folder whose version has no tables is lawful: its rows are those of its logs.
use Rattle.std.specs.Prelude.{◌≡◌, ℕ, ◌+◌, nat_eq, List, [], ◌++◌, Some, None, Result, Ok, Err}
use Rattle.std.proofs.Common.{refl, sym, ap, subst, ◌∙◌}
use Rattle.std.specs.List.{flat_map, IsDistinct}
use Rattle.std.specs.Ordering.{nat_cmp}
use Rattle.std.specs.Cmp.{nat_cmp_total}
use Rattle.std.specs.FinMap as finmap
use Rattle.lsm_rows.specs.declared.operations.Op.{Op}
use Rattle.lsm_rows.specs.declared.rows.Row.{Row}
use Rattle.lsm_rows.specs.Replay.{sequence_after}
use Rattle.lsm_rows.specs.Rows.{rows_of}
use Rattle.lsm_version.specs.declared.edits.Edit.{Edit}
use Rattle.lsm_version.specs.declared.tables.Placed.{Placed}
use Rattle.lsm_version.specs.Levels.{Tables}
use Rattle.lsm_version.specs.Versions.{empty_version}
use Rattle.lsm_folder.specs.declared.refusals.Refusal.{Refusal}
use Rattle.lsm_folder.specs.Files.{Files}
use Rattle.lsm_folder.specs.Logs.{logs_of, all_batches}
use Rattle.lsm_folder.specs.Manifests.{tables_after, log_after, last_after}
use Rattle.lsm_folder.specs.Needed.{edits_at, sequences, HasNoTables, Lawful}
use Rattle.lsm_folder.specs.Reading.{Texts, AllRows, current_of, edits_of, tables_in, texts_behind, texts_in, table_rows, rows_in}
use Rattle.lsm_folder.specs.Steps.{◌>>=◌}
use Rattle.lsm_folder.specs.Tables.{TableRead}
use Rattle.lsm_folder.proofs.ApartLemmas.{apart, rows_rise}
use Rattle.lsm_folder.proofs.FirstEditLemmas.{no_entries}
use Rattle.lsm_folder.proofs.LiveLemmas.{same_entries}
use Rattle.lsm_folder.proofs.StepLemmas.{same_ok}

-- no tables have no rows
pub no_rows : table_rows (finmap.from_entries []) ≡ []
unfolding table_rows
no_rows =
    ap (λ (es : List (ℕ × TableRead)). flat_map (λ (table : ℕ × TableRead). table.1.rows) es)
    (same_entries nat_cmp nat_cmp_total [] tt finmap.nat_cmp-IsAntisymmetric)

-- ---- where texts come from

-- the edits and the tables of a folder's texts
pub record AreFrom (files : Files) (texts : Texts) : Type 0 where
  pub edits : edits_at files ≡ Ok texts.edits
  pub said : List (ℕ × TableRead)
  pub said_is : tables_in files (finmap.entries (tables_after texts.edits)) ≡ Ok said
  pub tables : texts.tables ≡ finmap.from_entries said

module _ (files : Files) (texts : Texts) where
  abbrev with_tables : List Edit → List (ℕ × TableRead) → Texts
  with_tables edits tables =
      record { edits = edits; tables = finmap.from_entries tables; logs = logs_of (log_after edits) files }

  by_tables : (edits : List Edit) → edits_at files ≡ Ok edits → (r : Result (List (ℕ × TableRead)) Refusal)
      → tables_in files (finmap.entries (tables_after edits)) ≡ r
      → (r >>= λ (tables : List (ℕ × TableRead)). Ok (with_tables edits tables)) ≡ Ok texts → AreFrom files texts
  by_tables edits at (Err refusal) was is = cc
  by_tables edits at (Ok said) was is =
      subst (AreFrom files) (same_ok (with_tables edits said) texts is)
      (record { edits = at; said = said; said_is = was; tables = refl })

  by_edits : (r : Result (List Edit) Refusal) → edits_at files ≡ r → (r >>= texts_behind files) ≡ Ok texts → AreFrom files texts
  unfolding texts_behind
  by_edits (Err refusal) at is = cc
  by_edits (Ok edits) at is = by_tables edits at (tables_in files (finmap.entries (tables_after edits))) refl is

  by_current : (r : Result ℕ Refusal) → current_of files ≡ r
      → (r >>= λ (manifest : ℕ). edits_of files manifest >>= texts_behind files) ≡ Ok texts → AreFrom files texts
  by_current (Err refusal) current is = cc
  by_current (Ok manifest) current is =
      by_edits (edits_of files manifest) (ap (λ (r : Result ℕ Refusal). r >>= edits_of files) current) is

  pub texts_from : texts_in files ≡ Ok texts → AreFrom files texts
  unfolding texts_in
  texts_from is = by_current (current_of files) refl is

-- ---- a folder without tables

module _ (files : Files) (has : HasNoTables files) where
  module _ (texts : Texts) (is : texts_in files ≡ Ok texts) where
    from : AreFrom files texts
    from = texts_from files texts is

    none : tables_after texts.edits ≡ empty_version
    none = has.none texts.edits from.edits

    nowhere : (number : ℕ) (placed : Placed) → finmap.get (tables_after texts.edits) number ≡ Some placed → ⊥
    nowhere number placed there =
        let clash : Some placed ≡ None =
        sym there ∙ ap (λ (tables : Tables). finmap.get tables number) none ∙ finmap.get-empty nat_cmp number in
        cc

    none_said : [] ≡ from.said
    none_said =
        same_ok [] from.said (sym (ap (tables_in files) (ap finmap.entries none ∙ no_entries)) ∙ from.said_is)

    table_rows_none : table_rows texts.tables ≡ []
    table_rows_none = ap table_rows (from.tables ∙ ap finmap.from_entries (sym none_said)) ∙ no_rows

    module _ (all : AllRows) where
      abbrev last : ℕ
      last = last_after texts.edits

      abbrev with_batches : List (List Op) → AllRows
      with_batches batches = record {
        sequence = sequence_after last batches;
        rows = table_rows texts.tables ++ rows_of (last + 1) batches;
      }

      distinct_by : (r : Result (List (List Op)) Refusal)
          → (r >>= λ (batches : List (List Op)). Ok (with_batches batches)) ≡ Ok all → IsDistinct nat_eq (sequences all.rows)
      distinct_by (Err refusal) found = cc
      distinct_by (Ok batches) found =
          subst (λ (a : AllRows). IsDistinct nat_eq (sequences a.rows))
          (same_ok (with_batches batches) all found)
          (subst (λ (rows : List Row). IsDistinct nat_eq (sequences (rows ++ rows_of (last + 1) batches))) (sym table_rows_none)
          (apart (last + 1) (sequences (rows_of (last + 1) batches)) (rows_rise (last + 1) batches)))

      distinct : rows_in texts ≡ Ok all → IsDistinct nat_eq (sequences all.rows)
      unfolding rows_in
      distinct found = distinct_by (all_batches (last + 1) (finmap.entries texts.logs)) found

  all_distinct : (all : AllRows) (r : Result Texts Refusal) → texts_in files ≡ r → (r >>= rows_in) ≡ Ok all
      → IsDistinct nat_eq (sequences all.rows)
  all_distinct all (Err refusal) is found = cc
  all_distinct all (Ok texts) is found = distinct texts is all found

  pub lawful : Lawful files
  lawful = record {
    leveled = λ texts is. record {
      apart = λ m n a b at_m at_n other low same. absurd (nowhere texts is m a at_m);
      older = λ m n a b at_m at_n deeper. absurd (nowhere texts is m a at_m);
    };
    whole = λ texts number placed is there. absurd (nowhere texts is number placed there);
    listed = λ texts number placed is there. absurd (nowhere texts is number placed there);
    distinct = λ all is. all_distinct all (texts_in files) refl is;
  }
