-- A folder whose tables read opens.
use Rattle.std.specs.Prelude.{◌≡◌, ℕ, ◌+◌, Bool, true, false, cond, ◌==◌, List, [], ◌∷◌, length, Result, Ok, Err}
use Rattle.std.proofs.Common.{refl, sym, ap, subst, ◌∙◌}
use Rattle.std.specs.FinMap as finmap
use Rattle.lsm_names.specs.declared.file_names.FileName.TheVariants.{Table}
use Rattle.lsm_rows.specs.declared.operations.Op.{Op}
use Rattle.lsm_rows.specs.Replay.{sequence_after}
use Rattle.lsm_rows.specs.Rows.{rows_of}
use Rattle.lsm_table.specs.declared.parts.Properties.{Properties}
use Rattle.lsm_table.specs.Opening.{footer_of, contents_at, properties_at}
use Rattle.lsm_version.specs.declared.edits.Edit.{Edit}
use Rattle.lsm_version.specs.declared.tables.Placed.{Placed}
use Rattle.lsm_version.specs.declared.tables.TableInfo.{TableInfo}
use Rattle.lsm_folder.specs.declared.refusals.Refusal.{Refusal}
use Rattle.lsm_folder.specs.declared.refusals.Refusal.TheVariants.{Missing, Short, Malformed}
use Rattle.lsm_folder.specs.Files.{Files, Place, Nothing, Not_a_folder, Stands_with, file_at}
use Rattle.lsm_folder.specs.Logs.{logs_of, all_batches}
use Rattle.lsm_folder.specs.Manifests.{tables_after, log_after, last_after}
use Rattle.lsm_folder.specs.Needed.{edits_at}
use Rattle.lsm_folder.specs.Reading.{Texts, AllRows, current_of, edits_of, table_of, tables_in, texts_behind, texts_in, texts_of}
use Rattle.lsm_folder.specs.Steps.{◌>>=◌, some_or, table_says}
use Rattle.lsm_folder.specs.Tables.{TableRead, index_of, is_of, table_rows_in, table_in, table_said}
use Rattle.lsm_recover.specs.Opening.{own_properties, opened_in, opened_said, opened_of, all_opened, opening_behind, opening}

-- ---- readings in steps

step_of : {A B : Type 0} (r : Result A Refusal) (f : A → Result B Refusal) (y : B) → (r >>= f) ≡ Ok y → (x : A) × (r ≡ Ok x) × (f x ≡ Ok y)
step_of (Ok x) f y is = (x, refl, is)
step_of (Err refusal) f y is = cc

stepped : {A B : Type 0} (r : Result A Refusal) (f : A → Result B Refusal) (x : A) (y : B) → r ≡ Ok x → f x ≡ Ok y → (r >>= f) ≡ Ok y
stepped r f x y is goes = ap (λ q. q >>= f) is ∙ goes

-- ---- one table

record DoesOpen (r : Result Properties Refusal) : Type 0 where
  properties : Properties
  is : r ≡ Ok properties

own_by : {A : Type 0} (b : Bool) (r : Result A Refusal) (refusal : Refusal) (x : A) → cond b r (Err refusal) ≡ Ok x → b ≡ true
own_by true r refusal x is = refl
own_by false r refusal x is = cc

module _ (number : ℕ) (info : TableInfo) (bytes : List ℕ) (read : TableRead) where
  in_opens : table_in number info bytes ≡ Ok read → DoesOpen (opened_in number info bytes)
  unfolding table_in opened_in table_rows_in
  in_opens is =
      let a = step_of (table_says (Table number) (footer_of bytes)) _ read is in
      let b = step_of (table_says (Table number) (contents_at a.0.index a.0.len bytes)) _ read a.2 in
      let c = step_of (some_or (Malformed (Table number) a.0.index) (index_of b.0)) _ read b.2 in
      let d = step_of (table_says (Table number) (properties_at a.0.properties bytes)) _ read c.2 in
      let own : is_of number info d.0 ≡ true = own_by (is_of number info d.0) _ (Malformed (Table number) a.0.properties) read d.2 in
      record {
        properties = d.0;
        is =
            stepped (table_says (Table number) (footer_of bytes)) _ a.0 d.0 a.1
            (stepped (table_says (Table number) (contents_at a.0.index a.0.len bytes)) _ b.0 d.0 b.1
            (stepped (some_or (Malformed (Table number) a.0.index) (index_of b.0)) _ c.0 d.0 c.1
            (stepped (table_says (Table number) (properties_at a.0.properties bytes)) (own_properties number info a.0.properties) d.0 d.0 d.1
            (ap (λ (t : Bool). cond t (Ok d.0) (Err (Malformed (Table number) a.0.properties))) own))));
      }

  said_opens : table_said number info bytes ≡ Ok read → DoesOpen (opened_said number info bytes)
  unfolding table_said opened_said
  said_opens is = by_size (length bytes == info.size) refl is where
    by_size : (t : Bool) → (length bytes == info.size) ≡ t → cond t (table_in number info bytes) (Err (Short (Table number) info.size (length bytes))) ≡ Ok read
        → DoesOpen (cond (length bytes == info.size) (opened_in number info bytes) (Err (Short (Table number) info.size (length bytes))))
    by_size true size says =
        let opens = in_opens says in
        record { properties = opens.properties; is = ap (λ (t : Bool). cond t (opened_in number info bytes) (Err (Short (Table number) info.size (length bytes)))) size ∙ opens.is }
    by_size false size says = cc

table_opens : (files : Files) (number : ℕ) (placed : Placed) (read : TableRead) → table_of files number placed ≡ Ok read → DoesOpen (opened_of files number placed)
unfolding table_of opened_of
table_opens files number placed read is =
    let bytes = step_of (some_or (Missing (Table number)) (file_at files (Table number))) _ read is in
    let opens = said_opens number placed.info bytes.0 read bytes.2 in
    record { properties = opens.properties; is = stepped (some_or (Missing (Table number)) (file_at files (Table number))) (λ (l : List ℕ). opened_said number placed.info l) bytes.0 opens.properties bytes.1 opens.is }

tables_open : (files : Files) (es : List (ℕ × Placed)) (tables : List (ℕ × TableRead)) → tables_in files es ≡ Ok tables → (all : List Properties) × (all_opened files es ≡ Ok all)
tables_open files [] tables is = ([], refl)
tables_open files (e ∷ es) tables is =
    let first = step_of (table_of files e.0 e.1) _ tables is in
    let more = step_of (tables_in files es) _ tables first.2 in
    let one = table_opens files e.0 e.1 first.0 first.1 in
    let rest = tables_open files es more.0 more.1 in
    (one.properties ∷ rest.0, stepped (opened_of files e.0 e.1) _ one.properties (one.properties ∷ rest.0) one.is (stepped (all_opened files es) _ rest.0 (one.properties ∷ rest.0) rest.1 refl))

-- ---- the folder

module _ (batches : List (List Op)) where
  abbrev opens_to : Texts → AllRows
  opens_to texts = record { sequence = sequence_after (last_after texts.edits) batches; rows = rows_of (last_after texts.edits + 1) batches }

  once : (read : Result Texts Refusal) (one two : Texts) → read ≡ Ok one → read ≡ Ok two → one ≡ two
  once read one two is says = let same : Ok one ≡ Ok two = sym is ∙ says in cc

  behind_opens : (files : Files) (edits : List Edit) (texts : Texts) → texts_behind files edits ≡ Ok texts → all_batches (last_after texts.edits + 1) (finmap.entries texts.logs) ≡ Ok batches → opening_behind files edits ≡ Ok (opens_to texts)
  unfolding texts_behind opening_behind
  behind_opens files edits texts is read =
      let tables = step_of (tables_in files (finmap.entries (tables_after edits))) _ texts is in
      let opens = tables_open files (finmap.entries (tables_after edits)) tables.0 tables.1 in
      let found : Texts = record { edits = edits; tables = finmap.from_entries tables.0; logs = logs_of (log_after edits) files } in
      let same : found ≡ texts = once (Ok found) found texts refl tables.2 in
      subst (λ (t : Texts). all_batches (last_after t.edits + 1) (finmap.entries t.logs) ≡ Ok batches → opening_behind files edits ≡ Ok (opens_to t)) same
      (λ here. stepped (all_opened files (finmap.entries (tables_after edits))) _ opens.0 (opens_to found) opens.1
      (stepped (all_batches (last_after edits + 1) (finmap.entries (logs_of (log_after edits) files))) _ batches (opens_to found) here refl)) read

  files_open : (files : Files) (texts : Texts) → texts_in files ≡ Ok texts → all_batches (last_after texts.edits + 1) (finmap.entries texts.logs) ≡ Ok batches
      → (edits_at files >>= opening_behind files) ≡ Ok (opens_to texts)
  unfolding texts_in
  files_open files texts is read =
      let manifest = step_of (current_of files) _ texts is in
      let edits = step_of (edits_of files manifest.0) (texts_behind files) texts manifest.2 in
      let said : edits_at files ≡ Ok edits.0 = stepped (current_of files) (edits_of files) manifest.0 edits.0 manifest.1 edits.1 in
      stepped (edits_at files) (opening_behind files) edits.0 (opens_to texts) said (behind_opens files edits.0 texts edits.2 read)

-- a folder whose texts are read opens to the rows of its logs
pub texts_open : (place : Place) (texts : Texts) (batches : List (List Op)) → texts_of place ≡ Ok texts → all_batches (last_after texts.edits + 1) (finmap.entries texts.logs) ≡ Ok batches → opening place ≡ Ok (opens_to batches texts)
texts_open Nothing texts batches is read = cc
texts_open Not_a_folder texts batches is read = cc
texts_open (Stands_with files) texts batches is read = files_open batches files texts is read
