-- What a folder reads as, from its head, its tables and its logs.
use Rattle.std.specs.Prelude.{◌≡◌, ℕ, ◌+◌, T, List, [], ◌∷◌, ◌++◌, Option, Some, unwrap_or, Result, Ok, Err, IfSome, IfOk, IfErr}
use Rattle.std.proofs.Common.{refl, sym, ap, subst, ◌∙◌, append-nil}
use Rattle.std.proofs.lemmas.List.Sums.{fold-append}
use Rattle.std.specs.Cmp.{nat_cmp_total}
use Rattle.std.specs.Ordering.{nat_cmp, is_lt}
use Rattle.std.specs.FinMap as finmap
use Rattle.std.specs.FinMap.Entries.{below_all, is_sorted}
use Rattle.lsm_names.specs.declared.file_names.FileName.{FileName}
use Rattle.lsm_rows.specs.declared.operations.Op.{Op}
use Rattle.lsm_rows.specs.declared.rows.Row.{Row}
use Rattle.lsm_rows.specs.Contents.{contents_of}
use Rattle.lsm_rows.specs.Replay.{Contents, sequence_after}
use Rattle.lsm_rows.specs.Rows.{rows_of}
use Rattle.lsm_rows.proofs.PairEntries.{both}
use Rattle.lsm_disk.specs.State.{Story, state_of}
use Rattle.lsm_version.specs.declared.edits.Edit.{Edit}
use Rattle.lsm_version.specs.declared.tables.Placed.{Placed}
use Rattle.lsm_version.specs.Levels.{Tables}
use Rattle.lsm_version.specs.Versions.{Numbers}
use Rattle.lsm_folder.specs.declared.refusals.Refusal.{Refusal}
use Rattle.lsm_folder.specs.declared.refusals.Refusal.TheVariants.{NoFolder}
use Rattle.lsm_folder.specs.Files.{Files, Place, Nothing, Not_a_folder, Stands_with}
use Rattle.lsm_folder.specs.Logs.{logs_of, all_batches}
use Rattle.lsm_folder.specs.Manifests.{tables_or_none, tables_after, log_after, next_after, last_after}
use Rattle.lsm_folder.specs.Needed.{edits_at}
use Rattle.lsm_folder.specs.Reading.{Texts, AllRows, Shown, current_of, edits_of, table_of, tables_in, texts_behind, texts_in, table_rows, rows_in, read, reading}
use Rattle.lsm_folder.specs.Steps.{◌>>=◌}
use Rattle.lsm_folder.specs.Tables.{TableRead}
use Rattle.lsm_folder.proofs.LiveLemmas.{all_below, same_entries}
use Rattle.lsm_recover.specs.declared.errors.FolderError.{FolderError}
use Rattle.lsm_recover.specs.declared.errors.FolderError.TheVariants.{NoMemory}
use Rattle.lsm_recover.specs.declared.folder.Found.{Found}
use Rattle.lsm_recover.specs.declared.head.Head.{Head}
use Rattle.lsm_recover.specs.declared.manifest.Stated.{Stated}
use Rattle.lsm_recover.specs.Answers.{IsRefusedBy, files_now, place_now}
use Rattle.lsm_recover.specs.Gathered.{Gathered, none_gathered, with_row, with_rows}
use Rattle.lsm_recover.specs.Head.{edits_there, IsHead}
use Rattle.lsm_recover.specs.Listed.{names_in, next_number}
use Rattle.lsm_recover.specs.Logs.{Replays}
use Rattle.lsm_recover.specs.Shown.{AnswersShown, IsOfFolder}
use Rattle.lsm_recover.specs.Stated.{AreStated}
use Rattle.lsm_recover.specs.Tables.{rows_in_turn, GathersTables}
use Rattle.lsm_recover.proofs.AnswerLemmas.{refused_too}
use Rattle.lsm_recover.proofs.DiskLemmas.{place_is}
use Rattle.lsm_recover.proofs.GatheredLemmas.{gathered_contents}
use Rattle.lsm_recover.proofs.OpenLemmas.{where_told}

-- ---- a folder whose edits are refused

pub same_refusal : (one two : Refusal) (read : Result (List Edit) Refusal) → read ≡ Err one → read ≡ Err two → one ≡ two
same_refusal one two read is says = let same : Err one ≡ Err two = sym is ∙ says in cc

by_edits : (files : Files) → texts_in files ≡ (edits_at files >>= texts_behind files)
unfolding texts_in
by_edits files = by_current (current_of files) where
  by_current : (x : Result ℕ Refusal) → (x >>= λ (manifest : ℕ). edits_of files manifest >>= texts_behind files) ≡ (x >>= edits_of files >>= texts_behind files)
  by_current (Ok manifest) = refl
  by_current (Err refusal) = refl

reading_by : (files : Files) (x : Result (List Edit) Refusal) → edits_at files ≡ x → reading (Stands_with files) ≡ (x >>= texts_behind files >>= read)
reading_by files x is = ap (λ (t : Result Texts Refusal). t >>= read) (by_edits files) ∙ ap (λ (y : Result (List Edit) Refusal). y >>= texts_behind files >>= read) is

edits_refuse : (place : Place) (r : Refusal) → edits_there place ≡ Err r → reading place ≡ Err r
edits_refuse Nothing r is = ap (λ (x : Refusal). Err x) (same_refusal NoFolder r (edits_there Nothing) refl is)
edits_refuse Not_a_folder r is = ap (λ (x : Refusal). Err x) (same_refusal NoFolder r (edits_there Not_a_folder) refl is)
edits_refuse (Stands_with files) r is = reading_by files (Err r) is

pub head_refuses : (place : Place) (error : FolderError) → IsRefusedBy (edits_there place) error → IsRefusedBy (reading place) error
head_refuses place = refused_too (edits_there place) (reading place) (edits_refuse place)

-- ---- what edits come to

module _ (edits : List Edit) (stated : Stated) (are : AreStated edits stated) where
  pub version_is : tables_after edits ≡ stated.version
  unfolding tables_after
  version_is = ap tables_or_none are.version

  pub log_is : log_after edits ≡ stated.log
  unfolding log_after
  log_is = ap (λ (n : Numbers). unwrap_or n.log 0) are.numbers

  pub next_is : next_after edits ≡ stated.next
  unfolding next_after
  next_is = ap (λ (n : Numbers). unwrap_or n.next 0) are.numbers

  pub last_is : last_after edits ≡ stated.last
  unfolding last_after
  last_is = ap (λ (n : Numbers). unwrap_or n.last 0) are.numbers

-- ---- tables that were read stand in the order of their numbers

record IsReadFirst (files : Files) (e : ℕ × Placed) (es : List (ℕ × Placed)) (tables : List (ℕ × TableRead)) : Type 0 where
  first : TableRead
  more : List (ℕ × TableRead)
  rest : tables_in files es ≡ Ok more
  is : (e.0, first) ∷ more ≡ tables

read_first : (files : Files) (e : ℕ × Placed) (es : List (ℕ × Placed)) (tables : List (ℕ × TableRead)) → tables_in files (e ∷ es) ≡ Ok tables → IsReadFirst files e es tables
read_first files e es tables is = by_table (table_of files e.0 e.1) (tables_in files es) refl is where
  by_table : (one : Result TableRead Refusal) (rest : Result (List (ℕ × TableRead)) Refusal) → tables_in files es ≡ rest
      → (one >>= λ (first : TableRead). rest >>= λ (more : List (ℕ × TableRead)). Ok ((e.0, first) ∷ more)) ≡ Ok tables → IsReadFirst files e es tables
  by_table (Err refusal) rest was is = cc
  by_table (Ok first) (Err refusal) was is = cc
  by_table (Ok first) (Ok more) was is = record { first = first; more = more; rest = was; is = let same : (e.0, first) ∷ more ≡ tables = cc in same }

below_too : (files : Files) (q : ℕ) (es : List (ℕ × Placed)) (tables : List (ℕ × TableRead)) → tables_in files es ≡ Ok tables → T (below_all nat_cmp q es) → T (below_all nat_cmp q tables)
below_too files q [] tables is below = subst (λ (l : List (ℕ × TableRead)). T (below_all nat_cmp q l)) (let same : [] ≡ tables = cc in same) tt
below_too files q (e ∷ es) tables is below =
    let one = read_first files e es tables is in
    let parts = all_below (is_lt (nat_cmp q e.0)) (below_all nat_cmp q es) below in
    subst (λ (l : List (ℕ × TableRead)). T (below_all nat_cmp q l)) one.is (both (is_lt (nat_cmp q e.0)) (below_all nat_cmp q one.more) parts.0 (below_too files q es one.more one.rest parts.1))

sorted_too : (files : Files) (es : List (ℕ × Placed)) (tables : List (ℕ × TableRead)) → tables_in files es ≡ Ok tables → T (is_sorted nat_cmp es) → T (is_sorted nat_cmp tables)
sorted_too files [] tables is sorted = subst (λ (l : List (ℕ × TableRead)). T (is_sorted nat_cmp l)) (let same : [] ≡ tables = cc in same) tt
sorted_too files (e ∷ es) tables is sorted =
    let one = read_first files e es tables is in
    let parts = all_below (below_all nat_cmp e.0 es) (is_sorted nat_cmp es) sorted in
    subst (λ (l : List (ℕ × TableRead)). T (is_sorted nat_cmp l)) one.is
    (both (below_all nat_cmp e.0 one.more) (is_sorted nat_cmp one.more) (below_too files e.0 es one.more one.rest parts.0) (sorted_too files es one.more one.rest parts.1))

table_rows_are : (files : Files) (version : Tables) (tables : List (ℕ × TableRead)) → tables_in files (finmap.entries version) ≡ Ok tables → table_rows (finmap.from_entries tables) ≡ rows_in_turn tables
unfolding table_rows
table_rows_are files version tables is = ap rows_in_turn (same_entries nat_cmp nat_cmp_total tables (sorted_too files (finmap.entries version) tables is (finmap.entries_sorted version)) finmap.nat_cmp-IsAntisymmetric)

-- ---- the folder

module _ (dir : List ℕ) (story : Story) (head : Head) (is : IsHead dir story head) where
  abbrev files : Files
  files = files_now dir story

  abbrev edits : List Edit
  edits = is.gives.edits

  abbrev stated : Stated
  stated = head.stated

  abbrev texts_from : Result (List (ℕ × TableRead)) Refusal → Result Texts Refusal
  texts_from r = r >>= λ (tables : List (ℕ × TableRead)). Ok (record { edits = edits; tables = finmap.from_entries tables; logs = logs_of (log_after edits) files })

  by_tables : reading (place_now dir story) ≡ (texts_from (tables_in files (finmap.entries stated.version)) >>= read)
  unfolding texts_behind
  by_tables =
      let place = place_is dir (state_of story) is.listed.folder in
      ap reading place
      ∙ reading_by files (Ok edits) (sym (ap edits_there place) ∙ is.gives.is)
      ∙ ap (λ (t : Tables). texts_from (tables_in files (finmap.entries t)) >>= read) (version_is edits stated is.gives.are)

  pub tables_refuse : (error : FolderError) → IsRefusedBy (tables_in files (finmap.entries stated.version)) error → IsRefusedBy (reading (place_now dir story)) error
  tables_refuse = refused_too (tables_in files (finmap.entries stated.version)) (reading (place_now dir story)) (λ refused says. by_tables ∙ ap (λ (r : Result (List (ℕ × TableRead)) Refusal). texts_from r >>= read) says)

  module _ (newest : Gathered) (gathers : GathersTables (tables_in files (finmap.entries stated.version)) none_gathered newest) where
    abbrev batches_read : Result (List (List Op)) Refusal
    batches_read = all_batches (stated.last + 1) (finmap.entries (logs_of stated.log files))

    abbrev shown_from : ℕ → List Row → Result (List (List Op)) Refusal → Result Shown Refusal
    shown_from last rows r = (r >>= λ (batches : List (List Op)). Ok (record { sequence = sequence_after last batches; rows = rows ++ rows_of (last + 1) batches })) >>= λ (all : AllRows). Ok (record { sequence = all.sequence; contents = contents_of all.rows })

    by_logs : reading (place_now dir story) ≡ shown_from stated.last (rows_in_turn gathers.tables) batches_read
    unfolding rows_in
    by_logs =
        by_tables
        ∙ ap (λ (r : Result (List (ℕ × TableRead)) Refusal). texts_from r >>= read) gathers.is
        ∙ ap (λ (rows : List Row). shown_from (last_after edits) rows (all_batches (last_after edits + 1) (finmap.entries (logs_of (log_after edits) files)))) (table_rows_are files stated.version gathers.tables gathers.is)
        ∙ ap (λ (n : ℕ). shown_from n (rows_in_turn gathers.tables) (all_batches (n + 1) (finmap.entries (logs_of (log_after edits) files)))) (last_is edits stated is.gives.are)
        ∙ ap (λ (n : ℕ). shown_from stated.last (rows_in_turn gathers.tables) (all_batches (stated.last + 1) (finmap.entries (logs_of n files)))) (log_is edits stated is.gives.are)

    pub logs_refuse : (error : FolderError) → IsRefusedBy batches_read error → IsRefusedBy (reading (place_now dir story)) error
    logs_refuse = refused_too batches_read (reading (place_now dir story)) (λ refused says. by_logs ∙ ap (shown_from stated.last (rows_in_turn gathers.tables)) says)

    pub folder_read : (rows : List Row) (sequence : ℕ) (contents : Contents) → Replays stated.last batches_read (λ (_ : ℕ). Ok []) [] rows sequence → contents ≡ (with_rows newest rows).contents
        → reading (place_now dir story) ≡ Ok (record { sequence = sequence; contents = contents })
    folder_read rows sequence contents r gives =
        let all : List Row = rows_in_turn gathers.tables ++ rows_of (stated.last + 1) r.more in
        let gathered : with_rows newest rows ≡ with_rows none_gathered all =
        ap (with_rows newest) r.rows_are
        ∙ ap (λ (g : Gathered). with_rows g (rows_of (stated.last + 1) r.more)) gathers.rows_are
        ∙ sym (fold-append with_row none_gathered (rows_in_turn gathers.tables) (rows_of (stated.last + 1) r.more)) in
        let same : contents_of all ≡ contents = sym (gives ∙ ap (λ (g : Gathered). g.contents) gathered ∙ gathered_contents all) in
        by_logs
        ∙ ap (shown_from stated.last (rows_in_turn gathers.tables)) (r.is ∙ ap Ok (append-nil r.more))
        ∙ (λ i. Ok (record { sequence = sym r.last_is i; contents = same i }))

    -- what was found is what the folder reads as
    pub found_answers : (rows : List Row) (sequence : ℕ) → Replays stated.last batches_read (λ (_ : ℕ). Ok []) [] rows sequence → (result : Result Found FolderError)
        → IfOk result (λ (found : Found). found.contents ≡ (with_rows newest rows).contents) → IfOk result (λ (found : Found). found.sequence ≡ sequence) → IfErr result (λ (e : FolderError). e ≡ NoMemory)
        → AnswersShown (reading (place_now dir story)) result
    found_answers rows sequence r (Ok found) contents last refused =
        folder_read rows sequence found.contents r contents ∙ ap (λ (n : ℕ). Ok (record { sequence = n; contents = found.contents })) (sym last)
    found_answers rows sequence r (Err error) contents last refused = subst (IsRefusedBy (reading (place_now dir story))) (sym refused) tt

-- what a head says of a folder
pub of_folder : (dir : List ℕ) (story : Story) (head : Head) → IsHead dir story head → (version : Tables) (log next : ℕ) (names : List FileName) → version ≡ head.stated.version → log ≡ head.stated.log
    → next ≡ next_number head.stated.next head.listing → names ≡ names_in head.listing → IsOfFolder dir story version log next names
of_folder dir story head of version log next names version_so log_so next_so names_so =
    let edits = of.gives.edits in
    record {
      edits = edits;
      said = of.gives.is;
      version_is = version_so ∙ sym (version_is edits head.stated of.gives.are);
      log_is = log_so ∙ sym (log_is edits head.stated of.gives.are);
      next_is = next_so ∙ (λ i. next_number (sym (next_is edits head.stated of.gives.are) i) (of.listed.entries_are i));
      names_are = names_so ∙ ap names_in of.listed.entries_are;
    }

-- what else was found is what the folder's manifest and its listing say
pub found_of : (dir : List ℕ) (told : Option Story) (head : Head) (result : Result Found FolderError) → ((story : Story) → told ≡ Some story → IsHead dir story head)
    → IfOk result (λ (found : Found). found.version ≡ head.stated.version) → IfOk result (λ (found : Found). found.log ≡ head.stated.log)
    → IfOk result (λ (found : Found). found.next ≡ next_number head.stated.next head.listing) → IfOk result (λ (found : Found). found.names ≡ names_in head.listing)
    → IfOk result (λ (found : Found). IfSome told (λ (story : Story). IsOfFolder dir story found.version found.log found.next found.names))
found_of dir told head (Err error) heads version log next names = tt
found_of dir told head (Ok found) heads version log next names = where_told told (λ (story : Story). IsOfFolder dir story found.version found.log found.next found.names)
    (λ story is. of_folder dir story head (heads story is) found.version found.log found.next found.names version log next names)
