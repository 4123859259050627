-- An opening of a folder that stands, from what was read to the new log.
use Rattle.std.specs.Prelude.{◌≡◌, ◌≢◌, ◌⊎◌, ◌↔◌, ℕ, ◌+◌, ◌^◌, ◌<◌, ◌≤◌, Bool, true, false, cond, is_some, List, [], ◌∷◌, ◌++◌, length, take, All, Contains, Option, Some, None, Result, Ok, Err}
use Rattle.std.proofs.Common.{inr, ⊎_elim, append-nil, refl, sym, ap, subst, ◌∙◌, arith, append_assoc}
use Rattle.std.specs.FinMap as finmap
use Rattle.std.specs.List.Sorted.{IsPermutation}
use Rattle.std.proofs.lemmas.Bool.Decides.{nat_tests}
use Rattle.std.proofs.lemmas.Cmp.{nat_cmp_total}
use Rattle.std.specs.Ordering.{nat_cmp, eq_by_cmp}
use Rattle.lsm_version.proofs.TableMaps.{same_number}
use Rattle.std.proofs.lemmas.List.Elements.{All-nil, All-cons, All-append, All-weaker, Contains-append_cases, Contains-append_left, Contains-append_right}
use Rattle.std.proofs.lemmas.List.Sorted.{length_permutation}
use Rattle.lsm_names.specs.Numbers.{is_file_number}
use Rattle.lsm_names.specs.Folders.{is_folder_name}
use Rattle.lsm_names.specs.FileNames.{IsFileName}
use Rattle.lsm_names.specs.declared.file_names.FileName.{FileName}
use Rattle.lsm_names.specs.declared.file_names.FileName.TheVariants.{Log, Table, Manifest, Temp, Current}
use Rattle.lsm_names.proofs.FolderLemmas.{folder_is_short, folder_is_component, folder_has_bytes}
use Rattle.lsm_names.proofs.PathLemmas.{component_is_path}
use Rattle.lsm_rows.specs.declared.operations.Op.{Op}
use Rattle.lsm_rows.specs.declared.rows.Row.{Row}
use Rattle.lsm_rows.specs.Replay.{sequence_after}
use Rattle.lsm_rows.specs.Rows.{rows_of}
use Rattle.lsm_rows.specs.Contents.{newest}
use Rattle.lsm_disk.specs.Names.{Node, Names, Folder_node, File_node, stands, all_named}
use Rattle.lsm_disk.specs.State.{State, Story, Idle, Synced, state_of, after, names_now, file_synced, file_at, file_by, where_new, in_found}
use Rattle.lsm_disk.specs.Images.{Tree, tree_now}
use Rattle.lsm_disk.specs.Listing.{listing}
use Rattle.lsm_disk.specs.Tree.{IsLawful}
use Rattle.lsm_disk.specs.Dest.{path_in}
use Rattle.lsm_disk.proofs.Lawful.{lawful_synced}
use Rattle.lsm_disk.proofs.Runs.{state_push, went_weaker, went_wider}
use Rattle.lsm_version.specs.declared.edits.Edit.{Edit}
use Rattle.lsm_version.specs.declared.tables.TableInfo.{TableInfo}
use Rattle.lsm_version.specs.Levels.{Tables}
use Rattle.lsm_folder.specs.Names.{number_of}
use Rattle.lsm_folder.specs.Files.{Files, place_of, place_by, files_in}
use Rattle.lsm_folder.specs.Needed.{edits_at}
use Rattle.lsm_folder.specs.Logs.{logs_of, all_batches}
use Rattle.lsm_folder.specs.Manifests.{tables_after, log_after, last_after}
use Rattle.lsm_folder.specs.Reading.{AllRows}
use Rattle.lsm_folder.specs.Steps.{◌>>=◌}
use Rattle.lsm_folder.specs.declared.refusals.Refusal.{Refusal}
use Rattle.lsm_table.specs.declared.parts.Properties.{Properties}
use Rattle.lsm_manifest.specs.Installing.{Before, Installs, NamesOldOrNew, IsInstalled}
use Rattle.lsm_manifest.specs.Shown as manifest
use Rattle.lsm_manifest.specs.Texts.{manifest_text}
use Rattle.lsm_wal.specs.Shown as wal
use Rattle.lsm_memtable.specs.Newest.{is_newest, newest_each}
use Rattle.lsm_memtable.proofs.NewestRows.{newest_stays}
use Rattle.lsm_recover.specs.Head.{edits_there}
use Rattle.lsm_recover.specs.Listed.{AreBefore}
use Rattle.lsm_recover.specs.Opening.{all_opened, opening_behind, opening}
use Rattle.lsm_recover.proofs.EntryLemmas.{names_fit, names_stand}
use Rattle.lsm_refine.specs.Among.{ChangesAmong}
use Rattle.lsm_refine.specs.Beside.{LeadToFiles}
use Rattle.lsm_refine.specs.Flushed.{AreFlushed, at_top}
use Rattle.lsm_refine.specs.Folders.{ChangesInside}
use Rattle.lsm_refine.specs.FoundFolder.{NewTable, Recovery, IsTableOf, TakesRows, AreNamesIn, IsPlanned, IsRecovery, IsTableFile, HasNewTable, HasSwitched, HasRecovered, HasAdded, last_found, number_behind, new_manifest, new_log, table_names, added_names, version_with, new_version, opening_edit}
use Rattle.lsm_refine.specs.Grown.{IsDrawn as IsDrawnName}
use Rattle.lsm_refine.specs.Naming.{Replaces, ReplacesAt}
use Rattle.lsm_refine.specs.Sane.{AreFiles}
use Rattle.lsm_refine.specs.WholeEdits.{AddAll, AreInRange, whole_edit}
use Rattle.lsm_refine.proofs.AmongLemmas.{among_none, among_at}
use Rattle.lsm_refine.proofs.NewFileLemmas.{went_making}
use Rattle.lsm_refine.proofs.OutsideLemmas.{change_inside}
use Rattle.lsm_refine.proofs.RecoveredSteps.{has_switched, has_recovered}
use Rattle.lsm_refine.proofs.ReplacedFrames.{went_replacing}
use Rattle.lsm_refine.proofs.SwitchedLemmas.{files_among}
use Rattle.lsm_opening.specs.declared.found.Found.{Found}
use Rattle.lsm_opening.specs.declared.installing.Recovered.{Recovered}
use Rattle.lsm_opening.specs.declared.numbers.Numbers.{Numbers}
use Rattle.lsm_opening.specs.Finding.{HasFound, behind_sync}
use Rattle.lsm_opening.specs.Edits.{IsWholeEdit}
use Rattle.lsm_opening.specs.Installing.{HasInstalled, HasGoneOn, IsMadeOf}
use Rattle.lsm_opening.specs.Numbers.{AreTablesBefore, IsDrawn, tables_of}
use Rattle.lsm_opening.specs.Recovering.{HasWritten, No_rows, With_table, HasRecoveredFrom, IsSoundRecovered, WroteAtMost}
use Rattle.lsm_opening.specs.RowTables.{HasRowTable, newest_table}
use Rattle.lsm_opening.proofs.Installs.{before_any, still_any, apart_any}
use Rattle.lsm_opening.proofs.Replaced.{installs_replace, installed_replaced}

-- ---- what the folder opens to

-- the batches that were read, and what they come to
pub record OpensTo (files : Files) (edits : List Edit) (rows : AllRows) : Type 0 where
  pub batches : List (List Op)
  pub are : all_batches (last_after edits + 1) (finmap.entries (logs_of (log_after edits) files)) ≡ Ok batches
  pub rows_are : rows.rows ≡ rows_of (last_after edits + 1) batches
  pub sequence_is : rows.sequence ≡ sequence_after (last_after edits) batches

module _ (files : Files) (edits : List Edit) (rows : AllRows) where
  abbrev by_batches : Result (List (List Op)) Refusal → Result AllRows Refusal
  by_batches r = r >>= λ (batches : List (List Op)). Ok (record {
    sequence = sequence_after (last_after edits) batches;
    rows = rows_of (last_after edits + 1) batches;
  })

  abbrev read : Result (List (List Op)) Refusal
  read = all_batches (last_after edits + 1) (finmap.entries (logs_of (log_after edits) files))

  abbrev given : AllRows → Result AllRows Refusal
  given a = Ok a

  same_rows : (a b : AllRows) → given a ≡ given b → a ≡ b
  same_rows a b same = cc

  by_read : (r : Result (List (List Op)) Refusal) → read ≡ r → by_batches r ≡ Ok rows → OpensTo files edits rows
  by_read (Err refused) is says = absurd (cc)
  by_read (Ok batches) is says =
      let same : rows ≡ record {
        sequence = sequence_after (last_after edits) batches;
        rows = rows_of
            (last_after edits + 1) batches;
      } =
      sym (same_rows _ rows says) in
      record {
        batches = batches;
        are = is;
        rows_are = ap (λ (r : AllRows). r.rows) same;
        sequence_is = ap (λ (r : AllRows). r.sequence) same;
      }

  by_tables : (r : Result (List Properties) Refusal) → (r >>= λ (tables : List Properties). by_batches read) ≡ Ok rows
      → OpensTo files edits rows
  by_tables (Err refused) says = absurd (cc)
  by_tables (Ok tables) says = by_read read refl says

  opens_to : opening_behind files edits ≡ Ok rows → OpensTo files edits rows
  unfolding opening_behind
  opens_to says = by_tables (all_opened files (finmap.entries (tables_after edits))) says

-- the folder stands and its manifest has the edits
pub record IsThere (dir : List ℕ) (d : State) (edits : List Edit) (rows : AllRows) : Type 0 where
  pub folder : stands (names_now d) dir ≡ Some Folder_node
  pub edits_are : edits_at (files_in dir (tree_now d)) ≡ Ok edits
  pub opens : OpensTo (files_in dir (tree_now d)) edits rows

module _ (dir : List ℕ) (d : State) (edits : List Edit) (rows : AllRows) where
  abbrev files : Files
  files = files_in dir (tree_now d)

  by_node : (o : Option Node) → stands (names_now d) dir ≡ o → edits_there (place_by o (files_in dir (tree_now d))) ≡ Ok edits
      → opening (place_by o (files_in dir (tree_now d))) ≡ Ok rows → IsThere dir d edits rows
  by_node None at said opens = absurd (cc)
  by_node (Some (File_node id)) at said opens = absurd (cc)
  by_node (Some Folder_node) at said opens = record {
    folder = at;
    edits_are = said;
    opens = opens_to files edits rows
        (sym (ap (λ (r : Result (List Edit) Refusal). r >>= opening_behind files) said) ∙ opens);
  }

  pub is_there : edits_there (place_of dir (tree_now d)) ≡ Ok edits → opening (place_of dir (tree_now d)) ≡ Ok rows
      → IsThere dir d edits rows
  unfolding place_of
  is_there said opens = by_node (stands (names_now d) dir) refl said opens

-- ---- a sync of a file

module _ (s : State) (path : List ℕ) where
  by_found : (o : Option ℕ) → ((after s (in_found o Synced)).pending ≡ s.pending) ×
      ((after s (in_found o Synced)).durable ≡ s.durable)
  by_found None = (refl, refl)
  by_found (Some id) = (refl, refl)

  by_new : (bytes : List ℕ) → ((after s (where_new bytes (in_found (file_at s path) Synced))).pending ≡ s.pending)
      × ((after s (where_new bytes (in_found (file_at s path) Synced))).durable ≡ s.durable)
  by_new [] = (refl, refl)
  by_new (b ∷ bytes) = by_found (file_at s path)

  -- it changes no name
  pub names_stay : ((after s (file_synced path s)).pending ≡ s.pending) × ((after s (file_synced path s)).durable ≡ s.durable)
  names_stay = by_new (file_by (file_at s path) s).unsynced

  files_stay : (dir : List ℕ) → AreFiles s dir → AreFiles (after s (file_synced path s)) dir
  files_stay dir files = record {
    no_folder = λ name k fits is.
        let stay = names_stay in
        let same : finmap.get (all_named (take k (after s (file_synced path s)).pending)
        (after s (file_synced path s)).durable) (path_in dir name)
        ≡ finmap.get (all_named (take k s.pending) s.durable) (path_in dir name) =
        λ i. finmap.get (all_named (take k (stay.0 i)) (stay.1 i)) (path_in dir name) in
        files.no_folder name k fits (sym same ∙ is);
  }

-- ---- small facts

least_behind : (o : Option NewTable) (n : ℕ) → n ≤ number_behind o n
least_behind None n = omega arith
least_behind (Some new) n = omega arith

most_behind : (o : Option NewTable) (n : ℕ) → number_behind o n ≤ n + 1
most_behind None n = omega arith
most_behind (Some new) n = omega arith

no_rows : (rows : List Row) → length rows ≡ 0 → rows ≡ []
no_rows [] none = refl
no_rows (row ∷ rows) none = absurd (omega (arith, none))

one_table : (rows : List Row) → rows ≢ [] → tables_of rows ≡ 1
one_table [] some = absurd (some refl)
one_table (row ∷ rows) some = refl

pub fits_number : (n : ℕ) → 1 ≤ n → n + 1 < 2 ^ 56 → is_file_number n ≡ true
fits_number n some most = grind (arith, nat_tests, some, most)

drawn_name : (next later : ℕ) → next ≤ later → (name : FileName) → number_of name < next → IsDrawnName later name
drawn_name next later least (Log n) less = omega (arith, least, less)
drawn_name next later least (Table n) less = omega (arith, least, less)
drawn_name next later least (Manifest n) less = omega (arith, least, less)
drawn_name next later least (Temp n) less = omega (arith, least, less)
drawn_name next later least Current less = tt

pub names_drawn : (next later : ℕ) (names : List FileName) → next ≤ later → AreBefore next names → All
    (IsDrawnName later) names
names_drawn next later names least before =
    All-weaker (λ (name : FileName). number_of name < next) (IsDrawnName later) (drawn_name next later least) names before

pub node_at : (names : Names) (dir : List ℕ) → 1 ≤ length dir → stands names dir ≡ Some Folder_node
    → finmap.get names dir ≡ Some Folder_node
node_at names [] some at = absurd (omega (arith, some))
node_at names (b ∷ bytes) some at = at

-- ---- the table of the logs' rows

-- the table, if there is one, is on the disk, and nothing else has changed
pub record HasTabled (d : State) (dir : List ℕ) (o : Option NewTable) (told : Option Story) : Type 0 where
  pub story : Story
  pub tells : told ≡ Some story
  pub fit : All IsFileName (table_names o)
  pub among : ChangesAmong dir (table_names o) d (state_of story)
  pub inside : ChangesInside dir d (state_of story)
  pub table : HasNewTable (state_of story) dir o
  pub lead : LeadToFiles (state_of story)

flushed_newest : (frozen : List Row) → AreFlushed frozen (newest_each frozen)
unfolding newest_each
flushed_newest frozen = record { which = is_newest frozen; are = refl; newest_is = newest_stays frozen }

table_of : (first : ℕ) (batches : List (List Op)) (dir : List ℕ) (rows : List Row) (number : ℕ) (old new : Option Story)
    (info : TableInfo) → (has : HasRowTable dir rows number old new info) → rows ≡ rows_of first batches → rows ≢ []
    → IsTableOf first batches (newest_table info has.frozen)
table_of first batches dir rows number old new info has is some = record {
  frozen = has.frozen;
  are = record {
    same = subst (λ (l : List Row). IsPermutation l has.frozen) is has.joined.same;
    newest_is = λ key. has.joined.newest key ∙ ap (newest key) is;
  };
  some = λ none. some (no_rows rows (omega (
    arith,
    length_permutation rows has.frozen has.joined.same,
    ap (λ (l : List Row). length l) none,
  )));
  picked = flushed_newest has.frozen;
  keys = has.keys;
  said = has.said;
}

-- the rows are in the version's new table
pub with_rows : (dir : List ℕ) (version now : Tables) (names more : List FileName) (rows slice : List Row) (number : ℕ)
    (old new : Option Story) (info : TableInfo) → rows ≢ [] → slice ≡ rows → HasRowTable dir slice number old new info
    → now ≡ finmap.insert version info.number (at_top info) → more ≡ names ++ Table number ∷ []
    → HasWritten dir version names rows number old new now more
with_rows dir version now names more rows slice number old new info some same has is names_so =
    With_table info some (subst (λ (l : List Row). HasRowTable dir l number old new info) same has)
    (is ∙ ap (λ (k : ℕ). finmap.insert version k (at_top info)) has.number_is) names_so

pub wrote_table : (dir : List ℕ) (rows : List Row) (number : ℕ) (old new : Option Story) (info : TableInfo)
    → HasRowTable dir rows number old new info → WroteAtMost dir number old new
wrote_table dir rows number old new info has = inr (λ start is. went_weaker
    (λ (x : State). IsTableFile x dir (newest_table info has.frozen) × (x.pending ≡ [])) (λ (x : State). Unit {0}) (λ x i. tt)
    (has.there start is))

-- ---- behind the sync

module _ (dir : List ℕ) (named : is_folder_name dir ≡ true) (start : Story) (path : List ℕ)
    (lawful : IsLawful (state_of start)) (files : AreFiles (state_of start) dir) where
  abbrev d : State
  d = state_of (behind_sync path start)

  d_is : state_of (behind_sync path start) ≡ after (state_of start) (file_synced path (state_of start))
  d_is = state_push start (file_synced path (state_of start))

  lawful_d : IsLawful (state_of (behind_sync path start))
  lawful_d = subst IsLawful (sym d_is) (lawful_synced (state_of start) path lawful)

  files_d : AreFiles (state_of (behind_sync path start)) dir
  files_d = subst (λ (s : State). AreFiles s dir) (sym d_is) (files_stay (state_of start) path dir files)

  pub lead_d : LeadToFiles (state_of (behind_sync path start))
  lead_d = lawful_d.files

  none_tabled : (told : Option Story) → told ≡ Some (behind_sync path start) → HasTabled
      (state_of (behind_sync path start)) dir None told
  none_tabled told is = record {
    story = behind_sync path start;
    tells = is;
    fit = All-nil IsFileName;
    among = among_none dir [] d;
    inside = change_inside dir d Idle (record { names = λ folder ok other. tt; files = λ folder file ok other fits. tt }) tt;
    table = tt;
    lead = lead_d;
  }

  some_tabled : (rows : List Row) (number : ℕ) (old new : Option Story) (info : TableInfo)
      → (has : HasRowTable dir rows number old new info) → old ≡ Some (behind_sync path start) → IsFileName (Table number)
      → HasTabled (state_of (behind_sync path start)) dir (Some (newest_table info has.frozen)) new
  some_tabled rows number old new info has is fits =
      let went = went_making dir (Table number) named fits {start = behind_sync path start} {told = new}
      {P = λ (x : State) (t : Tree). Unit {0}} (λ (x : State) (t : Tree). Unit {0})
      (λ (x : State). IsTableFile x dir (newest_table info has.frozen) × (x.pending ≡ [])) lead_d
      (λ x t makes image held. tt) (has.there (behind_sync path start) is) in
      let x : State = state_of went.story in
      record {
        story = went.story;
        tells = went.tells;
        fit = All-cons IsFileName (Table info.number) [] (subst (λ (n : ℕ). IsFileName (Table n)) (sym has.number_is) fits)
            (All-nil IsFileName);
        among = subst (λ (n : ℕ). ChangesAmong dir (Table n ∷ []) d x) (sym has.number_is)
            (among_at dir (Table number ∷ []) (Table number) (0, omega arith, refl) d x went.now.1.at);
        inside = went.now.1.inside;
        table = went.now.0.0;
        lead = went.now.1.lead;
      }

  -- ---- the new manifest and the new log

  module _ (r : Recovery) (planned : IsPlanned r) (most : new_log r + 1 < 2 ^ 56) (told now : Option Story)
      (tabled : HasTabled (state_of (behind_sync path start)) dir r.table told)
      (has : (s : Story) → told ≡ Some s → HasInstalled dir (new_manifest r) (new_log r) (opening_edit r) s now) where
    abbrev m : ℕ
    m = new_manifest r

    abbrev edit : Edit
    edit = opening_edit r

    abbrev s3 : Story
    s3 = tabled.story

    some_m : 1 ≤ new_manifest r
    some_m = omega (arith, planned.some, least_behind r.table r.next)

    m_fits : IsFileName (Manifest (new_manifest r))
    m_fits = fits_number m some_m (omega (arith, most))

    i : HasInstalled dir (new_manifest r) (new_log r) (opening_edit r) tabled.story now
    i = has tabled.story tabled.tells

    files3 : AreFiles (state_of tabled.story) dir
    files3 = files_among dir named (table_names r.table) tabled.fit d (state_of s3) tabled.among files_d

    same_story : (a b : Story) → Some a ≡ Some b → a ≡ b
    same_story a b same = cc

    at_mid : IsInstalled dir (new_manifest r) (opening_edit r) (state_of i.mid)
        × ReplacesAt dir (new_manifest r) (state_of tabled.story) (state_of i.mid)
    at_mid =
        let before : Before = before_any dir m some_m (omega (arith, most)) edit s3 in
        let went = went_replacing dir named m m_fits m_fits s3 (Some i.mid) (λ (x : State) (t : Tree). Unit {0})
        (λ (x : State) (t : Tree). Unit {0}) (IsInstalled dir m edit) tabled.lead files3 (λ x t is image held. tt)
        (went_wider (Installs dir m (length (state_of s3).files)) (Replaces dir m (length (state_of s3).files))
        (NamesOldOrNew dir m edit before) (λ (x : State) (t : Tree). Unit {0})
        (installs_replace dir m (length (state_of s3).files)) (λ x t held. tt)
        (i.switched before (still_any dir m some_m (omega (arith, most)) edit s3)
        (apart_any dir m some_m (omega (arith, most)) edit s3))) in
        subst (λ (s : Story). IsInstalled dir m edit (state_of s) × ReplacesAt dir m (state_of s3) (state_of s))
        (sym (same_story i.mid went.story went.tells)) went.now

    switched : HasSwitched (state_of (behind_sync path start)) (state_of i.mid) dir r
    switched = has_switched dir named r planned d (state_of s3) (state_of i.mid) tabled.among tabled.inside tabled.table
        at_mid.1.among at_mid.1.inside (installed_replaced dir m edit (state_of i.mid) at_mid.0)

    went_on : (story : Story) × (now ≡ Some story) × HasRecovered (state_of (behind_sync path start)) (state_of story) dir r
    went_on = (
      i.made.story,
      i.made.tells,
      has_recovered dir named r planned d (state_of i.mid) switched at_mid.1.lead (state_of i.made.story) i.made.now,
    )

-- ---- all of it

abbrev wal_at : List ℕ → ℕ → wal.Shown
wal_at dir number = record { path = path_in dir (Log number); len = 0 }

abbrev shown_at : List ℕ → ℕ → List Edit → manifest.Shown
shown_at dir number edits = record {
  dir = dir;
  number = number;
  path = path_in dir (Manifest number);
  len = length (manifest_text edits);
}

module _ (dir : List ℕ) (told2 told3 told4 : Option Story) (found : Found) (numbers : Numbers) (drawn : IsDrawn found numbers)
    (behind : AreBefore found.next found.names) (small : found.sequence < 2 ^ 56) (v : Tables) (n : List FileName)
    (x : Recovered) (go : HasGoneOn dir v n numbers found.sequence told3 told4 x) where
  -- on every disk the parts are a store's: all names are files'
  written_fit : All IsFileName found.names → HasWritten dir found.version found.names found.rows numbers.first told2 told3 v n
      → All IsFileName n
  written_fit fit (No_rows none same version_so names_so) = subst (All IsFileName) (sym names_so) fit
  written_fit fit (With_table info some has version_so names_so) = subst (All IsFileName) (sym names_so)
      (All-append IsFileName found.names (Table numbers.first ∷ []) fit
      (All-cons IsFileName (Table numbers.first) []
      (fits_number numbers.first drawn.some (omega (arith, drawn.most, drawn.log, drawn.manifest))) (All-nil IsFileName)))

  -- their numbers are drawn
  log_is : x.log ≡ numbers.log
  log_is = go.is.log

  drawn_before : (later : ℕ) → numbers.log ≤ later
      → HasWritten dir found.version found.names found.rows numbers.first told2 told3 v n → All (IsDrawnName (later + 1)) n
  drawn_before later least (No_rows none same version_so names_so) =
      subst (All (IsDrawnName (later + 1))) (sym names_so)
      (names_drawn found.next (later + 1) found.names (omega (arith, least, drawn.later, drawn.manifest, drawn.log)) behind)
  drawn_before later least (With_table info some has version_so names_so) =
      subst (All (IsDrawnName (later + 1))) (sym names_so)
      (All-append (IsDrawnName (later + 1)) found.names (Table numbers.first ∷ [])
      (names_drawn found.next (later + 1) found.names (omega (arith, least, drawn.later, drawn.manifest, drawn.log)) behind)
      (All-cons (IsDrawnName (later + 1)) (Table numbers.first) [] (omega (arith, least, drawn.manifest, drawn.log))
      (All-nil (IsDrawnName (later + 1)))))

  -- so are those of the tables
  tables_before : HasWritten dir found.version found.names found.rows numbers.first told2 told3 v n
      → AreTablesBefore numbers.log v
  tables_before (No_rows none same version_so names_so) number is =
      let less = drawn.tables number (subst (λ (t : Tables). is_some (finmap.get t number) ≡ true) version_so is) in
      omega (arith, less, drawn.manifest, drawn.log)
  tables_before (With_table info some has version_so names_so) number is =
      by (eq_by_cmp nat_cmp number numbers.first) refl
      (sym (ap is_some (finmap.get-insert nat_cmp_total found.version numbers.first (at_top info) number))
      ∙ subst (λ (t : Tables). is_some (finmap.get t number) ≡ true) version_so is)
    where
      by : (b : Bool) → eq_by_cmp nat_cmp number numbers.first ≡ b
          → is_some (cond b (Some (at_top info)) (finmap.get found.version number)) ≡ true → number < numbers.log
      by true same there = omega (arith, same_number number numbers.first same, drawn.manifest, drawn.log)
      by false other there = omega (arith, drawn.tables number there, drawn.manifest, drawn.log)

  pub sound_so : All IsFileName found.names → HasWritten dir found.version found.names found.rows numbers.first told2 told3 v n
      → AreInRange v → IsSoundRecovered dir x
  sound_so fit written range = record {
    some = omega (arith, log_is, drawn.log);
    most = omega (arith, log_is, drawn.most);
    last = subst (λ (k : ℕ). k < 2 ^ 56) (sym go.is.sequence_is) small;
    fit = subst (All IsFileName) (sym go.is.names_are)
        (All-append IsFileName n (Manifest numbers.manifest ∷ Log numbers.log ∷ []) (written_fit fit written)
        (All-cons IsFileName (Manifest numbers.manifest) (Log numbers.log ∷ [])
        (fits_number numbers.manifest (omega (arith, drawn.some, drawn.manifest)) (omega (arith, drawn.most, drawn.log)))
        (All-cons IsFileName (Log numbers.log) [] (fits_number numbers.log (omega (arith, drawn.log)) drawn.most)
        (All-nil IsFileName))));
    names = subst (All (IsDrawnName (x.log + 1))) (sym go.is.names_are)
        (All-append (IsDrawnName (x.log + 1)) n (Manifest numbers.manifest ∷ Log numbers.log ∷ [])
        (drawn_before x.log (omega (arith, log_is)) written)
        (All-cons (IsDrawnName (x.log + 1)) (Manifest numbers.manifest) (Log numbers.log ∷ [])
        (omega (arith, log_is, drawn.log))
        (All-cons (IsDrawnName (x.log + 1)) (Log numbers.log) [] (omega (arith, log_is))
        (All-nil (IsDrawnName (x.log + 1))))));
    manifest_in = ap (λ (m : manifest.Shown). m.dir) go.is.manifest;
    manifest_is = ap (λ (m : manifest.Shown). m.path) go.is.manifest
        ∙ sym (ap (λ (m : manifest.Shown). path_in dir (Manifest m.number)) go.is.manifest);
    wal_is = ap (λ (l : wal.Shown). l.path) go.is.wal ∙ ap (λ (k : ℕ). path_in dir (Log k)) (sym log_is);
    range = subst AreInRange (sym go.is.version_is) range;
    below = λ number is. subst (λ (k : ℕ). number < k) (sym log_is) (tables_before written number
        (subst (λ (t : Tables). is_some (finmap.get t number) ≡ true) go.is.version_is is));
  }

-- what an opening makes of a folder, so far as it has this table, this number of the manifest and this edit
pub record HasPlan (dir : List ℕ) (d : State) (o : Option NewTable) (number log : ℕ) (edit : Edit) : Type 0 where
  pub recovery : Recovery
  pub is : IsRecovery d dir recovery
  pub table : recovery.table ≡ o
  pub number_is : number ≡ new_manifest recovery
  pub log_is : log ≡ new_log recovery
  pub edit_is : edit ≡ opening_edit recovery

module _ (dir : List ℕ) (named : is_folder_name dir ≡ true) (start : Story) (told2 : Option Story) (found : Found)
    (hf : HasFound dir start told2 found) where
  abbrev path : List ℕ
  path = hf.synced.path

  abbrev behind_it : State
  behind_it = state_of (behind_sync hf.synced.path start)

  abbrev edits : List Edit
  edits = hf.is.edits

  pub there : IsThere dir (state_of (behind_sync hf.synced.path start)) hf.is.edits
      (record { sequence = found.sequence; rows = found.rows })
  there = is_there dir behind_it edits (record { sequence = found.sequence; rows = found.rows }) hf.is.said hf.opens

  pub names_are : AreNamesIn (state_of (behind_sync hf.synced.path start)) dir found.names
  names_are =
      let listed = listing dir (names_now behind_it) in
      let spells = component_is_path dir (folder_is_component dir named) in
      let short : length dir + 30 ≤ 160 = omega (arith, folder_is_short dir named) in
      record {
        fit = subst (All IsFileName) (sym hf.is.names_are) (names_fit listed);
        are = λ name fits.
            subst (λ (l : List FileName). Contains l name ↔
            (is_some (finmap.get (names_now behind_it) (path_in dir name)) ≡ true))
            (sym hf.is.names_are) (names_stand dir (names_now behind_it) short spells name fits);
      }

  module _ (numbers : Numbers) (drawn : IsDrawn found numbers) (behind : AreBefore found.next found.names)
      (small : found.sequence < 2 ^ 56) (v : Tables) (edit : Edit)
      (whole : IsWholeEdit v numbers.log (numbers.log + 1) found.sequence edit) where
    module _ (o : Option NewTable) (takes : TakesRows (last_after hf.is.edits + 1) there.opens.batches numbers.first o)
        (version_so : v ≡ version_with o found.version) (m_is : numbers.manifest ≡ number_behind o numbers.first) where
      abbrev r : Recovery
      r = record {
        edits = hf.is.edits;
        batches = there.opens.batches;
        names = found.names;
        next = numbers.first;
        table = o;
        adds = edit.adds;
      }

      l_is : numbers.log ≡ new_log r
      l_is = drawn.log ∙ ap (λ (k : ℕ). k + 1) m_is

      v_is : v ≡ new_version r
      v_is = version_so ∙ ap (version_with o) hf.is.version_is

      sequence_so : found.sequence ≡ last_found r
      sequence_so = there.opens.sequence_is

      edit_is : edit ≡ opening_edit r
      edit_is = whole.is ∙ (λ i. whole_edit edit.adds (l_is i) (l_is i + 1) (sequence_so i))

      planned : IsPlanned r
      planned = record {
        some = drawn.some;
        behind = names_drawn found.next numbers.first found.names drawn.later behind;
        fits = subst (λ (k : ℕ). IsFileName (Log k)) l_is (fits_number numbers.log (omega (arith, drawn.log)) drawn.most);
        last_fits = subst (λ (k : ℕ). k < 2 ^ 56) sequence_so small;
        takes = takes;
        adds = subst (λ (t : Tables). AddAll t edit.adds) v_is whole.all;
      }

      has_plan : HasPlan dir (state_of (behind_sync hf.synced.path start)) o numbers.manifest numbers.log edit
      has_plan = record {
        recovery = r;
        is = record {
          folder = node_at (names_now behind_it) dir (folder_has_bytes dir named) there.folder;
          read = record { edits_are = there.edits_are; batches_are = there.opens.are };
          names = names_are;
          planned = planned;
        };
        table = refl;
        number_is = m_is;
        log_is = l_is;
        edit_is = edit_is;
      }

      module _ (files : AreFiles (state_of start) dir) (told3 told4 : Option Story) (n : List FileName) (x : Recovered)
          (is : IsMadeOf dir v n numbers found.sequence edit x)
          (has : (s : Story) → told3 ≡ Some s → HasInstalled dir numbers.manifest numbers.log edit s told4)
          (names_so : n ≡ found.names ++ table_names o)
          (tabled : HasTabled (state_of (behind_sync hf.synced.path start)) dir o told3) where
        installed : (s : Story) → told3 ≡ Some s → HasInstalled dir (new_manifest r) (new_log r) (opening_edit r) s told4
        installed s told =
            subst (λ (e : Edit). HasInstalled dir (new_manifest r) (new_log r) e s told4) edit_is
            (subst (λ (k : ℕ). HasInstalled dir (new_manifest r) k edit s told4) l_is
            (subst (λ (k : ℕ). HasInstalled dir k numbers.log edit s told4) m_is (has s told)))

        all_names : x.names ≡ found.names ++ added_names r
        all_names = is.names_are
            ∙ (λ i. names_so i ++ Manifest (m_is i) ∷ Log (l_is i) ∷ [])
            ∙ append_assoc found.names (table_names o) (Manifest (new_manifest r) ∷ Log (new_log r) ∷ [])

        added : HasAdded r x.names
        added name = subst
            (λ (l : List FileName). Contains l name ↔ (Contains found.names name ⊎ Contains (added_names r) name))
            (sym all_names) (
              Contains-append_cases found.names (added_names r) name,
              ⊎_elim (Contains-append_left found.names (added_names r) name)
                  (Contains-append_right found.names (added_names r) name),
            )

        recovered_so : HasRecoveredFrom dir start told4 x
        unfolding has_plan
        recovered_so =
            let gone = went_on dir named start path hf.synced.lawful files r planned
            (subst (λ (k : ℕ). k + 1 < 2 ^ 56) l_is drawn.most) told3 told4 tabled installed in
            record {
              path = path;
              found = behind_sync path start;
              found_is = state_push start (file_synced path (state_of start));
              story = gone.0;
              tells = gone.1;
              recovery = r;
              read = has_plan.is;
              gone = gone.2;
              is = record {
                version = is.version_is ∙ v_is;
                names = added;
                manifest = is.manifest ∙ (λ i. shown_at dir (m_is i) (edit_is i ∷ []));
                wal = is.wal ∙ (λ i. wal_at dir (l_is i));
                log = is.log ∙ l_is;
                sequence = is.sequence_is ∙ sequence_so;
              };
            }

    -- the rows in logs are none, or in a table
    plain_takes : found.rows ≡ [] → TakesRows (last_after hf.is.edits + 1) there.opens.batches numbers.first None
    plain_takes none = sym there.opens.rows_are ∙ none

    table_takes : (told3 : Option Story) (info : TableInfo) → found.rows ≢ []
        → (has : HasRowTable dir found.rows numbers.first told2 told3 info)
        → TakesRows (last_after hf.is.edits + 1) there.opens.batches numbers.first (Some (newest_table info has.frozen))
    table_takes told3 info some has = (
      has.number_is,
      table_of (last_after edits + 1) there.opens.batches dir found.rows numbers.first told2 told3 info has
          there.opens.rows_are some,
    )

    plain_number : found.rows ≡ [] → numbers.manifest ≡ numbers.first
    plain_number none = omega (arith, drawn.manifest, ap tables_of none)

    table_number : found.rows ≢ [] → numbers.manifest ≡ numbers.first + 1
    table_number some = omega (arith, drawn.manifest, one_table found.rows some)

    table_version : (told3 : Option Story) (info : TableInfo) →
        (has : HasRowTable dir found.rows numbers.first told2 told3 info)
        → v ≡ finmap.insert found.version numbers.first (at_top info)
        → v ≡ version_with (Some (newest_table info has.frozen)) found.version
    table_version told3 info has is =
        is ∙ ap (λ (k : ℕ). finmap.insert found.version k (at_top info)) (sym has.number_is)

    pub plain_plan : found.rows ≡ [] → v ≡ found.version
        → HasPlan dir (state_of (behind_sync hf.synced.path start)) None numbers.manifest numbers.log edit
    plain_plan none is = has_plan None (plain_takes none) is (plain_number none)

    pub table_plan : (told3 : Option Story) (info : TableInfo) → found.rows ≢ []
        → (has : HasRowTable dir found.rows numbers.first told2 told3 info)
        → v ≡ finmap.insert found.version numbers.first (at_top info)
        → HasPlan dir (state_of (behind_sync hf.synced.path start)) (Some (newest_table info has.frozen)) numbers.manifest
        numbers.log edit
    table_plan told3 info some has is =
        has_plan (Some (newest_table info has.frozen)) (table_takes told3 info some has) (table_version told3 info has is)
        (table_number some)

    -- whether the logs have rows or not
    module _ (files : AreFiles (state_of start) dir) (told3 told4 : Option Story) (n : List FileName) (x : Recovered)
        (is : IsMadeOf dir v n numbers found.sequence edit x)
        (has_installed : (s : Story) → told3 ≡ Some s → HasInstalled dir numbers.manifest numbers.log edit s told4) where
      pub recovered_by : HasWritten dir found.version found.names found.rows numbers.first told2 told3 v n
          → HasRecoveredFrom dir start told4 x
      recovered_by (No_rows none same version_is names_is) =
          recovered_so None (plain_takes none) version_is (plain_number none) files told3 told4 n x is has_installed
          (names_is ∙ sym (append-nil found.names))
          (none_tabled dir named start path hf.synced.lawful files told3 (same ∙ hf.synced.tells))
      recovered_by (With_table info some has version_is names_is) =
          recovered_so (Some (newest_table info has.frozen)) (table_takes told3 info some has)
          (table_version told3 info has version_is) (table_number some) files told3 told4 n x is has_installed
          (names_is ∙ ap (λ (k : ℕ). found.names ++ Table k ∷ []) (sym has.number_is))
          (some_tabled dir named start path hf.synced.lawful files found.rows numbers.first told2 told3 info has hf.synced.tells
          (fits_number numbers.first drawn.some (omega (arith, drawn.most, drawn.log, drawn.manifest))))

pub recovered_from : (dir : List ℕ) → is_folder_name dir ≡ true → (start : Story) → AreFiles (state_of start) dir
    → (told2 told3 told4 : Option Story) (found : Found) → HasFound dir start told2 found → (numbers : Numbers)
    → IsDrawn found numbers → AreBefore found.next found.names → found.sequence < 2 ^ 56 → (v : Tables) (n : List FileName)
    (x : Recovered) → HasGoneOn dir v n numbers found.sequence told3 told4 x
    → HasWritten dir found.version found.names found.rows numbers.first told2 told3 v n → HasRecoveredFrom dir start told4 x
recovered_from dir named start files told2 told3 told4 found hf numbers drawn behind small v n x go =
    recovered_by dir named start told2 found hf numbers drawn behind small v go.edit go.is.whole files told3 told4 n x go.is
    go.has
