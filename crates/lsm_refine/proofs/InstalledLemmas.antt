-- A running store whose frozen rows are in a table that its manifest names.
use Rattle.std.specs.Prelude.{◌+◌, ◌≡◌, ◌≢◌, ◌⊎◌, ℕ, ◌≤◌, true, false, is_some, List, [], ◌∷◌, ◌++◌, map, length, All, Contains, Option, Some, None}
use Rattle.std.specs.List.{AllByRecursion}
use Rattle.std.specs.List.Sorted.{IsStrictlySortedBy}
use Rattle.std.specs.Ordering.{nat_cmp}
use Rattle.std.specs.declared.cmp.Ordering.TheVariants.{Less}
use Rattle.std.specs.FinMap as finmap
use Rattle.std.proofs.Common.{⊎_elim, inl, inr, refl, sym, ap, subst, ◌∙◌, arith}
use Rattle.std.proofs.lemmas.Bool.Decides.{nat_tests}
use Rattle.std.proofs.lemmas.List.{length-append}
use Rattle.std.proofs.lemmas.List.Elements.{All-nil, All-cons, All-head, All-contains, Contains-push}
use Rattle.std.proofs.lemmas.List.Sorted.{IsPermutation-refl}
use Rattle.lsm_names.specs.FileNames.{IsFileName}
use Rattle.lsm_names.specs.declared.file_names.FileName.TheVariants.{Log, Table, Manifest}
use Rattle.lsm_rows.specs.declared.rows.Row.{Row}
use Rattle.lsm_disk.specs.State as disk
use Rattle.lsm_disk.specs.State.{Seen, Story, state_of, file_at}
use Rattle.lsm_disk.specs.Images.{bytes_at, tree_now}
use Rattle.lsm_disk.specs.Kept.{OpSpares}
use Rattle.lsm_disk.specs.Dest.{path_in}
use Rattle.lsm_disk.specs.Viewed.{Viewed}
use Rattle.lsm_disk.specs.declared.calls.Halt.{Halt}
use Rattle.lsm_disk.proofs.Images.{reads_image}
use Rattle.lsm_disk.proofs.Kept.{kept_at}
use Rattle.lsm_wal.specs.Batches.{in_sequence, wal_text}
use Rattle.lsm_wal.specs.Standing.{IsWal}
use Rattle.lsm_version.specs.declared.edits.Edit.{Edit}
use Rattle.lsm_version.specs.declared.tables.Placed.{Placed}
use Rattle.lsm_version.specs.declared.tables.TableInfo.{TableInfo}
use Rattle.lsm_version.specs.Levels.{Tables}
use Rattle.lsm_folder.specs.Manifests.{manifest_text, tables_after}
use Rattle.lsm_folder.specs.Parts.{AreLawful}
use Rattle.lsm_model.specs.declared.states.State.{State}
use Rattle.lsm_refine.specs.Kept.{Unfinished, Kept, Shown}
use Rattle.lsm_refine.specs.Parts.{Parts, AreRowsOf, numbers_of, first_in_last}
use Rattle.lsm_refine.specs.Sane.{IsWholeFile, IsAlone, HasTable, HasTables, HasLogs, MayStand, Sane, in_hand}
use Rattle.lsm_refine.specs.Tied.{Tied, WorksAs}
use Rattle.lsm_refine.specs.Pins.{AreClearable, Pinned}
use Rattle.lsm_refine.specs.Folders.{ChangesInside, FoldersRead}
use Rattle.lsm_refine.specs.Good.{IsRunning, IsInMode, Good}
use Rattle.lsm_refine.specs.Beside.{WritesAt, IsLone, SaneBeside, Beside}
use Rattle.lsm_refine.specs.Edited.{KeepsTheRest, AreNewQuiet}
use Rattle.lsm_refine.specs.Flushed.{AddTable, EndsFrozen, HasFlushTable, Renewed, IsRenewed, at_top, rows_with, flushed, flushed_kept, flushed_state, shown_with}
use Rattle.lsm_refine.proofs.AddedLemmas.{inserted_among}
use Rattle.lsm_refine.proofs.BesideLemmas.{all_beside}
use Rattle.lsm_refine.proofs.EditedLemmas.{edit_ready, manifest_sane}
use Rattle.lsm_refine.proofs.FileLemmas.{whole_image}
use Rattle.lsm_refine.proofs.FlushedLemmas.{get_is, rows_here, rows_there, lawful_with, first_same, tied_with}
use Rattle.lsm_refine.proofs.LastLogLemmas.{last_is as log_is_live, numbers_push}
use Rattle.lsm_refine.proofs.OtherFileLemmas.{heads}
use Rattle.lsm_refine.proofs.OutsideLemmas.{folders_stay}
use Rattle.lsm_refine.proofs.PartsLemmas.{readable}
use Rattle.lsm_refine.proofs.PinnedLemmas.{pins_alike}

-- ---- lists that end alike

longer : (xs : List ℕ) (x : ℕ) → [] ≡ xs ++ x ∷ [] → ⊥
longer [] x same = cc
longer (a ∷ xs) x same = cc

ends_alike : (xs ys : List ℕ) (x y : ℕ) → xs ++ x ∷ [] ≡ ys ++ y ∷ [] → x ≡ y
ends_alike [] [] x y same = (heads x y [] [] same).0
ends_alike [] (b ∷ ys) x y same = absurd (longer ys y (heads x b [] (ys ++ y ∷ []) same).1)
ends_alike (a ∷ xs) [] x y same = absurd (longer xs x (sym (heads a y (xs ++ x ∷ []) [] same).1))
ends_alike (a ∷ xs) (b ∷ ys) x y same = ends_alike xs ys x y (heads a b (xs ++ x ∷ []) (ys ++ y ∷ []) same).1

is_less : (m n : ℕ) → nat_cmp m n ≡ Less → m ≤ n
is_less m n less = grind (arith, nat_tests)

-- none of these numbers comes behind the last one
at_most : (front : List ℕ) (last : ℕ) → IsStrictlySortedBy nat_cmp (front ++ last ∷ [])
    → All (λ (n : ℕ). n ≤ last) (front ++ last ∷ [])
unfolding IsStrictlySortedBy
at_most [] last sorted = All-cons (λ (n : ℕ). n ≤ last) last [] (omega arith) (All-nil (λ (n : ℕ). n ≤ last))
at_most (n ∷ front) last sorted =
    All-cons (λ (k : ℕ). k ≤ last) n (front ++ last ∷ []) (is_less n last (at_end front sorted.0)) (at_most front last sorted.1)
  where
    at_end : (numbers : List ℕ) → AllByRecursion (λ (k : ℕ). nat_cmp n k ≡ Less) (numbers ++ last ∷ []) → nat_cmp n last ≡ Less
    at_end [] each = each.0
    at_end (k ∷ numbers) each = at_end numbers each.1

one_sorted : (n : ℕ) → IsStrictlySortedBy nat_cmp (n ∷ [])
unfolding IsStrictlySortedBy
one_sorted n = (tt, tt)

-- ---- while the manifest is written

module _ (v : Shown) (s : State) (good : Good v s) where
  -- where all that changes is in the store's own folder the others read as they did
  pub folders_with : (x : disk.State) → ChangesInside v.dir (state_of good.story) x → FoldersRead x s
  folders_with x inside =
      folders_stay (state_of good.story) x s
      (subst (λ (own : List ℕ). ChangesInside own (state_of good.story) x) good.kept.own inside) good.folders

  module _ (run : IsRunning (state_of good.story) v s) where
    -- the manifest's file has no other name
    pub manifest_lone : IsLone (state_of good.story) v.dir (Manifest v.kept.manifest) run.sane.edits.file.id
    manifest_lone =
        let path : List ℕ = path_in v.dir (Manifest v.kept.manifest) in
        let others : List (List ℕ) = path_in v.dir (Log run.parts.last.number)
        ∷ map (λ (table : Unfinished). path_in v.dir (Table table.number))
        v.kept.unfinished ++ in_hand v.kept.begun v.kept.hand in
        record {
          fits = run.sane.current.numbered;
          there = kept_at (state_of good.story) path run.sane.edits.file.id _ run.sane.edits.file.file;
          alone = All-head (IsAlone (state_of good.story)) path others run.sane.written.alone;
        }

    -- what stays while it is written
    pub manifest_beside : (x : disk.State) → WritesAt v.dir (Manifest v.kept.manifest) (state_of good.story) x
        → Beside (state_of good.story) v.dir v.kept run.parts s (Manifest v.kept.manifest) x
    manifest_beside x writes =
        all_beside (state_of good.story) v.dir v.kept run.parts run.sane (Manifest v.kept.manifest) run.sane.current.numbered
        (inr (inl refl)) x writes s run.sane.edits.file.id manifest_lone good.pinned.files run.jobs good.clear

-- ---- the new parts

module _ (v : Shown) (s : State) (good : Good v s) (run : IsRunning (state_of good.story) v s) (info : TableInfo)
    (rows : List Row)
    (table : HasFlushTable (state_of good.story) v.dir v.kept info rows) (log last : ℕ) (ends : EndsFrozen v.kept log last)
    (edits : List Edit) (add : AddTable run.parts.edits info log last edits)
    (renewed : Renewed) (fit : IsRenewed (state_of good.story) v edits renewed) (len : ℕ) where
  abbrev d : disk.State
  d = state_of good.story

  abbrev parts : Parts
  parts = run.parts

  abbrev n : ℕ
  n = info.number

  abbrev kept : Kept
  kept = flushed_kept renewed log last len v.kept

  abbrev after : Parts
  after = flushed edits info.number rows parts

  -- the edit's log number is that of the last log
  pub log_is : log ≡ run.parts.last.number
  log_is = ends_alike ends.front (numbers_of parts.older) log parts.last.number
      (sym ends.logs ∙ run.sane.logs.numbers ∙ numbers_push parts.older parts.last)

  fresh : finmap.get (tables_after parts.edits) n ≡ None
  fresh = ap (λ (t : Tables). finmap.get t n) (sym run.sane.edits.version) ∙ table.fresh

  pub lawful : AreLawful edits (rows_with info.number rows run.parts.rows)
  lawful = lawful_with parts run.sane.lawful v.kept.frozen run.sane.logs.frozen info rows table.picked table.keys fresh log last
      ends.greatest edits add

  first_is : first_in_last after ≡ first_in_last parts
  first_is = first_same parts run.sane.lawful v.kept.frozen run.sane.logs.frozen info rows table.picked table.keys fresh log
      last ends.greatest edits add

  pub tied : Tied (flushed edits info.number rows run.parts) s
  tied = tied_with parts run.sane.lawful v.kept.frozen run.sane.logs.frozen info rows table.picked table.keys fresh log last
      ends.greatest edits add s run.tied

  -- ---- the tables

  told_by : (number : ℕ) (bytes : List ℕ) → bytes_at (tree_now d) (path_in v.dir (Table number)) ≡ Some bytes
      → ((view : Viewed) → finmap.get v.kept.views number ≡ Some view → view.bytes ≡ Some bytes)
      → (view : Viewed) → finmap.get renewed.views number ≡ Some view → view.bytes ≡ Some bytes
  told_by number bytes there before view found = ⊎_elim (λ old. before view old) (λ tells. tells
      ∙ there) (fit.views number view found)

  whole_now : (path bytes : List ℕ) → IsWholeFile d path bytes → bytes_at (tree_now d) path ≡ Some bytes
  whole_now path bytes whole = whole_image d path bytes whole (tree_now d) (reads_image d)

  moved : (number : ℕ) (placed : Placed) (some : List Row) → HasTable d v.dir v.kept number placed some
      → HasTable d v.dir (flushed_kept renewed log last len v.kept) number placed some
  moved number placed some has = record {
    numbered = has.numbered;
    bytes = has.bytes;
    file = has.file;
    table = has.table;
    size = has.size;
    viewed = told_by number has.bytes (whole_now (path_in v.dir (Table number)) has.bytes has.file) has.viewed;
  }

  cases_of : (number : ℕ) (placed : Placed) → finmap.get renewed.version number ≡ Some placed
      → ((number ≡ n) × (at_top info ≡ placed)) ⊎ ((number ≢ n) × (finmap.get v.kept.version number ≡ Some placed))
  cases_of number placed found = ⊎_elim
      (λ here. inl here)
      (λ old. inr (old.0, ap (λ (t : Tables). finmap.get t number) run.sane.edits.version ∙ old.1))
      (get_is parts run.sane.lawful v.kept.frozen run.sane.logs.frozen info rows table.picked table.keys fresh log last
      ends.greatest
      edits add number placed (ap (λ (t : Tables). finmap.get t number) (sym fit.version) ∙ found))

  tables : HasTables d v.dir (flushed_kept renewed log last len v.kept) (rows_with info.number rows run.parts.rows)
  tables = record {
    each = λ number placed found. ⊎_elim
        (λ here. subst (λ (p : Placed). HasTable d v.dir kept number p (rows_with n rows parts.rows number)) here.1
        (subst (λ (k : ℕ). HasTable d v.dir kept k (at_top info) (rows_with n rows parts.rows k)) (sym here.0)
        (subst (λ (some : List Row). HasTable d v.dir kept n (at_top info) some) (sym (rows_here n rows parts.rows))
        (moved n (at_top info) rows table.sealed))))
        (λ old. subst (λ (some : List Row). HasTable d v.dir kept number placed some)
        (sym (rows_there n rows parts.rows number old.0))
        (moved number placed (parts.rows number) (run.sane.tables.each number placed old.1)))
        (cases_of number placed found);
  }

  -- ---- the logs

  live : (v.kept.log ≤ run.parts.last.number) × IsFileName (Log run.parts.last.number)
  live = log_is_live d v.dir v.kept parts (readable d v.dir v.kept parts run.sane).logs

  only : (number : ℕ) → log ≤ number → IsFileName (Log number)
      → MayStand d v.dir (flushed_kept renewed log last len v.kept) number
  only number least fits = ⊎_elim
      (λ among.
      let most = All-contains (λ (k : ℕ). k ≤ parts.last.number) (numbers_of parts.older ++ parts.last.number ∷ []) number
      (at_most (numbers_of parts.older) parts.last.number (subst (IsStrictlySortedBy nat_cmp)
      (run.sane.logs.numbers ∙ numbers_push parts.older parts.last) run.sane.logs.ascend))
      (subst (λ (l : List ℕ). Contains l number) (run.sane.logs.numbers ∙ numbers_push parts.older parts.last) among) in
      inl (subst (λ (k : ℕ). Contains (log ∷ []) k) (omega (arith, least, most, log_is)) (Contains-push [] log)))
      (λ free. inr free)
      (run.sane.logs.only number (omega (arith, least, log_is, live.0)) fits)

  pub logs : HasLogs (state_of good.story) v.dir (flushed_kept renewed log last len v.kept)
      (flushed edits info.number rows run.parts)
  logs = record {
    numbers = ap (λ (k : ℕ). k ∷ []) log_is;
    ascend = one_sorted log;
    live = All-cons (λ (k : ℕ). (log ≤ k) × IsFileName (Log k)) log []
        (omega arith, subst (λ (k : ℕ). IsFileName (Log k)) (sym log_is) live.1)
        (All-nil (λ (k : ℕ). (log ≤ k) × IsFileName (Log k)));
    older = tt;
    last = subst
        (λ (first : ℕ). IsWal d (path_in v.dir (Log parts.last.number)) (in_sequence first parts.last.batches) parts.synced)
        (sym first_is) run.sane.logs.last;
    only = only;
    frozen = record { same = IsPermutation-refl []; newest_is = λ key. refl };
    active = subst (λ (first : ℕ). AreRowsOf first parts.last.batches v.kept.active) (sym first_is) run.sane.logs.active;
  }

  -- ---- what an edit is ready for

  pub rest : KeepsTheRest v.kept (flushed_kept renewed log last len v.kept)
  rest = record {
    manifest = refl;
    known = refl;
    pins = refl;
    begun = refl;
    hand = refl;
    log = omega (arith, log_is, live.0);
    unfinished = fit.unfinished;
  }

  new_quiet : AreNewQuiet d v.dir v.kept (flushed_kept renewed log last len v.kept)
  new_quiet number fits gone there = by (finmap.get renewed.version number) refl there
    where
      by : (o : Option Placed) → finmap.get renewed.version number ≡ o → is_some o ≡ true
          → All (OpSpares (path_in v.dir (Table number))) d.pending
      by None is none = let clash : false ≡ true = none in absurd (cc)
      by (Some placed) is some = ⊎_elim
          (λ here. subst (λ (k : ℕ). All (OpSpares (path_in v.dir (Table k))) d.pending) (sym here.0) table.quiet)
          (λ old. let clash : true ≡ false = sym (ap is_some old.1) ∙ gone in absurd (cc))
          (cases_of number placed is)

  pub flush_ready : SaneBeside (state_of good.story) v.dir (flushed_kept renewed log last len v.kept)
      (flushed edits info.number rows run.parts) (Manifest v.kept.manifest)
  flush_ready = edit_ready d v.dir v.kept parts run.sane kept after rest tables logs refl lawful new_quiet

  -- the version has one table more
  pub one_more : finmap.len renewed.version ≡ finmap.len v.kept.version + 1
  one_more =
      let among = inserted_among (tables_after parts.edits) n (at_top info) fresh in
      let many = length-append among.before ((n, at_top info) ∷ among.behind) in
      let few = length-append among.before among.behind in
      let now : finmap.len renewed.version ≡ length (among.before ++ (n, at_top info) ∷ among.behind) =
      ap (λ (t : Tables). finmap.len t) (fit.version ∙ add.tables)
      ∙ finmap.len-entries (finmap.insert (tables_after parts.edits) n (at_top info))
      ∙ ap (λ (es : List (ℕ × Placed)). length es) among.all_are in
      let then : finmap.len v.kept.version ≡ length (among.before ++ among.behind) =
      ap (λ (t : Tables). finmap.len t) run.sane.edits.version ∙ finmap.len-entries (tables_after parts.edits)
      ∙ ap (λ (es : List (ℕ × Placed)). length es) among.others_are in
      omega (arith, now, then, many, few)

  -- ---- the store works on

  pub works : (seen : Seen) → WorksAs (flushed_kept renewed log last len v.kept) (flushed edits info.number rows run.parts)
      (flushed_state seen renewed.version len s)
  works seen = record {
    active = run.works.active;
    frozen = refl;
    log_len = run.works.log_len ∙ ap (λ (first : ℕ). length (wal_text (in_sequence first parts.last.batches))) (sym first_is);
    older_len = refl;
    active_len = run.works.active_len;
    frozen_len = refl;
    tables = refl;
    merging = run.works.merging;
    outputs = run.works.outputs;
    next = run.works.next;
    manifest_len = refl;
  }

  -- ---- the manifest names the table

  module _ (x : disk.State) (writes : WritesAt v.dir (Manifest v.kept.manifest) (state_of good.story) x)
      (whole : IsWholeFile x (path_in v.dir (Manifest v.kept.manifest)) (manifest_text edits))
      (long : len ≡ length (manifest_text edits)) where
    abbrev beside : Beside d v.dir v.kept parts s (Manifest v.kept.manifest) x
    beside = manifest_beside v s good run x writes

    installed_sane : Sane x v.dir (flushed_kept renewed log last len v.kept) (flushed edits info.number rows run.parts)
    installed_sane = manifest_sane d v.dir kept after flush_ready logs.active x writes (record {
      are = add.are;
      file = whole;
      len = long;
      version = fit.version;
      log = sym add.log_is;
      last = sym add.last_is;
    })

    module _ (seen : Seen) where
      abbrev t : State
      t = flushed_state seen renewed.version len s

      abbrev w : Shown
      w = shown_with seen (flushed_kept renewed log last len v.kept) v

      pub installed_runs : IsRunning x (shown_with seen (flushed_kept renewed log last len v.kept) v)
          (flushed_state seen renewed.version len s)
      installed_runs = record {
        parts = after;
        sane = installed_sane;
        tied = record {
          flushed = tied.flushed;
          within = tied.within;
          below = tied.below;
          last = tied.last;
          above = tied.above;
          durable = tied.durable;
        };
        works = works seen;
        jobs = record { apart = beside.jobs.apart; each = beside.jobs.each };
        certain = run.certain;
      }

      -- the store runs on
      pub installed_good : (story : Story) → seen.told ≡ Some story → v.halt ≡ None → state_of story ≡ x
          → Good (shown_with seen (flushed_kept renewed log last len v.kept) v) (flushed_state seen renewed.version len s)
      installed_good story told none at =
          let read = folders_with v s good x writes.inside in
          record {
            story = story;
            told = told;
            mode = subst (λ (y : disk.State). IsInMode v.halt y w t) (sym at)
                (subst (λ (h : Option Halt). IsInMode h x w t) (sym none) installed_runs);
            pinned = subst (λ (y : disk.State). Pinned y v.dir v.kept.pins t) (sym at)
                (record { pins = pins_alike s t refl refl refl v.kept.pins s.pins good.pinned.pins; files = beside.pinned });
            folders = subst (λ (y : disk.State). FoldersRead y t) (sym at) (record { now = read.now; sure = read.sure });
            clear = subst AreClearable (sym at) beside.clear;
            counted = record {
              durable = good.counted.durable;
              numbers = good.counted.numbers;
              fronts = good.counted.fronts;
              begun = good.counted.begun;
            };
            kept = record {
              own = good.kept.own;
              sequence = good.kept.sequence;
              greatest_pin = good.kept.greatest_pin;
              disables = good.kept.disables;
              begun = good.kept.begun;
              halt = good.kept.halt;
            };
            counts = record { faults = refl; refusals = refl };
          }
