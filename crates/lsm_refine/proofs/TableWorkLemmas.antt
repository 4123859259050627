-- While a good store writes a table that no edit names yet, at each step the store is good.
use Rattle.std.specs.Prelude.{◌≡◌, ◌≢◌, ◌⊎◌, ℕ, true, false, is_some, List, [], ◌∷◌, ◌++◌, map, All, Contains, Option, Some, None}
use Rattle.std.proofs.Common.{⊎_elim, inl, inr, refl, sym, ap, subst, ◌∙◌}
use Rattle.std.proofs.lemmas.List.Elements.{All-nil, All-cons, All-head, All-tail, All-append, All-map, All-weaker, All-contains}
use Rattle.std.specs.List.{flat_map}
use Rattle.std.specs.FinMap as finmap
use Rattle.lsm_names.specs.FileNames.{IsFileName}
use Rattle.lsm_names.specs.declared.file_names.FileName.{FileName}
use Rattle.lsm_names.specs.declared.file_names.FileName.TheVariants.{Log, Table, Manifest, Temp, Current}
use Rattle.lsm_disk.specs.Names.{Node, File_node, Names, id_of}
use Rattle.lsm_disk.specs.State as disk
use Rattle.lsm_disk.specs.State.{Seen, Story, Created, Names_synced, Idle, state_of, after, names_now, file_at, appended}
use Rattle.lsm_disk.specs.Images.{bytes_at, tree_now}
use Rattle.lsm_disk.specs.Dest.{path_in}
use Rattle.lsm_disk.specs.declared.calls.Halt.{Halt}
use Rattle.lsm_disk.proofs.Named.{now_at}
use Rattle.lsm_disk.proofs.Paths.{path_cases}
use Rattle.lsm_model.specs.declared.states.State.{State}
use Rattle.lsm_model.specs.declared.states.Pin.{Pin}
use Rattle.lsm_model.specs.declared.states.PinnedFile.{PinnedFile}
use Rattle.lsm_model.specs.Pins.{held}
use Rattle.lsm_refine.specs.Kept.{KeptPin, Unfinished, Kept, Shown}
use Rattle.lsm_refine.specs.Sane.{IsAlone, IsNeeded, IsHeld, names_held, IsQuiet, AreKnown, AreWritten, Sane, appended_to, in_hand}
use Rattle.lsm_refine.specs.Pins.{AreClearable, IsPinned, PinFiles, IsKeptPin, ArePins, Pinned, JobsBuild}
use Rattle.lsm_refine.specs.Folders.{ChangesInside, FoldersRead}
use Rattle.lsm_refine.specs.Good.{IsRunning, IsInMode, Good}
use Rattle.lsm_refine.specs.Beside.{ChangesAt, WritesAt, MakesAt, IsLone}
use Rattle.lsm_refine.specs.Obsolete.{HasAlso}
use Rattle.lsm_refine.specs.TableWork.{Work, working_kept, working_state, WasWritten, AreWith}
use Rattle.lsm_refine.specs.Flushed.{shown_with}
use Rattle.lsm_refine.proofs.ChangeLemmas.{changes_none, file_of, file_stays, bytes_stay}
use Rattle.lsm_refine.proofs.EditedLemmas.{both_all}
use Rattle.lsm_refine.proofs.InstalledLemmas.{folders_with}
use Rattle.lsm_refine.proofs.OtherFileLemmas.{name_apart, same_name, files_at, clear_at, restored_at, jobs_at}
use Rattle.lsm_refine.proofs.OutsideLemmas.{change_inside}
use Rattle.lsm_refine.proofs.PinnedLemmas.{pins_alike}
use Rattle.lsm_refine.proofs.UnneededLemmas.{unneeded_readable, unneeded_last, unneeded_pins}

-- what is held doesn't go by how far the work came
pub held_same : (p : Work) (kept : Kept) (name : FileName) → IsHeld (working_kept p kept) name → IsHeld kept name
held_same p kept Current held = held
held_same p kept (Manifest n) held = held
held_same p kept (Table n) held = held
held_same p kept (Log n) held = held
held_same p kept (Temp n) held = held

-- a table that isn't live isn't needed
pub not_needed : (kept : Kept) (n : ℕ) → finmap.get kept.version n ≡ None → ¬ IsNeeded kept (Table n)
not_needed kept n none needed = let clash : false ≡ true = ap is_some (sym none) ∙ needed in cc

-- ---- what pins hold is there

something : (what : Option Node) (id : ℕ) → id_of what ≡ Some id → is_some what ≡ true
something None id same = absurd (cc)
something (Some here) id same = refl

nothing : (what : Option Node) → (is_some what ≡ true → ⊥) → what ≡ None
nothing None never = refl
nothing (Some here) never = absurd (never refl)

module _ (d : disk.State) (dir : List ℕ) where
  abbrev IsThere : FileName → Type 0
  IsThere name = IsFileName name × (is_some (finmap.get (names_now d) (path_in dir name)) ≡ true)

  file_is_there : (file : PinnedFile) → IsPinned d dir file → IsThere file.name
  file_is_there file is =
      let found = file_of d (path_in dir file.name) (file.bytes ++ is.more) is.there in (
        is.fits,
        something (finmap.get (names_now d) (path_in dir file.name)) found.0
            (now_at d (path_in dir file.name) found.0 found.1 found.2),
      )

  pin_is_there : (k : KeptPin) (pin : Pin) → k.files ≡ map held pin.files → PinFiles d dir pin.files
      → All IsThere (names_held k)
  pin_is_there k pin same are =
      subst (λ (files : List (FileName × ℕ)). All IsThere (map (λ (file : FileName × ℕ). file.0) files)) (sym same)
      (All-map IsThere (λ (file : FileName × ℕ). file.0) (map held pin.files)
      (All-map (λ (file : FileName × ℕ). IsThere file.0) held pin.files
      (All-weaker (IsPinned d dir) (λ (file : PinnedFile). IsThere file.name) file_is_there pin.files are)))

  pub pins_are_there : (s : State) (kept : List KeptPin) (pins : List Pin) → ArePins (IsKeptPin s) kept pins
      → All (λ (pin : Pin). PinFiles d dir pin.files) pins
      → All (λ (name : FileName). IsFileName name × (is_some (finmap.get (names_now d) (path_in dir name)) ≡ true))
      (flat_map names_held kept)
  pins_are_there s [] [] are files = All-nil IsThere
  pins_are_there s [] (pin ∷ pins) are files = absurd are
  pins_are_there s (k ∷ kept) [] are files = absurd are
  pins_are_there s (k ∷ kept) (pin ∷ pins) are files =
      All-append IsThere (names_held k) (flat_map names_held kept)
      (pin_is_there k pin are.0.files (All-head (λ (p : Pin). PinFiles d dir p.files) pin pins files))
      (pins_are_there s kept pins are.1 (All-tail (λ (p : Pin). PinFiles d dir p.files) pin pins files))

-- ---- a table that is written

table_once : (m n : ℕ) → Table m ≡ Table n → m ≡ n
table_once m n same = cc

module _ (v : Shown) (s : State) (good : Good v s) (run : IsRunning (state_of good.story) v s) (n : ℕ)
    (fits : IsFileName (Table n))
    (fresh : finmap.get v.kept.version n ≡ None) where
  abbrev d : disk.State
  d = state_of good.story

  abbrev path : List ℕ
  path = path_in v.dir (Table n)

  abbrev last : ℕ
  last = run.parts.last.number

  -- ---- where all that changed is at the table's name

  module _ (x : disk.State) (at : ChangesAt (path_in v.dir (Table n)) (state_of good.story) x) (p : Work)
      (quiet : IsQuiet x v.dir v.kept) (known : AreKnown x v.dir (working_kept p v.kept))
      (written : AreWritten x v.dir (working_kept p v.kept) run.parts.last.number) where
    working_sane : Sane x v.dir (working_kept p v.kept) run.parts
    working_sane =
        let is = unneeded_readable v s good run (Table n) fits (not_needed v.kept n fresh) x at in
        record {
          current = record
              { named = is.current.named; folder = is.current.folder; numbered = is.current.numbered; file = is.current.file };
          edits = record {
            are = is.edits.are;
            file = is.edits.file;
            len = is.edits.len;
            version = is.edits.version;
            log = is.edits.log;
            last = is.edits.last;
          };
          tables = record {
            each = λ number placed found. let table = is.tables.each number placed found in
                record {
                  numbered = table.numbered;
                  bytes = table.bytes;
                  file = table.file;
                  table = table.table;
                  size = table.size;
                  viewed = table.viewed;
                };
          };
          logs = record {
            numbers = is.logs.numbers;
            ascend = is.logs.ascend;
            live = is.logs.live;
            older = is.logs.older;
            last = unneeded_last v s good run (Table n) fits (not_needed v.kept n fresh) x at;
            only = is.logs.only;
            frozen = is.logs.frozen;
            active = run.sane.logs.active;
          };
          quiet = record { spares = λ name ok held. quiet.spares name ok (held_same p v.kept name held) };
          known = known;
          files = files_at v.dir (Table n) run.sane.current.named fits d x at run.sane.files;
          lawful = run.sane.lawful;
          written = written;
          restored = restored_at v.dir
              (Table n) run.sane.current.named fits d x at run.sane.files v.kept.begun v.kept.hand run.sane.restored;
        }

    module _ (inside : ChangesInside v.dir (state_of good.story) x)
        (pinned : All (λ (pin : Pin). PinFiles x v.dir pin.files) s.pins)
        (jobs : JobsBuild x v.dir v.kept.pins s) (seen : Seen) where
      abbrev t : State
      t = working_state seen p s

      abbrev w : Shown
      w = shown_with seen (working_kept p v.kept) v

      working_runs : IsRunning x (shown_with seen (working_kept p v.kept) v) (working_state seen p s)
      working_runs = record {
        parts = run.parts;
        sane = working_sane;
        tied = record {
          flushed = run.tied.flushed;
          within = run.tied.within;
          below = run.tied.below;
          last = run.tied.last;
          above = run.tied.above;
          durable = run.tied.durable;
        };
        works = record {
          active = run.works.active;
          frozen = run.works.frozen;
          log_len = run.works.log_len;
          older_len = run.works.older_len;
          active_len = run.works.active_len;
          frozen_len = run.works.frozen_len;
          tables = run.works.tables;
          merging = run.works.merging;
          outputs = refl;
          next = refl;
          manifest_len = run.works.manifest_len;
        };
        jobs = record { apart = jobs.apart; each = jobs.each };
        certain = run.certain;
      }

      pub working_good : (story : Story) → seen.told ≡ Some story → v.halt ≡ None → state_of story ≡ x
          → Good (shown_with seen (working_kept p v.kept) v) (working_state seen p s)
      working_good story told none same =
          let read = folders_with v s good x inside in
          record {
            story = story;
            told = told;
            mode = subst (λ (y : disk.State). IsInMode v.halt y w t) (sym same)
                (subst (λ (h : Option Halt). IsInMode h x w t) (sym none) working_runs);
            pinned = subst (λ (y : disk.State). Pinned y v.dir v.kept.pins t) (sym same)
                (record { pins = pins_alike s t refl refl refl v.kept.pins s.pins good.pinned.pins; files = pinned });
            folders = subst (λ (y : disk.State). FoldersRead y t) (sym same) (record { now = read.now; sure = read.sure });
            clear = subst AreClearable (sym same)
                (clear_at v.dir (Table n) run.sane.current.named fits d x at run.sane.files good.clear);
            counted = record {
              durable = good.counted.durable;
              numbers = good.counted.numbers;
              fronts = good.counted.fronts;
              begun = good.counted.begun;
            };
            kept = record {
              own = good.kept.own;
              sequence = good.kept.sequence;
              greatest_pin = good.kept.greatest_pin;
              disables = good.kept.disables;
              begun = good.kept.begun;
              halt = good.kept.halt;
            };
            counts = record { faults = refl; refusals = refl };
          }

  -- ---- files that are still appended to

  module _ (x : disk.State) (tables : List Unfinished) where
    abbrev manifest : List ℕ
    manifest = path_in v.dir (Manifest v.kept.manifest)

    abbrev log : List ℕ
    log = path_in v.dir (Log last)

    abbrev table_path : Unfinished → List ℕ
    table_path table = path_in v.dir (Table table.number)

    abbrev hand : List (List ℕ)
    hand = in_hand v.kept.begun v.kept.hand

    -- those that were so, and this table's
    alone_with : (bytes : List ℕ) → ((other : List ℕ) → IsAlone d other → IsAlone x other) → IsAlone x (path_in v.dir (Table n))
        → AreWith v.kept.unfinished n bytes tables → All (IsAlone x) (manifest ∷ log ∷ map table_path tables ++ hand)
    alone_with bytes still here are =
        let each = All-weaker (IsAlone d) (IsAlone x) still (appended_to v.dir v.kept last) run.sane.written.alone in
        let behind = All-tail (IsAlone x) manifest (log ∷ map table_path v.kept.unfinished ++ hand) each in
        let parts = both_all (IsAlone x) table_path v.kept.unfinished hand
        (All-tail (IsAlone x) log (map table_path v.kept.unfinished ++ hand) behind) in
        All-cons (IsAlone x) manifest (log ∷ map table_path tables ++ hand)
        (All-head (IsAlone x) manifest (log ∷ map table_path v.kept.unfinished ++ hand) each)
        (All-cons (IsAlone x) log (map table_path tables ++ hand)
        (All-head (IsAlone x) log (map table_path v.kept.unfinished ++ hand) behind)
        (All-append (IsAlone x) (map table_path tables) hand
        (All-map (IsAlone x) table_path tables (All-weaker
        (λ (table : Unfinished). (table ≡ record { number = n; bytes = bytes }) ⊎ WasWritten v.kept.unfinished n table)
        (λ (table : Unfinished). IsAlone x (table_path table))
        (λ table is. ⊎_elim
        (λ same. subst (λ (u : Unfinished). IsAlone x (table_path u)) (sym same) here)
        (λ old. All-contains (λ (u : Unfinished). IsAlone x (table_path u)) v.kept.unfinished table parts.0 old.0) is)
        tables are)) parts.1))

    bytes_with : (bytes : List ℕ) → ChangesAt (path_in v.dir (Table n)) (state_of good.story) x
        → bytes_at (tree_now x) (path_in v.dir (Table n)) ≡ Some bytes → AreWith v.kept.unfinished n bytes tables
        → All (λ (table : Unfinished). bytes_at (tree_now x) (path_in v.dir (Table table.number)) ≡ Some table.bytes) tables
    bytes_with bytes at here are = All-weaker
        (λ (table : Unfinished). (table ≡ record { number = n; bytes = bytes }) ⊎ WasWritten v.kept.unfinished n table)
        (λ (table : Unfinished). bytes_at (tree_now x) (table_path table) ≡ Some table.bytes)
        (λ table is. ⊎_elim
        (λ same. subst (λ (u : Unfinished). bytes_at (tree_now x) (table_path u) ≡ Some u.bytes) (sym same) here)
        (λ old. bytes_stay path d x at (table_path table)
        (name_apart v.dir (Table n) run.sane.current.named fits (Table table.number) old.2
        (λ same. old.1 (table_once table.number n same))) table.bytes
        (All-contains (λ (u : Unfinished). bytes_at (tree_now d) (table_path u) ≡ Some u.bytes) v.kept.unfinished table
        run.sane.written.tables old.0)) is)
        tables are

  -- ---- nothing on the disk has changed

  -- the work is noted, as that a number is drawn
  pub noted_good : (p : Work) → p.known ≡ v.kept.known → p.unfinished ≡ v.kept.unfinished
      → (seen : Seen) (story : Story) → seen.told ≡ Some story → v.halt ≡ None → state_of story ≡ state_of good.story
      → Good (shown_with seen (working_kept p v.kept) v) (working_state seen p s)
  noted_good p same_known same_tables seen story told none same =
      working_good d (changes_none path d) p run.sane.quiet
      (record {
        there = λ name among. run.sane.known.there name
            (subst (λ (names : List FileName). Contains names name) same_known among);
        all = λ name ok there. subst (λ (names : List FileName). Contains names name) (sym same_known)
            (run.sane.known.all name ok there);
      })
      (record {
        tables = subst
            (All (λ (table : Unfinished). bytes_at (tree_now d) (path_in v.dir (Table table.number)) ≡ Some table.bytes))
            (sym same_tables) run.sane.written.tables;
        alone = subst
            (λ (tables : List Unfinished). All (IsAlone d)
            (manifest d tables ∷ log d tables ∷ map (table_path d tables) tables ++ hand d tables))
            (sym same_tables) run.sane.written.alone;
      })
      (change_inside v.dir d Idle (record { names = λ folder ok other. tt; files = λ folder file ok other is. tt }) tt)
      good.pinned.files run.jobs seen story told none same

  -- ---- the file is made

  module _ (free : ¬ Contains v.kept.known (Table n)) where
    -- nothing has its name
    pub table_free : finmap.get (names_now (state_of good.story)) (path_in v.dir (Table n)) ≡ None
    table_free = nothing (finmap.get (names_now d) path) (λ there. free (run.sane.known.all (Table n) fits there))

    free_alone : IsAlone d path
    free_alone = record {
      only = λ id k other at leads. let clash : None ≡ Some id = sym (ap id_of table_free)
          ∙ at in absurd (cc);
    }

    module _ (x : disk.State) (makes : MakesAt v.dir (Table n) (state_of good.story) x) (id : ℕ)
        (there : finmap.get (names_now x) (path_in v.dir (Table n)) ≡ Some (File_node id))
        (alone : IsAlone x (path_in v.dir (Table n)))
        (bytes : List ℕ) (has : bytes_at (tree_now x) (path_in v.dir (Table n)) ≡ Some bytes)
        (p : Work) (also : HasAlso (Table n) v.kept.known p.known)
        (are : AreWith v.kept.unfinished n bytes p.unfinished) where
      -- what a pin holds is another file
      not_pinned : (name : FileName) → Contains (flat_map names_held v.kept.pins) name → name ≢ Table n
      not_pinned name held same =
          let file = All-contains
          (λ (m : FileName). IsFileName m × (is_some (finmap.get (names_now d) (path_in v.dir m)) ≡ true))
          (flat_map names_held v.kept.pins) name
          (pins_are_there d v.dir s v.kept.pins s.pins good.pinned.pins good.pinned.files) held in
          free (run.sane.known.all (Table n) fits
          (subst (λ (m : FileName). is_some (finmap.get (names_now d) (path_in v.dir m)) ≡ true) same file.1))

      made_quiet : IsQuiet x v.dir v.kept
      made_quiet = record {
        spares = λ name ok held. makes.at.quiet (path_in v.dir name)
            (name_apart v.dir (Table n) run.sane.current.named fits name ok (λ same. ⊎_elim
            (λ needed. not_needed v.kept n fresh (subst (IsNeeded v.kept) same needed))
            (λ pinned. not_pinned name pinned same) held))
            (run.sane.quiet.spares name ok held);
      }

      still_there : (name : FileName) → IsFileName name → name ≢ Table n
          → finmap.get (names_now x) (path_in v.dir name) ≡ finmap.get (names_now d) (path_in v.dir name)
      still_there name ok other = makes.at.now (path_in v.dir name)
          (name_apart v.dir (Table n) run.sane.current.named fits name ok other)

      made_known : AreKnown x v.dir (working_kept p v.kept)
      made_known = record {
        there = λ name among. by_there name (path_cases (path_in v.dir name) path) ((also name).0 among);
        all = λ name ok is. by_all name ok (path_cases (path_in v.dir name) path) is;
      }
        where
          by_there : (name : FileName) → (path_in v.dir name ≡ path) ⊎ (path_in v.dir name ≢ path)
              → (name ≡ Table n) ⊎ Contains v.kept.known name
              → IsFileName name × (is_some (file_at x (path_in v.dir name)) ≡ true)
          by_there name which (inl same) =
              subst (λ (m : FileName). IsFileName m × (is_some (file_at x (path_in v.dir m)) ≡ true)) (sym same)
              (fits, ap (λ (what : Option Node). is_some (id_of what)) there)
          by_there name (inl same) (inr old) = (
            (run.sane.known.there name old).0,
            ap (λ (other : List ℕ). is_some (file_at x other)) same ∙ ap (λ (what : Option Node). is_some (id_of what)) there,
          )
          by_there name (inr other) (inr old) =
              let was = run.sane.known.there name old in
              (was.0, ap is_some (file_stays path d x makes.at (path_in v.dir name) other) ∙ was.1)

          by_all : (name : FileName) → IsFileName name → (path_in v.dir name ≡ path) ⊎ (path_in v.dir name ≢ path)
              → is_some (finmap.get (names_now x) (path_in v.dir name)) ≡ true → Contains p.known name
          by_all name ok (inl same) is = (also name).1
              (inl (same_name v.dir (Table n) run.sane.current.named fits name ok same))
          by_all name ok (inr other) is =
              (also name).1 (inr (run.sane.known.all name ok (ap is_some (sym (makes.at.now (path_in v.dir name) other)) ∙ is)))

      -- a table was begun, and perhaps some of its bytes are written
      pub begun_good : (seen : Seen) (story : Story) → seen.told ≡ Some story → v.halt ≡ None → state_of story ≡ x
          → Good (shown_with seen (working_kept p v.kept) v) (working_state seen p s)
      begun_good seen story told none same =
          working_good x makes.at p made_quiet made_known
          (record {
            tables = bytes_with x p.unfinished bytes makes.at has are;
            alone = alone_with x p.unfinished bytes (λ other is. makes.at.alone other is) alone are;
          })
          makes.inside (unneeded_pins v s good run (Table n) fits (not_needed v.kept n fresh) x makes.at table_free)
          (jobs_at v.dir (Table n) run.sane.current.named fits d x makes.at run.sane.files free_alone v.kept.pins s run.jobs)
          seen story told none same

  -- ---- the file is written

  module _ (id : ℕ) (lone : IsLone (state_of good.story) v.dir (Table n) id) (x : disk.State)
      (writes : WritesAt v.dir (Table n) (state_of good.story) x)
      (bytes : List ℕ) (has : bytes_at (tree_now x) (path_in v.dir (Table n)) ≡ Some bytes)
      (p : Work) (same_known : p.known ≡ v.kept.known) (are : AreWith v.kept.unfinished n bytes p.unfinished) where
    same_file : (other : List ℕ) → file_at x other ≡ file_at d other
    same_file other = ap (λ (names : Names). id_of (finmap.get names other)) writes.names

    -- bytes were added, or made sure, or the names were
    pub written_good : (seen : Seen) (story : Story) → seen.told ≡ Some story → v.halt ≡ None → state_of story ≡ x
        → Good (shown_with seen (working_kept p v.kept) v) (working_state seen p s)
    written_good seen story told none same =
        working_good x writes.at p
        (record { spares = λ name ok held. writes.quiet (path_in v.dir name) (run.sane.quiet.spares name ok held) })
        (record {
          there = λ name among. let was = run.sane.known.there name
              (subst (λ (names : List FileName). Contains names name) same_known among) in
              (was.0, ap is_some (same_file (path_in v.dir name)) ∙ was.1);
          all = λ name ok there. subst (λ (names : List FileName). Contains names name) (sym same_known)
              (run.sane.known.all name ok
              (ap (λ (names : Names). is_some (finmap.get names (path_in v.dir name))) (sym writes.names) ∙ there));
        })
        (record {
          tables = bytes_with x p.unfinished bytes writes.at has are;
          alone = alone_with x p.unfinished bytes (λ other is. writes.at.alone other is)
              (writes.at.alone (path_in v.dir (Table n)) lone.alone) are;
        })
        writes.inside
        (All-weaker (λ (pin : Pin). PinFiles d v.dir pin.files) (λ (pin : Pin). PinFiles x v.dir pin.files)
        (λ pin held. writes.pinned pin.files held) s.pins good.pinned.files)
        (jobs_at v.dir (Table n) run.sane.current.named fits d x writes.at run.sane.files lone.alone v.kept.pins s run.jobs)
        seen story told none same
