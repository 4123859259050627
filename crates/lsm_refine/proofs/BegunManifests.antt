-- A new manifest was begun under the next number, and CURRENT doesn't name it yet: of its file and the temporary one those that
-- were made are there, and nothing needs them. The store is good that knows them.
use Rattle.std.specs.Prelude.{◌≡◌, ◌≢◌, ℕ, true, is_some, List, [], ◌∷◌, ◌++◌, map, All, Contains, Option, Some, None}
use Rattle.std.specs.List.{flat_map}
use Rattle.std.proofs.Common.{⊎_elim, inl, refl, sym, ap, subst, ◌∙◌, arith}
use Rattle.std.proofs.lemmas.List.Elements.{All-nil, All-cons, All-head, All-tail, All-append, All-map, All-weaker, All-contains, Contains-get_or}
use Rattle.std.specs.FinMap as finmap
use Rattle.lsm_names.specs.FileNames.{IsFileName}
use Rattle.lsm_names.specs.declared.file_names.FileName.{FileName}
use Rattle.lsm_names.specs.declared.file_names.FileName.TheVariants.{Log, Table, Manifest, Temp, Current}
use Rattle.lsm_disk.specs.Names.{File_node, under}
use Rattle.lsm_disk.specs.State as disk
use Rattle.lsm_disk.specs.State.{Seen, Story, state_of, file_at, names_now}
use Rattle.lsm_disk.specs.Images.{bytes_at, tree_now}
use Rattle.lsm_disk.specs.Dest.{path_in}
use Rattle.lsm_disk.specs.declared.calls.Halt.{Halt}
use Rattle.lsm_disk.proofs.Named.{name_now}
use Rattle.lsm_disk.proofs.Paths.{path_cases}
use Rattle.lsm_model.specs.declared.states.State.{State}
use Rattle.lsm_refine.specs.Kept.{Unfinished, Shown}
use Rattle.lsm_refine.specs.Sane.{IsAlone, IsNeeded, IsHeld, names_held, IsQuiet, Sane, appended_to, in_hand}
use Rattle.lsm_refine.specs.Pins.{AreClearable, Pinned}
use Rattle.lsm_refine.specs.Folders.{FoldersRead}
use Rattle.lsm_refine.specs.Good.{IsRunning, IsInMode, Good}
use Rattle.lsm_refine.specs.Beside.{SaneBeside}
use Rattle.lsm_refine.specs.Among.{IsElsewhere, MadeAmong, KnowsMade, new_names, switched_names}
use Rattle.lsm_refine.specs.TableWork.{Work, work_of, drawn_work, working_kept, working_state}
use Rattle.lsm_refine.specs.Flushed.{shown_with}
use Rattle.lsm_refine.specs.Naming.{IsReadyFor, ReplacesAt, MayBeNext}
use Rattle.lsm_refine.proofs.AmongLemmas.{among_more, file_among, bytes_among, whole_among}
use Rattle.lsm_refine.proofs.BesideLemmas.{writes_none}
use Rattle.lsm_refine.proofs.EditedLemmas.{both_all, manifest_apart}
use Rattle.lsm_refine.proofs.InstalledLemmas.{folders_with, manifest_beside}
use Rattle.lsm_refine.proofs.OtherFileLemmas.{same_name, name_apart}
use Rattle.lsm_refine.proofs.PinnedLemmas.{pins_alike}
use Rattle.lsm_refine.proofs.ReplacedFrames.{file_off}
use Rattle.lsm_refine.proofs.ReplacedStores.{replaced_reads, replaced_last, replaced_jobs, hand_alone, pins_apart, pins_stay}
use Rattle.lsm_refine.proofs.LastLogLemmas.{last_is}
use Rattle.lsm_refine.proofs.SwitchedLemmas.{temp_apart, name_elsewhere, files_among, clear_among, restored_among}
use Rattle.lsm_refine.proofs.TableWorkLemmas.{held_same, pins_are_there}

module _ (v : Shown) (s : State) (good : Good v s) (run : IsRunning (state_of good.story) v s) (number : ℕ)
    (next : MayBeNext v.kept number) (x : disk.State) (is : MadeAmong v.dir (new_names number) (state_of good.story) x)
    (known : List FileName) (knows : KnowsMade x v.dir (new_names number) v.kept.known known) where
  abbrev d : disk.State
  d = state_of good.story

  abbrev two : List FileName
  two = new_names number

  each_name : (P : FileName → Type 0) → P (Manifest number) → P (Temp number) → All P (new_names number)
  each_name P manifest temp = All-cons P (Manifest number) (Temp number ∷ []) manifest
      (All-cons P (Temp number) [] temp (All-nil P))

  fits : All IsFileName (new_names number)
  fits = each_name IsFileName next.numbered next.temporary

  manifest_among : Contains (new_names number) (Manifest number)
  manifest_among = Contains-get_or two 0 Current (omega arith)

  temp_among : Contains (new_names number) (Temp number)
  temp_among = Contains-get_or two 1 Current (omega arith)

  -- the three names of a switch are among those that may change
  replaces : ReplacesAt v.dir number (state_of good.story) x
  replaces = record {
    among = among_more v.dir (switched_names number number) two
        (each_name (Contains (switched_names number number))
        (Contains-get_or (switched_names number number) 0 Current (omega arith))
        (Contains-get_or (switched_names number number) 1 Current (omega arith))) d x is.among;
    lead = is.lead;
    inside = is.inside;
  }

  beside : SaneBeside (state_of good.story) v.dir v.kept run.parts (Manifest v.kept.manifest)
  beside = (manifest_beside v s good run d (writes_none v.dir (Manifest v.kept.manifest) d)).sane

  ready : IsReadyFor (state_of good.story) v s v.kept run.parts
  ready = record {
    beside = beside;
    manifest = refl;
    are = run.sane.edits.are;
    version = run.sane.edits.version;
    log = run.sane.edits.log;
    last = run.sane.edits.last;
    active = run.sane.logs.active;
    least = omega arith;
    tied = record {
      flushed = run.tied.flushed;
      within = run.tied.within;
      below = run.tied.below;
      last = run.tied.last;
      above = run.tied.above;
      durable = run.tied.durable;
    };
  }

  -- ---- the other names

  -- a known name is none of the two
  known_other : (name : FileName) → Contains v.kept.known name → (name ≢ Manifest number) × (name ≢ Temp number)
  known_other name among = (
    λ same. next.unknown (subst (Contains v.kept.known) same among),
    λ same. next.free (subst (Contains v.kept.known) same among),
  )

  manifest_known : Contains v.kept.known (Manifest v.kept.manifest)
  manifest_known = run.sane.known.all (Manifest v.kept.manifest) run.sane.current.numbered
      (ap is_some (name_now d (path_in v.dir (Manifest v.kept.manifest)) (Some (File_node run.sane.edits.file.id))
      run.sane.edits.file.file.named))

  -- nor is a needed one
  needed_other : (name : FileName) → IsNeeded v.kept name → (name ≢ Manifest number) × (name ≢ Temp number)
  needed_other Current needed = ((λ same. cc), λ same. cc)
  needed_other (Manifest n) needed =
      known_other (Manifest n) (subst (λ (k : ℕ). Contains v.kept.known (Manifest k)) (sym needed) manifest_known)
  needed_other (Table n) needed = ((λ same. cc), λ same. cc)
  needed_other (Log n) needed = ((λ same. cc), λ same. cc)
  needed_other (Temp n) needed = absurd needed

  pinned_other : (name : FileName) → Contains (flat_map names_held v.kept.pins) name
      → (name ≢ Manifest number) × (name ≢ Temp number)
  pinned_other name among =
      let there = All-contains
      (λ (m : FileName). IsFileName m × (is_some (finmap.get (names_now d) (path_in v.dir m)) ≡ true))
      (flat_map names_held v.kept.pins) name
      (pins_are_there d v.dir s v.kept.pins s.pins good.pinned.pins good.pinned.files) among in
      known_other name (run.sane.known.all name there.0 there.1)

  held_other : (name : FileName) → IsHeld v.kept name → (name ≢ Manifest number) × (name ≢ Temp number)
  held_other name held = ⊎_elim (needed_other name) (pinned_other name) held

  elsewhere : (name : FileName) → IsFileName name → (name ≢ Manifest number) × (name ≢ Temp number)
      → IsElsewhere v.dir (new_names number) (path_in v.dir name)
  elsewhere name ok other = name_elsewhere v.dir run.sane.current.named two fits d x is.among name ok
      (each_name (λ (m : FileName). name ≢ m) other.0 other.1)

  quiet : IsQuiet x v.dir (working_kept (drawn_work 0 known (work_of v.kept)) v.kept)
  quiet = record {
    spares = λ name ok held.
        let was : IsHeld v.kept name = held_same (drawn_work 0 known (work_of v.kept)) v.kept name held in
        let other = held_other name was in
        is.among.quiet (path_in v.dir name)
        (each_name (λ (m : FileName). (path_in v.dir name ≢ path_in v.dir m)
        × (under (path_in v.dir m) (path_in v.dir name) ≡ None)) (
          name_apart v.dir (Manifest number) run.sane.current.named next.numbered name ok other.0,
          file_off v.dir run.sane.current.named (Manifest number) next.numbered name ok other.0,
        ) (
          name_apart v.dir (Temp number) run.sane.current.named next.temporary name ok other.1,
          file_off v.dir run.sane.current.named (Temp number) next.temporary name ok other.1,
        )) (run.sane.quiet.spares name ok was);
  }

  -- ---- the known names

  known_there : (name : FileName) → Contains known name → IsFileName name × (is_some (file_at x (path_in v.dir name)) ≡ true)
  known_there name among = ⊎_elim
      (λ old. let was = run.sane.known.there name old in (
        was.0,
        ap is_some (file_among v.dir two d x is.among (path_in v.dir name) (elsewhere name was.0 (known_other name old)))
            ∙ was.1,
      ))
      (λ new. (All-contains IsFileName two name fits new.0, new.1))
      (knows.there name among)

  known_all : (name : FileName) → IsFileName name → is_some (finmap.get (names_now x) (path_in v.dir name)) ≡ true
      → Contains known name
  known_all name ok there = ⊎_elim
      (λ same. knows.all name (subst (Contains two)
      (sym (same_name v.dir (Manifest number) run.sane.current.named next.numbered name ok same)) manifest_among) there)
      (λ a. ⊎_elim
      (λ same. knows.all name (subst (Contains two)
      (sym (same_name v.dir (Temp number) run.sane.current.named next.temporary name ok same)) temp_among) there)
      (λ b. knows.still name (run.sane.known.all name ok
      (ap is_some (sym (is.among.now (path_in v.dir name)
      (each_name (λ (m : FileName). path_in v.dir name ≢ path_in v.dir m) a b))) ∙ there)))
      (path_cases (path_in v.dir name) (path_in v.dir (Temp number))))
      (path_cases (path_in v.dir name) (path_in v.dir (Manifest number)))

  -- ---- files that are still appended to

  table_elsewhere : (n : ℕ) → IsElsewhere v.dir (new_names number) (path_in v.dir (Table n))
  table_elsewhere n = each_name (λ (m : FileName). path_in v.dir (Table n) ≢ path_in v.dir m)
      (manifest_apart v.dir n number next.numbered) (temp_apart v.dir n number)

  abbrev table_path : Unfinished → List ℕ
  table_path table = path_in v.dir (Table table.number)

  alone : All (IsAlone x) (appended_to v.dir v.kept run.parts.last.number)
  alone =
      let old : List ℕ = path_in v.dir (Manifest v.kept.manifest) in
      let log : List ℕ = path_in v.dir (Log run.parts.last.number) in
      let rest : List (List ℕ) = map table_path v.kept.unfinished ++ in_hand v.kept.begun v.kept.hand in
      let each : All (IsAlone d) (old ∷ log ∷ rest) = run.sane.written.alone in
      let logs : All (IsAlone d) (log ∷ rest) = All-tail (IsAlone d) old (log ∷ rest) each in
      let ends = both_all (IsAlone d) table_path v.kept.unfinished (in_hand v.kept.begun v.kept.hand)
      (All-tail (IsAlone d) log rest logs) in
      All-cons (IsAlone x) old (log ∷ rest)
      (is.among.alone old
      (elsewhere (Manifest v.kept.manifest) run.sane.current.numbered (known_other (Manifest v.kept.manifest) manifest_known))
      (All-head (IsAlone d) old (log ∷ rest) each))
      (All-cons (IsAlone x) log rest
      (is.among.alone log (elsewhere (Log run.parts.last.number) (last_is d v.dir v.kept run.parts beside.logs).1
      ((λ same. cc), λ same. cc)) (All-head (IsAlone d) log rest logs))
      (All-append (IsAlone x) (map table_path v.kept.unfinished) (in_hand v.kept.begun v.kept.hand)
      (All-map (IsAlone x) table_path v.kept.unfinished (All-weaker (λ (u : Unfinished). IsAlone d (table_path u))
      (λ (u : Unfinished). IsAlone x (table_path u))
      (λ u was. is.among.alone (table_path u) (table_elsewhere u.number) was) v.kept.unfinished ends.0))
      (hand_alone v.dir run.sane.current.named number next.numbered next.temporary d x replaces.among v.kept run.parts beside
      v.kept.begun v.kept.hand run.sane.restored ends.1)))

  -- ---- the store

  module _ (n : ℕ) where
    abbrev p : Work
    p = drawn_work n known (work_of v.kept)

    begun_sane : Sane x v.dir (working_kept (drawn_work n known (work_of v.kept)) v.kept) run.parts
    begun_sane =
        let reads = replaced_reads v.dir run.sane.current.named number next.numbered next.temporary d x replaces.among v.kept
        run.parts beside (λ k least fit. quiet.spares (Log k) fit (inl least)) run.sane.edits.version run.sane.edits.log in
        record {
          current = record {
            named = run.sane.current.named;
            folder = reads.folder;
            numbered = run.sane.current.numbered;
            file = whole_among v.dir two d x is.among (path_in v.dir Current)
                (elsewhere Current tt ((λ same. cc), λ same. cc)) _ run.sane.current.file;
          };
          edits = record {
            are = run.sane.edits.are;
            file = whole_among v.dir two d x is.among (path_in v.dir (Manifest v.kept.manifest))
                (elsewhere (Manifest v.kept.manifest) run.sane.current.numbered
                (known_other (Manifest v.kept.manifest) manifest_known)) _ run.sane.edits.file;
            len = run.sane.edits.len;
            version = run.sane.edits.version;
            log = run.sane.edits.log;
            last = run.sane.edits.last;
          };
          tables = record {
            each = λ k placed found. let table = reads.tables.each k placed found in
                record {
                  numbered = table.numbered;
                  bytes = table.bytes;
                  file = table.file;
                  table = table.table;
                  size = table.size;
                  viewed = table.viewed;
                };
          };
          logs = record {
            numbers = reads.logs.numbers;
            ascend = reads.logs.ascend;
            live = reads.logs.live;
            older = reads.logs.older;
            last = replaced_last v.dir run.sane.current.named number next.numbered next.temporary d x replaces.among v.kept
                run.parts beside;
            only = reads.logs.only;
            frozen = reads.logs.frozen;
            active = run.sane.logs.active;
          };
          quiet = record { spares = λ name ok held. quiet.spares name ok (held_same p v.kept name held) };
          known = record { there = known_there; all = known_all };
          files = files_among v.dir run.sane.current.named two fits d x is.among run.sane.files;
          lawful = run.sane.lawful;
          written = record {
            tables = All-weaker
                (λ (u : Unfinished). bytes_at (tree_now d) (table_path u) ≡ Some u.bytes)
                (λ (u : Unfinished). bytes_at (tree_now x) (table_path u) ≡ Some u.bytes)
                (λ u held. bytes_among v.dir two d x is.among (table_path u) (table_elsewhere u.number) u.bytes held)
                v.kept.unfinished run.sane.written.tables;
            alone = alone;
          };
          restored = restored_among v.dir run.sane.current.named two fits d x is.among run.sane.files v.kept.begun v.kept.hand
              run.sane.restored;
        }

    module _ (seen : Seen) where
      abbrev t : State
      t = working_state seen p s

      abbrev w : Shown
      w = shown_with seen (working_kept p v.kept) v

      begun_runs : IsRunning x w t
      begun_runs =
          let jobs = replaced_jobs v.dir run.sane.current.named number next.numbered next.temporary d x replaces.among
          run.sane.files v.kept.pins s (pins_apart v s good run v.kept run.parts ready number next x replaces) run.jobs in
          record {
            parts = run.parts;
            sane = begun_sane;
            tied = record {
              flushed = run.tied.flushed;
              within = run.tied.within;
              below = run.tied.below;
              last = run.tied.last;
              above = run.tied.above;
              durable = run.tied.durable;
            };
            works = record {
              active = run.works.active;
              frozen = run.works.frozen;
              log_len = run.works.log_len;
              older_len = run.works.older_len;
              active_len = run.works.active_len;
              frozen_len = run.works.frozen_len;
              tables = run.works.tables;
              merging = run.works.merging;
              outputs = refl;
              next = refl;
              manifest_len = run.works.manifest_len;
            };
            jobs = record { apart = jobs.apart; each = jobs.each };
            certain = run.certain;
          }

      -- want of memory leaves it so
      pub begun_manifest_good : (story : Story) → seen.told ≡ Some story → v.halt ≡ None → state_of story ≡ x
          → Good (shown_with seen (working_kept (drawn_work n known (work_of v.kept)) v.kept) v)
          (working_state seen (drawn_work n known (work_of v.kept)) s)
      begun_manifest_good story told none same =
          let read = folders_with v s good x is.inside in
          record {
            story = story;
            told = told;
            mode = subst (λ (y : disk.State). IsInMode v.halt y w t) (sym same)
                (subst (λ (h : Option Halt). IsInMode h x w t) (sym none) begun_runs);
            pinned = subst (λ (y : disk.State). Pinned y v.dir v.kept.pins t) (sym same)
                (record {
                  pins = pins_alike s t refl refl refl v.kept.pins s.pins good.pinned.pins;
                  files = pins_stay v s good run v.kept run.parts ready number next x replaces;
                });
            folders = subst (λ (y : disk.State). FoldersRead y t) (sym same) (record { now = read.now; sure = read.sure });
            clear = subst AreClearable (sym same)
                (clear_among v.dir run.sane.current.named two fits d x is.among run.sane.files good.clear);
            counted = record {
              durable = good.counted.durable;
              numbers = good.counted.numbers;
              fronts = good.counted.fronts;
              begun = good.counted.begun;
            };
            kept = record {
              own = good.kept.own;
              sequence = good.kept.sequence;
              greatest_pin = good.kept.greatest_pin;
              disables = good.kept.disables;
              begun = good.kept.begun;
              halt = good.kept.halt;
            };
            counts = record { faults = refl; refusals = refl };
          }
