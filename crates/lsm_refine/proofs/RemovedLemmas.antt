-- A good store stays good where a file is removed that it needs no more.
use Rattle.std.specs.Prelude.{◌≡◌, ◌≢◌, ◌⊎◌, ℕ, true, false, is_some, List, [], ◌∷◌, ◌++◌, map, All, Contains, Option, Some, None}
use Rattle.std.specs.List.{flat_map}
use Rattle.std.proofs.Common.{inl, inr, refl, sym, ap, subst, ◌∙◌, arith}
use Rattle.std.proofs.lemmas.List.Elements.{All-nil, All-cons, All-head, All-tail, All-weaker, Contains-append_left, Contains-append_right}
use Rattle.std.specs.FinMap as finmap
use Rattle.lsm_names.specs.Folders.{is_folder_name}
use Rattle.lsm_names.specs.FileNames.{IsFileName}
use Rattle.lsm_names.specs.declared.file_names.FileName.{FileName}
use Rattle.lsm_names.specs.declared.file_names.FileName.TheVariants.{Log, Table, Manifest, Temp, Current}
use Rattle.lsm_disk.specs.Names.{Node, Gone, Names}
use Rattle.lsm_disk.specs.State as disk
use Rattle.lsm_disk.specs.State.{Seen, Story, Named, after, state_of, file_at, names_now}
use Rattle.lsm_disk.specs.Images.{bytes_at, tree_now}
use Rattle.lsm_disk.specs.Dest.{path_in}
use Rattle.lsm_disk.specs.declared.calls.Halt.{Halt}
use Rattle.lsm_disk.proofs.Images.{all_push}
use Rattle.lsm_disk.proofs.Lawful.{get_gone}
use Rattle.lsm_disk.proofs.Paths.{path_cases}
use Rattle.lsm_model.specs.declared.states.State.{State}
use Rattle.lsm_model.specs.declared.states.Pin.{Pin}
use Rattle.lsm_model.specs.declared.states.PinnedFile.{PinnedFile}
use Rattle.lsm_model.specs.Pins.{held}
use Rattle.lsm_refine.specs.Kept.{KeptPin, Unfinished, Kept, Shown}
use Rattle.lsm_refine.specs.Sane.{IsAlone, IsNeeded, IsHeld, AreKnown, Sane, appended_to, names_held}
use Rattle.lsm_refine.specs.Pins.{AreClearable, ArePins, IsKeptPin, IsPinned, PinFiles, Pinned, JobsBuild}
use Rattle.lsm_refine.specs.Folders.{ChangesInside, FoldersRead}
use Rattle.lsm_refine.specs.Good.{IsRunning, IsInMode, Good, with_counts}
use Rattle.lsm_refine.specs.Beside.{ChangesAt}
use Rattle.lsm_refine.specs.Calls.{MayBeRemoved, AreWithout, removed_shown}
use Rattle.lsm_refine.proofs.ChangeLemmas.{gone_at, file_stays, bytes_stay}
use Rattle.lsm_refine.proofs.OtherFileLemmas.{name_apart, files_at, clear_at, restored_at, jobs_beside}
use Rattle.lsm_refine.proofs.OutsideLemmas.{change_inside, folders_stay, gone_spares}
use Rattle.lsm_refine.proofs.PinnedLemmas.{pins_alike}
use Rattle.lsm_refine.proofs.UnneededLemmas.{unneeded_readable, unneeded_last}

-- ---- the names that pins hold

-- what is so of the names of files is so of the names that a pin of them holds
pub mapped_names : (P : FileName → Type 0) (files : List PinnedFile) → All (λ (file : PinnedFile). P file.name) files
    → All P (map (λ (f : FileName × ℕ). f.0) (map held files))
mapped_names P [] are = All-nil P
mapped_names P (file ∷ files) are =
    All-cons P file.name (map (λ (f : FileName × ℕ). f.0) (map held files)) (All-head (λ (f : PinnedFile). P f.name) file files are)
    (mapped_names P files (All-tail (λ (f : PinnedFile). P f.name) file files are))

own_names : (files : List PinnedFile) → All (λ (file : PinnedFile). Contains
    (map (λ (f : FileName × ℕ). f.0) (map held files)) file.name) files
own_names [] = All-nil (λ (file : PinnedFile). Contains (map (λ (f : FileName × ℕ). f.0) (map held [])) file.name)
own_names (file ∷ files) =
    let names : List FileName = map (λ (f : FileName × ℕ). f.0) (map held files) in
    All-cons (λ (f : PinnedFile). Contains (file.name ∷ names) f.name) file files (0, omega arith, refl)
    (All-weaker (λ (f : PinnedFile). Contains names f.name) (λ (f : PinnedFile). Contains (file.name ∷ names) f.name)
    (λ f among. Contains-append_right (file.name ∷ []) names f.name among) files (own_names files))

-- the files of a pin are other ones than those of such a path
module _ (s : State) (d : disk.State) (dir path : List ℕ) where
  abbrev AreOthers : KeptPin → Pin → Type 0
  AreOthers kept pin = All (λ (file : PinnedFile). path_in dir file.name ≢ path) pin.files

  one : (k : KeptPin) (kept : List KeptPin) (pin : Pin) → k.files ≡ map held pin.files
      → ((name : FileName) → IsFileName name → Contains (flat_map names_held (k ∷ kept)) name → path_in dir name ≢ path)
      → (file : PinnedFile) → IsPinned d dir file → Contains (map (λ (f : FileName × ℕ). f.0) (map held pin.files)) file.name
      → path_in dir file.name ≢ path
  one k kept pin same apart file is among =
      apart file.name is.fits (Contains-append_left (names_held k) (flat_map names_held kept) file.name
      (subst (λ (l : List (FileName × ℕ)). Contains (map (λ (f : FileName × ℕ). f.0) l) file.name) (sym same) among))

  pins_others : (kept : List KeptPin) (pins : List Pin) → ArePins (IsKeptPin s) kept pins
      → All (λ (pin : Pin). PinFiles d dir pin.files) pins
      → ((name : FileName) → IsFileName name → Contains (flat_map names_held kept) name → path_in dir name ≢ path)
      → ArePins AreOthers kept pins
  pins_others [] [] are files apart = tt
  pins_others [] (pin ∷ pins) are files apart = are
  pins_others (k ∷ kept) [] are files apart = are
  pins_others (k ∷ kept) (pin ∷ pins) are files apart = (
    λ n default within. one k kept pin are.0.files apart _ (All-head
        (λ (p : Pin). PinFiles d dir p.files) pin pins files n default within) (own_names pin.files n default within),
    pins_others kept pins are.1 (All-tail (λ (p : Pin). PinFiles d dir p.files) pin pins files)
        (λ name fits among. apart name fits (Contains-append_right (names_held k) (flat_map names_held kept) name among)),
  )

  pinned_others : (kept : List KeptPin) (pins : List Pin) → ArePins AreOthers kept pins
      → All (λ (pin : Pin). All (λ (file : PinnedFile). path_in dir file.name ≢ path) pin.files) pins
  pinned_others [] [] are = All-nil (λ (pin : Pin). All (λ (file : PinnedFile). path_in dir file.name ≢ path) pin.files)
  pinned_others [] (pin ∷ pins) are = absurd are
  pinned_others (k ∷ kept) [] are = absurd are
  pinned_others (k ∷ kept) (pin ∷ pins) are =
      All-cons (λ (p : Pin). All (λ (file : PinnedFile). path_in dir file.name ≢ path) p.files) pin pins are.0
      (pinned_others kept pins are.1)

-- ---- the store without the file

module _ (v : Shown) (s : State) (good : Good v s) (run : IsRunning (state_of good.story) v s) (name : FileName)
    (is : MayBeRemoved v.kept name) where
  abbrev d : disk.State
  d = state_of good.story

  abbrev path : List ℕ
  path = path_in v.dir name

  abbrev gone : disk.State
  gone = after d (Named (Gone path))

  pub obsolete_fits : IsFileName name
  obsolete_fits = (run.sane.known.there name is.known).0

  pub obsolete_unneeded : ¬ IsNeeded v.kept name
  obsolete_unneeded need = is.unheld (inl need)

  named : is_folder_name v.dir ≡ true
  named = run.sane.current.named

  pub removed_at : ChangesAt (path_in v.dir name) (state_of good.story) (after (state_of good.story) (Named (Gone (path_in v.dir name))))
  removed_at = gone_at path d

  pub removed_inside : ChangesInside v.dir (state_of good.story) (after (state_of good.story) (Named (Gone (path_in v.dir name))))
  removed_inside = change_inside v.dir d (Named (Gone path)) (gone_spares v.dir name named obsolete_fits) tt

  other_path : (other : FileName) → IsFileName other → other ≢ name → path_in v.dir other ≢ path
  other_path other fits differs = name_apart v.dir name named obsolete_fits other fits differs

  held_path : (other : FileName) → IsFileName other → IsHeld v.kept other → path_in v.dir other ≢ path
  held_path other fits has = other_path other fits (λ same. is.unheld (subst (IsHeld v.kept) same has))

  others : ArePins (AreOthers s d v.dir path) v.kept.pins s.pins
  others = pins_others s d v.dir path v.kept.pins s.pins good.pinned.pins good.pinned.files
      (λ other fits among. held_path other fits (inr among))

  -- the pinned files are there still, and the checkpoints
  pub removed_pins : All (λ (pin : Pin). PinFiles (after (state_of good.story) (Named (Gone (path_in v.dir name)))) v.dir pin.files) s.pins
  removed_pins k default within j file inside = stays _ (pinned_others s d v.dir path v.kept.pins s.pins others k default within j file inside) (good.pinned.files k default within j file inside)
    where
      stays : (file : PinnedFile) → path_in v.dir file.name ≢ path → IsPinned d v.dir file → IsPinned gone v.dir file
      stays file differs has = record {
        fits = has.fits;
        more = has.more;
        there = bytes_stay path d gone removed_at (path_in v.dir file.name) differs (file.bytes ++ has.more) has.there;
      }

  jobs_gone : JobsBuild gone v.dir v.kept.pins s
  jobs_gone = jobs_beside v.dir name named obsolete_fits d gone removed_at run.sane.files v.kept.pins s others run.jobs

  folders_gone : FoldersRead gone s
  folders_gone = folders_stay d gone s (subst (λ (own : List ℕ). ChangesInside own d gone) good.kept.own removed_inside) good.folders

  module _ (known : List FileName) (fewer : AreWithout name v.kept.known known) where
    abbrev k : Kept
    k = record v.kept { known = known }

    -- the same names are held
    held_still : (other : FileName) → IsHeld k other → IsHeld v.kept other
    held_still Current has = has
    held_still (Manifest number) has = has
    held_still (Table number) has = has
    held_still (Log number) has = has
    held_still (Temp number) has = has

    gone_there : finmap.get (names_now gone) path ≡ None
    gone_there = ap (λ (names : Names). finmap.get names path) (all_push d.pending (Gone path) d.durable) ∙ get_gone (names_now d) path

    known_gone : AreKnown gone v.dir k
    known_gone = record {
      there = λ other among.
          let was = fewer.each other among in
          let old = run.sane.known.there other was.0 in
          (old.0, ap is_some (file_stays path d gone removed_at (path_in v.dir other) (other_path other old.0 was.1)) ∙ old.1);
      all = λ other fits there. by other fits there (path_cases (path_in v.dir other) path);
    }
      where
        nothing : (node : Option Node) → node ≡ None → is_some node ≡ true → ⊥
        nothing None none there = let clash : false ≡ true = there in cc
        nothing (Some node) none there = cc

        by : (other : FileName) → IsFileName other → is_some (finmap.get (names_now gone) (path_in v.dir other)) ≡ true
            → (path_in v.dir other ≡ path) ⊎ (path_in v.dir other ≢ path) → Contains known other
        by other fits there (inl same) = absurd (nothing (finmap.get (names_now gone) (path_in v.dir other))
            (ap (finmap.get (names_now gone)) same ∙ gone_there) there)
        by other fits there (inr differs) =
            fewer.all other (run.sane.known.all other fits (ap is_some
            (sym (removed_at.now (path_in v.dir other) differs)) ∙ there)) (λ same. differs (ap (path_in v.dir) same))

    sane_gone : Sane gone v.dir k run.parts
    sane_gone =
        let reads = unneeded_readable v s good run name obsolete_fits obsolete_unneeded gone removed_at in
        record {
          current = record {
            named = reads.current.named;
            folder = reads.current.folder;
            numbered = reads.current.numbered;
            file = reads.current.file;
          };
          edits = record {
            are = reads.edits.are;
            file = reads.edits.file;
            len = reads.edits.len;
            version = reads.edits.version;
            log = reads.edits.log;
            last = reads.edits.last;
          };
          tables = record {
            each = λ number placed found. let table = reads.tables.each number placed found in
                record {
                  numbered = table.numbered;
                  bytes = table.bytes;
                  file = table.file;
                  table = table.table;
                  size = table.size;
                  viewed = table.viewed;
                };
          };
          logs = record {
            numbers = reads.logs.numbers;
            ascend = reads.logs.ascend;
            live = reads.logs.live;
            older = reads.logs.older;
            last = unneeded_last v s good run name obsolete_fits obsolete_unneeded gone removed_at;
            only = reads.logs.only;
            frozen = reads.logs.frozen;
            active = run.sane.logs.active;
          };
          quiet = record {
            spares = λ other fits has.
                removed_at.quiet (path_in v.dir other) (held_path other fits (held_still other has))
                (run.sane.quiet.spares other fits (held_still other has));
          };
          known = known_gone;
          files = files_at v.dir name named obsolete_fits d gone removed_at run.sane.files;
          lawful = run.sane.lawful;
          written = record {
            tables = given_gone;
            alone = All-weaker (IsAlone d) (IsAlone gone) removed_at.alone
                (appended_to v.dir v.kept run.parts.last.number) run.sane.written.alone;
          };
          restored = restored_at v.dir name named obsolete_fits d gone removed_at run.sane.files v.kept.begun v.kept.hand run.sane.restored;
        }
      where
        given : (table : Unfinished) → IsFileName (Table table.number) × (Table table.number ≢ name)
            → bytes_at (tree_now d) (path_in v.dir (Table table.number)) ≡ Some table.bytes
            → bytes_at (tree_now gone) (path_in v.dir (Table table.number)) ≡ Some table.bytes
        given table other has = bytes_stay path d gone removed_at (path_in v.dir (Table table.number))
            (other_path (Table table.number) other.0 other.1) table.bytes has

        given_gone : All (λ (table : Unfinished). bytes_at (tree_now gone) (path_in v.dir (Table table.number))
            ≡ Some table.bytes) v.kept.unfinished
        given_gone n default within = given _ (is.written n default within) (run.sane.written.tables n default within)

    module _ (seen : Seen) where
      abbrev w : Shown
      w = removed_shown seen known v

      abbrev t : State
      t = with_counts seen s

      runs_gone : IsRunning gone w t
      runs_gone = record {
        parts = run.parts;
        sane = sane_gone;
        tied = record {
          flushed = run.tied.flushed;
          within = run.tied.within;
          below = run.tied.below;
          last = run.tied.last;
          above = run.tied.above;
          durable = run.tied.durable;
        };
        works = record {
          active = run.works.active;
          frozen = run.works.frozen;
          log_len = run.works.log_len;
          older_len = run.works.older_len;
          active_len = run.works.active_len;
          frozen_len = run.works.frozen_len;
          tables = run.works.tables;
          merging = run.works.merging;
          outputs = run.works.outputs;
          next = run.works.next;
          manifest_len = run.works.manifest_len;
        };
        jobs = record { apart = jobs_gone.apart; each = jobs_gone.each };
        certain = run.certain;
      }

      -- the store without the file is good for the same state
      pub removed_good : (story : Story) → seen.told ≡ Some story → v.halt ≡ None
          → state_of story ≡ after (state_of good.story) (Named (Gone (path_in v.dir name)))
          → Good (removed_shown seen known v) (with_counts seen s)
      removed_good story told none at = record {
        story = story;
        told = told;
        mode = subst (λ (x : disk.State). IsInMode v.halt x w t) (sym at)
            (subst (λ (h : Option Halt). IsInMode h gone w t) (sym none) runs_gone);
        pinned = subst (λ (x : disk.State). Pinned x v.dir v.kept.pins t) (sym at)
            (record { pins = pins_alike s t refl refl refl v.kept.pins s.pins good.pinned.pins; files = removed_pins });
        folders = subst (λ (x : disk.State). FoldersRead x t) (sym at) (record { now = folders_gone.now; sure = folders_gone.sure });
        clear = subst AreClearable (sym at) (clear_at v.dir name named obsolete_fits d gone removed_at run.sane.files good.clear);
        counted = record {
          durable = good.counted.durable;
          numbers = good.counted.numbers;
          fronts = good.counted.fronts;
          begun = good.counted.begun;
        };
        kept = record {
          own = good.kept.own;
          sequence = good.kept.sequence;
          greatest_pin = good.kept.greatest_pin;
          disables = good.kept.disables;
          begun = good.kept.begun;
          halt = good.kept.halt;
        };
        counts = record { faults = refl; refusals = refl };
      }
