-- While a file is made or written that a running store doesn't need, as a table that no edit names yet, each image reads as a
-- crash leaves the state, and a halt leaves a good store.
use Rattle.std.specs.Prelude.{◌≡◌, ◌≢◌, ◌⊎◌, ℕ, ◌≤◌, true, is_some, List, ◌++◌, length, All, Option, Some, None}
use Rattle.std.proofs.Common.{⊎_elim, inl, inr, refl, sym, ap, subst, ◌∙◌}
use Rattle.std.proofs.lemmas.List.Elements.{All-weaker}
use Rattle.std.specs.FinMap as finmap
use Rattle.lsm_names.specs.Folders.{is_folder_name}
use Rattle.lsm_names.specs.FileNames.{IsFileName}
use Rattle.lsm_names.specs.declared.file_names.FileName.{FileName}
use Rattle.lsm_names.specs.declared.file_names.FileName.TheVariants.{Log, Table, Manifest, Current}
use Rattle.lsm_disk.specs.Names.{id_of}
use Rattle.lsm_disk.specs.State as disk
use Rattle.lsm_disk.specs.State.{Seen, Story, state_of, file_at, names_now}
use Rattle.lsm_disk.specs.Images.{Tree, IsImage, bytes_at, tree_now}
use Rattle.lsm_disk.specs.Kept.{InFile}
use Rattle.lsm_disk.specs.Goes.{Went}
use Rattle.lsm_disk.specs.Dest.{path_in}
use Rattle.lsm_disk.specs.declared.calls.Halt.{Halt}
use Rattle.lsm_disk.proofs.Named.{now_at}
use Rattle.lsm_disk.proofs.Runs.{went_weaker, went_wider}
use Rattle.lsm_model.specs.declared.states.State.{State}
use Rattle.lsm_model.specs.declared.states.Pin.{Pin}
use Rattle.lsm_refine.specs.Kept.{Shown}
use Rattle.lsm_refine.specs.Parts.{LogPart, first_logged}
use Rattle.lsm_refine.specs.Sane.{MayStand, IsNeeded, IsOlder}
use Rattle.lsm_refine.specs.Pins.{IsPinned, PinFiles}
use Rattle.lsm_refine.specs.Folders.{StandsFrom, ChangesInside, FoldersRead}
use Rattle.lsm_refine.specs.Good.{IsRunning, Good}
use Rattle.lsm_refine.specs.Moments.{ReadsAsCrashed, ImagesShow}
use Rattle.lsm_refine.specs.Beside.{LeadToFiles, ChangesAt, WritesAt, WritesNew, MakesAt, IsLone, IsReadable, HasLast}
use Rattle.lsm_refine.specs.Grown.{halted_shown, halted_state}
use Rattle.lsm_refine.proofs.BesideLemmas.{went_beside}
use Rattle.lsm_refine.proofs.ChangeLemmas.{file_of, file_stays, bytes_stay}
use Rattle.lsm_refine.proofs.GoodLemmas.{readable_image, readable_now}
use Rattle.lsm_refine.proofs.HaltLemmas.{left_same, halts_good}
use Rattle.lsm_refine.proofs.LastLogLemmas.{last_is, older_are}
use Rattle.lsm_refine.proofs.NewFileLemmas.{went_making}
use Rattle.lsm_refine.proofs.MomentLemmas.{crash_reads}
use Rattle.lsm_refine.proofs.OutsideLemmas.{folders_stay}
use Rattle.lsm_refine.proofs.PartsLemmas.{readable}
use Rattle.lsm_refine.proofs.TableSyncs.{readable_synced}
use Rattle.lsm_refine.proofs.OtherFileLemmas.{name_apart, current_at, edits_at, tables_at, wal_at, synced_at, files_at, clear_at}

module _ (v : Shown) (s : State) (good : Good v s) (run : IsRunning (state_of good.story) v s) (name : FileName)
    (fits : IsFileName name) (unneeded : ¬ IsNeeded v.kept name) where
  abbrev d : disk.State
  d = state_of good.story

  abbrev path : List ℕ
  path = path_in v.dir name

  named : is_folder_name v.dir ≡ true
  named = run.sane.current.named

  -- what is needed is another file
  needs : (other : FileName) → IsNeeded v.kept other → other ≢ name
  needs other needed same = unneeded (subst (IsNeeded v.kept) same needed)

  reads : IsReadable d v.dir v.kept run.parts
  reads = readable d v.dir v.kept run.parts run.sane

  older_others : All (λ (log : LogPart). IsFileName (Log log.number) × (Log log.number ≢ name)) run.parts.older
  older_others =
      All-weaker (IsOlder v.kept run.parts.last.number) (λ (log : LogPart). IsFileName (Log log.number) × (Log log.number ≢ name))
      (λ log is. (is.0, needs (Log log.number) is.1)) run.parts.older (older_are d v.dir v.kept run.parts reads.logs)

  module _ (x : disk.State) (at : ChangesAt (path_in v.dir name) (state_of good.story) x) where
    only_still : (number : ℕ) → v.kept.log ≤ number → IsFileName (Log number) → MayStand x v.dir v.kept number
    only_still number least is = ⊎_elim
        (λ among. inl among)
        (λ free. inr (file_stays path d x at (path_in v.dir (Log number))
        (name_apart v.dir name named fits (Log number) is (needs (Log number) least)) ∙ free))
        (run.sane.logs.only number least is)

    pub unneeded_readable : IsReadable x v.dir v.kept run.parts
    unneeded_readable = record {
      current = current_at v.dir name named fits d x at v.kept (needs Current tt) run.sane.current;
      edits = edits_at v.dir name named fits d x at v.kept run.parts.edits run.sane.current.numbered
          (needs (Manifest v.kept.manifest) refl) run.sane.edits;
      tables = tables_at v.dir name named fits d x at v.kept run.parts.rows
          (λ number placed found. needs (Table number) (ap is_some found)) run.sane.tables;
      logs = record {
        numbers = run.sane.logs.numbers;
        ascend = run.sane.logs.ascend;
        live = run.sane.logs.live;
        older = synced_at v.dir name named fits d x at (first_logged run.parts) run.parts.older older_others run.sane.logs.older;
        only = only_still;
        frozen = run.sane.logs.frozen;
      };
      quiet = λ number least is. at.quiet (path_in v.dir (Log number))
          (name_apart v.dir name named fits (Log number) is (needs (Log number) least)) (run.sane.quiet.spares (Log number) is (inl least));
    }

    pub unneeded_last : HasLast x v.dir run.parts run.parts.synced
    unneeded_last =
        let last = last_is d v.dir v.kept run.parts reads.logs in
        wal_at v.dir name named fits d x at run.parts.last.number _ _ last.1 (needs (Log run.parts.last.number) last.0) run.sane.logs.last

    image_stands : (t : Tree) → IsImage x t → StandsFrom s s.durable t
    image_stands = readable_image x v s good.kept.own run.parts run.sane.lawful run.tied run.certain unneeded_readable unneeded_last

    now_stands : StandsFrom s (length s.accepted) (tree_now x)
    now_stands = readable_now x v s good.kept.own run.parts run.sane.lawful run.tied run.certain unneeded_readable unneeded_last

    -- what has bytes under another name than the file's keeps them, and nothing had its name
    pub unneeded_pins : finmap.get (names_now (state_of good.story)) (path_in v.dir name) ≡ None
        → All (λ (pin : Pin). PinFiles x v.dir pin.files) s.pins
    unneeded_pins free =
        All-weaker (λ (pin : Pin). PinFiles d v.dir pin.files) (λ (pin : Pin). PinFiles x v.dir pin.files)
        (λ pin are. All-weaker (IsPinned d v.dir) (IsPinned x v.dir)
        (λ file has. record {
          fits = has.fits;
          more = has.more;
          there = bytes_stay path d x at (path_in v.dir file.name)
              (apart (path_in v.dir file.name) (file.bytes ++ has.more) has.there) (file.bytes ++ has.more) has.there;
        })
        pin.files are) s.pins good.pinned.files
      where
        apart : (other held : List ℕ) → bytes_at (tree_now d) other ≡ Some held → other ≢ path
        apart other held has same =
            let found = file_of d other held has in
            let clash : None ≡ Some found.0 = sym (ap id_of free) ∙ ap (file_at d) (sym same) ∙ now_at d other found.0 found.1 found.2 in
            cc

    module _ (inside : ChangesInside v.dir (state_of good.story) x) where
      folders_still : FoldersRead x s
      folders_still = folders_stay d x s (subst (λ (own : List ℕ). ChangesInside own d x) good.kept.own inside) good.folders

      -- each image reads as a crash leaves the state
      pub unneeded_reads : (t : Tree) → IsImage x t → ReadsAsCrashed s t
      unneeded_reads t i = crash_reads x s t i folders_still (image_stands t i)

  -- a halt there leaves a good store
  pub unneeded_halts : (seen : Seen) (by : Halt) (story : Story) → seen.told ≡ Some story
      → ChangesAt (path_in v.dir name) (state_of good.story) (state_of story)
      → ChangesInside v.dir (state_of good.story) (state_of story)
      → All (λ (pin : Pin). PinFiles (state_of story) v.dir pin.files) s.pins
      → Good (halted_shown seen by v) (halted_state seen by s.doubtful s)
  unneeded_halts seen by story told at inside pins =
      let x : disk.State = state_of story in
      halts_good v s good run seen by s.doubtful story told
      (left_same x v run.parts.rows s (unneeded_readable x at).tables (now_stands x at) (image_stands x at) pins
      (folders_still x at inside) (clear_at v.dir name named fits d x at run.sane.files good.clear)
      (files_at v.dir name named fits d x at run.sane.files)
      (readable_synced x v.dir v.kept run.parts (unneeded_readable x at)))

  -- ---- runs

  -- of the making and the writing of a new file
  pub making_went : {told : Option Story} {P : disk.State → Tree → Type 0} (J : disk.State → Type 0) → LeadToFiles (state_of good.story)
      → Went good.story told (WritesNew (path_in v.dir name) (length (state_of good.story).files)) P J
      → Went good.story told (WritesNew (path_in v.dir name) (length (state_of good.story).files)) (λ x t. ReadsAsCrashed s t)
      (λ x. J x × MakesAt v.dir name (state_of good.story) x)
  making_went J lead went =
      went_making v.dir name named fits (λ x t. ReadsAsCrashed s t) J lead
      (λ x t makes i held. unneeded_reads x makes.at makes.inside t i) went

  -- of appends to the file and its syncs
  pub writing_went : (told : Option Story) (P : disk.State → Tree → Type 0) (J : disk.State → Type 0) (id : ℕ)
      → IsLone (state_of good.story) v.dir name id
      → Went good.story told (InFile id) P J → Went good.story told (InFile id) (λ x t. ReadsAsCrashed s t)
      (λ x. J x × (WritesAt v.dir name (state_of good.story) x × IsLone x v.dir name id))
  writing_went told P J id lone went =
      went_beside v.dir name good.story told id P (λ x t. ReadsAsCrashed s t) J lone
      (λ x t writes i held. unneeded_reads x writes.at writes.inside t i) went

-- each image of a run reads as what a crash leaves of one of two states, where it reads as that of the first
pub shows_first : (story : Story) (told : Option Story) (s t : State) (q : disk.Change → Type 0) (J : disk.State → Type 0)
    → Went story told q (λ x tree. ReadsAsCrashed s tree) J → ImagesShow story told s t
shows_first story told s t q J went =
    went_wider q (λ c. Unit {0}) (λ x tree. ReadsAsCrashed s tree) (λ x tree. ReadsAsCrashed s tree ⊎ ReadsAsCrashed t tree)
    (λ c is. tt) (λ x tree is. inl is)
    (went_weaker J (λ x. Unit {0}) (λ x is. tt) went)
