-- The table of a flush, named by an edit that is appended or by a new manifest: the images on the way, the store that is halted
-- there, and the one behind a new manifest.
use Rattle.std.specs.Prelude.{All, Contains, List, None, Ok, Option, Some, [], is_some, length, true, ℕ, ◌++◌, ◌∷◌, ◌≡◌, ◌⊎◌}
use Rattle.std.proofs.Common.{ap, inl, refl, subst, sym, ◌∙◌}
use Rattle.std.proofs.lemmas.List.Elements.{All-nil}
use Rattle.std.specs.FinMap as finmap
use Rattle.lsm_names.specs.FileNames.{IsFileName}
use Rattle.lsm_names.specs.declared.file_names.FileName.TheVariants.{Current, Manifest, Table}
use Rattle.lsm_names.specs.declared.file_names.FileName.{FileName}
use Rattle.lsm_rows.specs.declared.rows.Row.{Row}
use Rattle.lsm_disk.specs.Names.{File_node}
use Rattle.lsm_disk.specs.State as disk
use Rattle.lsm_disk.specs.State.{Seen, Story, file_at, names_now, state_of}
use Rattle.lsm_disk.specs.Images.{IsImage, Tree}
use Rattle.lsm_disk.specs.Kept.{InFile}
use Rattle.lsm_disk.specs.Goes.{Went}
use Rattle.lsm_disk.specs.Dest.{path_in}
use Rattle.lsm_disk.specs.declared.calls.Halt.{Halt}
use Rattle.lsm_disk.proofs.Named.{name_now}
use Rattle.lsm_disk.proofs.Kept.{kept_at}
use Rattle.lsm_folder.specs.Names.{current_text}
use Rattle.lsm_version.specs.declared.edits.Edit.{Edit}
use Rattle.lsm_version.specs.declared.tables.TableInfo.{TableInfo}
use Rattle.lsm_version.specs.Edits.{IsEdit}
use Rattle.lsm_version.specs.Levels.{Tables}
use Rattle.lsm_version.specs.Versions.{applied}
use Rattle.lsm_folder.specs.Manifests.{manifest_text, tables_after}
use Rattle.lsm_model.specs.declared.states.State.{State}
use Rattle.lsm_model.specs.declared.states.Pin.{Pin}
use Rattle.lsm_refine.specs.Kept.{Kept, Shown, Unfinished}
use Rattle.lsm_refine.specs.Parts.{Parts}
use Rattle.lsm_refine.specs.Sane.{IsWholeFile, Sane}
use Rattle.lsm_refine.specs.Folders.{FoldersRead}
use Rattle.lsm_refine.specs.Good.{Good, IsInMode, IsRunning}
use Rattle.lsm_refine.specs.Moments.{ReadsAsCrashed}
use Rattle.lsm_refine.specs.Beside.{IsLone, LeadToFiles, SaneBeside, WritesAt}
use Rattle.lsm_refine.specs.Grown.{halted_shown, halted_state}
use Rattle.lsm_refine.specs.Flushed.{AddTable, EndsFrozen, HasFlushTable, IsRenewed, Renewed, flush_edit, flushed, flushed_kept, flushed_state, shown_with}
use Rattle.lsm_refine.specs.Naming.{HasEither, HasReplaced, IsReadyFor, MayBeNext, NamesWhole, Replaces, ReplacesAt}
use Rattle.lsm_refine.specs.Pins.{AreClearable, PinFiles, Pinned}
use Rattle.lsm_refine.specs.Among.{switched_kept, switched_names}
use Rattle.lsm_refine.proofs.AddedLemmas.{flush_adds, flush_applies}
use Rattle.lsm_refine.proofs.InstalledLemmas.{flush_ready, folders_with, logs, rest, tied, works}
use Rattle.lsm_refine.proofs.PinnedLemmas.{pins_alike}
use Rattle.lsm_refine.proofs.SwitchedLemmas.{clear_among, switched_known}
use Rattle.lsm_refine.proofs.TornReads.{edit_halts, edit_reads, edit_went}
use Rattle.lsm_refine.proofs.ReplacedStores.{fits, pins_apart, pins_stay, replace_halts, replace_reads, replace_went, replaced_jobs, replaced_sane}

-- ---- the store that a flush leaves

module _ (v : Shown) (s : State) (good : Good v s) (run : IsRunning (state_of good.story) v s) (info : TableInfo)
    (rows : List Row) (table : HasFlushTable (state_of good.story) v.dir v.kept info rows) (log last : ℕ)
    (ends : EndsFrozen v.kept log last) where
  fresh : finmap.get (tables_after run.parts.edits) info.number ≡ None
  fresh = ap (λ (t : Tables). finmap.get t info.number) (sym run.sane.edits.version) ∙ table.fresh

  module _ (edits : List Edit) (add : AddTable run.parts.edits info log last edits) where
    module _ (renewed : Renewed) (fit : IsRenewed (state_of good.story) v edits renewed) (len : ℕ) where
      -- it is ready for the edits
      pub flush_is_ready : IsReadyFor (state_of good.story) v s (flushed_kept renewed log last len v.kept)
          (flushed edits info.number rows run.parts)
      flush_is_ready = record {
        beside = flush_ready v s good run info rows table log last ends edits add renewed fit len;
        manifest = refl;
        are = add.are;
        version = fit.version;
        log = sym add.log_is;
        last = sym add.last_is;
        active = (logs v s good run info rows table log last ends edits add renewed fit len).active;
        least = (rest v s good run info rows table log last ends edits add renewed fit len).log;
        tied = tied v s good run info rows table log last ends edits add renewed fit len;
      }

    -- what the edits leave, with nothing else renewed
    abbrev bare : Renewed
    bare = record { version = tables_after edits; views = v.kept.views; unfinished = [] }

    abbrev bare_kept : Kept
    bare_kept = flushed_kept bare log last 0 v.kept

    abbrev parts : Parts
    parts = flushed edits info.number rows run.parts

    bare_ready : IsReadyFor (state_of good.story) v s bare_kept parts
    bare_ready = flush_is_ready bare (record {
      version = refl;
      views = λ number view found. inl found;
      unfinished = All-nil (Contains v.kept.unfinished);
    }) 0

  -- ---- an edit is appended

  module _ (next : ℕ) (grammar : IsEdit (flush_edit info log next last)) where
    abbrev edit : Edit
    edit = flush_edit info log next last

    -- the edits with this one add the table
    pub appended_adds : AddTable run.parts.edits info log last (run.parts.edits ++ flush_edit info log next last ∷ [])
    appended_adds = flush_adds run.parts.edits run.sane.edits.are info log next last grammar fresh

    -- the edit is never refused, and makes this version
    pub appended_version : applied v.kept.version (flush_edit info log next last)
        ≡ Ok (tables_after (run.parts.edits ++ flush_edit info log next last ∷ []))
    appended_version =
        ap (λ (t : Tables). applied t edit) run.sane.edits.version
        ∙ flush_applies run.parts.edits run.sane.edits.are info log next last fresh
        ∙ ap Ok (sym appended_adds.tables)

    abbrev more : List Edit
    more = run.parts.edits ++ edit ∷ []

    -- with the edit and without, the folder stands for what it did
    pub append_reads : (x : disk.State) → WritesAt v.dir (Manifest v.kept.manifest) (state_of good.story) x
        → (t : Tree) → IsImage x t
        → HasEither (path_in v.dir (Manifest v.kept.manifest)) run.parts.edits (flush_edit info log next last) t
        → ReadsAsCrashed s t
    append_reads = edit_reads v s good run (bare_kept more appended_adds) (parts more appended_adds)
        (bare_ready more appended_adds) edit refl

    -- a halt leaves a good store
    pub append_halts : (x : disk.State) → WritesAt v.dir (Manifest v.kept.manifest) (state_of good.story) x
        → ((t : Tree) → IsImage x t
        → HasEither (path_in v.dir (Manifest v.kept.manifest)) run.parts.edits (flush_edit info log next last) t)
        → (seen : Seen) (at : Halt) (story : Story) → seen.told ≡ Some story → state_of story ≡ x
        → Good (halted_shown seen at v) (halted_state seen at s.doubtful s)
    append_halts = edit_halts v s good run (bare_kept more appended_adds) (parts more appended_adds)
        (bare_ready more appended_adds) edit refl

    -- each image on the way reads so
    pub append_went : (told : Option Story) (P : disk.State → Tree → Type 0) (J : disk.State → Type 0)
        → ((x : disk.State) (t : Tree) → P x t
        → HasEither (path_in v.dir (Manifest v.kept.manifest)) run.parts.edits (flush_edit info log next last) t)
        → Went good.story told (InFile run.sane.edits.file.id) P J
        → Went good.story told (InFile run.sane.edits.file.id) (λ x t. ReadsAsCrashed s t)
        (λ x. J x × (WritesAt v.dir (Manifest v.kept.manifest) (state_of good.story) x
        × IsLone x v.dir (Manifest v.kept.manifest) run.sane.edits.file.id))
    append_went = edit_went v s good run (bare_kept more appended_adds) (parts more appended_adds)
        (bare_ready more appended_adds) edit refl

  -- ---- a new manifest takes the place

  module _ (edits : List Edit) (add : AddTable run.parts.edits info log last edits) (number : ℕ)
      (next : MayBeNext v.kept number) where
    abbrev d : disk.State
    d = state_of good.story

    abbrev three : List FileName
    three = switched_names number number

    -- with the old manifest and with the new one the folder stands for what it did
    pub roll_reads : (x : disk.State) → ReplacesAt v.dir number (state_of good.story) x → (t : Tree) → IsImage x t
        → NamesWhole v.dir v.kept.manifest run.parts.edits t ⊎ NamesWhole v.dir number edits t → ReadsAsCrashed s t
    roll_reads = replace_reads v s good run (bare_kept edits add) (parts edits add) (bare_ready edits add) number next

    -- a halt leaves a good store
    pub roll_halts : (x : disk.State) → ReplacesAt v.dir number (state_of good.story) x
        → ((t : Tree) → IsImage x t
        → NamesWhole v.dir v.kept.manifest run.parts.edits t ⊎ NamesWhole v.dir number edits t)
        → (seen : Seen) (by : Halt) (story : Story) → seen.told ≡ Some story → state_of story ≡ x
        → Good (halted_shown seen by v) (halted_state seen by s.doubtful s)
    roll_halts = replace_halts v s good run (bare_kept edits add) (parts edits add) (bare_ready edits add) number next

    -- each image on the way reads so
    pub roll_went : (told : Option Story) (P : disk.State → Tree → Type 0) (J : disk.State → Type 0)
        → LeadToFiles (state_of good.story)
        → ((x : disk.State) (t : Tree) → P x t
        → NamesWhole v.dir v.kept.manifest run.parts.edits t ⊎ NamesWhole v.dir number edits t)
        → Went good.story told (Replaces v.dir number (length (state_of good.story).files)) P J
        → Went good.story told (Replaces v.dir number (length (state_of good.story).files)) (λ x t. ReadsAsCrashed s t)
        (λ x. J x × ReplacesAt v.dir number (state_of good.story) x)
    roll_went = replace_went v s good run (bare_kept edits add) (parts edits add) (bare_ready edits add) number next

    module _ (x : disk.State) (is : ReplacesAt v.dir number (state_of good.story) x) where
      stay : All (λ (pin : Pin). PinFiles x v.dir pin.files) s.pins
      stay = pins_stay v s good run (bare_kept edits add) (parts edits add) (bare_ready edits add) number next x is

      module _ (done : HasReplaced x v.dir number edits) (renewed : Renewed)
          (fit : IsRenewed (state_of good.story) v edits renewed)
          (tables_fit : All (λ (table : Unfinished). IsFileName (Table table.number)) renewed.unfinished)
          (len : ℕ) (long : len ≡ length (manifest_text edits)) where
        abbrev kept : Kept
        kept = flushed_kept renewed log last len v.kept

        abbrev after : Parts
        after = flushed edits info.number rows run.parts

        abbrev new_kept : Kept
        new_kept = switched_kept number len v.kept.next (v.kept.known ++ Manifest number ∷ [])
            (flushed_kept renewed log last len v.kept)

        ready : SaneBeside d v.dir kept after (Manifest v.kept.manifest)
        ready = flush_ready v s good run info rows table log last ends edits add renewed fit len

        there_of : (path bytes : List ℕ) → IsWholeFile x path bytes → is_some (file_at x path) ≡ true
        there_of path bytes whole = ap is_some (kept_at x path whole.id _ whole.file)

        current_known : Contains v.kept.known Current
        current_known = run.sane.known.all Current tt
            (ap is_some
            (name_now d (path_in v.dir Current) (Some (File_node run.sane.current.file.id)) run.sane.current.file.file.named))

        now_sane : Sane x v.dir new_kept after
        now_sane =
            replaced_sane v.dir run.sane.current.named number next.numbered next.temporary d x is.among kept after ready done
            tables_fit len
            v.kept.next (v.kept.known ++ Manifest number ∷ []) add.are
            (logs v s good run info rows table log last ends edits add renewed fit len).active fit.version (sym add.log_is)
            (sym add.last_is) long
            (switched_known d x v.dir kept run.sane.current.named number number next.numbered next.temporary is.among
            ready.known
            current_known next.free (there_of (path_in v.dir (Manifest number)) (manifest_text edits) done.manifest)
            (there_of (path_in v.dir Current) (current_text number) done.current) done.gone len v.kept.next)

        module _ (seen : Seen) where
          abbrev t : State
          t = flushed_state seen renewed.version len s

          abbrev w : Shown
          w = shown_with seen new_kept v

          now_runs : IsRunning x w t
          now_runs =
              let work = works v s good run info rows table log last ends edits add renewed fit len seen in
              let batches = tied v s good run info rows table log last ends edits add renewed fit len in
              let jobs = replaced_jobs v.dir run.sane.current.named number next.numbered next.temporary d x is.among
              run.sane.files v.kept.pins s
              (pins_apart v s good run (bare_kept edits add) (parts edits add) (bare_ready edits add) number next x is)
              run.jobs in
              record {
                parts = after;
                sane = now_sane;
                tied = record {
                  flushed = batches.flushed;
                  within = batches.within;
                  below = batches.below;
                  last = batches.last;
                  above = batches.above;
                  durable = batches.durable;
                };
                works = record {
                  active = work.active;
                  frozen = work.frozen;
                  log_len = work.log_len;
                  older_len = work.older_len;
                  active_len = work.active_len;
                  frozen_len = work.frozen_len;
                  tables = work.tables;
                  merging = work.merging;
                  outputs = work.outputs;
                  next = work.next;
                  manifest_len = refl;
                };
                jobs = record { apart = jobs.apart; each = jobs.each };
                certain = run.certain;
              }

          -- the store runs on
          pub roll_good : (story : Story) → seen.told ≡ Some story → v.halt ≡ None → state_of story ≡ x
              → Good (shown_with seen (switched_kept number len v.kept.next (v.kept.known ++ Manifest number ∷ [])
              (flushed_kept renewed log last len v.kept)) v) (flushed_state seen renewed.version len s)
          roll_good story told none same =
              let read = folders_with v s good x is.inside in
              record {
                story = story;
                told = told;
                mode = subst (λ (y : disk.State). IsInMode v.halt y w t) (sym same)
                    (subst (λ (h : Option Halt). IsInMode h x w t) (sym none) now_runs);
                pinned = subst (λ (y : disk.State). Pinned y v.dir v.kept.pins t) (sym same)
                    (record {
                      pins = pins_alike s t refl refl refl v.kept.pins s.pins good.pinned.pins;
                      files =
                          stay;
                    });
                folders = subst (λ (y : disk.State). FoldersRead y t) (sym same) (record { now = read.now; sure = read.sure });
                clear = subst AreClearable (sym same) (clear_among v.dir run.sane.current.named three
                    (fits v.dir run.sane.current.named number next.numbered next.temporary d x is.among)
                    d x is.among run.sane.files good.clear);
                counted = record {
                  durable = good.counted.durable;
                  numbers = good.counted.numbers;
                  fronts = good.counted.fronts;
                  begun = good.counted.begun;
                };
                kept = record {
                  own = good.kept.own;
                  sequence = good.kept.sequence;
                  greatest_pin = good.kept.greatest_pin;
                  disables = good.kept.disables;
                  begun = good.kept.begun;
                  halt = good.kept.halt;
                };
                counts = record { faults = refl; refusals = refl };
              }
