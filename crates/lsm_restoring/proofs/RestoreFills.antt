-- The calls that fill and finish a restore's folder, by what each did on the disk.
use Rattle.std.specs.Prelude.{◌≡◌, ◌≢◌, ℕ, List, [], ◌∷◌, ◌++◌, map, take, All, Option, Some, None, Result, Ok, Err}
use Rattle.std.proofs.Common.{⊎_elim, inr, refl, sym, ap, subst, ◌∙◌}
use Rattle.std.proofs.lemmas.List.Elements.{All-nil, All-cons, All-head}
use Rattle.lsm_names.specs.FileNames.{IsFileName}
use Rattle.lsm_names.specs.declared.file_names.FileName.{FileName}
use Rattle.lsm_names.specs.declared.file_names.FileName.TheVariants.{Log, Table, Manifest}
use Rattle.lsm_disk.specs.Names.{id_of}
use Rattle.lsm_disk.specs.State as disk
use Rattle.lsm_disk.specs.State.{FileState, Seen, Story, Change, Created, after, state_of, names_now, file_at, new_file, longer, bytes_of, created, appended, file_synced}
use Rattle.lsm_disk.specs.Halts.{halt_at, IsAmong}
use Rattle.lsm_disk.specs.Kept.{InFile}
use Rattle.lsm_disk.specs.Refusals.{no_room, no_file}
use Rattle.lsm_disk.specs.Answers.{Makes, MakesFront, pushed}
use Rattle.lsm_disk.specs.Dest.{Begun, with_name, path_in, IsPartName, part_calls, NeverExists}
use Rattle.lsm_disk.specs.Building.{Part, names_of, HoldsNames, IsBuilding, IsWriting}
use Rattle.lsm_disk.specs.declared.calls.DiskError.{DiskError}
use Rattle.lsm_disk.specs.declared.calls.DiskCall.{DiskCall}
use Rattle.lsm_disk.specs.declared.calls.DiskCall.TheVariants as call
use Rattle.lsm_disk.specs.declared.calls.Halt.{Halt}
use Rattle.lsm_disk.specs.declared.dest.DestError.{DestError}
use Rattle.lsm_disk.specs.declared.dest.DestError.TheVariants.{Fault, Halted, Exists, Changed, NoMemory}
use Rattle.lsm_disk.proofs.Named.{appends_in_now, syncs_in_now}
use Rattle.lsm_dest.specs.FolderDests.{MakesIn, DidOnce}
use Rattle.lsm_dest.proofs.Places.{part_is_file}
use Rattle.lsm_dest.proofs.Growing.{file_room, step_file, hand_there, step_append, step_seal}
use Rattle.lsm_model.specs.declared.states.State.{State}
use Rattle.lsm_model.specs.Steps.{Filed, Appended, Sealed, Makes as Steps}
use Rattle.lsm_model.specs.Destination.{FillsFolder}
use Rattle.lsm_refine.specs.Kept.{Unfinished, Shown}
use Rattle.lsm_refine.specs.Sane.{IsAlone, HasBegun, BuildsFolder, RestoreBuilds, in_hand}
use Rattle.lsm_refine.specs.Good.{Good}
use Rattle.lsm_refine.specs.Moments.{ImagesShow}
use Rattle.lsm_refine.proofs.FlushedLemmas.{all_right}
use Rattle.lsm_refine.proofs.WritingLemmas.{runs}
use Rattle.lsm_restoring.specs.Restoring.{ChangesOnly, LacksCurrentNow, IsRestoring, GoesTo, HasNamedJobs}
use Rattle.lsm_restoring.specs.Calls.{IsAnswered}
use Rattle.lsm_restoring.proofs.RestoredChanges.{only_none, only_created, created_alone, only_written}
use Rattle.lsm_restoring.proofs.RestoredReads.{names_lack}
use Rattle.lsm_restoring.proofs.RestoredImages.{restored_call}
use Rattle.lsm_restoring.proofs.RestoreSteps.{fill_halted, fill_wanting, begun_lacks, begun_may, fill_ok, fill_failed}
use Rattle.lsm_restoring.proofs.RestoreCalls.{shown_by, rise, same_halted, of_told, lead_of, tells, behind, idle_shows}

module _ (v w : Shown) (s : State) (good : Good v s) (jobs : HasNamedJobs v) (begun : Begun)
    (is_begun : v.kept.begun ≡ Some begun) where
  abbrev d : disk.State
  d = state_of good.story

  abbrev folder : List ℕ
  folder = begun.folder

  -- the folder as it is kept, and the file in hand
  builds : v.halt ≡ None → BuildsFolder d v.dir begun v.kept.hand
  builds none = subst (λ (b : Option Begun). RestoreBuilds d v.dir b v.kept.hand) is_begun (runs v s good none).sane.restored

  -- ---- one disk call on a file of the folder

  -- One disk call was made, behind which the folder is so, with these names and this file in hand.
  pub record IsFilled (later : Begun) (hand : Option FileName) : Type 0 where
    pub change : disk.State → Change
    pub makes : Makes v.disk.told change w.disk.told
    pub same : later.folder ≡ folder
    pub only : ChangesOnly folder d (after d (change d))
    pub lacks : LacksCurrentNow folder (after d (change d))
    pub restores : IsRestoring (after d (change d)) v.dir (Some later) hand

  module _ (which : DiskCall) (name : FileName) (later : Begun) (hand : Option FileName) where
    abbrev calls : List Halt
    calls = halt_at which (path_in folder name) ∷ []

    abbrev Answered : Result (Unit {0}) DestError → Type 0
    Answered result = IsAnswered calls (Some later) hand v w result

    abbrev Goes : Result (Unit {0}) DestError → Type 0
    Goes result = GoesTo (FillsFolder which s result) w

    abbrev Leads : Result (Unit {0}) DestError → Type 0
    Leads result = (t : State) × FillsFolder which s result t × Good w t × ImagesShow good.story w.disk.told s t

    leads_by : (result : Result (Unit {0}) DestError) → Goes result
        → ((t : State) → ImagesShow good.story w.disk.told s t) → Leads result
    leads_by result goes shows = (goes.0, goes.1, goes.2, shows goes.0)

    module _ (none : v.halt ≡ None) (filled : IsFilled later hand) where
      abbrev story : Story
      story = pushed filled.change good.story

      only_now : ChangesOnly folder d (state_of story)
      only_now = subst (λ (x : disk.State). ChangesOnly folder d x) (sym (behind v w s good filled.change)) filled.only

      lacks_now : LacksCurrentNow folder (state_of story)
      lacks_now = subst (λ (x : disk.State). LacksCurrentNow folder x) (sym (behind v w s good filled.change)) filled.lacks

      filled_shows : (t : State) → ImagesShow good.story w.disk.told s t
      filled_shows t = restored_call v s good none folder (begun_may v s good none begun is_begun jobs) filled.change
          filled.only w.disk.told (inr filled.makes) t

      filled_ok : Answered (Ok tt) → Leads (Ok tt)
      filled_ok is = leads_by (Ok tt)
          (subst (GoesTo (FillsFolder which s (Ok tt))) (sym (shown_by calls (Some later) hand v w (Ok tt) is v.halt (Some later) hand
          (is.halt.1 ∙ sym none) is.leaves.0 is.leaves.1))
          (fill_ok v s good none begun is_begun jobs w.disk (rise calls (Some later) hand v w (Ok tt) is) story
          (tells v w s good filled.change filled.makes) only_now lacks_now which later hand filled.same
          (subst (λ (x : disk.State). IsRestoring x v.dir (Some later) hand) (sym (behind v w s good filled.change))
          filled.restores))) filled_shows

    -- a fault, which made it or not
    faulted : (is : Answered (Err Fault)) (story : Story) → w.disk.told ≡ Some story → ChangesOnly folder d (state_of story)
        → LacksCurrentNow folder (state_of story) → Goes (Err Fault)
    faulted is story told only lacks = subst (GoesTo (FillsFolder which s (Err Fault)))
        (sym (shown_by calls (Some later) hand v w (Err Fault) is (Some (halt_at which (path_in folder name))) v.kept.begun
        v.kept.hand (is.halt.1.1 ∙ ap Some (only_at is.halt.1.0 is.halt.1.2)) is.leaves.0 is.leaves.1))
        (fill_failed v s good is.halt.0 begun is_begun jobs w.disk (rise calls (Some later) hand v w (Err Fault) is) story told
        only lacks which name is.cause.counted)
      where
        only_at : (at : Halt) → IsAmong at calls → at ≡ halt_at which (path_in folder name)
        only_at at among = ⊎_elim (λ same. same) (λ other. absurd other) among

    module _ (M : Type 0) (refusal : disk.State → Option DiskError) (free : v.halt ≡ None → refusal d ≡ None)
        (fill : v.halt ≡ None → M → IsFilled later hand) where
      abbrev Did : Result (Unit {0}) DestError → Type 0
      Did result = DidOnce M refusal v.disk.told w.disk.told result

      fill_steps : (result : Result (Unit {0}) DestError) → Answered result → NeverExists result → Did result → Leads result
      fill_steps (Ok done) is never did = filled_ok is.halt.0 (fill is.halt.0 did) is
      fill_steps (Err Fault) is never did = ⊎_elim
          (λ same. leads_by (Err Fault) (faulted is good.story (same ∙ good.told) (only_none folder d)
          (begun_lacks v s good is.halt.0 begun is_begun)) (idle_shows v w s good same))
          (λ made.
          let filled = fill is.halt.0 made.1 in
          leads_by (Err Fault) (faulted is (pushed filled.change good.story) (tells v w s good filled.change filled.makes)
          (only_now is.halt.0 filled) (lacks_now is.halt.0 filled)) (filled_shows is.halt.0 filled))
          did
      fill_steps (Err (Halted first)) is never did = leads_by (Err (Halted first))
          (subst (GoesTo (FillsFolder which s (Err (Halted first))))
          (sym (same_halted calls (Some later) hand v w first is)) (fill_halted v s good which first is.halt.0))
          (idle_shows v w s good did)
      fill_steps (Err Exists) is never did = absurd (never refl)
      fill_steps (Err (Changed at path)) is never did =
          absurd (of_told v w s good (λ (story : Story). refusal (state_of story) ≢ None) did.1 (free is.halt.0))
      fill_steps (Err NoMemory) is never did = leads_by (Err NoMemory)
          (subst (GoesTo (FillsFolder which s (Err NoMemory)))
          (sym (shown_by calls (Some later) hand v w (Err NoMemory) is v.halt v.kept.begun v.kept.hand
          (is.halt.1 ∙ sym is.halt.0) is.leaves.0 is.leaves.1))
          (fill_wanting v s good is.halt.0 w.disk (rise calls (Some later) hand v w (Err NoMemory) is) did which))
          (idle_shows v w s good did)

  -- the answer by the folder that is kept
  by_begun : (which : DiskCall) (file hand : Option FileName) (later : Option Begun) (result : Result (Unit {0}) DestError)
      → IsAnswered (part_calls which v.kept.begun file) later hand v w result
      → IsAnswered (part_calls which (Some begun) file) later hand v w result
  by_begun which file hand later result = subst
      (λ (b : Option Begun). IsAnswered (part_calls which b file) later hand v w result) is_begun

  -- ---- a file is made

  module _ (name : FileName) (part : IsPartName name) (fresh : All (λ other. name ≢ other) begun.names)
      (empty : v.kept.hand ≡ None) where
    abbrev path : List ℕ
    path = path_in folder name

    has_parts : (none : v.halt ≡ None) → IsBuilding (builds none).start begun (builds none).parts d
    has_parts none = subst (λ (h : Option FileName). HasBegun (builds none).start begun (builds none).parts h d) empty
        (builds none).has

    file_filled : v.halt ≡ None → MakesIn (created path) v.disk w.disk → IsFilled (with_name name begun) (Some name)
    file_filled none made =
        let b = builds none in
        let writing = step_file b.start begun b.parts name d part fresh (has_parts none) in
        let lead = lead_of v w s good made.lawful in
        record {
          change = created path;
          makes = made.makes;
          same = refl;
          only = only_created folder b.named name (part_is_file name part) d lead;
          lacks = names_lack b.start folder (begun.names ++ name ∷ []) (after d (Created path)) writing.holds;
          restores = record {
            builds = record { named = b.named; apart = b.apart; start = b.start; parts = b.parts; has = (new_file, writing) };
            alone = All-cons (IsAlone (after d (Created path))) path []
                (created_alone folder b.named name (part_is_file name part) d lead) (All-nil (IsAlone (after d (Created path))));
          };
        }

    pub file_steps : (result : Result (Unit {0}) DestError)
        → IsAnswered (part_calls call.Create v.kept.begun (Some name)) (Some (with_name name begun)) (Some name) v w result
        → NeverExists result → DidOnce (MakesIn (created path) v.disk w.disk) (no_room path) v.disk.told w.disk.told result
        → (t : State) × Steps s (Filed name result) t × Good w t × ImagesShow good.story w.disk.told s t
    file_steps result is = fill_steps call.Create name (with_name name begun) (Some name) (MakesIn (created path) v.disk w.disk)
        (no_room path)
        (λ none. file_room (builds none).start begun (builds none).parts name d part fresh (has_parts none)) file_filled result
        (by_begun call.Create (Some name) (Some name) (Some (with_name name begun)) result is)

  -- ---- the file in hand

  module _ (name : FileName) (held : v.kept.hand ≡ Some name) where
    abbrev hand_path : List ℕ
    hand_path = path_in folder name

    writes : (none : v.halt ≡ None) → (file : FileState) × IsWriting (builds none).start begun (builds none).parts name file d
    writes none = subst (λ (h : Option FileName). HasBegun (builds none).start begun (builds none).parts h d) held
        (builds none).has

    fits : (none : v.halt ≡ None) → IsFileName name
    fits none = part_is_file name (All-head IsPartName name [] (all_right IsPartName (names_of (builds none).parts) (name ∷ [])
        (subst (All IsPartName) (writes none).1.names (writes none).1.holds.own)))

    lone : (none : v.halt ≡ None) → IsAlone d hand_path
    lone none =
        let run = runs v s good none in
        let paths : List (List ℕ) = path_in v.dir (Manifest v.kept.manifest) ∷ path_in v.dir (Log run.parts.last.number)
        ∷ map (λ (table : Unfinished). path_in v.dir (Table table.number)) v.kept.unfinished in
        All-head (IsAlone d) hand_path []
        (subst (λ (h : List (List ℕ)). All (IsAlone d) h)
        (ap (λ (b : Option Begun). in_hand b v.kept.hand) is_begun ∙ ap (λ (h : Option FileName). in_hand (Some begun) h) held)
        (all_right (IsAlone d) paths (in_hand v.kept.begun v.kept.hand) run.sane.written.alone))

    hand_at : (none : v.halt ≡ None) → file_at d hand_path ≡ Some (writes none).1.id
    hand_at none = ap id_of (writes none).1.hand.named

    -- what is done to the file in hand, behind which it is in this state
    hand_filled : (none : v.halt ≡ None) (change : disk.State → Change) → Makes v.disk.told change w.disk.told
        → InFile (writes none).1.id (change d) → (parts : List Part) (hand : Option FileName)
        → HoldsNames (builds none).start folder begun.names (after d (change d))
        → HasBegun (builds none).start begun parts hand (after d (change d))
        → (IsAlone (after d (change d)) hand_path → All (IsAlone (after d (change d))) (in_hand (Some begun) hand))
        → IsFilled begun hand
    hand_filled none change makes kind parts hand holds has alone =
        let b = builds none in
        let written = only_written folder b.named name (fits none) d (writes none).1.id (hand_at none) (lone none) (change d)
        kind in
        record {
          change = change;
          makes = makes;
          same = refl;
          only = written.0;
          lacks = names_lack b.start folder begun.names (after d (change d)) holds;
          restores = record {
            builds = record { named = b.named; apart = b.apart; start = b.start; parts = parts; has = has };
            alone = alone written.1;
          };
        }

    abbrev front : ℕ → List ℕ → disk.State → Change
    front n bytes = appended hand_path (take n bytes)

    append_filled : (bytes : List ℕ) → v.halt ≡ None → MakesFront hand_path bytes v.disk.told w.disk.told
        → IsFilled begun (Some name)
    append_filled bytes none made =
        let b = builds none in
        let file : FileState = (writes none).0 in
        let writing = (writes none).1 in
        let more : List ℕ = take made.0 bytes in
        let later = step_append b.start begun b.parts name file more d writing in
        hand_filled none (appended hand_path more) made.1
        (appends_in_now d hand_path writing.id file writing.hand more) b.parts (Some name) later.holds (longer more file, later)
        (λ alone. All-cons (IsAlone (after d (appended hand_path more d))) hand_path [] alone
        (All-nil (IsAlone (after d (appended hand_path more d)))))

    abbrev sealing : disk.State → Change
    sealing = file_synced hand_path

    seal_filled : v.halt ≡ None → Makes v.disk.told sealing w.disk.told → IsFilled begun None
    seal_filled none makes =
        let b = builds none in
        let file : FileState = (writes none).0 in
        let writing = (writes none).1 in
        let later = step_seal b.start begun b.parts name file d writing in
        hand_filled none sealing makes (syncs_in_now d hand_path writing.id file writing.hand)
        (b.parts ++ (record { name = name; bytes = bytes_of file }) ∷ []) None later.holds later
        (λ alone. All-nil (IsAlone (after d (sealing d))))

    there : v.halt ≡ None → no_file hand_path d ≡ None
    there none = hand_there (builds none).start begun (builds none).parts name (writes none).0 d (writes none).1

    -- the answer by the file in hand
    by_hand : (which : DiskCall) (hand : Option FileName) (result : Result (Unit {0}) DestError)
        → IsAnswered (part_calls which v.kept.begun v.kept.hand) v.kept.begun hand v w result
        → IsAnswered (part_calls which (Some begun) (Some name)) (Some begun) hand v w result
    by_hand which hand result is = subst
        (λ (b : Option Begun). IsAnswered (part_calls which b (Some name)) b hand v w result) is_begun
        (subst (λ (h : Option FileName). IsAnswered (part_calls which v.kept.begun h) v.kept.begun hand v w result) held is)

    pub append_steps : (bytes : List ℕ) (result : Result (Unit {0}) DestError)
        → IsAnswered (part_calls call.Append v.kept.begun v.kept.hand) v.kept.begun v.kept.hand v w result → NeverExists result
        → DidOnce (MakesFront hand_path bytes v.disk.told w.disk.told) (no_file hand_path) v.disk.told w.disk.told result
        → (t : State) × Steps s (Appended bytes result) t × Good w t × ImagesShow good.story w.disk.told s t
    append_steps bytes result is = fill_steps call.Append name begun (Some name)
        (MakesFront hand_path bytes v.disk.told w.disk.told) (no_file hand_path) there (append_filled bytes) result
        (by_hand call.Append (Some name) result
        (subst (λ (h : Option FileName). IsAnswered (part_calls call.Append v.kept.begun v.kept.hand) v.kept.begun h v w result)
        held is))

    pub seal_steps : (result : Result (Unit {0}) DestError)
        → IsAnswered (part_calls call.Sync v.kept.begun v.kept.hand) v.kept.begun None v w result → NeverExists result
        → DidOnce (Makes v.disk.told sealing w.disk.told) (no_file hand_path) v.disk.told w.disk.told result
        → (t : State) × Steps s (Sealed result) t × Good w t × ImagesShow good.story w.disk.told s t
    seal_steps result is = fill_steps call.Sync name begun None (Makes v.disk.told sealing w.disk.told) (no_file hand_path)
        there seal_filled result (by_hand call.Sync None result is)
