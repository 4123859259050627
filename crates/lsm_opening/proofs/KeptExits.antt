-- Each exit of an opening of a folder that stands keeps the folder: each image on the way is one from its start.
use Rattle.std.specs.Prelude.{◌≡◌, ◌≢◌, ◌⊎◌, ℕ, ◌+◌, ◌^◌, ◌<◌, ◌≤◌, true, is_some, List, [], ◌∷◌, length, Option, Some, None, Result, Ok, Err, option_map}
use Rattle.std.proofs.Common.{⊎_elim, refl, sym, ap, subst, ◌∙◌, arith}
use Rattle.std.specs.FinMap as finmap
use Rattle.std.proofs.lemmas.List.Elements.{All-contains}
use Rattle.lsm_names.specs.Folders.{is_folder_name}
use Rattle.lsm_names.specs.FileNames.{IsFileName}
use Rattle.lsm_names.specs.declared.file_names.FileName.{FileName}
use Rattle.lsm_names.specs.declared.file_names.FileName.TheVariants.{Table, Current}
use Rattle.lsm_names.proofs.FolderLemmas.{folder_has_bytes}
use Rattle.lsm_disk.specs.Names.{Node}
use Rattle.lsm_disk.specs.State as disk
use Rattle.lsm_disk.specs.State.{Story, Change, after, state_of, names_now, file_synced}
use Rattle.lsm_disk.specs.Images.{Tree, tree_now}
use Rattle.lsm_disk.specs.Goes.{Went}
use Rattle.lsm_disk.specs.Dest.{path_in}
use Rattle.lsm_disk.proofs.Runs.{state_push, went_start, went_wider}
use Rattle.lsm_version.specs.declared.edits.Edit.{Edit}
use Rattle.lsm_version.specs.declared.tables.TableInfo.{TableInfo}
use Rattle.lsm_version.specs.Levels.{Tables}
use Rattle.lsm_version.specs.Versions.{numbers_after}
use Rattle.lsm_folder.specs.Files.{Files, bytes_in, file_at, files_in, item_of}
use Rattle.lsm_folder.specs.Manifests.{log_after}
use Rattle.lsm_folder.specs.Needed.{edits_at}
use Rattle.lsm_folder.specs.Reading.{edits_of}
use Rattle.lsm_folder.specs.Names.{number_of}
use Rattle.lsm_folder.specs.Steps.{◌>>=◌}
use Rattle.lsm_folder.specs.declared.refusals.Refusal.{Refusal}
use Rattle.lsm_folder.specs.declared.refusals.Refusal.TheVariants.{NoCurrent}
use Rattle.lsm_folder.proofs.CurrentLemmas.{no_current}
use Rattle.lsm_folder.proofs.FileLemmas.{files_are}
use Rattle.lsm_recover.specs.Listed.{AreBefore}
use Rattle.lsm_model.specs.declared.states.State.{State}
use Rattle.lsm_refine.specs.Beside.{WritesNew, MakesAt}
use Rattle.lsm_refine.specs.Flushed.{at_top}
use Rattle.lsm_refine.specs.FoundFolder.{NewTable, IsTableFile, HasNewTable, new_manifest, opening_edits}
use Rattle.lsm_refine.specs.OpeningImages.{KeepsFolder, IsAtRest, AllStand, MaySwitch}
use Rattle.lsm_refine.specs.Openings.{IsFound}
use Rattle.lsm_refine.specs.Sane.{TablesAreSynced}
use Rattle.lsm_refine.proofs.OpeningBegins.{file_found, file_kept, found_rest}
use Rattle.lsm_refine.proofs.OpeningGoesOn.{read_stands}
use Rattle.lsm_refine.proofs.OpeningRuns.{Keeps, kept_ok, kept_shows, opening_then, table_went}
use Rattle.lsm_refine.proofs.OpeningWays.{plain_switch, table_switch}
use Rattle.lsm_opening.specs.declared.found.Found.{Found}
use Rattle.lsm_opening.specs.declared.installing.Recovered.{Recovered}
use Rattle.lsm_opening.specs.declared.numbers.Numbers.{Numbers}
use Rattle.lsm_opening.specs.Edits.{IsWholeEdit}
use Rattle.lsm_opening.specs.Finding.{HasFound, MayBeSynced, behind_sync}
use Rattle.lsm_opening.specs.Installing.{HasInstalled, WasCutOff, HasGoneOn, WasStopped}
use Rattle.lsm_opening.specs.Numbers.{IsDrawn}
use Rattle.lsm_opening.specs.Recovering.{HasWritten, No_rows, With_table, IsReady, KeepsImages, WroteAtMost}
use Rattle.lsm_opening.specs.RowTables.{HasRowTable, newest_table}
use Rattle.lsm_opening.proofs.KeptWays.{Anything, IsKeptWay, kept_way, cut_off_kept, installed_kept}
use Rattle.lsm_opening.proofs.RecoveredFolders.{HasPlan, fits_number, lead_d, names_are, names_stay, node_at, plain_plan, table_plan, there}

-- a folder from which edits are read has CURRENT
current_stands : (dir : List ℕ) (d : disk.State) (edits : List Edit) → 1 ≤ length dir
    → edits_at (files_in dir (tree_now d)) ≡ Ok edits → is_some (finmap.get (names_now d) (path_in dir Current)) ≡ true
current_stands dir d edits some said = by (finmap.get (names_now d) (path_in dir Current)) refl
  where
    by : (o : Option Node) → finmap.get (names_now d) (path_in dir Current) ≡ o
        → is_some (finmap.get (names_now d) (path_in dir Current)) ≡ true
    by (Some node) at = ap is_some at
    by None at =
        let files : Files = files_in dir (tree_now d) in
        let none : None ≡ file_at files Current =
        sym (ap bytes_in (files_are dir (tree_now d) Current some tt)
        ∙ ap (λ (o : Option Node). bytes_in (option_map (item_of (tree_now d).contents) o)) at) in
        let clash : Err NoCurrent ≡ Ok edits =
        ap (λ (q : Result ℕ Refusal). q >>= edits_of files) (no_current files none) ∙ said in
        absurd (cc)

same_story : (x y : Story) → Some x ≡ Some y → x ≡ y
same_story x y same = cc

whole_log : (v : Tables) (edit : Edit) (log next last : ℕ) → IsWholeEdit v log next last edit → log_after (edit ∷ []) ≡ log
unfolding log_after numbers_after
whole_log v edit log next last whole = ap (λ (e : Edit). log_after (e ∷ [])) whole.is

-- ---- nothing was done, or the file of the manifest was synced

-- each image is one from before
pub stays : (dir : List ℕ) (mid : Story) (told : Option Story) → told ≡ Some mid → (start : disk.State)
    → KeepsFolder dir start (state_of mid) → IsKeptWay dir start mid told
stays dir mid told is start kept = kept_way dir start mid told (λ (c : Change). Unit {0}) (λ x. x ≡ state_of mid)
    (went_start (λ x. x ≡ state_of mid) is refl
    (λ x same. kept_shows dir start x (subst (KeepsFolder dir start) (sym same) kept)))

module _ (dir : List ℕ) (named : is_folder_name dir ≡ true) (mid : Story) (ready : IsReady dir mid) (s : State)
    (own : s.own ≡ dir) (found_s : IsFound (state_of mid) s) (start : disk.State)
    (kept : KeepsFolder dir start (state_of mid))
  where
    module _ (path : List ℕ) where
      abbrev behind : Story
      behind = behind_sync path mid

      abbrev synced : disk.State
      synced = after (state_of mid) (file_synced path (state_of mid))

      d_is : state_of (behind_sync path mid) ≡ after (state_of mid) (file_synced path (state_of mid))
      d_is = state_push mid (file_synced path (state_of mid))

      kept_d : KeepsFolder dir start (state_of (behind_sync path mid))
      kept_d = subst (KeepsFolder dir start) (sym d_is) (file_kept dir path start (state_of mid) kept)

      found_d : IsFound (state_of (behind_sync path mid)) s
      found_d = subst (λ (x : disk.State). IsFound x s) (sym d_is) (file_found path (state_of mid) s found_s)

      quiet_d : (state_of (behind_sync path mid)).pending ≡ []
      quiet_d = ap (λ (x : disk.State). x.pending) d_is ∙ (names_stay (state_of mid) path).0 ∙ ready.settled

      rest_d : IsAtRest dir (state_of (behind_sync path mid)) × TablesAreSynced (state_of (behind_sync path mid)) dir
      rest_d = found_rest (state_of behind) s dir own found_d quiet_d (lead_d dir named mid path ready.lawful ready.files)

      to_sync : (told : Option Story) → told ≡ Some (behind_sync path mid)
          → Went mid told (λ (c : Change). Unit {0}) (Keeps dir start)
          (λ (x : disk.State). (x ≡ after (state_of mid) (file_synced path (state_of mid))) × KeepsFolder dir start x)
      to_sync told is = kept_ok dir start (λ x. x ≡ state_of mid) (λ x. x ≡ synced) (file_synced path)
          (λ x same. ap (λ (y : disk.State). after y (file_synced path y)) same)
          (λ x same was. file_kept dir path start x was) is
          (went_start {told = Some mid} (λ x. (x ≡ state_of mid) × KeepsFolder dir start x) refl (refl, kept)
          (λ x held. kept_shows dir start x held.1))

      sync_kept : (told : Option Story) → told ≡ Some (behind_sync path mid) → IsKeptWay dir start mid told
      sync_kept told is = kept_way dir start mid told (λ (c : Change). Unit {0}) _ (to_sync told is)

      -- what goes on behind the sync
      goes_on : (told : Option Story) → IsKeptWay dir start (behind_sync path mid) told → IsKeptWay dir start mid told
      goes_on told way =
          opening_then dir start (λ (c : Change). Unit {0}) (λ x. (x ≡ synced) × KeepsFolder dir start x) Anything
          (to_sync (Some behind) refl)
          (λ story is held. subst (λ (b : Story). IsKeptWay dir start b told) (same_story behind story is) way)

    -- ---- behind the sync the folder was read

    module _ (told2 : Option Story) (found : Found) (hf : HasFound dir mid told2 found) where
      abbrev d : disk.State
      d = state_of (behind_sync hf.synced.path mid)

      stand : AllStand dir (state_of (behind_sync hf.synced.path mid))
      stand =
          let read = there dir named mid told2 found hf in
          let some = folder_has_bytes dir named in
          read_stands dir named start d (kept_d hf.synced.path) (quiet_d hf.synced.path)
          (node_at (names_now d) dir some read.folder) (current_stands dir d hf.is.edits some read.edits_are)

      module _ (numbers : Numbers) (drawn : IsDrawn found numbers) (behind : AreBefore found.next found.names) where
        fits : IsFileName (Table numbers.first)
        fits = fits_number numbers.first drawn.some (omega (arith, drawn.most, drawn.log, drawn.manifest))

        -- the first number is behind those of all names
        free : finmap.get (names_now d) (path_in dir (Table numbers.first)) ≡ None
        free = by (finmap.get (names_now d) (path_in dir (Table numbers.first))) refl
          where
            by : (o : Option Node) → finmap.get (names_now d) (path_in dir (Table numbers.first)) ≡ o
                → finmap.get (names_now d) (path_in dir (Table numbers.first)) ≡ None
            by None at = at
            by (Some node) at =
                let names = names_are dir named mid told2 found hf in
                let less : numbers.first < found.next =
                All-contains (λ (name : FileName). number_of name < found.next) found.names (Table numbers.first) behind
                ((names.are (Table numbers.first) fits).1 (ap is_some at)) in
                absurd (omega (arith, less, drawn.later))

        -- the file of the rows' table was made, as far as it came
        tabled : (told3 : Option Story) (J : disk.State → Type 0)
            → Went (behind_sync hf.synced.path mid) told3
            (WritesNew (path_in dir (Table numbers.first)) (length (state_of (behind_sync hf.synced.path mid)).files))
            (λ (x : disk.State) (t : Tree). Unit {0}) J
            → Went (behind_sync hf.synced.path mid) told3
            (WritesNew (path_in dir (Table numbers.first)) (length (state_of (behind_sync hf.synced.path mid)).files))
            (Keeps dir start)
            (λ (x : disk.State). (J x × MakesAt dir (Table numbers.first) (state_of (behind_sync hf.synced.path mid)) x)
            × KeepsFolder dir start x)
        tabled told3 J went = table_went dir named start (behind_sync hf.synced.path mid) (kept_d hf.synced.path)
            (rest_d hf.synced.path).0 J stand numbers.first fits free went

        abbrev writes : disk.State → Change → Type 0
        writes x = WritesNew (path_in dir (Table numbers.first)) (length x.files)

        refused_kept : (told3 : Option Story) → WroteAtMost dir numbers.first told2 told3 → IsKeptWay dir start mid told3
        refused_kept told3 wrote = ⊎_elim
            (λ same. sync_kept hf.synced.path told3 (same ∙ hf.synced.tells))
            (λ file. goes_on hf.synced.path told3 (kept_way dir start (behind_sync hf.synced.path mid) told3 (writes d) _
            (tabled told3 Anything (file (behind_sync hf.synced.path mid) hf.synced.tells))))
            wrote

        module _ (v : Tables) (n : List FileName) (told3 : Option Story) where
          abbrev Written : Type 0
          Written = HasWritten dir found.version found.names found.rows numbers.first told2 told3 v n

          written_kept : Written → IsKeptWay dir start mid told3
          written_kept (No_rows none same version_is names_is) =
              sync_kept hf.synced.path told3 (same ∙ hf.synced.tells)
          written_kept (With_table info some has version_is names_is) =
              goes_on hf.synced.path told3 (kept_way dir start (behind_sync hf.synced.path mid) told3 (writes d) _
              (tabled told3 (λ x. IsTableFile x dir (newest_table info has.frozen) × (x.pending ≡ []))
              (has.there (behind_sync hf.synced.path mid) hf.synced.tells)))

          module _ (small : found.sequence < 2 ^ 56) (edit : Edit)
              (whole : IsWholeEdit v numbers.log (numbers.log + 1) found.sequence edit) where
            -- a manifest of this edit may be made
            abbrev May : disk.State → Type 0
            May x = MaySwitch dir start x numbers.manifest (edit ∷ [])

            planned : (o : Option NewTable) (x : disk.State)
                → (plan : HasPlan dir (state_of (behind_sync hf.synced.path mid)) o numbers.manifest numbers.log edit)
                → MaySwitch dir start x (new_manifest plan.recovery) (opening_edits plan.recovery) → May x
            planned o x plan may =
                subst (λ (e : Edit). MaySwitch dir start x numbers.manifest (e ∷ [])) (sym plan.edit_is)
                (subst (λ (k : ℕ). MaySwitch dir start x k (opening_edits plan.recovery)) (sym plan.number_is) may)

            plain_may : found.rows ≡ [] → v ≡ found.version → May (state_of (behind_sync hf.synced.path mid))
            plain_may none version_is =
                let plan = plain_plan dir named mid told2 found hf numbers drawn behind small v edit whole none version_is in
                planned None d plan (plain_switch dir named start d (kept_d hf.synced.path) (rest_d hf.synced.path).0
                (rest_d hf.synced.path).1 plan.recovery plan.is plan.table)

            table_may : (info : TableInfo) → found.rows ≢ [] → (has : HasRowTable dir found.rows numbers.first told2 told3 info)
                → v ≡ finmap.insert found.version numbers.first (at_top info) → (x : disk.State)
                → MakesAt dir (Table numbers.first) (state_of (behind_sync hf.synced.path mid)) x
                → IsTableFile x dir (newest_table info has.frozen) → x.pending ≡ [] → May x
            table_may info some has version_is x makes file quiet =
                let new : NewTable = newest_table info has.frozen in
                let plan = table_plan dir named mid told2 found hf numbers drawn behind small v edit whole told3 info some has
                version_is in
                planned (Some new) x plan (table_switch dir named start d (kept_d hf.synced.path) (rest_d hf.synced.path).0
                (rest_d hf.synced.path).1 plan.recovery plan.is new plan.table x
                (subst (λ (k : ℕ). MakesAt dir (Table k) d x) (sym has.number_is) makes) quiet
                (subst (HasNewTable x dir) (sym plan.table) file))

            -- what goes on behind the table, if there is one
            module _ (told4 : Option Story)
                (next : (b : Story) → told3 ≡ Some b → MaySwitch dir start (state_of b) numbers.manifest (edit ∷ [])
                → IsKeptWay dir start b told4) where
              written_then : Written → IsKeptWay dir start mid told4
              written_then (No_rows none same version_is names_is) =
                  goes_on hf.synced.path told4
                  (next (behind_sync hf.synced.path mid) (same ∙ hf.synced.tells) (plain_may none version_is))
              written_then (With_table info some has version_is names_is) =
                  goes_on hf.synced.path told4
                  (opening_then dir start (λ (c : Change). Unit {0})
                  (λ x. ((IsTableFile x dir (newest_table info has.frozen) × (x.pending ≡ []))
                  × MakesAt dir (Table numbers.first) d x) × KeepsFolder dir start x) Anything
                  (went_wider (writes d) (λ (c : Change). Unit {0}) (Keeps dir start) (Keeps dir start) (λ c kind. tt)
                  (λ x t held. held)
                  (tabled told3 (λ x. IsTableFile x dir (newest_table info has.frozen) × (x.pending ≡ []))
                  (has.there (behind_sync hf.synced.path mid) hf.synced.tells)))
                  (λ b is held. next b is (table_may info some has version_is (state_of b) held.0.1 held.0.0.0 held.0.0.1)))

            some_number : 1 ≤ numbers.manifest
            some_number = omega (arith, drawn.some, drawn.manifest)

            most_number : numbers.manifest + 2 < 2 ^ 56
            most_number = omega (arith, drawn.log, drawn.most)

            log_is : log_after (edit ∷ []) ≡ numbers.log
            log_is = whole_log v edit numbers.log (numbers.log + 1) found.sequence whole

            cut_kept : (told4 : Option Story)
                → ((b : Story) → told3 ≡ Some b → WasCutOff dir numbers.manifest numbers.log edit b told4) → Written
                → IsKeptWay dir start mid told4
            cut_kept told4 was = written_then told4 (λ b is may. cut_off_kept dir named start b numbers.manifest some_number
                most_number edit may numbers.log log_is told4 (was b is))

            gone_kept : (told4 : Option Story)
                → ((b : Story) → told3 ≡ Some b → HasInstalled dir numbers.manifest numbers.log edit b told4) → Written
                → IsKeptWay dir start mid told4
            gone_kept told4 has = written_then told4 (λ b is may. installed_kept dir named start b numbers.manifest some_number
                most_number edit may numbers.log log_is told4 (has b is))

-- ---- the exits

module _ (dir : List ℕ) (named : is_folder_name dir ≡ true) (mid : Story) (ready : IsReady dir mid) where
  -- the folder was not read
  pub unread_images : (told : Option Story) → MayBeSynced mid told → KeepsImages dir mid told
  unread_images told may s own found_s start kept = ⊎_elim
      (λ same. stays dir mid told same start kept)
      (λ at. sync_kept dir named mid ready s own found_s start kept at.0 told at.1) may

  module _ (told2 : Option Story) (found : Found) (hf : HasFound dir mid told2 found) where
    -- nothing was done behind the reading
    pub found_images : KeepsImages dir mid told2
    found_images s own found_s start kept =
        sync_kept dir named mid ready s own found_s start kept hf.synced.path told2 hf.synced.tells

    module _ (numbers : Numbers) (drawn : IsDrawn found numbers) (behind : AreBefore found.next found.names)
        (told3 : Option Story) where
      -- the table of the logs' rows was refused
      pub refused_images : WroteAtMost dir numbers.first told2 told3 → KeepsImages dir mid told3
      refused_images wrote s own found_s start kept =
          refused_kept dir named mid ready s own found_s start kept told2 found hf numbers drawn behind told3 wrote

      module _ (small : found.sequence < 2 ^ 56) (v : Tables) (n : List FileName)
          (written : HasWritten dir found.version found.names found.rows numbers.first told2 told3 v n)
          (told4 : Option Story) where
        -- the new manifest or the new log was refused
        pub stopped_images : (told4 ≡ told3) ⊎ WasStopped dir v numbers found.sequence told3 told4 → KeepsImages dir mid told4
        stopped_images stopped s own found_s start kept = ⊎_elim
            (λ same. subst (IsKeptWay dir start mid) (sym same)
            (written_kept dir named mid ready s own found_s start kept told2 found hf numbers drawn behind v n told3 written))
            (λ cut. cut_kept dir named mid ready s own found_s start kept told2 found hf numbers drawn behind v n told3 small
            cut.edit cut.whole told4 cut.was written)
            stopped

        -- all was made
        pub gone_images : (x : Recovered) → HasGoneOn dir v n numbers found.sequence told3 told4 x → KeepsImages dir mid told4
        gone_images x go s own found_s start kept =
            gone_kept dir named mid ready s own found_s start kept told2 found hf numbers drawn behind v n told3 small
            go.edit go.is.whole told4 go.has written
