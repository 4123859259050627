-- What each call of the end of a folder leaves.
use Rattle.std.specs.Prelude.{◌≡◌, ◌≢◌, ◌⊎◌, ℕ, ◌≤◌, cond, List, length, take, Option, Some, None, IfSome, Result, Ok, Err}
use Rattle.std.proofs.Common.{⊎_elim, inl, inr, refl, sym, ap, subst, ◌∙◌, arith}
use Rattle.lsm_names.specs.FileNames.{spelled}
use Rattle.lsm_names.specs.declared.file_names.FileName.TheVariants.{Current}
use Rattle.lsm_disk.specs.Names.{Node, Folder_node, File_node, is_folder, is_folder_node}
use Rattle.lsm_disk.specs.State.{State, Story, Seen, Change, Created, Named, Appended, Synced, Names_synced, Idle, after, state_of, names_now, new_file, longer, unnamed, names_synced}
use Rattle.lsm_disk.specs.Images.{Tree, IsImage}
use Rattle.lsm_disk.specs.Goes.{Shows, Went}
use Rattle.lsm_disk.specs.Halts.{halt_at}
use Rattle.lsm_disk.specs.Answers.{Makes, LeftBy, Allowed, RefusesBy}
use Rattle.lsm_disk.specs.Refusals.{never, no_file, no_room, no_rename, no_move_in}
use Rattle.lsm_disk.specs.declared.calls.DiskError.{DiskError}
use Rattle.lsm_disk.specs.declared.calls.DiskError.TheVariants as disk
use Rattle.lsm_disk.specs.declared.calls.DiskCall.{DiskCall}
use Rattle.lsm_disk.specs.declared.calls.DiskCall.TheVariants as call
use Rattle.lsm_disk.specs.declared.calls.Halt.{Halt}
use Rattle.lsm_disk.specs.declared.calls.DiskRefusal.{DiskRefusal}
use Rattle.lsm_disk.specs.declared.dest.DestError.{DestError}
use Rattle.lsm_disk.specs.Dest.{Begun, path_in, temporary}
use Rattle.lsm_disk.specs.Building.{Part, names_of, with_current, IsWithin, HasNoneOrAll, RefusedAs, IsBuilding, Finishes}
use Rattle.lsm_disk.proofs.Named.{name_now}
use Rattle.lsm_disk.proofs.Kept.{kept_file_now}
use Rattle.lsm_disk.proofs.Built.{get_inside}
use Rattle.lsm_disk.proofs.Images.{after_names_synced}
use Rattle.lsm_disk.proofs.Runs.{went_start, went_weaker, went_ok, went_err, went_then, went_wider, went_kept}
use Rattle.lsm_disk.proofs.Left.{went_left}
use Rattle.lsm_publish.specs.Publishing.{Old, No_file, StillHas, HasOld, HasOldOrNew, Writes, Switches, IsBegun, IsWriting, IsReady, IsSwitching, IsLeft, WriteLeft, Written, SwitchLeft, Switched, written}
use Rattle.lsm_dest.specs.FolderDests.{answer_by, StandsNow, EndsAs, Ended, LeavesName, TakesBack, Left_alone, Taken_away, Not_taken}
use Rattle.lsm_dest.proofs.Places.{parent_is, inside_folder}
use Rattle.lsm_dest.proofs.Growing.{file_there, folder_there}
use Rattle.lsm_dest.proofs.Lasting.{current_apart, IsLasting, lasting_shows, lasting_building, lasting_cleared, IsDurable, durable_free, durable_shows, durable_room, IsFirm, durable_firm, firm_kept, firm_free, writes_within, IsSwitchable, firm_switchable, switchable_lasting, switchable_kept, switches_within, switched_built, switched_whole, names_within, building_durable, building_none}

-- ---- what a refusal left

-- Nothing refuses but a fault and want of memory, and want of memory leaves the folder as it was.
refused_end : (start : State) (begun : Begun) (parts : List Part) (s : State) (at : Halt) (why : DiskError) → (why ≡ disk.NoMemory → IsBuilding start begun parts s) → RefusesBy None why → RefusedAs (IsBuilding start begun parts s) (Unit {0}) (answer_by at why)
refused_end start begun parts s at disk.Fault same by = inr tt
refused_end start begun parts s at disk.NotThere same by = cc
refused_end start begun parts s at disk.Exists same by = cc
refused_end start begun parts s at disk.NoLinks same by = cc
refused_end start begun parts s at disk.NotEmpty same by = cc
refused_end start begun parts s at (disk.Short found) same by = cc
refused_end start begun parts s at disk.NoMemory same by = same refl

module _ (tmp path : List ℕ) (id : ℕ) (bytes : List ℕ) where
  -- where the creation wants memory, no file was made
  none_made : (c : DiskCall) (why : DiskError) (s : State) → c ≡ call.Create → why ≡ disk.NoMemory → WriteLeft tmp path No_file id bytes c why s → length s.files ≡ id
  none_made c why s create no_memory w =
      let left : IsLeft (λ x. LeftBy (IsBegun path No_file id x) (IsWriting tmp path No_file id new_file x) why) (no_room tmp) why s = subst (λ (x : DiskCall). WriteLeft tmp path No_file id bytes x why s) create w in
      (subst (λ (e : DiskError). LeftBy (IsBegun path No_file id s) (IsWriting tmp path No_file id new_file s) e) no_memory left.left).next

  -- where a later call does, the file stands
  one_made : (c : DiskCall) (why : DiskError) (s : State) → (c ≡ call.Create → ⊥) → why ≡ disk.NoMemory → WriteLeft tmp path No_file id bytes c why s → no_file tmp s ≡ None
  one_made call.Append why s made no_memory w = file_there tmp id new_file s (subst (λ (e : DiskError). LeftBy (IsWriting tmp path No_file id new_file s) ((n : ℕ) × IsWriting tmp path No_file id (longer (take n bytes) new_file) s) e) no_memory w.left).new
  one_made call.Sync why s made no_memory w = file_there tmp id (longer bytes new_file) s (subst (λ (e : DiskError). LeftBy (IsWriting tmp path No_file id (longer bytes new_file) s) (IsWriting tmp path No_file id (written bytes) s) e) no_memory w.left).new
  one_made call.SyncNames why s made no_memory w = file_there tmp id (written bytes) s (subst (λ (e : DiskError). LeftBy (IsWriting tmp path No_file id (written bytes) s) (IsReady tmp path No_file id bytes s) e) no_memory w.left).new
  one_made call.Create why s made no_memory w = absurd (made refl)
  one_made call.Kind why s made no_memory w = absurd w
  one_made call.List why s made no_memory w = absurd w
  one_made call.Size why s made no_memory w = absurd w
  one_made call.Open why s made no_memory w = absurd w
  one_made call.Link why s made no_memory w = absurd w
  one_made call.Rename why s made no_memory w = absurd w
  one_made call.Unlink why s made no_memory w = absurd w
  one_made call.MakeFolder why s made no_memory w = absurd w
  one_made call.RemoveFolder why s made no_memory w = absurd w

  -- where the rename does, nothing has moved
  none_moved : (c : DiskCall) (why : DiskError) (s : State) → (c ≡ call.SyncNames → ⊥) → why ≡ disk.NoMemory → SwitchLeft tmp path No_file id bytes c why s → IsReady tmp path No_file id bytes s
  none_moved call.Rename why s sync no_memory w = subst (λ (e : DiskError). LeftBy (IsReady tmp path No_file id bytes s) (IsSwitching path No_file id bytes s) e) no_memory w.left
  none_moved call.SyncNames why s sync no_memory w = absurd (sync refl)
  none_moved call.Create why s sync no_memory w = absurd w
  none_moved call.Append why s sync no_memory w = absurd w
  none_moved call.Sync why s sync no_memory w = absurd w
  none_moved call.Kind why s sync no_memory w = absurd w
  none_moved call.List why s sync no_memory w = absurd w
  none_moved call.Size why s sync no_memory w = absurd w
  none_moved call.Open why s sync no_memory w = absurd w
  none_moved call.Link why s sync no_memory w = absurd w
  none_moved call.Unlink why s sync no_memory w = absurd w
  none_moved call.MakeFolder why s sync no_memory w = absurd w
  none_moved call.RemoveFolder why s sync no_memory w = absurd w

  not_creating : (c : DiskCall) (why : DiskError) (s : State) → c ≡ call.Create → SwitchLeft tmp path No_file id bytes c why s → ⊥
  not_creating c why s create w = subst (λ (x : DiskCall). SwitchLeft tmp path No_file id bytes x why s) create w

-- `CURRENT` may take its name
may_switch : (folder : List ℕ) (start : State) (parts : List Part) (id : ℕ) (bytes : List ℕ) (s : State) → IsFirm folder start parts id s → IsReady (path_in folder temporary) (path_in folder Current) No_file id bytes s → no_rename (path_in folder temporary) (path_in folder Current) s ≡ None
may_switch folder start parts id bytes s firm ready =
    let names = names_now s in
    let tmp : List ℕ = path_in folder temporary in
    let path : List ℕ = path_in folder Current in
    ap (no_move_in tmp path names) (sym (get_inside names folder (spelled temporary)) ∙ name_now s tmp (Some (File_node id)) ready.new.named)
    ∙ ap (λ b. cond b (cond (is_folder names path) (Some disk.Exists) None) (Some disk.NotThere)) (ap (is_folder names) (parent_is folder Current tt) ∙ folder_there names folder (name_now s folder (Some Folder_node) firm.lasts.stands))
    ∙ ap (λ (o : Option Node). cond (is_folder_node o) (Some disk.Exists) None) (sym (get_inside names folder (spelled Current)) ∙ name_now s path None ready.still)

-- ---- the calls

module _ (start : State) (story : Story) (begun : Begun) (parts : List Part) (bytes : List ℕ) where
  abbrev folder : List ℕ
  folder = begun.folder

  abbrev tmp : List ℕ
  tmp = path_in folder temporary

  abbrev path : List ℕ
  path = path_in folder Current

  abbrev whole : List Part
  whole = with_current bytes parts

  abbrev Q : Change → Type 0
  Q = IsWithin folder (length (state_of story).files)

  abbrev P : State → Tree → Type 0
  P = HasNoneOrAll start folder whole

  abbrev Came : Option Story → (State → Type 0) → Type 0
  Came told I = Went story told Q P I

  abbrev Building : State → Type 0
  Building s = IsBuilding start begun parts s

  -- no file of the disk was forgotten
  abbrev Grown : State → Type 0
  Grown s = length (state_of story).files ≤ length s.files

  abbrev Durable : State → Type 0
  Durable s = IsDurable folder start parts s × Grown s

  abbrev EndedBy : Result (Unit {0}) DiskRefusal → State → Type 0
  EndedBy result s = EndsAs {T = Unit {0}} start begun parts bytes result s

  abbrev Stands : State → Type 0
  Stands s = StandsNow folder s

  -- the parts, beside a file under the temporary name
  abbrev Encumbered : State → Type 0
  Encumbered s = IsLasting folder start parts s × (no_file tmp s ≡ None)

  -- what the refused writing or switch left: but for a fault it was want of memory, and of that the folder is as it was, or has
  -- the temporary name besides
  abbrev Stopped : DiskRefusal → State → Type 0
  Stopped r s = RefusesBy None r.why × (r.why ≡ disk.NoMemory → (r.at.call ≡ call.Create → Building s) × (r.at.call ≢ call.Create → Encumbered s))
      × Stands s

  lasting_stands : (s : State) → IsLasting folder start parts s → Stands s
  lasting_stands s l = name_now s folder (Some Folder_node) l.stands

  durable_stands : (s : State) → IsDurable folder start parts s → Stands s
  durable_stands s d = lasting_stands s d.lasts

  -- ---- the first sync of names

  module _ {o1 : Option Story} (tells : o1 ≡ Some story) (building : Building (state_of story)) where
    pub begins : Came o1 Building
    begins = went_start Building tells building (building_none start begun parts whole)

    abbrev Whole : State → Type 0
    Whole s = Building s × Grown s

    starts : Came o1 Whole
    starts = went_start Whole tells (building, omega (arith)) (λ s b. building_none start begun parts whole s b.0)

    synced : (s : State) → Whole s → Durable (after s (names_synced s))
    synced s b = (
      building_durable start begun parts s b.0,
      subst (λ (x : State). Grown x) (sym (after_names_synced s)) b.1,
    )

    shows : (s : State) → Durable s → Shows P s
    shows s d = durable_shows folder start parts whole s d.0

    pub after_sync : {o2 : Option Story} → Makes o1 names_synced o2 → Came o2 Durable
    after_sync makes = went_ok Whole Durable names_synced makes (λ s b. names_within folder (length (state_of story).files) s)
        synced shows starts

    -- the folder stands before and behind it
    left_stands : (s : State) (e : DiskError) → LeftBy (Whole s) (Durable s) e → Stands s
    left_stands s disk.Fault left = ⊎_elim (λ b. b.0.holds.stands) (λ d. durable_stands s d.0) left
    left_stands s disk.NotThere left = left.0.holds.stands
    left_stands s disk.Exists left = left.0.holds.stands
    left_stands s disk.NoLinks left = left.0.holds.stands
    left_stands s disk.NotEmpty left = left.0.holds.stands
    left_stands s (disk.Short found) left = left.0.holds.stands
    left_stands s disk.NoMemory left = left.0.holds.stands

    pub sync_refused : {o2 : Option Story} (at : List ℕ) (e : DiskError) (r : DiskRefusal) → r ≡ record { at = halt_at call.SyncNames at; why = e } → LeftBy (o2 ≡ o1) (Allowed never o1 × Makes o1 names_synced o2) e → IfSome o1 (λ x. RefusesBy (never (state_of x)) e) → Came o2 (EndedBy (Err r))
    sync_refused {o2} at e r is did by =
        subst (λ (x : DiskRefusal). Came o2 (EndedBy (Err x))) (sym is)
        (went_weaker (λ s. LeftBy (Whole s) (Durable s) e × RefusesBy (never s) e) _ (λ s p. (
          refused_end start begun parts s (halt_at call.SyncNames at) e
              (λ no_memory. (subst (LeftBy (Whole s) (Durable s)) no_memory p.0).0) p.1,
          left_stands s e p.0,
        ))
        (went_left Whole Durable names_synced never e did by (λ s b. names_within folder (length (state_of story).files) s)
        synced shows starts))

  -- ---- the writing

  -- what the writing ensures
  abbrev WriteGives : List ℕ → Option Story → Option Story → Result (Unit {0}) DiskRefusal → Type 0
  WriteGives t old new result = (mid : Story) (p : List ℕ) (was : Old) → old ≡ Some mid → StillHas p was (state_of mid) → p ≢ t
      → Went mid new (Writes t (length (state_of mid).files)) (HasOld p was) (Written t p was (length (state_of mid).files) bytes result)

  -- `CURRENT` is ready under its temporary name, beside the parts
  abbrev Ready : State → Type 0
  Ready s = (id : ℕ) × IsReady tmp path No_file id bytes s × IsFirm folder start parts id s

  module _ {o2 o3 : Option Story} (t : List ℕ) (is : t ≡ tmp) where
    beside : (result : Result (Unit {0}) DiskRefusal) → WriteGives t o2 o3 result → (mid : Story) → o2 ≡ Some mid → Durable (state_of mid)
        → let id = length (state_of mid).files in Went mid o3 Q P (λ s. Written tmp path No_file id bytes result s × IsFirm folder start parts id s)
    beside result gives mid tells d =
        let id : ℕ = length (state_of mid).files in
        let here : WriteGives tmp o2 o3 result = subst (λ (x : List ℕ). WriteGives x o2 o3 result) is gives in
        went_wider (Writes tmp id) Q P P (λ c x. writes_within folder (length (state_of story).files) id c d.1 x) (λ s u x. x)
        (went_kept P (IsFirm folder start parts id) (firm_kept folder start parts id) (λ s u firm image old. inl (inr old)) (Written tmp path No_file id bytes result) (durable_firm folder start parts (state_of mid) d.0)
        (here mid path No_file tells (durable_free folder start parts (state_of mid) d.0) (current_apart folder)))

    pub after_write : WriteGives t o2 o3 (Ok tt) → Came o2 Durable → Came o3 Ready
    after_write gives w = went_then w (λ mid tells d. went_weaker _ Ready (λ s p. (length (state_of mid).files, p.0, p.1)) (beside (Ok tt) gives mid tells d))

    pub write_refused : begun.names ≡ names_of parts → (r : DiskRefusal) → WriteGives t o2 o3 (Err r) → IfSome o2 (λ x. RefusesBy (no_room t (state_of x)) r.why) → Came o2 Durable → Came o3 (Stopped r)
    write_refused named r gives by w = went_then w (λ mid tells d.
        let id : ℕ = length (state_of mid).files in
        let refuses : RefusesBy (no_room t (state_of mid)) r.why = subst (λ (o : Option Story). IfSome o (λ x. RefusesBy (no_room t (state_of x)) r.why)) tells by in
        let room : no_room t (state_of mid) ≡ None = ap (λ (x : List ℕ). no_room x (state_of mid)) is ∙ durable_room folder start parts (state_of mid) d.0 in
        went_weaker _ (Stopped r) (λ s p. (
          subst (λ (o : Option DiskError). RefusesBy o r.why) room refuses,
          λ no_memory. (
            λ create. lasting_building folder start begun.names parts s named p.1.lasts (firm_free folder start parts id s p.1 (none_made tmp path id bytes r.at.call r.why s create no_memory p.0.1)),
            λ later. (p.1.lasts, one_made tmp path id bytes r.at.call r.why s later no_memory p.0.1),
          ),
          lasting_stands s p.1.lasts,
        ))
        (beside (Err r) gives mid tells d))

  -- ---- the switch

  -- what the switch ensures
  abbrev SwitchGives : List ℕ → List ℕ → Option Story → Option Story → Result (Unit {0}) DiskRefusal → Type 0
  SwitchGives t c old new result = (mid : Story) (was : Old) (id : ℕ) (text : List ℕ) → old ≡ Some mid → IsReady t c was id text (state_of mid)
      → Went mid new (Switches t c) (HasOldOrNew c was text) (Switched t c was id text result)

  shows_all : (s : State) (u : Tree) → IsSwitchable folder start parts s → IsImage s u → HasOldOrNew path No_file bytes s u → P s u
  shows_all s u w image x = ⊎_elim (λ old. inl (inr old)) (λ new. inr (switched_whole folder start parts bytes s u w image new)) x

  module _ {o3 o4 : Option Story} (t c : List ℕ) (t_is : t ≡ tmp) (c_is : c ≡ path) where
    switched : (result : Result (Unit {0}) DiskRefusal) → SwitchGives t c o3 o4 result → (mid : Story) → o3 ≡ Some mid → (ready : Ready (state_of mid)) → Went mid o4 Q P (λ s. Switched tmp path No_file ready.0 bytes result s × IsSwitchable folder start parts s)
    switched result gives mid tells ready =
        let here : SwitchGives tmp path o3 o4 result = subst (λ (x : List ℕ). SwitchGives tmp x o3 o4 result) c_is (subst (λ (x : List ℕ). SwitchGives x c o3 o4 result) t_is gives) in
        let leads = name_now (state_of mid) tmp (Some (File_node ready.0)) ready.1.new.named in
        went_wider (Switches tmp path) Q P P (λ x s. switches_within folder (length (state_of story).files) x s) (λ s u x. x)
        (went_kept P (IsSwitchable folder start parts) (switchable_kept folder start parts) shows_all (Switched tmp path No_file ready.0 bytes result) (firm_switchable folder start parts ready.0 (state_of mid) ready.2 ready.1.still leads)
        (here mid No_file ready.0 bytes tells ready.1))

    pub after_switch : SwitchGives t c o3 o4 (Ok tt) → Came o3 Ready → Came o4 (EndedBy (Ok tt))
    after_switch gives w = went_then w (λ mid tells ready. went_weaker _ (EndedBy (Ok tt)) (λ s p. switched_built folder start parts bytes ready.0 s p.1 p.0) (switched (Ok tt) gives mid tells ready))

    pub switch_refused : (r : DiskRefusal) → SwitchGives t c o3 o4 (Err r) → IfSome o3 (λ x. RefusesBy (no_rename t c (state_of x)) r.why) → ((r.at.call ≡ call.Sync) ⊎ (r.at.call ≡ call.SyncNames) → r.why ≢ disk.NoMemory) → Came o3 Ready → Came o4 (Stopped r)
    switch_refused r gives by memory w = went_then w (λ mid tells ready.
        let id : ℕ = ready.0 in
        let refuses : RefusesBy (no_rename t c (state_of mid)) r.why = subst (λ (o : Option Story). IfSome o (λ x. RefusesBy (no_rename t c (state_of x)) r.why)) tells by in
        let free : no_rename t c (state_of mid) ≡ None = ap (λ (x : List ℕ). no_rename x c (state_of mid)) t_is ∙ ap (λ (x : List ℕ). no_rename tmp x (state_of mid)) c_is ∙ may_switch folder start parts id bytes (state_of mid) ready.2 ready.1 in
        went_weaker _ (Stopped r) (λ s p. (
          subst (λ (o : Option DiskError). RefusesBy o r.why) free refuses,
          λ no_memory. (
            λ create. absurd (not_creating tmp path id bytes r.at.call r.why s create p.0.1),
            λ later.
                let still : IsReady tmp path No_file id bytes s = none_moved tmp path id bytes r.at.call r.why s (λ sync. memory (inr sync) no_memory) no_memory p.0.1 in
                (switchable_lasting folder start parts s p.1 still.still, file_there tmp id (written bytes) s (kept_file_now s tmp id (written bytes) still.new)),
          ),
          name_now s folder (Some Folder_node) p.1.stands,
        ))
        (switched (Err r) gives mid tells ready))

  -- ---- the temporary name is taken away

  ended_by : (r : DiskRefusal) (s : State) → (r.why ≡ disk.NoMemory → Building s) → RefusesBy None r.why → Stands s
      → EndedBy (Err r) s
  ended_by r s same by stands = (refused_end start begun parts s r.at r.why same by, stands)

  module _ (named : begun.names ≡ names_of parts) where
    encumbered_shows : (s : State) → Encumbered s → Shows P s
    encumbered_shows s e = lasting_shows folder start parts whole s e.0

    cleared : (s : State) → Encumbered s → Building (after s (unnamed tmp s))
    cleared s e = lasting_cleared folder start begun.names parts s named e.0

    building_shows : (s : State) → Building s → Shows P s
    building_shows = building_none start begun parts whole

    unlinks_within : (s : State) → Encumbered s → Q (unnamed tmp s)
    unlinks_within s e = inside_folder folder (spelled temporary)

    left_alone : {o4 : Option Story} (r : DiskRefusal) → (r.why ≡ disk.NoMemory → r.at.call ≡ call.Create) → Came o4 (Stopped r) → Came o4 (EndedBy (Err r))
    left_alone r create w = went_weaker (Stopped r) (EndedBy (Err r)) (λ s p. ended_by r s (λ no_memory. (p.1 no_memory).0 (create no_memory)) p.0 p.2) w

    encumbered : {o4 : Option Story} (r : DiskRefusal) → LeavesName r → Came o4 (Stopped r) → Came o4 Encumbered
    encumbered r leaves w = went_weaker (Stopped r) Encumbered (λ s p. (p.1 leaves.0).1 leaves.1) w

    taken_away : {o4 o5 : Option Story} (r : DiskRefusal) → LeavesName r → Makes o4 (unnamed tmp) o5 → Came o4 (Stopped r) → Came o5 (EndedBy (Err r))
    taken_away r leaves makes w = went_weaker Building (EndedBy (Err r)) (λ s b. ended_by r s (λ no_memory. b) (subst (RefusesBy None) (sym leaves.0) tt) b.holds.stands)
        (went_ok Encumbered Building (unnamed tmp) makes unlinks_within cleared building_shows (encumbered r leaves w))

    not_taken : {o4 o5 : Option Story} (r : DiskRefusal) → LeavesName r → (why : DiskError) → why ≢ disk.NoMemory → LeftBy (o5 ≡ o4) (Allowed (no_file tmp) o4 × Makes o4 (unnamed tmp) o5) why → IfSome o4 (λ x. RefusesBy (no_file tmp (state_of x)) why)
        → Came o4 (Stopped r) → Came o5 (EndedBy (Err (record { at = halt_at call.Unlink tmp; why = why })))
    not_taken {o4} {o5} r leaves why memory did by w = went_then (encumbered r leaves w) (λ mid tells e.
        let refuses : RefusesBy (no_file tmp (state_of mid)) why = subst (λ (o : Option Story). IfSome o (λ x. RefusesBy (no_file tmp (state_of x)) why)) tells by in
        went_weaker (λ s. Encumbered s ⊎ Building s) _ (λ s p. (
          refused_end start begun parts s (halt_at call.Unlink tmp) why (λ no_memory. absurd (memory no_memory))
              (subst (λ (o : Option DiskError). RefusesBy o why) e.1 refuses),
          ⊎_elim (λ left. lasting_stands s left.0) (λ b. b.holds.stands) p,
        ))
        (went_err Encumbered Building (unnamed tmp) (no_file tmp) why did unlinks_within cleared building_shows (went_start Encumbered tells e encumbered_shows)))

  pub taken_back : begun.names ≡ names_of parts → {old new : Seen} (t : List ℕ) → t ≡ tmp → (r result : DiskRefusal) → TakesBack t r old new result → Came old.told (Stopped r) → Came new.told (EndedBy (Err result))
  taken_back named {old} {new} t is r result took w = by_done (subst (λ (x : List ℕ). TakesBack x r old new result) is took) where
    answered : (e : DiskRefusal) → result ≡ e → Came new.told (EndedBy (Err e)) → Came new.told (EndedBy (Err result))
    answered e same ended = subst (λ (x : DiskRefusal). Came new.told (EndedBy (Err x))) (sym same) ended

    by_done : TakesBack tmp r old new result → Came new.told (EndedBy (Err result))
    by_done (Left_alone create same still) = answered r same (subst (λ (x : Seen). Came x.told (EndedBy (Err r))) (sym still) (left_alone named r create w))
    by_done (Taken_away leaves same makes) = answered r same (taken_away named r leaves makes w)
    by_done (Not_taken leaves why same memory did by) = answered (record { at = halt_at call.Unlink tmp; why = why }) same (not_taken named r leaves why memory did by w)

-- ---- since the folder was begun

fewer_within : (folder : List ℕ) (first since : ℕ) → first ≤ since → (c : Change) → IsWithin folder since c
    → IsWithin folder first c
fewer_within folder first since fewer (Created path) is = is
fewer_within folder first since fewer (Named op) is = is
fewer_within folder first since fewer (Appended id bytes) is = omega (arith, fewer, is)
fewer_within folder first since fewer (Synced id) is = omega (arith, fewer, is)
fewer_within folder first since fewer Names_synced is = is
fewer_within folder first since fewer Idle is = is

module _ (start : State) (story : Story) (begun : Begun) (parts : List Part) (bytes : List ℕ) where
  ended_leaves : (result : Result (Unit {0}) DestError) (s : State) → Ended start begun parts bytes result s
      → Finishes start begun parts bytes result s
  ended_leaves (Ok done) s is = is
  ended_leaves (Err e) s is = is.0

  -- all that the call changes is in files that were made since
  pub ended_finishes : {told : Option Story} (result : Result (Unit {0}) DestError) → IsBuilding start begun parts (state_of story)
      → Went story told (IsWithin begun.folder (length (state_of story).files))
      (HasNoneOrAll start begun.folder (with_current bytes parts)) (Ended start begun parts bytes result)
      → Went story told (IsWithin begun.folder (length start.files))
      (HasNoneOrAll start begun.folder (with_current bytes parts)) (Finishes start begun parts bytes result)
  ended_finishes result building went = went_weaker (Ended start begun parts bytes result)
      (Finishes start begun parts bytes result) (ended_leaves result)
      (went_wider (IsWithin begun.folder (length (state_of story).files)) (IsWithin begun.folder (length start.files))
      (HasNoneOrAll start begun.folder (with_current bytes parts)) (HasNoneOrAll start begun.folder (with_current bytes parts))
      (fewer_within begun.folder (length start.files) (length (state_of story).files) building.holds.later) (λ s t is. is) went)
