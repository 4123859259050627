-- The calls of a restore onto a store's own disk, at what the store held before each: they lead on.
use Rattle.std.specs.Prelude.{◌≡◌, ◌≢◌, ℕ, true, false, List, length, All, IsSome, IfSome, Option, Some, None, option_map, Result}
use Rattle.std.proofs.Common.{refl, subst}
use Rattle.lsm_names.specs.Folders.{is_folder_name}
use Rattle.lsm_names.specs.declared.file_names.FileName.{FileName}
use Rattle.lsm_disk.specs.State as disk
use Rattle.lsm_disk.specs.State.{Seen, Story, state_of, folder_made, created, file_synced}
use Rattle.lsm_disk.specs.Tree.{TellsLawful}
use Rattle.lsm_disk.specs.Goes.{Went}
use Rattle.lsm_disk.specs.Refusals.{no_room, no_file}
use Rattle.lsm_disk.specs.Answers.{Makes, MakesFront}
use Rattle.lsm_disk.specs.Dest.{Begun, just_begun, with_name, path_in, IsPartName, begin_calls, part_calls, finish_calls, HaltsAt, Leaves, HasDestCause, IsTakenExactly, NeverExists}
use Rattle.lsm_disk.specs.Building.{Part, with_current, IsWithin, HasNoneOrAll, IsBuilding}
use Rattle.lsm_disk.specs.declared.calls.DiskCall.TheVariants as call
use Rattle.lsm_disk.specs.declared.calls.Halt.{Halt}
use Rattle.lsm_disk.specs.declared.dest.DestError.{DestError}
use Rattle.lsm_dest.specs.FolderDests.{NotHalted, MakesIn, DidOnce, Ended}
use Rattle.lsm_model.specs.Steps.{Began, Filed, Appended, Sealed, Finished}
use Rattle.lsm_refine.specs.Kept.{Shown}
use Rattle.lsm_restoring.specs.Calls.{dest_of, LeadsOn}
use Rattle.lsm_restoring.proofs.RestoreRuns.{leads_further}
use Rattle.lsm_restoring.proofs.RestoreCalls.{begin_steps}
use Rattle.lsm_restoring.proofs.RestoreFills.{file_steps, append_steps, seal_steps}
use Rattle.lsm_restoring.proofs.RestoreEnds.{finish_steps}
use Rattle.lsm_store.specs.Inside.{Inner, IsInside, shown_of}

some_of : {A : Type 0} (o : Option A) → IsSome o → (value : A) × (o ≡ Some value)
some_of None is = let clash : false ≡ true = is in absurd (cc)
some_of (Some value) is = (value, refl)

module _ (x : Inner) (inside : IsInside x) (seen : Seen) (halt : Option Halt) (begun : Option Begun) (hand : Option FileName)
    (result : Result (Unit {0}) DestError) where
  -- before the call, and behind it
  abbrev v : Shown
  v = shown_of x

  abbrev w : Shown
  w = shown_of (record x { disk = seen; halt = halt; begun = begun; hand = hand })

  abbrev More : Type 0
  More = (first : Shown) → LeadsOn first v → LeadsOn first w

  abbrev Halts : List Halt → Type 0
  Halts calls = HaltsAt calls (dest_of v) (dest_of w) result

  abbrev LeavesThem : Option Begun → Option FileName → Type 0
  LeavesThem b h = Leaves b h (dest_of v) (dest_of w) result

  abbrev Caused : Type 0
  Caused = HasDestCause x.disk seen result

  pub begin_more : (dir : List ℕ) → is_folder_name dir ≡ true → Halts (begin_calls dir)
      → LeavesThem (Some (just_begun dir)) None → Caused → IsTakenExactly dir (dest_of v) result
      → DidOnce (MakesIn (folder_made dir) x.disk seen) (no_room dir) x.disk.told seen.told result → More
  begin_more dir named halts leaves cause taken did first leads = leads_further first v w (Began dir result)
      (λ s good. begin_steps v w s good dir named inside.jobs result
      (record { rest = refl; halt = halts; leaves = leaves; cause = cause }) taken did) leads

  module _ (some : IsSome x.begun) where
    abbrev b : Begun
    b = (some_of x.begun some).0

    abbrev is_begun : x.begun ≡ Some b
    is_begun = (some_of x.begun some).1

    pub file_more : (name : FileName) → x.hand ≡ None → IsPartName name
        → IfSome x.begun (λ begun. All (λ other. name ≢ other) begun.names) → Halts (part_calls call.Create x.begun (Some name))
        → LeavesThem (option_map (with_name name) x.begun) (Some name) → Caused → NeverExists result
        → ((begun : Begun) → x.begun ≡ Some begun → DidOnce (MakesIn (created (path_in begun.folder name)) x.disk seen)
        (no_room (path_in begun.folder name)) x.disk.told seen.told result) → More
    file_more name free part fresh halts leaves cause never did first leads = leads_further first v w (Filed name result)
        (λ s good. file_steps v w s good inside.jobs b is_begun name part
        (subst (λ (o : Option Begun). IfSome o (λ begun. All (λ other. name ≢ other) begun.names)) is_begun fresh) free result
        (record {
          rest = refl;
          halt = halts;
          leaves = subst (λ (o : Option Begun). LeavesThem (option_map (with_name name) o) (Some name)) is_begun leaves;
          cause = cause;
        }) never (did b is_begun)) leads

    pub finish_more : (current : List ℕ) → x.hand ≡ None → Halts (finish_calls x.begun) → LeavesThem None None → Caused
        → NeverExists result → (NotHalted result → TellsLawful x.disk)
        → ((start : disk.State) (story : Story) (begun : Begun) (parts : List Part) → x.disk.told ≡ Some story
        → x.begun ≡ Some begun → IsBuilding start begun parts (state_of story)
        → Went story seen.told (IsWithin begun.folder (length (state_of story).files))
        (HasNoneOrAll start begun.folder (with_current current parts)) (Ended start begun parts current result)) → More
    finish_more current free halts leaves cause never lawful went first leads = leads_further first v w
        (Finished current result)
        (λ s good. finish_steps v w s good inside.jobs b is_begun free current result
        (record { rest = refl; halt = halts; leaves = leaves; cause = cause }) never lawful went) leads

    module _ (held : IsSome x.hand) where
      abbrev name : FileName
      name = (some_of x.hand held).0

      abbrev is_held : x.hand ≡ Some name
      is_held = (some_of x.hand held).1

      pub append_more : (bytes : List ℕ) → Halts (part_calls call.Append x.begun x.hand) → LeavesThem x.begun x.hand → Caused
          → NeverExists result
          → ((begun : Begun) (name : FileName) → x.begun ≡ Some begun → x.hand ≡ Some name
          → DidOnce (MakesFront (path_in begun.folder name) bytes x.disk.told seen.told) (no_file (path_in begun.folder name))
          x.disk.told seen.told result) → More
      append_more bytes halts leaves cause never did first leads = leads_further first v w (Appended bytes result)
          (λ s good. append_steps v w s good inside.jobs b is_begun name is_held bytes result
          (record { rest = refl; halt = halts; leaves = leaves; cause = cause }) never (did b name is_begun is_held)) leads

      pub seal_more : Halts (part_calls call.Sync x.begun x.hand) → LeavesThem x.begun None → Caused → NeverExists result
          → ((begun : Begun) (name : FileName) → x.begun ≡ Some begun → x.hand ≡ Some name
          → DidOnce (Makes x.disk.told (file_synced (path_in begun.folder name)) seen.told)
          (no_file (path_in begun.folder name)) x.disk.told seen.told result) → More
      seal_more halts leaves cause never did first leads = leads_further first v w (Sealed result)
          (λ s good. seal_steps v w s good inside.jobs b is_begun name is_held result
          (record { rest = refl; halt = halts; leaves = leaves; cause = cause }) never (did b name is_begun is_held)) leads
