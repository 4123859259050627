-- Which answers come where: of the writing, and of both parts.
use Rattle.std.specs.Prelude.{◌≡◌, ◌≢◌, ℕ, cond, List, [], ◌∷◌, ◌++◌, length, is_some, Option, Some, None, IfSome, Result, Err, IsErrAnd}
use Rattle.std.proofs.Common.{⊎_elim, refl, sym, ap, subst, ◌∙◌, arith, length-append}
use Rattle.std.proofs.lemmas.Result.{err_from_is_err_and}
use Rattle.std.specs.FinMap as map
use Rattle.lsm_names.specs.Paths.{parent_of}
use Rattle.lsm_disk.specs.Names.{File_node, Names, stands, is_folder, is_folder_node}
use Rattle.lsm_disk.specs.State.{State, Story, Seen, FileState, Change, Created, Named, Appended, Synced, Names_synced, Idle, after, after_all, state_of, names_now, created, appended}
use Rattle.lsm_disk.specs.Images.{Tree}
use Rattle.lsm_disk.specs.Kept.{IsFileNow}
use Rattle.lsm_disk.specs.Goes.{Each, Shows, Went}
use Rattle.lsm_disk.specs.Answers.{Makes, RefusesBy}
use Rattle.lsm_disk.specs.Refusals.{no_file, no_room, no_rename, no_move_in, or_else}
use Rattle.lsm_disk.specs.declared.calls.DiskError.{DiskError}
use Rattle.lsm_disk.specs.declared.calls.DiskError.TheVariants.{NotThere, Exists}
use Rattle.lsm_disk.specs.declared.calls.DiskRefusal.{DiskRefusal}
use Rattle.lsm_disk.proofs.Paths.{path_cases}
use Rattle.lsm_disk.proofs.Now.{stands_past_file}
use Rattle.lsm_disk.proofs.Named.{created_now, now_at, now_appended, name_now}
use Rattle.lsm_disk.proofs.Tree.{room_free, free_named}
use Rattle.lsm_disk.proofs.Runs.{goes_state, went_start, went_ok}
use Rattle.lsm_publish.specs.Publishing.{Not_known, HasOld, Writes, IsReady, no_place, no_publishing, AnswersAs}

-- ---- the writing

abbrev Any : Change → Type 0
Any c = Unit {0}

abbrev Anything : State → Tree → Type 0
Anything s t = Unit {0}

abbrev Somewhere : State → Type 0
Somewhere s = Unit {0}

pub shows_anything : (I : State → Type 0) (s : State) → I s → Shows Anything s
shows_anything I s i = record { each = λ t image. tt }

module _ (temporary bytes : List ℕ) where
  -- a file stands under the temporary name
  abbrev IsThere : State → Type 0
  IsThere s = (id : ℕ) × (f : FileState) × IsFileNow s temporary id f

  there : (s : State) → IsThere s → no_file temporary s ≡ None
  there s is = ap (λ (o : Option ℕ). cond (is_some o) None (Some NotThere)) (now_at s temporary is.0 is.1 is.2)

  made : (story : Story) {o2 : Option Story} → Makes (Some story) (created temporary) o2 → Went story o2 Any Anything IsThere
  made story makes = went_ok Somewhere IsThere (created temporary) makes (λ s i. tt) (λ s i. (_, _, created_now s temporary)) (shows_anything IsThere)
      (went_start Somewhere refl tt (shows_anything Somewhere))

  filled : (story : Story) {o2 o3 : Option Story} → Makes o2 (appended temporary bytes) o3 → Went story o2 Any Anything IsThere → Went story o3 Any Anything IsThere
  filled story makes w = went_ok IsThere IsThere (appended temporary bytes) makes (λ s i. tt) (λ s i. (i.0, _, now_appended s temporary i.0 i.1 i.2 bytes)) (shows_anything IsThere) w

  -- a later call isn't refused by the file's absence
  later : (story : Story) (told : Option Story) (why : DiskError) → no_room temporary (state_of story) ≡ None → Went story told Any Anything IsThere → IfSome told (λ x. RefusesBy (no_file temporary (state_of x)) why)
      → RefusesBy (no_room temporary (state_of story)) why
  later story told why room w by =
      let refuses : RefusesBy (no_file temporary (state_of w.story)) why = subst (λ (o : Option Story). IfSome o (λ x. RefusesBy (no_file temporary (state_of x)) why)) w.tells by in
      subst (λ (o : Option DiskError). RefusesBy o why) (there (state_of w.story) w.now ∙ sym room) refuses

  -- a refused append
  pub append_answers : (o1 o2 : Option Story) (why : DiskError) → IfSome o1 (λ x. no_room temporary (state_of x) ≡ None) → Makes o1 (created temporary) o2 → IfSome o2 (λ x. RefusesBy (no_file temporary (state_of x)) why)
      → IfSome o1 (λ x. RefusesBy (no_room temporary (state_of x)) why)
  append_answers None o2 why room makes by = tt
  append_answers (Some story) o2 why room makes by = later story o2 why room (made story makes) by

  -- a refused sync
  pub sync_answers : (o1 o2 o3 : Option Story) (why : DiskError) → IfSome o1 (λ x. no_room temporary (state_of x) ≡ None) → Makes o1 (created temporary) o2 → Makes o2 (appended temporary bytes) o3 → IfSome o3 (λ x. RefusesBy (no_file temporary (state_of x)) why)
      → IfSome o1 (λ x. RefusesBy (no_room temporary (state_of x)) why)
  sync_answers None o2 o3 why room makes fills by = tt
  sync_answers (Some story) o2 o3 why room makes fills by = later story o3 why room (filled story fills (made story makes)) by

-- by the error that is answered
pub answers_why : (refusal : State → Option DiskError) (told : Option Story) (r : DiskRefusal) (why : DiskError) → r.why ≡ why → IfSome told (λ x. RefusesBy (refusal (state_of x)) why) → IfSome told (λ x. RefusesBy (refusal (state_of x)) r.why)
answers_why refusal told r why is by = subst (λ (e : DiskError). IfSome told (λ x. RefusesBy (refusal (state_of x)) e)) (sym is) by

-- ---- both parts

-- a name that is not the temporary one
stands_after : (temporary : List ℕ) (id : ℕ) (p : List ℕ) (c : Change) (s : State) → p ≢ temporary → Writes temporary id c → stands (names_now (after s c)) p ≡ stands (names_now s) p
stands_after temporary id p (Created other) s ne is = stands_past_file s p other (λ same. ne (same ∙ is))
stands_after temporary id p (Named op) s ne is = absurd is
stands_after temporary id p (Appended k bytes) s ne is = refl
stands_after temporary id p (Synced k) s ne is = refl
stands_after temporary id p Names_synced s ne is = refl
stands_after temporary id p Idle s ne is = refl

stands_written : (temporary : List ℕ) (id : ℕ) (p : List ℕ) (cs : List Change) (s : State) → p ≢ temporary → Each (Writes temporary id) cs → stands (names_now (after_all cs s)) p ≡ stands (names_now s) p
stands_written temporary id p [] s ne each = refl
stands_written temporary id p (c ∷ cs) s ne each = stands_written temporary id p cs (after s c) ne each.1 ∙ stands_after temporary id p c s ne each.0

stands_file : (names : Names) (path : List ℕ) (id : ℕ) → [] ≢ path → map.get names path ≡ Some (File_node id) → stands names path ≡ Some (File_node id)
stands_file names [] id some is = absurd (some refl)
stands_file names (c ∷ path) id some is = is

-- the rename is refused as the state before the writing has it
rename_refused : (temporary path : List ℕ) (id : ℕ) (s now : State) → no_room temporary s ≡ None → stands (names_now now) temporary ≡ Some (File_node id) → ((p : List ℕ) → p ≢ temporary → stands (names_now now) p ≡ stands (names_now s) p)
    → no_rename temporary path now ≡ no_place path s
rename_refused temporary path id s now room leads others =
    ap (no_move_in temporary path (names_now now)) leads
    ∙ ap (λ b. cond b (cond (is_folder (names_now now) path) (Some Exists) None) (Some NotThere)) (folders (parent_of path))
    ∙ ap (λ b. cond (is_folder (names_now s) (parent_of path)) (cond b (Some Exists) None) (Some NotThere)) (folders path) where
      folders : (p : List ℕ) → is_folder (names_now now) p ≡ is_folder (names_now s) p
      folders p = ⊎_elim
          (λ same. ap (is_folder (names_now now)) same ∙ ap is_folder_node leads ∙ sym (ap (is_folder (names_now s)) same ∙ ap is_folder_node (room_free (names_now s) temporary room)))
          (λ ne. ap is_folder_node (others p ne))
          (path_cases p temporary)

pub longer_path : (path : List ℕ) → path ++ 0 ∷ [] ≢ path
longer_path path same = absurd (omega (arith, ap length same, length-append path (0 ∷ [])))

module _ (temporary path bytes : List ℕ) where
  abbrev other : List ℕ
  other = temporary ++ 0 ∷ []

  abbrev Writing : Option Story → Option Story → Type 0
  Writing old told = (story : Story) → old ≡ Some story → Went story told (Writes temporary (length (state_of story).files)) (HasOld other Not_known) (IsReady temporary other Not_known (length (state_of story).files) bytes)

  some_path : (s : State) → no_room temporary s ≡ None → [] ≢ temporary
  some_path s room = free_named (names_now s) temporary (room_free (names_now s) temporary room)

  -- what is so of the rename's refusal is so of the whole
  pub publish_answers : (Q : Option DiskError → Type 0) (old told : Option Story) → IfSome old (λ x. no_room temporary (state_of x) ≡ None) → Writing old told → IfSome told (λ x. Q (no_rename temporary path (state_of x))) → IfSome old (λ x. Q (no_publishing temporary path (state_of x)))
  publish_answers Q None told room went is = tt
  publish_answers Q (Some story) told room went is =
      let w = went story refl in
      let s : State = state_of story in
      let now : State = state_of w.story in
      let id : ℕ = length s.files in
      let leads : stands (names_now now) temporary ≡ Some (File_node id) = stands_file (names_now now) temporary id (some_path s room) (name_now now temporary (Some (File_node id)) w.now.new.named) in
      let others : (p : List ℕ) → p ≢ temporary → stands (names_now now) p ≡ stands (names_now s) p = λ p ne. ap (λ (x : State). stands (names_now x) p) (goes_state w.goes) ∙ stands_written temporary id p w.goes.more s ne w.goes.kind in
      subst Q (rename_refused temporary path id s now room leads others ∙ sym (ap (λ (o : Option DiskError). or_else o (no_place path s)) room))
      (subst (λ (o : Option Story). IfSome o (λ x. Q (no_rename temporary path (state_of x)))) w.tells is)

-- the answer is handed on
pub same_answer : (refusal : State → Option DiskError) (seen : Seen) (r : Result (Unit {0}) DiskRefusal) (e : DiskRefusal) → IsErrAnd r (λ x. x ≡ e) → AnswersAs {T = Unit {0}} refusal seen (Err e) → AnswersAs refusal seen r
same_answer refusal seen r e is by =
    let p = err_from_is_err_and r is in
    subst (AnswersAs refusal seen) (sym (p.1 ∙ ap (λ (x : DiskRefusal). Err x) p.2)) by
