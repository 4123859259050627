-- Which answers come where, told of the state before the whole.
use Rattle.std.specs.Prelude.{◌≡◌, ◌≢◌, ℕ, cond, List, [], ◌∷◌, length, is_some, Option, Some, None, option_map, IfSome, Result, Ok, Err}
use Rattle.std.proofs.Common.{⊎_elim, refl, sym, ap, subst, ◌∙◌}
use Rattle.lsm_names.specs.FileNames.{IsFileName}
use Rattle.lsm_names.specs.declared.file_names.FileName.TheVariants.{Manifest}
use Rattle.lsm_names.specs.Paths.{parent_of}
use Rattle.std.specs.FinMap as map
use Rattle.lsm_disk.specs.Names.{Node, File_node, Names, stands, is_folder, is_folder_node}
use Rattle.lsm_disk.specs.State.{State, Story, Change, Created, Named, Appended, Synced, Names_synced, Idle, after, state_of, names_now, names_synced, renamed_by}
use Rattle.lsm_disk.specs.Goes.{Went}
use Rattle.lsm_disk.specs.Kept.{IsFileNow}
use Rattle.lsm_disk.specs.Answers.{Makes, RefusesBy, pushed}
use Rattle.lsm_disk.specs.Refusals.{no_room, no_rename, no_move_in, or_else}
use Rattle.lsm_disk.specs.declared.calls.DiskError.{DiskError}
use Rattle.lsm_disk.specs.declared.calls.DiskError.TheVariants.{Fault, NotThere, Exists, NoLinks, NotEmpty, Short, NoMemory}
use Rattle.lsm_disk.specs.declared.calls.DiskRefusal.{DiskRefusal}
use Rattle.lsm_disk.proofs.Paths.{path_cases}
use Rattle.lsm_disk.proofs.Images.{after_names_synced}
use Rattle.lsm_disk.proofs.Now.{stands_past_file}
use Rattle.lsm_disk.proofs.Tree.{room_free, free_named}
use Rattle.lsm_disk.proofs.Runs.{state_push, went_weaker, went_kept}
use Rattle.lsm_publish.specs.Publishing.{Writes, AnswersBy, no_place, no_publishing, written}
use Rattle.lsm_publish.proofs.Answering.{answers_why}
use Rattle.lsm_manifest.specs.Installing.{Anything, no_installing, current_path, manifest_path, temporary_path}
use Rattle.lsm_manifest.proofs.Names.{new_apart_temporary}

-- where the disk tells
abbrev pub Told : (State → Option DiskError) → Option Story → Result (Unit {0}) DiskRefusal → Type 0
Told refusal told result = IfSome told (λ story. AnswersBy {T = Unit {0}} (refusal (state_of story)) result)

-- a fault and want of memory are refusals of any state
by_chance : (o : Option DiskError) (why : DiskError) → RefusesBy None why → RefusesBy o why
by_chance o Fault by = tt
by_chance o NoMemory by = tt
by_chance o NotThere by = cc
by_chance o Exists by = cc
by_chance o NoLinks by = cc
by_chance o NotEmpty by = cc
by_chance o (Short found) by = cc

-- the first refusal comes first
by_first : (o next : Option DiskError) (why : DiskError) → RefusesBy o why → RefusesBy (or_else o next) why
by_first None next why by = by_chance next why by
by_first (Some e) next why by = by

told_first : (first next : State → Option DiskError) (told : Option Story) (r : DiskRefusal) → Told first told (Err r) → Told (λ s. or_else (first s) (next s)) told (Err r)
told_first first next None r is = tt
told_first first next (Some story) r is = by_first (first (state_of story)) (next (state_of story)) r.why is

-- memory was wanting
pub wanting_answers : (refusal : State → Option DiskError) (told : Option Story) (r : DiskRefusal) → r.why ≡ NoMemory → Told refusal told (Err r)
wanting_answers refusal None r is = tt
wanting_answers refusal (Some story) r is = subst (λ (e : DiskError). RefusesBy (refusal (state_of story)) e) (sym is) tt

-- ---- past the making of a file

-- a file was made under a free name, and what stands under another name stands there still
record HasNew (path : List ℕ) (s now : State) : Type 0 where
  free : no_room path s ≡ None
  id : ℕ
  leads : stands (names_now now) path ≡ Some (File_node id)
  others : (p : List ℕ) → p ≢ path → stands (names_now now) p ≡ stands (names_now s) p

module _ (path : List ℕ) (s now : State) (new : HasNew path s now) where
  same_folders : (p : List ℕ) → is_folder (names_now now) p ≡ is_folder (names_now s) p
  same_folders p = ⊎_elim
      (λ same. ap (is_folder (names_now now)) same ∙ ap is_folder_node new.leads ∙ sym (ap (is_folder (names_now s)) same ∙ ap is_folder_node (room_free (names_now s) path new.free)))
      (λ ne. ap is_folder_node (new.others p ne))
      (path_cases p path)

  same_room : (p : List ℕ) → p ≢ path → no_room p now ≡ no_room p s
  same_room p ne =
      ap (λ b. cond b (cond (is_some (stands (names_now now) p)) (Some Exists) None) (Some NotThere)) (same_folders (parent_of p))
      ∙ ap (λ (o : Option Node). cond (is_folder (names_now s) (parent_of p)) (cond (is_some o) (Some Exists) None) (Some NotThere)) (new.others p ne)

  same_place : (p : List ℕ) → no_place p now ≡ no_place p s
  same_place p =
      ap (λ b. cond b (cond (is_folder (names_now now) p) (Some Exists) None) (Some NotThere)) (same_folders (parent_of p))
      ∙ ap (λ b. cond (is_folder (names_now s) (parent_of p)) (cond b (Some Exists) None) (Some NotThere)) (same_folders p)

  -- the new file takes another name
  renames : (to : List ℕ) → no_rename path to now ≡ no_publishing path to s
  renames to = ap (no_move_in path to (names_now now)) new.leads ∙ same_place to ∙ sym (ap (λ (o : Option DiskError). or_else o (no_place to s)) new.free)

  -- a second file is made, and takes another name
  publishes : (temporary to : List ℕ) → temporary ≢ path → no_publishing temporary to now ≡ or_else (no_room path s) (no_publishing temporary to s)
  publishes temporary to ne =
      ap (λ (o : Option DiskError). or_else o (no_place to now)) (same_room temporary ne)
      ∙ ap (or_else (no_room temporary s)) (same_place to)
      ∙ sym (ap (λ (o : Option DiskError). or_else o (no_publishing temporary to s)) new.free)

stands_after : (path : List ℕ) (id : ℕ) (p : List ℕ) (s : State) (c : Change) → p ≢ path → Writes path id c → stands (names_now (after s c)) p ≡ stands (names_now s) p
stands_after path id p s (Created other) ne is = stands_past_file s p other (λ same. ne (same ∙ is))
stands_after path id p s (Named op) ne is = absurd is
stands_after path id p s (Appended k bytes) ne is = refl
stands_after path id p s (Synced k) ne is = refl
stands_after path id p s Names_synced ne is = refl
stands_after path id p s Idle ne is = refl

stands_file : (names : Names) (path : List ℕ) (id : ℕ) → [] ≢ path → map.get names path ≡ Some (File_node id) → stands names path ≡ Some (File_node id)
stands_file names [] id some is = absurd (some refl)
stands_file names (c ∷ path) id some is = is

module _ (path bytes : List ℕ) where
  abbrev Fills : Story → Option Story → Type 0
  Fills story told = Went story told (Writes path (length (state_of story).files)) Anything (λ s. IsFileNow s path (length (state_of story).files) (written bytes))

  -- what the making of a file left
  abbrev pub Made : Option Story → Option Story → Type 0
  Made old told = (story : Story) → old ≡ Some story → Fills story told

  new_stands : (story : Story) {told : Option Story} → no_room path (state_of story) ≡ None → Fills story told
      → Went story told (Writes path (length (state_of story).files)) Anything (HasNew path (state_of story))
  new_stands story free w =
      let s : State = state_of story in
      let id : ℕ = length s.files in
      let filled : State → Type 0 = λ x. IsFileNow x path id (written bytes) in
      let others : State → Type 0 = λ x. (p : List ℕ) → p ≢ path → stands (names_now x) p ≡ stands (names_now s) p in
      went_weaker (λ x. filled x × others x) (HasNew path s)
      (λ x p. record { free = free; id = id; leads = stands_file (names_now x) path id (free_named (names_now s) path (room_free (names_now s) path free)) p.0.named; others = p.1 })
      (went_kept Anything others (λ x c is same p ne. stands_after path id p x c ne is ∙ same p ne) (λ x t same image any. tt) filled (λ p ne. refl) w)

  -- an answer of what is called later, told of the state before the file was made
  past_new : (later was : State → Option DiskError) → ((s now : State) → HasNew path s now → later now ≡ was s)
      → (o1 o2 : Option Story) (result : Result (Unit {0}) DiskRefusal) → Told (no_room path) o1 (Ok (tt {0})) → Made o1 o2 → Told later o2 result → Told was o1 result
  past_new later was same None o2 result room made is = tt
  past_new later was same (Some story) o2 result room made is =
      let w = new_stands story room (made story refl) in
      subst (λ (o : Option DiskError). AnswersBy {T = Unit {0}} o result) (same (state_of story) (state_of w.story) w.now)
      (subst (λ (o : Option Story). Told later o result) w.tells is)

-- ---- the switch, behind a sync of names

module _ (temporary path : List ℕ) where
  same_rename : (s : State) → no_rename temporary path (after s (names_synced s)) ≡ no_rename temporary path s
  same_rename s = ap (no_rename temporary path) (after_names_synced s)

  -- the sync of names was refused
  pub names_answers : (told : Option Story) (r : DiskRefusal) (why : DiskError) → r.why ≡ why → IfSome told (λ story. RefusesBy None why) → Told (no_rename temporary path) told (Err r)
  names_answers None r why is by = tt
  names_answers (Some story) r why is by = by_chance (no_rename temporary path (state_of story)) r.why (subst (RefusesBy None) (sym is) by)

  pub switch_answers : (o1 o2 : Option Story) (result : Result (Unit {0}) DiskRefusal) → Makes o1 names_synced o2 → Told (no_rename temporary path) o2 result → Told (no_rename temporary path) o1 result
  switch_answers None o2 result makes is = tt
  switch_answers (Some story) o2 result makes is =
      subst (λ (o : Option DiskError). AnswersBy {T = Unit {0}} o result) (ap (no_rename temporary path) (state_push story (names_synced (state_of story))) ∙ same_rename (state_of story))
      (subst (λ (o : Option Story). Told (no_rename temporary path) o result) makes is)

  -- the rename behind it was refused
  pub rename_answers : (o1 o2 : Option Story) (r : DiskRefusal) (why : DiskError) → r.why ≡ why → Makes o1 names_synced o2
      → IfSome o2 (λ x. RefusesBy (no_rename temporary path (state_of x)) why) → Told (no_rename temporary path) o1 (Err r)
  rename_answers o1 o2 r why is makes by = switch_answers o1 o2 (Err r) makes (answers_why
      (no_rename temporary path) o2 r why is by)

  -- the last sync of names was refused
  pub last_answers : (o1 o2 o3 : Option Story) (r : DiskRefusal) (why : DiskError) → r.why ≡ why → Makes o1 names_synced o2
      → Makes o2 (renamed_by temporary path) o3 → IfSome o3 (λ x. RefusesBy None why) → Told (no_rename temporary path) o1
      (Err r)
  last_answers None o2 o3 r why is synced moved by = tt
  last_answers (Some story) o2 o3 r why is synced moved by =
      let refuses : RefusesBy None why = subst (λ (o : Option Story). IfSome o (λ x. RefusesBy None why))
      (moved ∙ ap (option_map (pushed (renamed_by temporary path))) synced) by in
      by_chance (no_rename temporary path (state_of story)) r.why (subst (RefusesBy None) (sym is) refuses)

-- ---- the whole

module _ (dir : List ℕ) (number : ℕ) (is : IsFileName (Manifest number)) (new temporary path text bytes : List ℕ)
    (new_is : new ≡ manifest_path dir number) (temporary_is : temporary ≡ temporary_path dir number) (path_is : path ≡ current_path dir) where
  -- the refusals of all three names
  abbrev refusal : List ℕ → List ℕ → List ℕ → State → Option DiskError
  refusal a b c s = or_else (no_room a s) (no_publishing b c s)

  apart : temporary ≢ new
  apart same = new_apart_temporary dir number is (sym new_is ∙ sym same ∙ temporary_is)

  placed : (told : Option Story) (result : Result (Unit {0}) DiskRefusal) → Told (refusal new temporary path) told result → Told (no_installing dir number) told result
  placed told result by =
      subst (λ (c : List ℕ). Told (refusal (manifest_path dir number) (temporary_path dir number) c) told result) path_is
      (subst (λ (b : List ℕ). Told (refusal (manifest_path dir number) b path) told result) temporary_is
      (subst (λ (a : List ℕ). Told (refusal a temporary path) told result) new_is by))

  module _ (o1 : Option Story) where
    pub new_answers : (r : DiskRefusal) → Told (no_room new) o1 (Err r) → Told (no_installing dir number) o1 (Err r)
    new_answers r by = placed o1 (Err r) (told_first (no_room new) (no_publishing temporary path) o1 r by)

    module _ (o2 : Option Story) (room : Told (no_room new) o1 (Ok (tt {0}))) (made : Made new text o1 o2) where
      behind : (result : Result (Unit {0}) DiskRefusal) → Told (no_publishing temporary path) o2 result → Told (no_installing dir number) o1 result
      behind result by = placed o1 result (past_new new text (no_publishing temporary path) (refusal new temporary path) (λ s now has. publishes new s now has temporary path apart) o1 o2 result room made by)

      pub temporary_answers : (r : DiskRefusal) → Told (no_room temporary) o2 (Err r) → Told (no_installing dir number) o1 (Err r)
      temporary_answers r by = behind (Err r) (told_first (no_room temporary) (no_place path) o2 r by)

      pub led_answers : (o3 : Option Story) (result : Result (Unit {0}) DiskRefusal) → Told (no_room temporary) o2 (Ok (tt {0})) → Made temporary bytes o2 o3 → Told (no_rename temporary path) o3 result → Told (no_installing dir number) o1 result
      led_answers o3 result free filled by = behind result (past_new temporary bytes (no_rename temporary path) (no_publishing temporary path) (λ s now has. renames temporary s now has path) o2 o3 result free filled by)
