-- The names and files that are kept, after each change.
use Rattle.std.specs.Prelude.{◌≡◌, ℕ, ◌<◌, Bool, true, false, cond, List, [], ◌∷◌, ◌++◌, length, Option, Some, None, IfSome, is_some, is_none, Vec, ◌≢◌}
use Rattle.std.proofs.Common.{refl, sym, ap, subst, ◌∙◌, arith}
use Rattle.std.specs.FinMap as map
use Rattle.lsm_names.specs.Paths.{is_path, is_component, parent_of}
use Rattle.lsm_disk.specs.Names.{Node, Folder_node, File_node, NameOp, Put, Gone, Moved, Names, named, renamed, all_named, id_of, stands, is_folder, is_occupied, under, is_in, is_folder_node}
use Rattle.lsm_disk.specs.State.{FileState, State, Change, Created, Named, Names_synced, Idle, after, new_file, in_file, names_now}
use Rattle.lsm_disk.specs.Tree.{IsTree, LeadsToFiles, IsLawful}
use Rattle.lsm_disk.specs.Refusals.{no_room_in, no_move_in, or_else}
use Rattle.lsm_disk.specs.declared.calls.DiskError.TheVariants.{NotThere, NotEmpty}
use Rattle.lsm_disk.proofs.Images.{all_push}
use Rattle.lsm_disk.proofs.Cuts.{take_none}
use Rattle.lsm_disk.proofs.Runs.{all_after}
use Rattle.lsm_disk.proofs.Tree.{lawful_created, lawful_folder_made, lawful_in_file, lawful_made, lawful_now, lawful_put, file_made, room_free}
use Rattle.lsm_disk.proofs.Lawful.{lawful_renamed, lawful_unlinked, lawful_removed, lawful_sync_names, free_at}
use Rattle.lsm_changes.specs.Files.{is_empty}
use Rattle.lsm_changes.specs.Replay.{state_after}
use Rattle.lsm_volume.specs.Told.{IsTied, start_of}

not_empty : {A : Type 0} (xs : List A) (x : A) → false ≡ is_empty (xs ++ x ∷ [])
not_empty [] x = refl
not_empty (y ∷ xs) x = refl

-- a name that has a file leads to it
pub found_file : (o : Option Node) (id : ℕ) → Some id ≡ id_of o → o ≡ Some (File_node id)
found_file None id is = absurd (cc is)
found_file (Some Folder_node) id is = absurd (cc is)
found_file (Some (File_node k)) id is = let same : id ≡ k = cc is in ap (λ (n : ℕ). Some (File_node n)) (sym same)

-- and that file was made
pub file_within : (links : Bool) (names : Names) (synced : Bool) (files : List FileState) (s : State) (path : List ℕ) (id : ℕ) → IsTied links names synced files s → Some id ≡ id_of (map.get names path) → id < length files
file_within links names synced files s path id tied is =
    let made = (lawful_made s tied.lawful).made path id (ap (λ (n : Names). map.get n path) (sym tied.names_are) ∙ found_file (map.get names path) id is) in
    omega (arith, made, ap length tied.files_are)

pub some_file : (o : Option ℕ) → false ≡ is_none o → is_some o ≡ true
some_file None is = cc
some_file (Some id) is = refl

pub some_name : (o : Option Node) → is_some (id_of o) ≡ true → is_some o ≡ true
some_name None is = is
some_name (Some node) is = refl

-- a path is not empty
pub path_named : (path : List ℕ) → is_path path ≡ true → [] ≢ path
unfolding is_path is_component
path_named path is same = let clash : false ≡ true = ap is_path same ∙ is in cc

pub folder_name : (names : Names) (path : List ℕ) → [] ≢ path → is_folder names path ≡ true → is_some (map.get names path) ≡ true
folder_name names [] some is = absurd (some refl)
folder_name names (c ∷ path) some is = by_node (map.get names (c ∷ path)) is where
  by_node : (o : Option Node) → is_folder_node o ≡ true → is_some o ≡ true
  by_node None e = e
  by_node (Some node) e = refl

pub taken_is : {A : Type 0} (o : Option (Vec ℕ A)) (key : Vec ℕ A) (path : List ℕ) → o ≡ Some key → IfSome o (λ k. k.items ≡ path) → key.items ≡ path
taken_is {A = A} o key path is same = subst (λ (x : Option (Vec ℕ A)). IfSome x (λ k. k.items ≡ path)) is same

-- what may move has a name
pub stood_named : (names : Names) (from to : List ℕ) (node : Node) → stands names from ≡ Some node → no_move_in from to names (Some node) ≡ None → map.get names from ≡ Some node
stood_named names [] to Folder_node is allows = cc
stood_named names [] to (File_node id) is allows = cc
stood_named names (c ∷ from) to node is allows = is

pub folder_room : (from to : List ℕ) (names : Names) (node : Node) → node ≡ Folder_node → no_move_in from to names (Some node) ≡ None → no_room_in names to ≡ None
folder_room from to names (File_node id) is allows = cc
folder_room from to names Folder_node is allows = by_test (is_in from (parent_of to)) allows where
  by_test : (b : Bool) → cond b (Some NotThere) (no_room_in names to) ≡ None → no_room_in names to ≡ None
  by_test true h = cc
  by_test false h = h

-- where a folder may go nothing stands, nor inside
pub free_now : (links : Bool) (names : Names) (synced : Bool) (files : List FileState) (s : State) (to rest : List ℕ) → IsTied links names synced files s → no_room_in names to ≡ None → under [] rest ≡ Some rest → map.get names (to ++ rest) ≡ None
free_now links names synced files s to rest tied room tail = free_at names to rest (subst IsTree (sym tied.names_are) (lawful_now s tied.lawful)) (room_free names to room) tail

-- ---- after each change

module _ (start : State) (links : Bool) (names : Names) (synced : Bool) (files : List FileState) (changes : List Change) (tied : IsTied links names synced files (state_after start changes)) (new : List Change) where
  abbrev s : State
  s = state_after start changes

  pushed_to : (other : Names) (b : Bool) (fs : List FileState) (c : Change) → new ≡ changes ++ c ∷ [] → IsTied links other b fs (after s c) → IsTied links other b fs (state_after start new)
  pushed_to other b fs c is t = subst (IsTied links other b fs) (sym (ap (state_after start) is ∙ all_after changes (c ∷ []) start)) t

  room_now : (path : List ℕ) → no_room_in names path ≡ None → no_room_in (names_now s) path ≡ None
  room_now path room = ap (λ (n : Names). no_room_in n path) (sym tied.names_are) ∙ room

  -- a name operation
  op_tied : (op : NameOp) (other : Names) → new ≡ changes ++ Named op ∷ [] → other ≡ named op names → IsLawful (after s (Named op)) → IsTied links other false files (state_after start new)
  op_tied op other is now lawful = pushed_to other false files (Named op) is (record {
    names_are = now ∙ ap (named op) tied.names_are ∙ sym (all_push s.pending op s.durable);
    synced_are = not_empty s.pending op;
    files_are = tied.files_are;
    links_are = tied.links_are;
    lawful = lawful;
  })

  pub folder_tied : (path : List ℕ) (other : Names) → new ≡ changes ++ Named (Put path Folder_node) ∷ [] → other ≡ map.insert names path Folder_node → no_room_in names path ≡ None → IsTied links other false files (state_after start new)
  folder_tied path other is now room = op_tied (Put path Folder_node) other is now (lawful_folder_made s path tied.lawful (room_now path room))

  pub link_tied : (to : List ℕ) (id : ℕ) (other : Names) → new ≡ changes ++ Named (Put to (File_node id)) ∷ [] → other ≡ map.insert names to (File_node id) → no_room_in names to ≡ None → id < length files → IsTied links other false files (state_after start new)
  link_tied to id other is now room lt = op_tied (Put to (File_node id)) other is now
      (lawful_put s to (File_node id) s.files tied.lawful (omega arith) (λ k e. file_made (length s.files) id k (omega (arith, lt, ap length tied.files_are)) e) (room_now to room))

  pub rename_tied : (from to : List ℕ) (node : Node) (other : Names) → new ≡ changes ++ Named (Moved from to) ∷ [] → other ≡ renamed from to (Some node) names → map.get names from ≡ Some node → no_move_in from to names (stands names from) ≡ None → IsTied links other false files (state_after start new)
  rename_tied from to node other is now there allows = op_tied (Moved from to) other is (now ∙ ap (λ (o : Option Node). renamed from to o names) (sym there))
      (lawful_renamed s from to tied.lawful (ap (λ (n : Names). no_move_in from to n (stands n from)) (sym tied.names_are) ∙ allows))

  pub unlink_tied : (path : List ℕ) (other : Names) → new ≡ changes ++ Named (Gone path) ∷ [] → other ≡ map.remove names path → is_some (id_of (map.get names path)) ≡ true → IsTied links other false files (state_after start new)
  unlink_tied path other is now there = op_tied (Gone path) other is now
      (lawful_unlinked s path tied.lawful (ap (λ b. cond b None (Some NotThere)) (ap (λ (n : Names). is_some (id_of (map.get n path))) (sym tied.names_are) ∙ there)))

  pub removal_tied : (path : List ℕ) (other : Names) → new ≡ changes ++ Named (Gone path) ∷ [] → other ≡ map.remove names path → is_folder names path ≡ true → is_occupied names path ≡ false → IsTied links other false files (state_after start new)
  removal_tied path other is now there empty = op_tied (Gone path) other is now
      (lawful_removed s path tied.lawful (
      ap (λ b. or_else (cond b None (Some NotThere)) (cond (is_occupied (names_now s) path) (Some NotEmpty) None)) (ap (λ (n : Names). is_folder n path) (sym tied.names_are) ∙ there)
      ∙ ap (λ b. cond b (Some NotEmpty) None) (ap (λ (n : Names). is_occupied n path) (sym tied.names_are) ∙ empty)))

  pub idle_tied : new ≡ changes ++ Idle ∷ [] → IsTied links names synced files (state_after start new)
  idle_tied is = pushed_to names synced files Idle is tied

  pub names_tied : new ≡ changes ++ Names_synced ∷ [] → IsTied links names true files (state_after start new)
  names_tied is = pushed_to names true files Names_synced is (record {
    names_are = tied.names_are;
    synced_are = refl;
    files_are = tied.files_are;
    links_are = tied.links_are;
    lawful = lawful_sync_names s tied.lawful;
  })

  pub create_tied : (path : List ℕ) (other : Names) (fs : List FileState) → new ≡ changes ++ Created path ∷ [] → other ≡ map.insert names path (File_node (length files)) → fs ≡ files ++ new_file ∷ [] → no_room_in names path ≡ None
      → IsTied links other false fs (state_after start new)
  create_tied path other fs is now longer room =
      let number : length files ≡ length s.files = ap length tied.files_are in
      pushed_to other false fs (Created path) is (record {
        names_are = now ∙ (λ i. map.insert (tied.names_are i) path (File_node (number i))) ∙ sym (all_push s.pending (Put path (File_node (length s.files))) s.durable);
        synced_are = not_empty s.pending (Put path (File_node (length s.files)));
        files_are = longer ∙ ap (λ (l : List FileState). l ++ new_file ∷ []) tied.files_are;
        links_are = tied.links_are;
        lawful = lawful_created s path tied.lawful (room_now path room);
      })

  -- a change in one file
  pub file_tied : (change : FileState → FileState) (id : ℕ) (c : Change) (fs : List FileState) → new ≡ changes ++ c ∷ [] → ((x : State) → after x c ≡ record x { files = in_file change id x.files })
      → fs ≡ in_file change id files → IsTied links names synced fs (state_after start new)
  file_tied change id c fs is does now = pushed_to names synced fs c is (subst (IsTied links names synced fs) (sym (does s)) (record {
    names_are = tied.names_are;
    synced_are = tied.synced_are;
    files_are = now ∙ ap (in_file change id) tied.files_are;
    links_are = tied.links_are;
    lawful = lawful_in_file s change id tied.lawful;
  }))

-- ---- a disk at its start

-- where all is durable, the names are those of now
pub lawful_start : (links : Bool) (names : Names) (files : List FileState) → IsTree names → LeadsToFiles names (length files) → IsLawful (start_of links names files)
lawful_start links names files tree leads = record {
  trees = λ k. subst (λ (ops : List NameOp). IsTree (all_named ops names)) (sym (take_none k)) tree;
  files = λ k. subst (λ (ops : List NameOp). LeadsToFiles (all_named ops names) (length files)) (sym (take_none k)) leads;
}

pub start_tied : (links : Bool) (names first : Names) (files first_files : List FileState) (changes : List Change) → names ≡ first → files ≡ first_files → changes ≡ [] → IsTree first → LeadsToFiles first (length first_files)
    → IsTied links names true files (state_after (start_of links first first_files) changes)
start_tied links names first files first_files changes same same_files none tree leads =
    subst (λ (cs : List Change). IsTied links names true files (state_after (start_of links first first_files) cs)) (sym none)
    (record { names_are = same; synced_are = refl; files_are = same_files; links_are = refl; lawful = lawful_start links first first_files tree leads })

no_entry : {B : Type 0} (names : Names) (path : List ℕ) (node : Node) → names ≡ map.empty → map.get names path ≡ Some node → B
no_entry names path node blank is = let clash : None ≡ Some node = sym (ap (λ (n : Names). map.get n path) blank ∙ map.get-empty _ path) ∙ is in absurd (cc clash)

-- the root alone is a tree
pub blank_tree : (names : Names) → names ≡ map.empty → IsTree names
blank_tree names blank = record { root = ap (λ (n : Names). map.get n []) blank ∙ map.get-empty _ []; inside = λ path node is. no_entry names path node blank is }

pub blank_leads : (names : Names) (n : ℕ) → names ≡ map.empty → LeadsToFiles names n
blank_leads names n blank = record { made = λ path id is. no_entry names path (File_node id) blank is }
