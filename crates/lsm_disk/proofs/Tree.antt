-- Names stay a tree.
use Rattle.std.specs.Prelude.{◌≡◌, ◌≢◌, ℕ, zero, suc, ◌+◌, ◌<◌, ◌≤◌, ◌==◌, Bool, true, false, cond, List, [], ◌∷◌, ◌++◌, length, Option, Some, None, is_some}
use Rattle.std.proofs.Common.{⊎_elim, refl, sym, ap, subst, ◌∙◌, arith, length-append}
use Rattle.std.proofs.lemmas.List.{append-nil, take_all}
use Rattle.std.specs.FinMap as map
use Rattle.lsm_names.specs.Paths.{cut_last, put_before, or_root, parent_of}
use Rattle.lsm_disk.specs.Names.{Node, Folder_node, File_node, NameOp, Put, Names, named, all_named, stands, is_folder, is_folder_node}
use Rattle.lsm_disk.specs.State.{FileState, State, Created, Appended, after, names_now, new_file, longer, in_file, in_found, file_at, folder_made, appended}
use Rattle.lsm_disk.specs.Tree.{IsTree, LeadsToFiles, IsLawful}
use Rattle.lsm_disk.specs.Refusals.{no_room, no_room_in}
use Rattle.lsm_disk.specs.declared.calls.DiskError.TheVariants.{NotThere, Exists}
use Rattle.lsm_disk.proofs.Files.{same_some}
use Rattle.lsm_disk.proofs.Paths.{get_put, get_put_other, path_cases}
use Rattle.lsm_disk.proofs.Images.{take_push, all_push}
use Rattle.lsm_disk.proofs.Now.{stands_put_other, stands_past_folder}

-- ---- the parts of a path

-- what stands before the last slash is found from the back
pub cut_append : (xs ys front : List ℕ) → cut_last ys ≡ Some front → cut_last (xs ++ ys) ≡ Some (xs ++ front)
cut_append [] ys front is = is
cut_append (x ∷ xs) ys front is = ap (put_before x) (cut_append xs ys front is)

pub cut_within : (path front : List ℕ) → cut_last path ≡ Some front → length front < length path
cut_within [] front is = cc
cut_within (c ∷ path) front is = by_rest (cut_last path) (cut_within path) is where
  slash : (b : Bool) → cond b (Some []) None ≡ Some front → length front < length (c ∷ path)
  slash true e = let none : [] ≡ front = same_some [] front e in omega (arith, ap length none)
  slash false e = cc

  by_rest : (o : Option (List ℕ)) → ((f : List ℕ) → o ≡ Some f → length f < length path) → put_before c o ≡ Some front → length front < length (c ∷ path)
  by_rest None within h = slash (c == 47) h
  by_rest (Some rest) within h = let same : c ∷ rest ≡ front = same_some (c ∷ rest) front h in omega (arith, ap length same, within rest refl)

-- ---- what is refused

-- what stands is a folder
pub folder_stands : (names : Names) (path : List ℕ) → is_folder names path ≡ true → stands names path ≡ Some Folder_node
folder_stands names path is = by_node (stands names path) is where
  by_node : (o : Option Node) → is_folder_node o ≡ true → o ≡ Some Folder_node
  by_node None e = cc
  by_node (Some Folder_node) e = refl
  by_node (Some (File_node id)) e = cc

-- where a new name has room, its folder is there
pub room_folder : (names : Names) (path : List ℕ) → no_room_in names path ≡ None → is_folder names (parent_of path) ≡ true
room_folder names path is = by_tests (is_folder names (parent_of path)) (is_some (stands names path)) is where
  by_tests : (b c : Bool) → cond b (cond c (Some Exists) None) (Some NotThere) ≡ None → b ≡ true
  by_tests true c e = refl
  by_tests false c e = cc

-- and the name is free
pub room_free : (names : Names) (path : List ℕ) → no_room_in names path ≡ None → stands names path ≡ None
room_free names path is = by_tests (is_folder names (parent_of path)) (stands names path) is where
  by_tests : (b : Bool) (o : Option Node) → cond b (cond (is_some o) (Some Exists) None) (Some NotThere) ≡ None → o ≡ None
  by_tests b None e = refl
  by_tests true (Some node) e = cc
  by_tests false (Some node) e = cc

pub free_named : (names : Names) (path : List ℕ) → stands names path ≡ None → [] ≢ path
free_named names path free root = let clash : Some Folder_node ≡ None = ap (stands names) root ∙ free in cc

-- ---- a tree

-- a new name in a folder leaves a tree
pub tree_put : (names : Names) (path : List ℕ) (node : Node) → IsTree names → is_folder names (parent_of path) ≡ true → stands names path ≡ None → IsTree (map.insert names path node)
tree_put names path node tree there free = record {
  root = get_put_other names [] path node (free_named names path free) ∙ tree.root;
  inside = inside_of;
} where
  -- a folder is another name than the free one
  keeps : (p : List ℕ) → is_folder names p ≡ true → is_folder (map.insert names path node) p ≡ true
  keeps p is = ap is_folder_node (stands_put_other names p path node (λ same. let clash : Some Folder_node ≡ None = sym (folder_stands names p is) ∙ ap (stands names) same ∙ free in cc)) ∙ is

  inside_of : (q : List ℕ) (other : Node) → map.get (map.insert names path node) q ≡ Some other → is_folder (map.insert names path node) (parent_of q) ≡ true
  inside_of q other is = ⊎_elim
      (λ same. keeps (parent_of q) (ap (λ (p : List ℕ). is_folder names (parent_of p)) same ∙ there))
      (λ ne. keeps (parent_of q) (tree.inside q other (sym (get_put_other names q path node ne) ∙ is)))
      (path_cases q path)

-- no folder stands above a name below a free one, where shorter ones are free
below_parent : (names : Names) (dir rest : List ℕ) → stands names dir ≡ None → ((front : List ℕ) → length front < length rest → stands names (dir ++ 47 ∷ front) ≡ None) → is_folder names (parent_of (dir ++ 47 ∷ rest)) ≡ false
below_parent names dir rest free shorter = by_cut (cut_last rest) refl where
  by_cut : (o : Option (List ℕ)) → cut_last rest ≡ o → is_folder names (parent_of (dir ++ 47 ∷ rest)) ≡ false
  by_cut None e =
      ap (λ (x : Option (List ℕ)). is_folder names (or_root x)) (cut_append dir (47 ∷ rest) [] (ap (put_before 47) e))
      ∙ ap (is_folder names) (append-nil dir) ∙ ap is_folder_node free
  by_cut (Some front) e =
      ap (λ (x : Option (List ℕ)). is_folder names (or_root x)) (cut_append dir (47 ∷ rest) (47 ∷ front) (ap (put_before 47) e))
      ∙ ap is_folder_node (shorter front (cut_within rest front e))

-- nothing stands inside a folder that isn't there
below_within : (n : ℕ) (names : Names) (dir rest : List ℕ) → length rest < n → IsTree names → stands names dir ≡ None → stands names (dir ++ 47 ∷ rest) ≡ None
below_within zero names dir rest lt tree free = absurd (omega (arith, lt))
below_within (suc n) names dir rest lt tree free =
    nothing (below_parent names dir rest free (λ front short. below_within n names dir front (omega (arith, short, lt)) tree free)) where
      get_below : (d : List ℕ) → map.get names (d ++ 47 ∷ rest) ≡ stands names (d ++ 47 ∷ rest)
      get_below [] = refl
      get_below (c ∷ d) = refl

      by_node : (o : Option Node) → stands names (dir ++ 47 ∷ rest) ≡ o → is_folder names (parent_of (dir ++ 47 ∷ rest)) ≡ false → o ≡ None
      by_node None e no_folder = refl
      by_node (Some node) e no_folder = let clash : true ≡ false = sym (tree.inside (dir ++ 47 ∷ rest) node (get_below dir ∙ e)) ∙ no_folder in cc

      nothing : is_folder names (parent_of (dir ++ 47 ∷ rest)) ≡ false → stands names (dir ++ 47 ∷ rest) ≡ None
      nothing no_folder = by_node (stands names (dir ++ 47 ∷ rest)) refl no_folder

pub free_below : (names : Names) (dir rest : List ℕ) → IsTree names → stands names dir ≡ None → stands names (dir ++ 47 ∷ rest) ≡ None
free_below names dir rest tree free = below_within (suc (length rest)) names dir rest (omega arith) tree free

-- ---- a lawful disk

pub lawful_now : (s : State) → IsLawful s → IsTree (names_now s)
lawful_now s lawful = subst (λ (ops : List NameOp). IsTree (all_named ops s.durable)) (take_all (length s.pending) s.pending (omega arith)) (lawful.trees (length s.pending))

pub lawful_made : (s : State) → IsLawful s → LeadsToFiles (names_now s) (length s.files)
lawful_made s lawful = subst (λ (ops : List NameOp). LeadsToFiles (all_named ops s.durable) (length s.files)) (take_all (length s.pending) s.pending (omega arith)) (lawful.files (length s.pending))

pub leads_more : (names : Names) (m n : ℕ) → m ≤ n → LeadsToFiles names m → LeadsToFiles names n
leads_more names m n le leads = record { made = λ path id is. omega (arith, leads.made path id is, le) }

-- one operation more that leaves a tree
pub lawful_op : (s : State) (op : NameOp) (fs : List FileState) → IsLawful s → length s.files ≤ length fs → IsTree (named op (names_now s)) → LeadsToFiles (named op (names_now s)) (length fs) → IsLawful (record s { pending = s.pending ++ op ∷ []; files = fs })
lawful_op s op fs lawful le tree leads = record {
  trees = λ k. ⊎_elim
      (λ short. subst (λ (ops : List NameOp). IsTree (all_named ops s.durable)) (sym short) (lawful.trees k))
      (λ long. subst IsTree (sym (ap (λ (ops : List NameOp). all_named ops s.durable) long ∙ all_push s.pending op s.durable)) tree)
      (take_push k s.pending op);
  files = λ k. ⊎_elim
      (λ short. subst (λ (ops : List NameOp). LeadsToFiles (all_named ops s.durable) (length fs)) (sym short) (leads_more _ (length s.files) (length fs) le (lawful.files k)))
      (λ long. subst (λ (n : Names). LeadsToFiles n (length fs)) (sym (ap (λ (ops : List NameOp). all_named ops s.durable) long ∙ all_push s.pending op s.durable)) leads)
      (take_push k s.pending op);
}

leads_put : (names : Names) (path : List ℕ) (node : Node) (n : ℕ) → ((id : ℕ) → node ≡ File_node id → id < n) → LeadsToFiles names n → LeadsToFiles (map.insert names path node) n
leads_put names path node n new leads = record {
  made = λ q id is. ⊎_elim
      (λ same. new id (same_some node (File_node id) (sym (ap (λ (p : List ℕ). map.get (map.insert names path node) p) same ∙ get_put names path node) ∙ is)))
      (λ ne. leads.made q id (sym (get_put_other names q path node ne) ∙ is))
      (path_cases q path);
}

folder_made_nothing : (n id : ℕ) → Folder_node ≡ File_node id → id < n
folder_made_nothing n id is = absurd (cc is)

pub file_made : (n k id : ℕ) → k < n → File_node k ≡ File_node id → id < n
file_made n k id lt is = let same : k ≡ id = cc is in omega (arith, same, lt)

-- where a name has room, it may be put
pub lawful_put : (s : State) (path : List ℕ) (node : Node) (fs : List FileState) → IsLawful s → length s.files ≤ length fs → ((id : ℕ) → node ≡ File_node id → id < length fs) → no_room path s ≡ None → IsLawful (record s { pending = s.pending ++ Put path node ∷ []; files = fs })
lawful_put s path node fs lawful le new room = lawful_op s (Put path node) fs lawful le
    (tree_put (names_now s) path node (lawful_now s lawful) (room_folder (names_now s) path room) (room_free (names_now s) path room))
    (leads_put (names_now s) path node (length fs) new (leads_more (names_now s) (length s.files) (length fs) le (lawful_made s lawful)))

pub lawful_created : (s : State) (path : List ℕ) → IsLawful s → no_room path s ≡ None → IsLawful (after s (Created path))
lawful_created s path lawful room =
    let one : length (s.files ++ new_file ∷ []) ≡ length s.files + 1 = length-append s.files (new_file ∷ []) in
    lawful_put s path (File_node (length s.files)) (s.files ++ new_file ∷ []) lawful (omega (arith, one)) (λ id is. file_made (length (s.files ++ new_file ∷ [])) (length s.files) id (omega (arith, one)) is) room

pub lawful_folder_made : (s : State) (path : List ℕ) → IsLawful s → no_room path s ≡ None → IsLawful (after s (folder_made path s))
lawful_folder_made s path lawful room = lawful_put s path Folder_node s.files lawful (omega arith) (folder_made_nothing (length s.files)) room

pub length_in : (change : FileState → FileState) (id : ℕ) (fs : List FileState) → length (in_file change id fs) ≡ length fs
length_in change id [] = refl
length_in change zero (f ∷ fs) = refl
length_in change (suc id) (f ∷ fs) = ap suc (length_in change id fs)

-- a change in one file changes no name
pub lawful_in_file : (s : State) (change : FileState → FileState) (id : ℕ) → IsLawful s → IsLawful (record s { files = in_file change id s.files })
lawful_in_file s change id lawful = record {
  trees = lawful.trees;
  files = λ k. leads_more _ (length s.files) (length (in_file change id s.files)) (omega (arith, length_in change id s.files)) (lawful.files k);
}

lawful_found : (s : State) (o : Option ℕ) (more : List ℕ) → IsLawful s → IsLawful (after s (in_found o (λ id. Appended id more)))
lawful_found s None more lawful = lawful
lawful_found s (Some id) more lawful = lawful_in_file s (longer more) id lawful

pub lawful_appended : (s : State) (path more : List ℕ) → IsLawful s → IsLawful (after s (appended path more s))
lawful_appended s path more lawful = lawful_found s (file_at s path) more lawful

-- a name in a folder that was just made is free
pub made_free : (s : State) (dir rest : List ℕ) → IsLawful s → no_room dir s ≡ None → stands (names_now (after s (folder_made dir s))) (dir ++ 47 ∷ rest) ≡ None
made_free s dir rest lawful room =
    stands_past_folder s (dir ++ 47 ∷ rest) dir (λ same. let long : length (dir ++ 47 ∷ rest) ≡ length dir + length (47 ∷ rest) = length-append dir (47 ∷ rest) in absurd (omega (arith, ap length same, long)))
    ∙ free_below (names_now s) dir rest (lawful_now s lawful) (room_free (names_now s) dir room)
