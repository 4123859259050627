-- Each call that is Ok leaves a lawful disk, and each image is lawful.
use Rattle.std.specs.Prelude.{◌≡◌, ◌≢◌, ◌⊎◌, ℕ, suc, ◌<◌, ◌==◌, Bool, true, false, cond, List, [], ◌∷◌, ◌++◌, length, take, Option, Some, None, is_some}
use Rattle.std.proofs.Common.{⊎_elim, inl, inr, refl, sym, ap, subst, ◌∙◌, arith}
use Rattle.std.proofs.lemmas.List.{append-nil}
use Rattle.std.specs.Cmp.Lexicographic.{nat_list_cmp_total}
use Rattle.std.specs.FinMap as map
use Rattle.lsm_names.specs.Paths.{cut_last, put_before, or_root, parent_of}
use Rattle.lsm_disk.specs.Names.{Node, Folder_node, File_node, NameOp, Put, Gone, Moved, Names, all_named, stands, is_folder, is_folder_node, is_in, is_occupied, id_of, under, renamed}
use Rattle.lsm_disk.specs.State.{FileState, State, Change, Named, Synced, Names_synced, after, names_now, sure, in_found, where_new, file_at, file_by, file_synced, names_synced, linked, renamed_by, unnamed}
use Rattle.lsm_disk.specs.Images.{Tree, IsImage, AreCut}
use Rattle.lsm_disk.specs.Tree.{IsTree, LeadsToFiles, IsLawful}
use Rattle.lsm_disk.specs.Refusals.{no_file, no_folder, no_room, no_room_in, or_else, no_link, no_move_in, no_rename, no_removal}
use Rattle.lsm_disk.specs.declared.calls.DiskError.{DiskError}
use Rattle.lsm_disk.specs.declared.calls.DiskError.TheVariants.{NotThere, Exists, NotEmpty}
use Rattle.lsm_disk.proofs.Cuts.{take_none}
use Rattle.lsm_disk.proofs.Files.{same_some}
use Rattle.lsm_disk.proofs.Paths.{get_put, get_put_other, get_gone_other, path_cases, path_itself, get_renamed, number, under_tail, under_append}
use Rattle.lsm_disk.proofs.Moves.{under_is, under_more, get_moved, get_left, free_of, occupied_by}
use Rattle.lsm_disk.proofs.Tree.{cut_append, free_named, room_folder, room_free, free_below, lawful_now, lawful_made, lawful_op, lawful_put, lawful_in_file, file_made}

-- ---- what stands after a name is gone

pub get_gone : (names : Names) (path : List ℕ) → map.get (map.remove names path) path ≡ None
get_gone names path = map.get-remove nat_list_cmp_total names path path ∙ ap (λ b. cond b None (map.get names path)) (path_itself path)

-- a name that stands although one is gone is another
gone_other : (names : Names) (path q : List ℕ) (node : Node) → map.get (map.remove names path) q ≡ Some node → (q ≢ path) × (map.get names q ≡ Some node)
gone_other names path q node is = ⊎_elim
    (λ same. let clash : None ≡ Some node = sym (ap (map.get (map.remove names path)) same ∙ get_gone names path) ∙ is in absurd (cc clash))
    (λ ne. (ne, sym (get_gone_other names q path ne) ∙ is))
    (path_cases q path)

stands_gone_other : (names : Names) (p path : List ℕ) → p ≢ path → stands (map.remove names path) p ≡ stands names p
stands_gone_other names [] path ne = refl
stands_gone_other names (c ∷ p) path ne = get_gone_other names (c ∷ p) path ne

folder_past_gone : (names : Names) (p path : List ℕ) → is_folder names p ≡ true → p ≢ path → is_folder (map.remove names path) p ≡ true
folder_past_gone names p path is ne = ap is_folder_node (stands_gone_other names p path ne) ∙ is

gone_root : (names : Names) (path : List ℕ) → IsTree names → map.get (map.remove names path) [] ≡ None
gone_root names path tree = ⊎_elim
    (λ same. ap (λ (p : List ℕ). map.get (map.remove names p) []) (sym same) ∙ get_gone names [])
    (λ ne. get_gone_other names [] path ne ∙ tree.root)
    (path_cases [] path)

-- where each name in the folder is another, a tree is left
tree_gone : (names : Names) (path : List ℕ) → IsTree names → ((q : List ℕ) (node : Node) → q ≢ path → map.get names q ≡ Some node → parent_of q ≢ path) → IsTree (map.remove names path)
tree_gone names path tree empty = record {
  root = gone_root names path tree;
  inside = λ q node is. let other = gone_other names path q node is in folder_past_gone names (parent_of q) path (tree.inside q node other.1) (empty q node other.0 other.1);
}

leads_gone : (names : Names) (path : List ℕ) (n : ℕ) → LeadsToFiles names n → LeadsToFiles (map.remove names path) n
leads_gone names path n leads = record { made = λ q id is. leads.made q id (gone_other names path q (File_node id) is).1 }

-- ---- files and folders

-- a file is no folder
pub file_no_folder : (names : Names) (path : List ℕ) (id : ℕ) → map.get names path ≡ Some (File_node id) → path ≢ [] → is_folder names path ≡ false
file_no_folder names [] id is some = absurd (some refl)
file_no_folder names (c ∷ path) id is some = ap is_folder_node is

named_of : (names : Names) (path : List ℕ) (node : Node) → IsTree names → map.get names path ≡ Some node → path ≢ []
named_of names path node tree is same = let clash : None ≡ Some node = sym tree.root ∙ ap (map.get names) (sym same) ∙ is in cc

found_node : (o : Option Node) → is_some (id_of o) ≡ true → (id : ℕ) × (o ≡ Some (File_node id))
found_node None is = cc
found_node (Some Folder_node) is = cc
found_node (Some (File_node id)) is = (id, refl)

allowed : (b : Bool) (e : DiskError) → cond b None (Some e) ≡ None → b ≡ true
allowed true e is = refl
allowed false e is = cc

forbidden : (b : Bool) (e : DiskError) → cond b (Some e) None ≡ None → b ≡ false
forbidden true e is = cc
forbidden false e is = refl

first_none : (a b : Option DiskError) → or_else a b ≡ None → a ≡ None
first_none None b is = refl
first_none (Some e) b is = cc

second_none : (a b : Option DiskError) → or_else a b ≡ None → b ≡ None
second_none None b is = is
second_none (Some e) b is = cc

-- the file that a call which isn't refused finds
pub file_found : (s : State) (path : List ℕ) → no_file path s ≡ None → (id : ℕ) × (map.get (names_now s) path ≡ Some (File_node id))
file_found s path is = found_node (map.get (names_now s) path) (allowed (is_some (file_at s path)) NotThere is)

-- ---- unlink, and removal of a folder

apart_by : (b c : Bool) → b ≡ true → c ≡ false → b ≢ c
apart_by b c holds fails same = let clash : true ≡ false = sym holds ∙ same ∙ fails in cc

tree_gone_file : (names : Names) (path : List ℕ) (id : ℕ) → IsTree names → map.get names path ≡ Some (File_node id) → IsTree (map.remove names path)
tree_gone_file names path id tree file = tree_gone names path tree (λ q node ne is same.
    apart_by (is_folder names (parent_of q)) (is_folder names path) (tree.inside q node is) (file_no_folder names path id file (named_of names path (File_node id) tree file)) (ap (is_folder names) same))

-- a path is the folder that it stands in, a slash and its last part
pub cut_is : (path front : List ℕ) → cut_last path ≡ Some front → (rest : List ℕ) × (path ≡ front ++ 47 ∷ rest)
cut_is [] front is = cc
cut_is (c ∷ path) front is = by_rest (cut_last path) (cut_is path) is where
  slash : (b : Bool) → (c == 47) ≡ b → cond b (Some []) None ≡ Some front → (rest : List ℕ) × (c ∷ path ≡ front ++ 47 ∷ rest)
  slash true e h = (path, ap (λ (n : ℕ). n ∷ path) (number c 47 e) ∙ ap (λ (l : List ℕ). l ++ 47 ∷ path) (same_some [] front h))
  slash false e h = cc

  by_rest : (o : Option (List ℕ)) → ((f : List ℕ) → o ≡ Some f → (rest : List ℕ) × (path ≡ f ++ 47 ∷ rest)) → put_before c o ≡ Some front → (rest : List ℕ) × (c ∷ path ≡ front ++ 47 ∷ rest)
  by_rest None within h = slash (c == 47) refl h
  by_rest (Some f) within h = let part = within f refl in (part.0, ap (λ (l : List ℕ). c ∷ l) part.1 ∙ ap (λ (l : List ℕ). l ++ 47 ∷ part.0) (same_some (c ∷ f) front h))

-- the folder is the root, or what stands before the last slash
pub parent_cases : (path : List ℕ) → (parent_of path ≡ []) ⊎ ((rest : List ℕ) × (path ≡ parent_of path ++ 47 ∷ rest))
parent_cases path = by_cut (cut_last path) refl where
  by_cut : (o : Option (List ℕ)) → cut_last path ≡ o → (or_root o ≡ []) ⊎ ((rest : List ℕ) × (path ≡ or_root o ++ 47 ∷ rest))
  by_cut None e = inl refl
  by_cut (Some front) e = inr (cut_is path front e)

empty_folder : (names : Names) (path q rest : List ℕ) (node : Node) → is_occupied names path ≡ false → q ≡ path ++ 47 ∷ rest → map.get names q ≡ Some node → path ≡ []
empty_folder names [] q rest node empty is there = refl
empty_folder names (c ∷ path) q rest node empty is there =
    let clash : true ≡ false = sym (occupied_by names c path rest node (ap (map.get names) (sym is) ∙ there)) ∙ empty in cc

tree_gone_folder : (names : Names) (path : List ℕ) → IsTree names → path ≢ [] → is_occupied names path ≡ false → IsTree (map.remove names path)
tree_gone_folder names path tree some empty = tree_gone names path tree (λ q node ne is same. ⊎_elim
    (λ root. some (sym same ∙ root))
    (λ part. some (empty_folder names path q part.0 node empty (part.1 ∙ ap (λ (l : List ℕ). l ++ 47 ∷ part.0) same) is))
    (parent_cases q))

-- the root has no name that could go
gone_nothing : (names : Names) → IsTree names → map.remove names [] ≡ names
gone_nothing names tree = map.same_map nat_list_cmp_total (map.slice_cmp-IsAntisymmetric map.nat_cmp-IsAntisymmetric) (map.remove names []) names (λ q. ⊎_elim
    (λ same. ap (map.get (map.remove names [])) same ∙ get_gone names [] ∙ sym (ap (map.get names) same ∙ tree.root))
    (λ ne. get_gone_other names q [] ne)
    (path_cases q []))

lawful_gone : (s : State) (path : List ℕ) → IsLawful s → IsTree (map.remove (names_now s) path) → IsLawful (after s (unnamed path s))
lawful_gone s path lawful tree = lawful_op s (Gone path) s.files lawful (omega arith) tree (leads_gone (names_now s) path (length s.files) (lawful_made s lawful))

pub lawful_unlinked : (s : State) (path : List ℕ) → IsLawful s → no_file path s ≡ None → IsLawful (after s (unnamed path s))
lawful_unlinked s path lawful allows =
    let file = file_found s path allows in
    lawful_gone s path lawful (tree_gone_file (names_now s) path file.0 (lawful_now s lawful) file.1)

pub lawful_removed : (s : State) (path : List ℕ) → IsLawful s → no_removal path s ≡ None → IsLawful (after s (unnamed path s))
lawful_removed s path lawful allows =
    let empty = forbidden (is_occupied (names_now s) path) NotEmpty (second_none (no_folder path s) _ allows) in
    ⊎_elim
    (λ root. lawful_gone s path lawful (subst IsTree (sym (ap (map.remove (names_now s)) root ∙ gone_nothing (names_now s) (lawful_now s lawful))) (lawful_now s lawful)))
    (λ some. lawful_gone s path lawful (tree_gone_folder (names_now s) path (lawful_now s lawful) some empty))
    (path_cases path [])

-- ---- link

pub lawful_linked : (s : State) (from to : List ℕ) → IsLawful s → no_link from to s ≡ None → IsLawful (after s (linked from to s))
lawful_linked s from to lawful allows =
    let file = file_found s from (first_none (no_file from s) _ allows) in
    let room = first_none (no_room to s) _ (second_none (no_file from s) _ allows) in
    let lt : file.0 < length s.files = (lawful_made s lawful).made from file.0 file.1 in
    subst (λ (o : Option ℕ). IsLawful (after s (in_found o (λ id. Named (Put to (File_node id)))))) (sym (ap id_of file.1))
    (lawful_put s to (File_node file.0) s.files lawful (omega arith) (λ id is. file_made (length s.files) file.0 id lt is) room)

-- ---- rename of a file

module _ (names : Names) (from to : List ℕ) (id : ℕ) (tree : IsTree names) (file : map.get names from ≡ Some (File_node id)) (there : is_folder names (parent_of to) ≡ true) (no_folder_there : is_folder names to ≡ false) where
  abbrev moved_file : Names
  moved_file = map.insert (map.remove names from) to (File_node id)

  stands_moved_other : (p : List ℕ) → p ≢ from → p ≢ to → stands moved_file p ≡ stands names p
  stands_moved_other [] a b = refl
  stands_moved_other (c ∷ p) a b = get_put_other (map.remove names from) (c ∷ p) to (File_node id) b ∙ get_gone_other names (c ∷ p) from a

  -- folders stay
  folder_stays : (p : List ℕ) → is_folder names p ≡ true → is_folder moved_file p ≡ true
  folder_stays p is = ap is_folder_node (stands_moved_other p
      (λ same. apart_by (is_folder names p) (is_folder names from) is (file_no_folder names from id file (named_of names from (File_node id) tree file)) (ap (is_folder names) same))
      (λ same. apart_by (is_folder names p) (is_folder names to) is no_folder_there (ap (is_folder names) same))) ∙ is

  tree_moved_file : IsTree moved_file
  tree_moved_file = record {
    root = get_put_other (map.remove names from) [] to (File_node id) (λ same. let clash : true ≡ false = ap (is_folder names) same ∙ no_folder_there in cc) ∙ gone_root names from tree;
    inside = λ q node is. ⊎_elim
        (λ same. folder_stays (parent_of q) (ap (λ (p : List ℕ). is_folder names (parent_of p)) same ∙ there))
        (λ ne. folder_stays (parent_of q) (tree.inside q node (gone_other names from q node (sym (get_put_other (map.remove names from) q to (File_node id) ne) ∙ is)).1))
        (path_cases q to);
  }

  leads_moved_file : (n : ℕ) → LeadsToFiles names n → LeadsToFiles moved_file n
  leads_moved_file n leads = record {
    made = λ q k is. ⊎_elim
        (λ same. file_made n id k (leads.made from id file) (same_some (File_node id) (File_node k) (sym (ap (map.get moved_file) same ∙ get_put (map.remove names from) to (File_node id)) ∙ is)))
        (λ ne. leads.made q k (gone_other names from q (File_node k) (sym (get_put_other (map.remove names from) q to (File_node id) ne) ∙ is)).1)
        (path_cases q to);
  }

-- ---- rename of a folder

pub get_named : (names : Names) (p : List ℕ) → [] ≢ p → map.get names p ≡ stands names p
get_named names [] some = absurd (some refl)
get_named names (c ∷ p) some = refl

longer_named : (p rest : List ℕ) → [] ≢ p → [] ≢ p ++ rest
longer_named [] rest some = absurd (some refl)
longer_named (c ∷ p) rest some = λ is. cc

pub tail_cases : (rest : List ℕ) → under [] rest ≡ Some rest → (rest ≡ []) ⊎ ((r : List ℕ) × (rest ≡ 47 ∷ r))
tail_cases [] tail = inl refl
tail_cases (c ∷ rest) tail = by_test (c == 47) refl tail where
  by_test : (b : Bool) → (c == 47) ≡ b → cond b (Some (c ∷ rest)) None ≡ Some (c ∷ rest) → (c ∷ rest ≡ []) ⊎ ((r : List ℕ) × (c ∷ rest ≡ 47 ∷ r))
  by_test true e h = inr (rest, ap (λ (n : ℕ). n ∷ rest) (number c 47 e))
  by_test false e h = cc

-- what stands before the last slash of what follows a folder follows the folder too
tail_cut : (r : List ℕ) → (front : List ℕ) × (cut_last (47 ∷ r) ≡ Some front) × (under [] front ≡ Some front)
tail_cut r = by_cut (cut_last r) refl where
  by_cut : (o : Option (List ℕ)) → cut_last r ≡ o → (front : List ℕ) × (cut_last (47 ∷ r) ≡ Some front) × (under [] front ≡ Some front)
  by_cut None e = ([], ap (put_before 47) e, refl)
  by_cut (Some x) e = (47 ∷ x, ap (put_before 47) e, refl)

under_none : (o : Option (List ℕ)) → is_some o ≡ false → o ≡ None
under_none None is = refl
under_none (Some rest) is = cc

under_root : (to : List ℕ) → [] ≢ to → under to [] ≡ None
under_root [] some = absurd (some refl)
under_root (c ∷ to) some = refl

under_itself : (folder : List ℕ) → under folder folder ≡ Some []
under_itself folder = ap (under folder) (sym (append-nil folder)) ∙ under_append folder [] refl

pub not_itself : (folder path : List ℕ) → under folder path ≡ None → path ≢ folder
not_itself folder path none same = let clash : None ≡ Some [] = sym none ∙ ap (under folder) same ∙ under_itself folder in cc

-- a free name, and what would be inside it
pub free_at : (names : Names) (to rest : List ℕ) → IsTree names → stands names to ≡ None → under [] rest ≡ Some rest → map.get names (to ++ rest) ≡ None
free_at names to rest tree free tail =
    let some = free_named names to free in
    get_named names (to ++ rest) (longer_named to rest some) ∙ ⊎_elim
    (λ none. ap (λ (r : List ℕ). stands names (to ++ r)) none ∙ ap (stands names) (append-nil to) ∙ free)
    (λ part. ap (λ (r : List ℕ). stands names (to ++ r)) part.1 ∙ free_below names to part.0 tree free)
    (tail_cases rest tail)

-- what stands there came with the folder, or stood there
data CameFrom (names : Names) (from to q : List ℕ) (node : Node) : Type 0 where
  With_folder : (rest : List ℕ) → under [] rest ≡ Some rest → q ≡ to ++ rest → map.get names (from ++ rest) ≡ Some node → CameFrom names from to q node
  Stood : under from q ≡ None → under to q ≡ None → map.get names q ≡ Some node → CameFrom names from to q node

came_from : (names : Names) (from to q : List ℕ) (node : Node) → IsTree names → stands names to ≡ None → map.get (renamed from to (Some Folder_node) names) q ≡ Some node → CameFrom names from to q node
came_from names from to q node tree free is = by_to (under to q) refl where
  clash : {B : Type 0} → map.get (renamed from to (Some Folder_node) names) q ≡ None → B
  clash none = let bad : None ≡ Some node = sym none ∙ is in absurd (cc bad)

  by_from : (o : Option (List ℕ)) → under from q ≡ o → under to q ≡ None → CameFrom names from to q node
  by_from None e none = Stood e none (sym (get_renamed from to q (Some Folder_node) names (not_itself from q e, not_itself to q none, e, none)) ∙ is)
  by_from (Some rest) e none = clash (get_left from to q rest e none names)

  by_to : (o : Option (List ℕ)) → under to q ≡ o → CameFrom names from to q node
  by_to None e = by_from (under from q) refl e
  by_to (Some rest) e =
      let tail = under_tail to q rest e in
      let same = under_is to q rest e in
      With_folder rest tail same (sym (ap (map.get (renamed from to (Some Folder_node) names)) same ∙ get_moved from to rest tail names (free_of names to (λ r t. free_at names to r tree free t))) ∙ is)

module _ (names : Names) (f : ℕ) (folder to : List ℕ) (tree : IsTree names) (room : no_room_in names to ≡ None) (outside : is_in (f ∷ folder) (parent_of to) ≡ false) where
  abbrev from : List ℕ
  from = f ∷ folder

  abbrev moved_folder : Names
  moved_folder = renamed from to (Some Folder_node) names

  free : stands names to ≡ None
  free = room_free names to room

  some : [] ≢ to
  some = free_named names to free

  -- a folder outside stays
  folder_outside : (p : List ℕ) → is_folder names p ≡ true → under from p ≡ None → is_folder moved_folder p ≡ true
  folder_outside [] is out = refl
  folder_outside (c ∷ p) is out = by_to (under to (c ∷ p)) refl where
    by_to : (o : Option (List ℕ)) → under to (c ∷ p) ≡ o → is_folder moved_folder (c ∷ p) ≡ true
    by_to None e = ap is_folder_node (get_renamed from to (c ∷ p) (Some Folder_node) names (not_itself from (c ∷ p) out, not_itself to (c ∷ p) e, out, e)) ∙ is
    by_to (Some rest) e =
        let none : map.get names (c ∷ p) ≡ None = ap (map.get names) (under_is to (c ∷ p) rest e) ∙ free_at names to rest tree free (under_tail to (c ∷ p) rest e) in
        let clash : false ≡ true = sym (ap is_folder_node none) ∙ is in cc

  -- a folder inside comes with it
  folder_inside : (rest : List ℕ) → under [] rest ≡ Some rest → is_folder names (from ++ rest) ≡ true → is_folder moved_folder (to ++ rest) ≡ true
  folder_inside rest tail is =
      ap is_folder_node (sym (get_named moved_folder (to ++ rest) (longer_named to rest some)) ∙ get_moved from to rest tail names (free_of names to (λ r t. free_at names to r tree free t))) ∙ is

  -- the folder of what came with it
  with_folder : (q rest : List ℕ) (node : Node) → under [] rest ≡ Some rest → q ≡ to ++ rest → map.get names (from ++ rest) ≡ Some node → is_folder moved_folder (parent_of q) ≡ true
  with_folder q rest node tail same is = ⊎_elim
      (λ none. ap (λ (p : List ℕ). is_folder moved_folder (parent_of p)) (same ∙ ap (λ (r : List ℕ). to ++ r) none ∙ append-nil to)
      ∙ folder_outside (parent_of to) (room_folder names to room) (under_none (under from (parent_of to)) outside))
      (λ part.
      let cut = tail_cut part.0 in
      let inside : is_folder names (from ++ cut.0) ≡ true =
      sym (ap (λ (r : List ℕ). is_folder names (parent_of (from ++ r))) part.1 ∙ ap (λ (o : Option (List ℕ)). is_folder names (or_root o)) (cut_append from (47 ∷ part.0) cut.0 cut.1)) ∙ tree.inside (from ++ rest) node is in
      ap (λ (p : List ℕ). is_folder moved_folder (parent_of p)) (same ∙ ap (λ (r : List ℕ). to ++ r) part.1)
      ∙ ap (λ (o : Option (List ℕ)). is_folder moved_folder (or_root o)) (cut_append to (47 ∷ part.0) cut.0 cut.1)
      ∙ folder_inside cut.0 cut.2 inside)
      (tail_cases rest tail)

  -- the folder of what stood outside is outside
  outside_parent : (q : List ℕ) → under from q ≡ None → under from (parent_of q) ≡ None
  outside_parent q out = ⊎_elim
      (λ root. ap (under from) root)
      (λ part. by_under (under from (parent_of q)) refl part.0 part.1)
      (parent_cases q)
    where
      by_under : (o : Option (List ℕ)) → under from (parent_of q) ≡ o → (r : List ℕ) → q ≡ parent_of q ++ 47 ∷ r → under from (parent_of q) ≡ None
      by_under None e r is = e
      by_under (Some x) e r is = let clash : None ≡ Some (x ++ 47 ∷ r) = sym out ∙ ap (under from) is ∙ under_more from (parent_of q) x r e in absurd (cc clash)

  inside_moved : (q : List ℕ) (node : Node) → CameFrom names from to q node → is_folder moved_folder (parent_of q) ≡ true
  inside_moved q node (With_folder rest tail same is) = with_folder q rest node tail same is
  inside_moved q node (Stood out off is) = folder_outside (parent_of q) (tree.inside q node is) (outside_parent q out)

  tree_moved_folder : IsTree moved_folder
  tree_moved_folder = record {
    root = get_renamed from to [] (Some Folder_node) names (not_itself from [] refl, not_itself to [] (under_root to some), refl, under_root to some) ∙ tree.root;
    inside = λ q node is. inside_moved q node (came_from names from to q node tree free is);
  }

  made_moved : (n : ℕ) → LeadsToFiles names n → (q : List ℕ) (id : ℕ) → CameFrom names from to q (File_node id) → id < n
  made_moved n leads q id (With_folder rest tail same is) = leads.made (from ++ rest) id is
  made_moved n leads q id (Stood out off is) = leads.made q id is

  leads_moved_folder : (n : ℕ) → LeadsToFiles names n → LeadsToFiles moved_folder n
  leads_moved_folder n leads = record { made = λ q id is. made_moved n leads q id (came_from names from to q (File_node id) tree free is) }

-- ---- rename

lawful_moved : (s : State) (from to : List ℕ) (o : Option Node) → IsLawful s → stands (names_now s) from ≡ o → no_move_in from to (names_now s) o ≡ None → IsLawful (after s (renamed_by from to s))
lawful_moved s from to None lawful is allows = cc
lawful_moved s [] to (Some (File_node id)) lawful is allows = cc
lawful_moved s (f ∷ from) to (Some (File_node id)) lawful is allows =
    let tests = file_tests (is_folder (names_now s) (parent_of to)) (is_folder (names_now s) to) allows in
    lawful_op s (Moved (f ∷ from) to) s.files lawful (omega arith)
    (subst (λ (o : Option Node). IsTree (renamed (f ∷ from) to o (names_now s))) (sym is) (tree_moved_file (names_now s) (f ∷ from) to id (lawful_now s lawful) is tests.0 tests.1))
    (subst (λ (o : Option Node). LeadsToFiles (renamed (f ∷ from) to o (names_now s)) (length s.files)) (sym is) (leads_moved_file (names_now s) (f ∷ from) to id (lawful_now s lawful) is tests.0 tests.1 (length s.files) (lawful_made s lawful)))
  where
    file_tests : (b c : Bool) → cond b (cond c (Some Exists) None) (Some NotThere) ≡ None → (b ≡ true) × (c ≡ false)
    file_tests true true h = cc
    file_tests true false h = (refl, refl)
    file_tests false c h = cc
lawful_moved s [] to (Some Folder_node) lawful is allows = cc
lawful_moved s (f ∷ from) to (Some Folder_node) lawful is allows =
    let tests = folder_tests (is_in (f ∷ from) (parent_of to)) (no_room_in (names_now s) to) allows in
    lawful_op s (Moved (f ∷ from) to) s.files lawful (omega arith)
    (subst (λ (o : Option Node). IsTree (renamed (f ∷ from) to o (names_now s))) (sym is) (tree_moved_folder (names_now s) f from to (lawful_now s lawful) tests.1 tests.0))
    (subst (λ (o : Option Node). LeadsToFiles (renamed (f ∷ from) to o (names_now s)) (length s.files)) (sym is) (leads_moved_folder (names_now s) f from to (lawful_now s lawful) tests.1 tests.0 (length s.files) (lawful_made s lawful)))
  where
    folder_tests : (b : Bool) (e : Option DiskError) → cond b (Some NotThere) e ≡ None → (b ≡ false) × (e ≡ None)
    folder_tests true e h = cc
    folder_tests false e h = (refl, h)

pub lawful_renamed : (s : State) (from to : List ℕ) → IsLawful s → no_rename from to s ≡ None → IsLawful (after s (renamed_by from to s))
lawful_renamed s from to lawful allows = lawful_moved s from to (stands (names_now s) from) lawful refl allows

-- ---- syncs

lawful_if_new : {A : Type 0} (loose : List A) (s : State) (c : Change) → IsLawful s → IsLawful (after s c) → IsLawful (after s (where_new loose c))
lawful_if_new [] s c lawful then_lawful = lawful
lawful_if_new (x ∷ loose) s c lawful then_lawful = then_lawful

lawful_sure : (s : State) (o : Option ℕ) → IsLawful s → IsLawful (after s (in_found o Synced))
lawful_sure s None lawful = lawful
lawful_sure s (Some id) lawful = lawful_in_file s sure id lawful

pub lawful_synced : (s : State) (path : List ℕ) → IsLawful s → IsLawful (after s (file_synced path s))
lawful_synced s path lawful = lawful_if_new (file_by (file_at s path) s).unsynced s (in_found (file_at s path) Synced) lawful (lawful_sure s (file_at s path) lawful)

pub lawful_sync_names : (s : State) → IsLawful s → IsLawful (after s Names_synced)
lawful_sync_names s lawful = record {
  trees = λ k. subst (λ (ops : List NameOp). IsTree (all_named ops (names_now s))) (sym (take_none k)) (lawful_now s lawful);
  files = λ k. subst (λ (ops : List NameOp). LeadsToFiles (all_named ops (names_now s)) (length s.files)) (sym (take_none k)) (lawful_made s lawful);
}

pub lawful_names_synced : (s : State) → IsLawful s → IsLawful (after s (names_synced s))
lawful_names_synced s lawful = lawful_if_new s.pending s Names_synced lawful (lawful_sync_names s lawful)

-- ---- images

cut_length : (fs : List FileState) (bs : List (List ℕ)) → AreCut fs bs → length bs ≡ length fs
cut_length [] [] cuts = refl
cut_length [] (b ∷ bs) cuts = absurd cuts
cut_length (f ∷ fs) [] cuts = absurd cuts
cut_length (f ∷ fs) (b ∷ bs) cuts = ap suc (cut_length fs bs cuts.1)

-- the names of an image are a tree
pub image_tree : (s : State) (t : Tree) → IsLawful s → IsImage s t → IsTree t.names
image_tree s t lawful image = subst IsTree (sym image.names) (lawful.trees image.kept)

-- and each leads to a file that the image has
pub image_leads : (s : State) (t : Tree) → IsLawful s → IsImage s t → LeadsToFiles t.names (length t.contents)
image_leads s t lawful image = subst (λ (n : Names). LeadsToFiles n (length t.contents)) (sym image.names) (subst (LeadsToFiles (all_named (take image.kept s.pending) s.durable)) (sym (cut_length s.files t.contents image.files)) (lawful.files image.kept))
