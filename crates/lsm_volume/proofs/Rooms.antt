-- The room that is taken in advance, after each change.
use Rattle.std.specs.Prelude.{◌≡◌, ℕ, zero, suc, ◌+◌, ◌-◌, ◌*◌, ◌<◌, ◌≤◌, Bool, true, false, cond, List, [], ◌∷◌, ◌++◌, length, slice_get, Some, is_some}
use Rattle.std.proofs.Common.{refl, sym, ap, ◌∙◌, arith}
use Rattle.std.specs.Cmp.Lexicographic.{nat_list_cmp_total}
use Rattle.std.specs.FinMap as map
use Rattle.lsm_disk.specs.Names.{Node, Folder_node, File_node, Names, path_cmp, renamed, moved_entries}
use Rattle.lsm_disk.specs.State.{FileState, new_file, longer, sure, in_file, file_or}
use Rattle.lsm_changes.specs.Files.{is_empty}
use Rattle.lsm_changes.specs.Files.{AreLeft}
use Rattle.lsm_volume.specs.Room.{one_if_not, loose_files, newly_loose, HasRoom}

-- ---- loose files

one_at_most : (b : Bool) → one_if_not b ≤ 1
one_at_most true = omega arith
one_at_most false = omega arith

pub loose_new : (fs : List FileState) → loose_files (fs ++ new_file ∷ []) ≡ loose_files fs
loose_new [] = omega arith
loose_new (f ∷ fs) = ap (λ n. one_if_not (is_empty f.unsynced) + n) (loose_new fs)

pub newly_at_most : (b : Bool) (bytes : List ℕ) → newly_loose b bytes ≤ 1
newly_at_most true [] = omega arith
newly_at_most true (x ∷ bytes) = omega arith
newly_at_most false bytes = omega arith

empty_both : (xs ys : List ℕ) → one_if_not (is_empty (xs ++ ys)) ≡ one_if_not (is_empty xs) + newly_loose (is_empty xs) ys
empty_both [] [] = omega arith
empty_both [] (y ∷ ys) = omega arith
empty_both (x ∷ xs) ys = omega arith

pub loose_longer : (more : List ℕ) (fs : List FileState) (id : ℕ) → id < length fs → loose_files (in_file (longer more) id fs) ≡ loose_files fs + newly_loose (is_empty (file_or (slice_get fs id)).unsynced) more
loose_longer more [] id lt = absurd (omega arith)
loose_longer more (f ∷ fs) zero lt = omega (arith, empty_both f.unsynced more)
loose_longer more (f ∷ fs) (suc id) lt = omega (arith, loose_longer more fs id (omega (arith, lt)))

pub loose_sure : (fs : List FileState) (id : ℕ) → id < length fs → false ≡ is_empty (file_or (slice_get fs id)).unsynced → loose_files (in_file sure id fs) + 1 ≡ loose_files fs
loose_sure [] id lt is = absurd (omega arith)
loose_sure (f ∷ fs) zero lt is = omega (arith, ap one_if_not is)
loose_sure (f ∷ fs) (suc id) lt is = omega (arith, loose_sure fs id (omega (arith, lt)) is)

-- ---- how many names there are

one_more : (b : Bool) (n : ℕ) → cond b n (n + 1) ≤ n + 1
one_more true n = omega arith
one_more false n = omega arith

pub len_put : (names : Names) (path : List ℕ) (node : Node) → map.len (map.insert names path node) ≤ map.len names + 1
len_put names path node = omega (arith, map.len-insert nat_list_cmp_total names path node, one_more (map.contains_key names path) (map.len names))

pub len_gone : (names : Names) (path : List ℕ) → is_some (map.get names path) ≡ true → map.len (map.remove names path) + 1 ≡ map.len names
len_gone names path there =
    let less : map.len (map.remove names path) ≡ map.len names - 1 = map.len-remove nat_list_cmp_total names path ∙ ap (λ b. cond b (map.len names - 1) (map.len names)) there in
    omega (arith, less, some_len names (map.len names) path refl there) where
      some_len : (ns : Names) (n : ℕ) (p : List ℕ) → map.len ns ≡ n → is_some (map.get ns p) ≡ true → 1 ≤ n
      some_len ns zero p none h = let clash : false ≡ true = sym (ap is_some (ap (λ (m : Names). map.get m p) (map.empty_of_len ns none) ∙ map.get-empty path_cmp p)) ∙ h in cc
      some_len ns (suc n) p some h = omega arith

entries_len : (es : List (List ℕ × Node)) → map.len (map.from_entries {R = path_cmp} es) ≤ length es
entries_len [] = omega (arith, map.len-empty path_cmp Node)
entries_len (e ∷ es) = omega (arith, len_put (map.from_entries es) e.0 e.1, entries_len es)

moved_length : (from to : List ℕ) (es : List (List ℕ × Node)) → length (moved_entries from to es) ≡ length es
moved_length from to [] = refl
moved_length from to (e ∷ es) = ap suc (moved_length from to es)

-- a rename makes no name more
pub len_moved : (names : Names) (from to : List ℕ) (node : Node) → map.get names from ≡ Some node → map.len (renamed from to (Some node) names) ≤ map.len names
len_moved names from to (File_node id) there =
    omega (arith, len_put (map.remove names from) to (File_node id), len_gone names from (ap is_some there))
len_moved names from to Folder_node there =
    omega (arith, entries_len (moved_entries from to (map.entries names)), moved_length from to (map.entries names), map.len-entries names)

-- ---- the room after each change

module _ (names : Names) (synced : Bool) (files : List FileState) (loose room : ℕ) (has : HasRoom names synced files loose room) where
  -- more room is enough
  pub room_more : (more : ℕ) → room ≤ more → HasRoom names synced files loose more
  room_more more le = record { counted = has.counted; enough = omega (arith, has.enough, le) }

  -- room was taken for a change and all that may follow
  pub room_grown : (other : Names) (b : Bool) (fs : List FileState) (l after taken : ℕ) → l ≡ loose_files fs → map.len other ≤ map.len names + 1 → l ≤ loose + 1 → 2 * map.len names + loose + 5 ≤ taken → taken ≤ after + 1 → HasRoom other b fs l after
  room_grown other b fs l after taken counted few little all left = record { counted = counted; enough = omega (arith, few, little, all, left, one_at_most b) }

  -- a name is taken away
  pub room_gone : (path : List ℕ) (other : Names) (after : ℕ) → other ≡ map.remove names path → is_some (map.get names path) ≡ true → room ≤ after + 1 → HasRoom other false files loose after
  room_gone path other after is there left =
      let fewer : map.len other + 1 ≡ map.len names = ap (λ (n : Names). map.len n + 1) is ∙ len_gone names path there in
      record { counted = has.counted; enough = omega (arith, has.enough, fewer, left) }

  -- a loose file is synced
  pub room_synced : (id l after : ℕ) (fs : List FileState) → fs ≡ in_file sure id files → id < length files → false ≡ is_empty (file_or (slice_get files id)).unsynced → l + 1 ≡ loose → room ≤ after + 1 → HasRoom names synced fs l after
  room_synced id l after fs is lt unsynced less left =
      let sured : loose_files fs + 1 ≡ loose_files files = ap (λ (x : List FileState). loose_files x + 1) is ∙ loose_sure files id lt unsynced in
      record { counted = omega (arith, sured, less, has.counted); enough = omega (arith, has.enough, less, left) }

  -- the names are synced
  pub room_names : (after : ℕ) → synced ≡ false → room ≤ after + 1 → HasRoom names true files loose after
  room_names after unsynced left = record { counted = has.counted; enough = omega (arith, has.enough, ap one_if_not unsynced, left) }

pub room_start : (names : Names) (files : List FileState) (room : ℕ) → names ≡ map.empty → files ≡ [] → HasRoom names true files 0 room
room_start names files room none no_files =
    let no_names : map.len names ≡ 0 = ap (λ (n : Names). map.len n) none ∙ map.len-empty path_cmp Node in
    record { counted = sym (ap loose_files no_files); enough = omega (arith, no_names) }

-- after a crash no file is loose
left_none : (fs gs : List FileState) → AreLeft fs gs → 0 ≡ loose_files gs
left_none [] [] left = refl
left_none [] (g ∷ gs) left = absurd left
left_none (f ∷ fs) [] left = absurd left
left_none (f ∷ fs) (g ∷ gs) left = omega (arith, ap (λ (l : List ℕ). one_if_not (is_empty l)) left.0.all, left_none fs gs left.1)

pub room_left : (names : Names) (fs gs : List FileState) (taken room : ℕ) → AreLeft fs gs → 2 * map.len names + 0 + 5 ≤ taken → taken ≤ room → HasRoom names true gs 0 room
room_left names fs gs taken room left all enough = record { counted = left_none fs gs left; enough = omega (arith, all, enough) }
