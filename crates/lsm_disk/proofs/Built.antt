-- What the building of a folder leaves of all else, and what each image has of the folder.
use Rattle.std.specs.Prelude.{◌≡◌, ◌≢◌, ℕ, ◌<◌, ◌==◌, cond, true, false, List, [], ◌∷◌, ◌++◌, take, is_some, Option, Some, None}
use Rattle.std.proofs.Common.{inl, inr, ⊎_elim, refl, sym, ap, ◌∙◌, arith, append_assoc}
use Rattle.std.proofs.lemmas.List.Elements.{All-weaker}
use Rattle.std.specs.FinMap as map
use Rattle.lsm_names.specs.FileNames.{spelled}
use Rattle.lsm_names.specs.declared.file_names.FileName.TheVariants.{Current}
use Rattle.lsm_disk.specs.Names.{Names, NameOp, Put, Gone, Moved, all_named, stands, is_in, under}
use Rattle.lsm_disk.specs.State.{State, Change, Created, Named, Appended, Synced, Names_synced, Idle}
use Rattle.lsm_disk.specs.Images.{Tree, IsImage}
use Rattle.lsm_disk.specs.Tree.{IsLawful}
use Rattle.lsm_disk.specs.Kept.{IsKeptName, OpSpares, Spares, SparesName}
use Rattle.lsm_disk.specs.Dest.{path_in}
use Rattle.lsm_disk.specs.Building.{Part, sealed, NamesWithin, IsWithin, LacksCurrent, HasNoCurrent, HasNewFolder, MayHaveFolder, HasPart, IsWhole, IsKeptPart, IsBuilt}
use Rattle.lsm_disk.proofs.Cuts.{cut_sure}
use Rattle.lsm_disk.proofs.Paths.{under_append, under_tail}
use Rattle.lsm_disk.proofs.Named.{name_image}
use Rattle.lsm_disk.proofs.Kept.{kept_image}
use Rattle.lsm_disk.proofs.Moves.{under_is}
use Rattle.lsm_disk.proofs.Tree.{free_below}

-- ---- what is inside and what is not

pub tail_append : (r rest : List ℕ) → under [] r ≡ Some r → under [] rest ≡ Some rest → under [] (r ++ rest) ≡ Some (r ++ rest)
tail_append [] rest tail more = more
tail_append (c ∷ r) rest tail more = elim (c == 47) as (λ b. cond b (Some (c ∷ r)) None ≡ Some (c ∷ r) → cond b (Some (c ∷ r ++ rest)) None ≡ Some (c ∷ r ++ rest)) [ true ↦ λ h. refl | false ↦ λ h. cc ] tail

-- what is inside a path that is inside the folder is inside the folder
pub in_trans : (folder p path rest : List ℕ) → is_in folder p ≡ true → under p path ≡ Some rest → is_in folder path ≡ true
in_trans [] p path rest inside is = refl
in_trans (c ∷ folder) p path rest inside is = by_rest (under (c ∷ folder) p) refl inside where
  by_rest : (o : Option (List ℕ)) → under (c ∷ folder) p ≡ o → is_some o ≡ true → is_in (c ∷ folder) path ≡ true
  by_rest None e some = cc
  by_rest (Some r) e some =
      let same : path ≡ (c ∷ folder) ++ (r ++ rest) = under_is p path rest is ∙ ap (λ (l : List ℕ). l ++ rest) (under_is (c ∷ folder) p r e) ∙ append_assoc (c ∷ folder) r rest in
      ap (λ (l : List ℕ). is_some (under (c ∷ folder) l)) same ∙ ap is_some (under_append (c ∷ folder) (r ++ rest) (tail_append r rest (under_tail (c ∷ folder) p r e) (under_tail p path rest is)))

pub not_in : (folder path other : List ℕ) → is_in folder path ≡ false → is_in folder other ≡ true → path ≢ other
not_in folder path other out inside same = let clash : false ≡ true = sym out ∙ ap (is_in folder) same ∙ inside in cc

not_under : (folder path other : List ℕ) → is_in folder path ≡ false → is_in folder other ≡ true → under other path ≡ None
not_under folder path other out inside = by_rest (under other path) refl where
  by_rest : (o : Option (List ℕ)) → under other path ≡ o → o ≡ None
  by_rest None e = refl
  by_rest (Some rest) e = let clash : false ≡ true = sym out ∙ in_trans folder other path rest inside e in cc

op_spares : (folder path : List ℕ) (op : NameOp) → NamesWithin folder op → is_in folder path ≡ false → OpSpares path op
op_spares folder path (Put other node) within out = not_in folder path other out within.0
op_spares folder path (Gone other) within out = not_in folder path other out within
op_spares folder path (Moved from to) within out = (not_in folder path from out within.0, not_in folder path to out within.1, not_under folder path from out within.0, not_under folder path to out within.1)

pub within_spares_name : (folder path : List ℕ) (first : ℕ) (c : Change) → IsWithin folder first c → is_in folder path ≡ false → SparesName path c
within_spares_name folder path first (Created other) within out = not_in folder path other out within
within_spares_name folder path first (Named op) within out = op_spares folder path op within out
within_spares_name folder path first (Appended id bytes) within out = tt
within_spares_name folder path first (Synced id) within out = tt
within_spares_name folder path first Names_synced within out = tt
within_spares_name folder path first Idle within out = tt

pub within_spares : (folder path : List ℕ) (first id : ℕ) (c : Change) → IsWithin folder first c → is_in folder path ≡ false → id < first → Spares path id c
within_spares folder path first id (Created other) within out lt = not_in folder path other out within
within_spares folder path first id (Named op) within out lt = op_spares folder path op within out
within_spares folder path first id (Appended k bytes) within out lt = λ same. absurd (omega (arith, within, lt, same))
within_spares folder path first id (Synced k) within out lt = λ same. absurd (omega (arith, within, lt, same))
within_spares folder path first id Names_synced within out lt = tt
within_spares folder path first id Idle within out lt = tt

-- ---- the images of a folder

pub folder_lacks : (start s : State) (folder : List ℕ) (t : Tree) → MayHaveFolder start folder s t → HasNoCurrent start folder s t
folder_lacks start s folder t may = ⊎_elim (λ (i : IsImage start t). inl (i.kept, i.names)) (λ (new : HasNewFolder start folder t). inr (new.empty (spelled Current))) may

-- a name in a folder is no root
pub get_inside : (names : Names) (folder rest : List ℕ) → map.get names (folder ++ 47 ∷ rest) ≡ stands names (folder ++ 47 ∷ rest)
get_inside names [] rest = refl
get_inside names (c ∷ folder) rest = refl

pub free_stands : (names : Names) (folder : List ℕ) → folder ≢ [] → map.get names folder ≡ None → stands names folder ≡ None
free_stands names [] some free = absurd (some refl)
free_stands names (c ∷ folder) some free = free

pub free_lacks : (start : State) (folder : List ℕ) (names : Names) → IsLawful start → folder ≢ [] → IsKeptName start folder None → LacksCurrent start folder names → map.get names (path_in folder Current) ≡ None
free_lacks start folder names lawful some free (inr none) = none
free_lacks start folder names lawful some free (inl was) =
    let before : Names = all_named (take was.0 start.pending) start.durable in
    ap (λ (n : Names). map.get n (path_in folder Current)) was.1 ∙ get_inside before folder (spelled Current)
    ∙ free_below before folder (spelled Current) (lawful.trees was.0) (free_stands before folder some (free was.0))

pub part_image : (s : State) (folder : List ℕ) (t : Tree) (part : Part) → IsImage s t → IsKeptPart folder s part → HasPart folder t part
part_image s folder t part i kept =
    let held = kept_image s (path_in folder part.name) kept.id (sealed part.bytes) kept.file t i in
    held.is ∙ ap (λ (l : List ℕ). Some l) (cut_sure (record { synced = []; unsynced = part.bytes }) held.bytes held.cut)

pub built_whole : (s : State) (folder : List ℕ) (parts : List Part) (t : Tree) → IsBuilt folder parts s → IsImage s t → IsWhole folder parts t
built_whole s folder parts t built i = record {
  stands = name_image s folder _ built.stands t i;
  each = All-weaker (IsKeptPart folder s) (HasPart folder t) (λ part kept. part_image s folder t part i kept) parts built.each;
  only = λ rest others. name_image s (folder ++ 47 ∷ rest) None (built.only rest others) t i;
}
