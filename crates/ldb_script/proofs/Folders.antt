-- The folder of a new store, as an opening fills it.
use Rattle.std.specs.Prelude.{◌≡◌, ◌≢◌, ◌⊎◌, ℕ, zero, suc, ◌+◌, ◌<◌, cond, true, false, All, List, [], ◌∷◌, ◌++◌, length, slice_get, Option, Some, None, is_some, codes}
use Rattle.std.proofs.Common.{inl, inr, ⊎_elim, refl, sym, ap, subst, ◌∙◌, arith, append-nil, length-append}
use Rattle.std.proofs.lemmas.List.Elements.{All-cons, All-head, All-nil, All-tail}
use Rattle.std.specs.FinMap as map
use Rattle.std.specs.Cmp.Lexicographic.{nat_list_cmp_total}
use Rattle.std.specs.Fmt.{digits}
use Rattle.lsm_names.specs.Paths.{or_root, parent_of}
use Rattle.lsm_names.specs.FileNames.{spelled}
use Rattle.lsm_names.specs.Numbers.{padded_decimal}
use Rattle.lsm_names.specs.declared.file_names.FileName.TheVariants.{Log, Manifest, Temp, Current}
use Rattle.lsm_disk.specs.Names.{Node, Folder_node, File_node, NameOp, Put, Gone, Moved, Names, named, renamed, all_named, stands, is_folder, is_folder_node, is_in, under}
use Rattle.lsm_disk.specs.State.{FileState, State, Story, Change, Created, Named, Appended, Synced, Names_synced, Idle, names_now, after, after_all, state_of, new_file, longer, sure, folder_made, appended, file_synced}
use Rattle.lsm_disk.specs.Images.{Tree}
use Rattle.lsm_disk.specs.Goes.{Each, GoesOn, Went}
use Rattle.lsm_disk.specs.Building.{IsWithin}
use Rattle.lsm_disk.specs.Kept.{IsFileNow, IsKeptFile, OpSpares, SparesName, Spares, InFile, Making}
use Rattle.lsm_disk.specs.Tree.{IsLawful}
use Rattle.lsm_disk.specs.Refusals.{no_room, no_room_in, no_file, no_rename, no_move_in}
use Rattle.lsm_disk.specs.declared.calls.DiskError.TheVariants.{NotThere, Exists}
use Rattle.lsm_disk.proofs.Tree.{cut_append, made_free, lawful_created, lawful_folder_made, lawful_appended}
use Rattle.lsm_disk.proofs.Lawful.{lawful_synced}
use Rattle.lsm_disk.proofs.Cuts.{take_none}
use Rattle.lsm_disk.proofs.Paths.{get_put_other, get_gone_other, get_spared, itself, path_cases, path_itself}
use Rattle.lsm_disk.proofs.Built.{within_spares_name}
use Rattle.lsm_disk.proofs.Files.{get_before, get_other}
use Rattle.lsm_disk.proofs.Images.{all_push}
use Rattle.lsm_disk.proofs.Named.{created_now, now_at, name_now, now_appended, now_synced, appends_in_now, syncs_in_now}
use Rattle.lsm_disk.proofs.Now.{names_after, folder_made_stands, stands_past_folder, stands_past_file}
use Rattle.lsm_disk.proofs.Kept.{kept_spared}
use Rattle.lsm_disk.proofs.Runs.{goes_state, kept_goes}
use Rattle.lsm_dest.proofs.Places.{inside_folder, folder_itself, rests_apart}
use Rattle.lsm_publish.specs.Publishing.{Not_known, HasOld, HasOldOrNew, IsMove, Writes, Switches, IsReady, IsPublished}
use Rattle.ldb_script.specs.Stored.{log_path, manifest_path, current_path, temporary_path, first_manifest, first_current, whole_file}
use Rattle.ldb_script.specs.Filling.{IsFreeFolder, AddsFile, Fills, HasOnly, HasManifest, HasTemporary, HasCurrent}
use Rattle.lsm_publish.proofs.Olds.{within}

-- ---- names

pub log_spelled : (folder : List ℕ) → folder ++ 47 ∷ spelled (Log 2) ≡ log_path folder
unfolding spelled padded_decimal digits
log_spelled folder = refl

pub manifest_spelled : (folder : List ℕ) → folder ++ 47 ∷ spelled (Manifest 1) ≡ manifest_path folder
unfolding spelled padded_decimal digits
manifest_spelled folder = refl

pub temporary_spelled : (folder : List ℕ) → folder ++ 47 ∷ spelled (Temp 1) ≡ temporary_path folder
unfolding spelled padded_decimal digits
temporary_spelled folder = refl

pub current_spelled : (folder : List ℕ) → folder ++ 47 ∷ spelled Current ≡ current_path folder
unfolding spelled
current_spelled folder = refl

pub parent_log : (folder : List ℕ) → parent_of (log_path folder) ≡ folder
parent_log folder = ap or_root (cut_append folder (47 ∷ codes "000002.log") [] refl) ∙ append-nil folder

parent_manifest : (folder : List ℕ) → parent_of (manifest_path folder) ≡ folder
parent_manifest folder = ap or_root (cut_append folder (47 ∷ codes "MANIFEST-000001") [] refl) ∙ append-nil folder

parent_temporary : (folder : List ℕ) → parent_of (temporary_path folder) ≡ folder
parent_temporary folder = ap or_root (cut_append folder (47 ∷ codes "000001.dbtmp") [] refl) ∙ append-nil folder

parent_current : (folder : List ℕ) → parent_of (current_path folder) ≡ folder
parent_current folder = ap or_root (cut_append folder (47 ∷ codes "CURRENT") [] refl) ∙ append-nil folder

-- names in one folder differ where their own parts do
pub apart_in : (folder a b : List ℕ) → a ≢ b → folder ++ a ≢ folder ++ b
apart_in [] a b ne is = ne is
apart_in (c ∷ folder) a b ne is = apart_in folder a b ne (tail is) where
  tail : c ∷ folder ++ a ≡ c ∷ folder ++ b → folder ++ a ≡ folder ++ b
  tail e = cc

-- and none is its folder
pub folder_apart : (folder : List ℕ) (c : ℕ) (rest : List ℕ) → folder ≢ folder ++ c ∷ rest
folder_apart folder c rest is = let long : length (folder ++ c ∷ rest) ≡ length folder + length (c ∷ rest) = length-append folder (c ∷ rest) in absurd (omega (arith, ap length is, long))

under_in : (folder a b : List ℕ) → under (folder ++ a) (folder ++ b) ≡ under a b
under_in [] a b = refl
under_in (c ∷ folder) a b = ap (λ t. cond t (under (folder ++ a) (folder ++ b)) None) (itself c) ∙ under_in folder a b

under_folder : (folder : List ℕ) (c : ℕ) (rest : List ℕ) → under (folder ++ c ∷ rest) folder ≡ None
under_folder [] c rest = refl
under_folder (f ∷ folder) c rest = ap (λ t. cond t (under (folder ++ c ∷ rest) folder) None) (itself f) ∙ under_folder folder c rest

-- what stands under a name that is not the root's
pub get_in : (names : Names) (folder : List ℕ) (c : ℕ) (rest : List ℕ) → map.get names (folder ++ c ∷ rest) ≡ stands names (folder ++ c ∷ rest)
get_in names [] c rest = refl
get_in names (f ∷ folder) c rest = refl

-- a name in a folder that stands, where nothing stands under it
pub room : (names : Names) (path dir : List ℕ) → parent_of path ≡ dir → stands names dir ≡ Some Folder_node → stands names path ≡ None → no_room_in names path ≡ None
room names path dir in_dir folder none =
    ap (λ (d : List ℕ). cond (is_folder names d) (cond (is_some (stands names path)) (Some Exists) None) (Some NotThere)) in_dir
    ∙ ap (λ (o : Option Node). cond (is_folder_node o) (cond (is_some (stands names path)) (Some Exists) None) (Some NotThere)) folder
    ∙ ap (λ (o : Option Node). cond (is_some o) (Some Exists) None) none

-- ---- changes in one file

pub names_in_file : (s : State) (id : ℕ) (c : Change) → InFile id c → names_now (after s c) ≡ names_now s
names_in_file s id (Created path) is = absurd is
names_in_file s id (Named op) is = absurd is
names_in_file s id (Appended k bytes) is = refl
names_in_file s id (Synced k) is = refl
names_in_file s id Names_synced is = absurd is
names_in_file s id Idle is = refl

others_in_file : (s : State) (id k : ℕ) (f : FileState) (c : Change) → k ≢ id → InFile id c → slice_get s.files k ≡ Some f → slice_get (after s c).files k ≡ Some f
others_in_file s id k f (Created path) ne is there = absurd is
others_in_file s id k f (Named op) ne is there = absurd is
others_in_file s id k f (Appended j bytes) ne is there = get_other (longer bytes) s.files k j (λ same. ne (same ∙ is)) ∙ there
others_in_file s id k f (Synced j) ne is there = get_other sure s.files k j (λ same. ne (same ∙ is)) ∙ there
others_in_file s id k f Names_synced ne is there = absurd is
others_in_file s id k f Idle ne is there = there

-- ---- a new file

module _ (path bytes : List ℕ) (s : State) where
  abbrev pub made : State
  made = after s (Created path)

  abbrev pub filled : State
  filled = after made (appended path bytes made)

  abbrev pub synced : State
  synced = after filled (file_synced path filled)

  now_made : IsFileNow made path (length s.files) new_file
  now_made = created_now s path

  now_filled : IsFileNow filled path (length s.files) (longer bytes new_file)
  now_filled = now_appended made path (length s.files) new_file now_made bytes

  now_whole : IsFileNow synced path (length s.files) (whole_file bytes)
  now_whole = now_synced filled path (length s.files) (longer bytes new_file) now_filled

  appends : InFile (length s.files) (appended path bytes made)
  appends = appends_in_now made path (length s.files) new_file now_made bytes

  syncs : InFile (length s.files) (file_synced path filled)
  syncs = syncs_in_now filled path (length s.files) (longer bytes new_file) now_filled

  file_there : (t : State) (id : ℕ) (f : FileState) → IsFileNow t path id f → no_file path t ≡ None
  file_there t id f now = ap (λ (o : Option ℕ). cond (is_some o) None (Some NotThere)) (now_at t path id f now)

  pub made_there : no_file path made ≡ None
  made_there = file_there made (length s.files) new_file now_made

  pub filled_there : no_file path filled ≡ None
  filled_there = file_there filled (length s.files) (longer bytes new_file) now_filled

  pub adds : AddsFile path bytes s synced
  adds = record {
    id = length s.files;
    now = now_whole;
    names = λ other ne.
        ap (λ (n : Names). stands n other) (names_in_file filled (length s.files) (file_synced path filled) syncs ∙ names_in_file made (length s.files) (appended path bytes made) appends)
        ∙ stands_past_file s other path ne;
    files = λ k f there.
        let other : k ≢ length s.files = λ same. absurd (omega (arith, within s.files k f there, same)) in
        others_in_file filled (length s.files) k f (file_synced path filled) other syncs
        (others_in_file made (length s.files) k f (appended path bytes made) other appends (get_before s.files (new_file ∷ []) k f there));
    lawful = λ lawful fits. lawful_synced filled path (lawful_appended made path bytes (lawful_created s path lawful fits));
  }

-- ---- through changes that touch neither a name nor its file

name_through : (path : List ℕ) (s : State) (c : Change) → SparesName path c → map.get (names_now (after s c)) path ≡ map.get (names_now s) path
name_through path s (Created other) spares = ap (λ (n : Names). map.get n path) (all_push s.pending (Put other (File_node (length s.files))) s.durable) ∙ get_put_other (names_now s) path other (File_node (length s.files)) spares
name_through path s (Named op) spares = ap (λ (n : Names). map.get n path) (names_after s op) ∙ get_spared path op (names_now s) spares
name_through path s (Appended k bytes) spares = refl
name_through path s (Synced k) spares = refl
name_through path s Names_synced spares = refl
name_through path s Idle spares = refl

pub names_through : (path : List ℕ) (q : Change → Type 0) → ((c : Change) → q c → SparesName path c) → (cs : List Change) (s : State) → Each q cs → map.get (names_now (after_all cs s)) path ≡ map.get (names_now s) path
names_through path q spares [] s each = refl
names_through path q spares (c ∷ cs) s each = names_through path q spares cs (after s c) each.1 ∙ name_through path s c (spares c each.0)

module _ (path : List ℕ) (id : ℕ) (f : FileState) where
  -- the file that a name has now is kept once the names are synced, and the names that are sure are the same before
  abbrev pub KeptOrSame : State → State → Type 0
  KeptOrSame s new = IsKeptFile new path id f ⊎ (IsFileNow new path id f × (new.durable ≡ s.durable))

  once : (s : State) (c : Change) → Spares path id c → IsFileNow s path id f → KeptOrSame s (after s c)
  once s (Created other) spares now = inr (record { named = name_through path s (Created other) spares ∙ now.named; file = get_before s.files (new_file ∷ []) id f now.file }, refl)
  once s (Named op) spares now = inr (record { named = name_through path s (Named op) spares ∙ now.named; file = now.file }, refl)
  once s (Appended k bytes) spares now = inr (record { named = now.named; file = get_other (longer bytes) s.files id k spares ∙ now.file }, refl)
  once s (Synced k) spares now = inr (record { named = now.named; file = get_other sure s.files id k spares ∙ now.file }, refl)
  once s Names_synced spares now = inl (record { named = λ k. ap (λ (ops : List NameOp). map.get (all_named ops (names_now s)) path) (take_none k) ∙ now.named; file = now.file })
  once s Idle spares now = inr (now, refl)

  module _ (q : Change → Type 0) (spares : (c : Change) → q c → Spares path id c) where
    kept_through : (cs : List Change) (s : State) → Each q cs → IsKeptFile s path id f → IsKeptFile (after_all cs s) path id f
    kept_through [] s each kept = kept
    kept_through (c ∷ cs) s each kept = kept_through cs (after s c) each.1 (kept_spared s path id f kept c (spares c each.0))

    pub now_through : (cs : List Change) (s : State) → Each q cs → IsFileNow s path id f → KeptOrSame s (after_all cs s)
    now_through [] s each now = inr (now, refl)
    now_through (c ∷ cs) s each now = ⊎_elim
        (λ kept. inl (kept_through cs (after s c) each.1 kept))
        (λ was. ⊎_elim (λ kept. inl kept) (λ later. inr (later.0, later.1 ∙ was.1)) (now_through cs (after s c) each.1 was.0))
        (once s c (spares c each.0) now)

-- the changes of a run spare a name
pub name_goes : {a z : Story} {P : State → Tree → Type 0} (path : List ℕ) (q : Change → Type 0) → ((c : Change) → q c → SparesName path c) → GoesOn a z q P → map.get (names_now (state_of z)) path ≡ map.get (names_now (state_of a)) path
name_goes {a = a} path q spares g = ap (λ (s : State). map.get (names_now s) path) (goes_state g) ∙ names_through path q spares g.more (state_of a) g.kind

pub stands_same : (new old : Names) (path : List ℕ) → map.get new path ≡ map.get old path → stands new path ≡ stands old path
stands_same new old [] e = refl
stands_same new old (c ∷ path) e = e

-- and each name that is not in the folder
pub elsewhere_goes : {a z : Story} {P : State → Tree → Type 0} (folder : List ℕ) (q : Change → Type 0) → ((c : Change) → q c → IsWithin folder 0 c) → GoesOn a z q P → (path : List ℕ) → is_in folder path ≡ false → stands (names_now (state_of z)) path ≡ stands (names_now (state_of a)) path
elsewhere_goes {a = a} {z = z} folder q within g path out = stands_same (names_now (state_of z)) (names_now (state_of a)) path (name_goes path q (λ c is. within_spares_name folder path 0 c (within c is) out) g)

-- a writing spares each other name, and each other file
module _ (temporary : List ℕ) (id : ℕ) where
  pub writing_spares_name : (other : List ℕ) (c : Change) → other ≢ temporary → Writes temporary id c → SparesName other c
  writing_spares_name other (Created p) ne is = λ same. ne (same ∙ is)
  writing_spares_name other (Named op) ne is = absurd is
  writing_spares_name other (Appended k bytes) ne is = tt
  writing_spares_name other (Synced k) ne is = tt
  writing_spares_name other Names_synced ne is = tt
  writing_spares_name other Idle ne is = tt

  pub writing_spares : (other : List ℕ) (k : ℕ) (c : Change) → other ≢ temporary → k ≢ id → Writes temporary id c → Spares other k c
  writing_spares other k (Created p) ne apart is = λ same. ne (same ∙ is)
  writing_spares other k (Named op) ne apart is = absurd is
  writing_spares other k (Appended j bytes) ne apart is = λ same. apart (same ∙ is)
  writing_spares other k (Synced j) ne apart is = λ same. apart (same ∙ is)
  writing_spares other k Names_synced ne apart is = tt
  writing_spares other k Idle ne apart is = tt

  pub writing_within : (folder : List ℕ) (c : Change) → is_in folder temporary ≡ true → Writes temporary id c → IsWithin folder 0 c
  writing_within folder (Created p) inside is = ap (is_in folder) is ∙ inside
  writing_within folder (Named op) inside is = absurd is
  writing_within folder (Appended k bytes) inside is = omega arith
  writing_within folder (Synced k) inside is = omega arith
  writing_within folder Names_synced inside is = tt
  writing_within folder Idle inside is = tt

-- a switch spares what its rename spares, and each file
module _ (temporary path : List ℕ) where
  move_spares : (other : List ℕ) (op : NameOp) → OpSpares other (Moved temporary path) → IsMove temporary path op → OpSpares other op
  move_spares other (Put p node) spares is = absurd is
  move_spares other (Gone p) spares is = absurd is
  move_spares other (Moved from to) spares is = subst (λ (f : List ℕ). OpSpares other (Moved f to)) (sym is.0) (subst (λ (t : List ℕ). OpSpares other (Moved temporary t)) (sym is.1) spares)

  pub switching_spares_name : (other : List ℕ) (c : Change) → OpSpares other (Moved temporary path) → Switches temporary path c → SparesName other c
  switching_spares_name other (Created p) spares is = absurd is
  switching_spares_name other (Named op) spares is = move_spares other op spares is
  switching_spares_name other (Appended k bytes) spares is = absurd is
  switching_spares_name other (Synced k) spares is = absurd is
  switching_spares_name other Names_synced spares is = tt
  switching_spares_name other Idle spares is = tt

  pub switching_spares : (other : List ℕ) (k : ℕ) (c : Change) → OpSpares other (Moved temporary path) → Switches temporary path c → Spares other k c
  switching_spares other k (Created p) spares is = absurd is
  switching_spares other k (Named op) spares is = move_spares other op spares is
  switching_spares other k (Appended j bytes) spares is = absurd is
  switching_spares other k (Synced j) spares is = absurd is
  switching_spares other k Names_synced spares is = tt
  switching_spares other k Idle spares is = tt

  pub switching_within : (folder : List ℕ) (c : Change) → is_in folder temporary ≡ true → is_in folder path ≡ true → Switches temporary path c → IsWithin folder 0 c
  switching_within folder (Created p) from to is = absurd is
  switching_within folder (Named (Put p node)) from to is = absurd is
  switching_within folder (Named (Gone p)) from to is = absurd is
  switching_within folder (Named (Moved f t)) from to is = (ap (is_in folder) is.0 ∙ from, ap (is_in folder) is.1 ∙ to)
  switching_within folder (Appended k bytes) from to is = absurd is
  switching_within folder (Synced k) from to is = absurd is
  switching_within folder Names_synced from to is = tt
  switching_within folder Idle from to is = tt

  -- the temporary name leads to a file and the other one to nothing, or the file was moved
  abbrev MayHaveMoved : Names → Type 0
  MayHaveMoved names = ((id : ℕ) × (map.get names temporary ≡ Some (File_node id)) × (map.get names path ≡ None)) ⊎ (map.get names temporary ≡ None)

  moved_once : (apart : temporary ≢ path) (names : Names) → MayHaveMoved names → map.get (named (Moved temporary path) names) temporary ≡ None
  moved_once apart names (inl is) =
      ap (λ (o : Option Node). map.get (renamed temporary path o names) temporary) is.1
      ∙ get_put_other (map.remove names temporary) temporary path (File_node is.0) apart
      ∙ map.get-remove nat_list_cmp_total names temporary temporary ∙ ap (λ b. cond b None (map.get names temporary)) (path_itself temporary)
  moved_once apart names (inr none) = ap (λ (o : Option Node). map.get (renamed temporary path o names) temporary) none ∙ none

  module _ (other : List ℕ) (from_ne : other ≢ temporary) (to_ne : other ≢ path) where
    -- a third name leads where it led
    other_once : (names : Names) → MayHaveMoved names → map.get (named (Moved temporary path) names) other ≡ map.get names other
    other_once names (inl is) =
        ap (λ (o : Option Node). map.get (renamed temporary path o names) other) is.1
        ∙ get_put_other (map.remove names temporary) other path (File_node is.0) to_ne ∙ get_gone_other names other temporary from_ne
    other_once names (inr none) = ap (λ (o : Option Node). map.get (renamed temporary path o names) other) none

    other_is : (s : State) (from to : List ℕ) → from ≡ temporary → to ≡ path → MayHaveMoved (names_now s) → map.get (names_now (after s (Named (Moved from to)))) other ≡ map.get (names_now s) other
    other_is s from to from_is to_is m =
        ap (λ (n : Names). map.get n other) (names_after s (Moved from to))
        ∙ (λ i. map.get (named (Moved (from_is i) (to_is i)) (names_now s)) other) ∙ other_once (names_now s) m

    other_step : (s : State) (c : Change) → Switches temporary path c → MayHaveMoved (names_now s) → map.get (names_now (after s c)) other ≡ map.get (names_now s) other
    other_step s (Created p) is m = absurd is
    other_step s (Named (Put p node)) is m = absurd is
    other_step s (Named (Gone p)) is m = absurd is
    other_step s (Named (Moved from to)) is m = other_is s from to is.0 is.1 m
    other_step s (Appended k bytes) is m = absurd is
    other_step s (Synced k) is m = absurd is
    other_step s Names_synced is m = refl
    other_step s Idle is m = refl

  move_is : (s : State) (from to : List ℕ) → temporary ≢ path → from ≡ temporary → to ≡ path → MayHaveMoved (names_now s) → MayHaveMoved (names_now (after s (Named (Moved from to))))
  move_is s from to apart from_is to_is m =
      subst (λ (f : List ℕ). MayHaveMoved (names_now (after s (Named (Moved f to))))) (sym from_is)
      (subst (λ (t : List ℕ). MayHaveMoved (names_now (after s (Named (Moved temporary t))))) (sym to_is)
      (inr (ap (λ (n : Names). map.get n temporary) (names_after s (Moved temporary path)) ∙ moved_once apart (names_now s) m)))

  may_move : (s : State) (c : Change) → temporary ≢ path → Switches temporary path c → MayHaveMoved (names_now s) → MayHaveMoved (names_now (after s c))
  may_move s (Created p) apart is m = absurd is
  may_move s (Named (Put p node)) apart is m = absurd is
  may_move s (Named (Gone p)) apart is m = absurd is
  may_move s (Named (Moved from to)) apart is m = move_is s from to apart is.0 is.1 m
  may_move s (Appended k bytes) apart is m = absurd is
  may_move s (Synced k) apart is m = absurd is
  may_move s Names_synced apart is m = m
  may_move s Idle apart is m = m

  may_move_all : (cs : List Change) (s : State) → temporary ≢ path → Each (Switches temporary path) cs → MayHaveMoved (names_now s) → MayHaveMoved (names_now (after_all cs s))
  may_move_all [] s apart each m = m
  may_move_all (c ∷ cs) s apart each m = may_move_all cs (after s c) apart each.1 (may_move s c apart each.0 m)

  others_all : (other : List ℕ) → temporary ≢ path → other ≢ temporary → other ≢ path → (cs : List Change) (s : State) → Each (Switches temporary path) cs → MayHaveMoved (names_now s) → map.get (names_now (after_all cs s)) other ≡ map.get (names_now s) other
  others_all other apart from to [] s each m = refl
  others_all other apart from to (c ∷ cs) s each m = others_all other apart from to cs (after s c) each.1 (may_move s c apart each.0 m) ∙ other_step other from to s c each.0 m

  pub unmoved : {a z : Story} {P : State → Tree → Type 0} (other : List ℕ) (id : ℕ) → temporary ≢ path → other ≢ temporary → other ≢ path → map.get (names_now (state_of a)) temporary ≡ Some (File_node id) → map.get (names_now (state_of a)) path ≡ None → GoesOn a z (Switches temporary path) P
      → map.get (names_now (state_of z)) other ≡ map.get (names_now (state_of a)) other
  unmoved {a = a} other id apart from to leads free g = ap (λ (s : State). map.get (names_now s) other) (goes_state g) ∙ others_all other apart from to g.more (state_of a) g.kind (inl (id, leads, free))

  -- so where the other name leads to a file in the end, the temporary one leads to nothing
  pub moved : {a z : Story} {P : State → Tree → Type 0} (id k : ℕ) → temporary ≢ path → map.get (names_now (state_of a)) temporary ≡ Some (File_node id) → map.get (names_now (state_of a)) path ≡ None → GoesOn a z (Switches temporary path) P
      → map.get (names_now (state_of z)) path ≡ Some (File_node k) → map.get (names_now (state_of z)) temporary ≡ None
  moved {a = a} {z = z} id k apart leads free g now = ⊎_elim (λ is. absurd (clash is.2)) (λ none. none)
      (subst (λ (s : State). MayHaveMoved (names_now s)) (sym (goes_state g)) (may_move_all g.more (state_of a) apart g.kind (inl (id, leads, free)))) where
        clash : map.get (names_now (state_of z)) path ≡ None → ⊥
        clash none = let both : None ≡ Some (File_node k) = sym none ∙ now in cc

-- ---- the folder and its manifest

-- the folder was made, and each name in it is free
pub record IsEmptyFolder (folder : List ℕ) (s : State) : Type 0 where
  pub lawful : IsLawful s
  pub folder_stands : stands (names_now s) folder ≡ Some Folder_node
  pub free : (rest : List ℕ) → stands (names_now s) (folder ++ 47 ∷ rest) ≡ None

pub folder_room : (folder : List ℕ) (s : State) → parent_of folder ≡ [] → IsFreeFolder folder s → no_room folder s ≡ None
folder_room folder s root free = room (names_now s) folder [] root refl free

pub empty_folder : (folder : List ℕ) (s : State) → parent_of folder ≡ [] → IsLawful s → IsFreeFolder folder s → IsEmptyFolder folder (after s (folder_made folder s))
empty_folder folder s root lawful free = record {
  lawful = lawful_folder_made s folder lawful (folder_room folder s root free);
  folder_stands = folder_made_stands s folder;
  free = λ rest. made_free s folder rest lawful (folder_room folder s root free);
}

pub manifest_room : (folder : List ℕ) (s : State) → IsEmptyFolder folder s → no_room (manifest_path folder) s ≡ None
manifest_room folder s e = room (names_now s) (manifest_path folder) folder (parent_manifest folder) e.folder_stands (e.free (codes "MANIFEST-000001"))

manifest_temporary : (folder : List ℕ) → manifest_path folder ≢ temporary_path folder
manifest_temporary folder = apart_in folder (47 ∷ codes "MANIFEST-000001") (47 ∷ codes "000001.dbtmp") (λ e. cc)

manifest_current : (folder : List ℕ) → manifest_path folder ≢ current_path folder
manifest_current folder = apart_in folder (47 ∷ codes "MANIFEST-000001") (47 ∷ codes "CURRENT") (λ e. cc)

manifest_log : (folder : List ℕ) → manifest_path folder ≢ log_path folder
manifest_log folder = apart_in folder (47 ∷ codes "MANIFEST-000001") (47 ∷ codes "000002.log") (λ e. cc)

temporary_current : (folder : List ℕ) → temporary_path folder ≢ current_path folder
temporary_current folder = apart_in folder (47 ∷ codes "000001.dbtmp") (47 ∷ codes "CURRENT") (λ e. cc)

temporary_log : (folder : List ℕ) → temporary_path folder ≢ log_path folder
temporary_log folder = apart_in folder (47 ∷ codes "000001.dbtmp") (47 ∷ codes "000002.log") (λ e. cc)

current_log : (folder : List ℕ) → current_path folder ≢ log_path folder
current_log folder = apart_in folder (47 ∷ codes "CURRENT") (47 ∷ codes "000002.log") (λ e. cc)

other_way : {A : Type 0} (x y : A) → x ≢ y → y ≢ x
other_way x y ne is = ne (sym is)

pub has_manifest : (folder : List ℕ) (old new : State) → IsEmptyFolder folder old → AddsFile (manifest_path folder) first_manifest old new → HasManifest folder new
has_manifest folder old new e adds = record {
  lawful = adds.lawful e.lawful (manifest_room folder old e);
  folder_stands = adds.names folder (folder_apart folder 47 (codes "MANIFEST-000001")) ∙ e.folder_stands;
  id = adds.id;
  manifest = adds.now;
  only = λ name others.
      let other : folder ++ 47 ∷ name ≢ manifest_path folder = rests_apart folder name (codes "MANIFEST-000001") (All-head (λ (own : List ℕ). name ≢ own) (codes "MANIFEST-000001") [] others) in
      get_in (names_now new) folder 47 name ∙ adds.names (folder ++ 47 ∷ name) other ∙ e.free name;
}

-- outside the folder nothing has changed
pub empty_elsewhere : (folder : List ℕ) (s : State) (path : List ℕ) → is_in folder path ≡ false → stands (names_now (after s (folder_made folder s))) path ≡ stands (names_now s) path
empty_elsewhere folder s path out = stands_past_folder s path folder (λ same. let clash : true ≡ false = sym (folder_itself folder) ∙ sym (ap (is_in folder) same) ∙ out in cc)

pub manifest_elsewhere : (folder : List ℕ) (old new : State) → AddsFile (manifest_path folder) first_manifest old new → (path : List ℕ) → is_in folder path ≡ false → stands (names_now new) path ≡ stands (names_now old) path
manifest_elsewhere folder old new adds path out = adds.names path (λ same. let clash : true ≡ false = sym (inside_folder folder (codes "MANIFEST-000001")) ∙ sym (ap (is_in folder) same) ∙ out in cc)

-- a name that is not among these two
pub neither : (name a b : List ℕ) → name ≢ a → name ≢ b → All (λ (own : List ℕ). name ≢ own) (a ∷ b ∷ [])
neither name a b first second = All-cons (λ (own : List ℕ). name ≢ own) a (b ∷ []) first (All-cons (λ (own : List ℕ). name ≢ own) b [] second (All-nil (λ (own : List ℕ). name ≢ own)))

pub one_of : (name a : List ℕ) → name ≢ a → All (λ (own : List ℕ). name ≢ own) (a ∷ [])
one_of name a first = All-cons (λ (own : List ℕ). name ≢ own) a [] first (All-nil (λ (own : List ℕ). name ≢ own))

-- ---- CURRENT under its temporary name

pub temporary_room : (folder : List ℕ) (s : State) → HasManifest folder s → no_room (temporary_path folder) s ≡ None
temporary_room folder s h = room (names_now s) (temporary_path folder) folder (parent_temporary folder) h.folder_stands
    (sym (get_in (names_now s) folder 47 (codes "000001.dbtmp")) ∙ h.only (codes "000001.dbtmp") (one_of (codes "000001.dbtmp") (codes "MANIFEST-000001") (λ e. cc)))

module _ (folder : List ℕ) (story : Story) {told : Option Story} (h : HasManifest folder (state_of story))
    (w : Went story told (Writes (temporary_path folder) (length (state_of story).files)) (HasOld (current_path folder) Not_known) (IsReady (temporary_path folder) (current_path folder) Not_known (length (state_of story).files) first_current)) where
  abbrev first : ℕ
  first = length (state_of story).files

  abbrev z : State
  z = after_all w.goes.more (state_of story)

  z_is : state_of w.story ≡ z
  z_is = goes_state w.goes

  -- the new file had no durable name before
  renewed : z.durable ≢ (state_of story).durable
  renewed same =
      let named : IsKeptFile z (temporary_path folder) (length (state_of story).files) (whole_file first_current) = subst (λ (x : State). IsKeptFile x (temporary_path folder) (length (state_of story).files) (whole_file first_current)) z_is w.now.new in
      let lt : length (state_of story).files < length (state_of story).files = (h.lawful.files 0).made (temporary_path folder) (length (state_of story).files) (ap (λ (n : Names). map.get n (temporary_path folder)) (sym same) ∙ named.named 0) in
      absurd (omega (arith, lt))

  manifest_kept : IsKeptFile z (manifest_path folder) h.id (whole_file first_manifest)
  manifest_kept = ⊎_elim (λ kept. kept) (λ was. absurd (renewed was.1))
      (now_through (manifest_path folder) h.id (whole_file first_manifest) (Writes (temporary_path folder) (length (state_of story).files))
      (λ c is. writing_spares (temporary_path folder) (length (state_of story).files) (manifest_path folder) h.id c (manifest_temporary folder) other is)
      w.goes.more (state_of story) w.goes.kind h.manifest)
    where
      other : h.id ≢ length (state_of story).files
      other same = absurd (omega (arith, within (state_of story).files h.id (whole_file first_manifest) h.manifest.file, same))

  stays_written : (path : List ℕ) → path ≢ temporary_path folder → map.get (names_now (state_of w.story)) path ≡ map.get (names_now (state_of story)) path
  stays_written path ne = name_goes path (Writes (temporary_path folder) (length (state_of story).files)) (λ c is. writing_spares_name (temporary_path folder) (length (state_of story).files) path c ne is) w.goes

  pub has_temporary : Fills folder (HasTemporary folder) (state_of story) (state_of w.story)
  has_temporary = record {
    has = record {
      folder_stands = stands_same (names_now (state_of w.story)) (names_now (state_of story)) folder (stays_written folder (folder_apart folder 47 (codes "000001.dbtmp"))) ∙ h.folder_stands;
      manifest_id = h.id;
      manifest = subst (λ (x : State). IsKeptFile x (manifest_path folder) h.id (whole_file first_manifest)) (sym z_is) manifest_kept;
      id = length (state_of story).files;
      ready = w.now;
      only = λ name others.
          let manifest = All-head (λ (own : List ℕ). name ≢ own) (codes "MANIFEST-000001") (codes "000001.dbtmp" ∷ []) others in
          let temporary = All-head (λ (own : List ℕ). name ≢ own) (codes "000001.dbtmp") [] (All-tail (λ (own : List ℕ). name ≢ own) (codes "MANIFEST-000001") (codes "000001.dbtmp" ∷ []) others) in
          stays_written (folder ++ 47 ∷ name) (rests_apart folder name (codes "000001.dbtmp") temporary) ∙ h.only name (one_of name (codes "MANIFEST-000001") manifest);
    };
    elsewhere = elsewhere_goes folder (Writes (temporary_path folder) (length (state_of story).files))
        (λ c is. writing_within (temporary_path folder) (length (state_of story).files) folder c (inside_folder folder (codes "000001.dbtmp")) is) w.goes;
  }

-- ---- CURRENT under its name

-- nothing stands in the name's place
current_free : (folder : List ℕ) (s : State) → HasTemporary folder s → map.get (names_now s) (current_path folder) ≡ None
current_free folder s h = h.only (codes "CURRENT") (neither (codes "CURRENT") (codes "MANIFEST-000001") (codes "000001.dbtmp") (λ e. cc) (λ e. cc))

temporary_leads : (folder : List ℕ) (s : State) → (h : HasTemporary folder s) → map.get (names_now s) (temporary_path folder) ≡ Some (File_node h.id)
temporary_leads folder s h = name_now s (temporary_path folder) (Some (File_node h.id)) h.ready.new.named

-- so the file may take it
pub may_switch : (folder : List ℕ) (s : State) → HasTemporary folder s → no_rename (temporary_path folder) (current_path folder) s ≡ None
may_switch folder s h =
    let names : Names = names_now s in
    ap (no_move_in (temporary_path folder) (current_path folder) names) (sym (get_in names folder 47 (codes "000001.dbtmp")) ∙ temporary_leads folder s h)
    ∙ ap (λ (d : List ℕ). cond (is_folder names d) (cond (is_folder names (current_path folder)) (Some Exists) None) (Some NotThere)) (parent_current folder)
    ∙ ap (λ (o : Option Node). cond (is_folder_node o) (cond (is_folder names (current_path folder)) (Some Exists) None) (Some NotThere)) h.folder_stands
    ∙ ap (λ (o : Option Node). cond (is_folder_node o) (Some Exists) None) (sym (get_in names folder 47 (codes "CURRENT")) ∙ current_free folder s h)

-- the rename spares these names
folder_spares : (folder : List ℕ) → OpSpares folder (Moved (temporary_path folder) (current_path folder))
folder_spares folder = (folder_apart folder 47 (codes "000001.dbtmp"), folder_apart folder 47 (codes "CURRENT"), under_folder folder 47 (codes "000001.dbtmp"), under_folder folder 47 (codes "CURRENT"))

manifest_spares : (folder : List ℕ) → OpSpares (manifest_path folder) (Moved (temporary_path folder) (current_path folder))
manifest_spares folder = (
  manifest_temporary folder,
  manifest_current folder,
  under_in folder (47 ∷ codes "000001.dbtmp") (47 ∷ codes "MANIFEST-000001"),
  under_in folder (47 ∷ codes "CURRENT") (47 ∷ codes "MANIFEST-000001"),
)

module _ (folder : List ℕ) (story : Story) {told : Option Story} (h : HasTemporary folder (state_of story))
    (w : Went story told (Switches (temporary_path folder) (current_path folder)) (HasOldOrNew (current_path folder) Not_known first_current) (IsPublished (current_path folder) h.id first_current)) where
  stays_switched : (path : List ℕ) → path ≢ temporary_path folder → path ≢ current_path folder → map.get (names_now (state_of w.story)) path ≡ map.get (names_now (state_of story)) path
  stays_switched path from to =
      unmoved (temporary_path folder) (current_path folder) path h.id (temporary_current folder) from to (temporary_leads folder (state_of story) h) (current_free folder (state_of story) h) w.goes

  temporary_gone : map.get (names_now (state_of w.story)) (temporary_path folder) ≡ None
  temporary_gone = moved (temporary_path folder) (current_path folder) h.id h.id (temporary_current folder) (temporary_leads folder (state_of story) h) (current_free folder (state_of story) h) w.goes
      (name_now (state_of w.story) (current_path folder) (Some (File_node h.id)) w.now.named)

  switched_only : HasOnly (codes "MANIFEST-000001" ∷ codes "CURRENT" ∷ []) folder (state_of w.story)
  switched_only name others =
      let manifest = All-head (λ (own : List ℕ). name ≢ own) (codes "MANIFEST-000001") (codes "CURRENT" ∷ []) others in
      let current = All-head (λ (own : List ℕ). name ≢ own) (codes "CURRENT") [] (All-tail (λ (own : List ℕ). name ≢ own) (codes "MANIFEST-000001") (codes "CURRENT" ∷ []) others) in
      ⊎_elim (λ same. ap (λ (n : List ℕ). map.get (names_now (state_of w.story)) (folder ++ 47 ∷ n)) same ∙ temporary_gone)
      (λ ne. stays_switched (folder ++ 47 ∷ name) (rests_apart folder name (codes "000001.dbtmp") ne) (rests_apart folder name (codes "CURRENT") current)
      ∙ h.only name (neither name (codes "MANIFEST-000001") (codes "000001.dbtmp") manifest ne))
      (path_cases name (codes "000001.dbtmp"))

  pub has_current : Fills folder (HasCurrent folder) (state_of story) (state_of w.story)
  has_current = record {
    has = record {
      folder_stands = stands_same (names_now (state_of w.story)) (names_now (state_of story)) folder (stays_switched folder (folder_apart folder 47 (codes "000001.dbtmp")) (folder_apart folder 47 (codes "CURRENT"))) ∙ h.folder_stands;
      manifest_id = h.manifest_id;
      manifest = kept_goes (manifest_path folder) h.manifest_id (whole_file first_manifest) (Switches (temporary_path folder) (current_path folder))
          (λ c is. switching_spares (temporary_path folder) (current_path folder) (manifest_path folder) h.manifest_id c (manifest_spares folder) is) w.goes h.manifest;
      current_id = h.id;
      current = w.now;
      only = switched_only;
    };
    elsewhere = elsewhere_goes folder (Switches (temporary_path folder) (current_path folder))
        (λ c is. switching_within (temporary_path folder) (current_path folder) folder c (inside_folder folder (codes "000001.dbtmp")) (inside_folder folder (codes "CURRENT")) is) w.goes;
  }

-- ---- the log

pub log_room : (folder : List ℕ) (s : State) → HasCurrent folder s → no_room (log_path folder) s ≡ None
log_room folder s h = room (names_now s) (log_path folder) folder (parent_log folder) h.folder_stands
    (sym (get_in (names_now s) folder 47 (codes "000002.log")) ∙ h.only (codes "000002.log") (neither (codes "000002.log") (codes "MANIFEST-000001") (codes "CURRENT") (λ e. cc) (λ e. cc)))

-- making the log spares the other two
pub making_spares : (path other : List ℕ) (id : ℕ) (c : Change) → other ≢ path → Making path c → Spares other id c
making_spares path other id (Created p) ne is = λ same. ne (same ∙ is)
making_spares path other id (Named op) ne is = absurd is
making_spares path other id (Appended k bytes) ne is = absurd is
making_spares path other id (Synced k) ne is = absurd is
making_spares path other id Names_synced ne is = tt
making_spares path other id Idle ne is = tt

pub making_spares_name : (path other : List ℕ) (c : Change) → other ≢ path → Making path c → SparesName other c
making_spares_name path other (Created p) ne is = λ same. ne (same ∙ is)
making_spares_name path other (Named op) ne is = absurd is
making_spares_name path other (Appended k bytes) ne is = absurd is
making_spares_name path other (Synced k) ne is = absurd is
making_spares_name path other Names_synced ne is = tt
making_spares_name path other Idle ne is = tt

pub making_within : (folder path : List ℕ) (c : Change) → is_in folder path ≡ true → Making path c → IsWithin folder 0 c
making_within folder path (Created p) inside is = ap (is_in folder) is ∙ inside
making_within folder path (Named op) inside is = absurd is
making_within folder path (Appended k bytes) inside is = absurd is
making_within folder path (Synced k) inside is = absurd is
making_within folder path Names_synced inside is = tt
making_within folder path Idle inside is = tt

pub manifest_not_log : (folder : List ℕ) → manifest_path folder ≢ log_path folder
manifest_not_log = manifest_log

pub current_not_log : (folder : List ℕ) → current_path folder ≢ log_path folder
current_not_log = current_log

pub current_not_temporary : (folder : List ℕ) → current_path folder ≢ temporary_path folder
current_not_temporary folder = other_way (temporary_path folder) (current_path folder) (temporary_current folder)
