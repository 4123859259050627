-- What a name leads to, after each kind of change: for good, and now.
use Rattle.std.specs.Prelude.{◌≡◌, ◌≢◌, ℕ, List, [], ◌∷◌, ◌++◌, length, take, Option, Some, None}
use Rattle.std.proofs.Common.{⊎_elim, refl, sym, ap, subst, ◌∙◌, arith}
use Rattle.std.proofs.lemmas.List.{append-nil, take_all}
use Rattle.std.specs.FinMap as map
use Rattle.lsm_disk.specs.Names.{Node, File_node, NameOp, Put, Names, all_named, id_of}
use Rattle.lsm_disk.specs.State.{FileState, State, Change, Created, Named, Appended, Synced, Names_synced, Idle, after, names_now, longer, sure, new_file, in_file, in_found, where_new, file_at, file_by, file_or, appended, synced_by, file_synced, names_synced}
use Rattle.lsm_disk.specs.Images.{Tree, IsImage}
use Rattle.lsm_disk.specs.Kept.{IsKeptName, IsKeptFile, IsFileNow, OpSpares, Spares, SparesName, InFile}
use Rattle.lsm_disk.proofs.Cuts.{take_none}
use Rattle.lsm_disk.proofs.Files.{get_changed, get_last}
use Rattle.lsm_disk.proofs.Paths.{get_put, get_spared}
use Rattle.lsm_disk.proofs.Images.{take_push, all_push, after_names_synced}

-- ---- a name for good

module _ (s : State) (path : List ℕ) (node : Option Node) (kept : IsKeptName s path node) where
  pub name_now : map.get (names_now s) path ≡ node
  name_now = ap (λ (ops : List NameOp). map.get (all_named ops s.durable) path) (sym (take_all (length s.pending) s.pending (omega arith))) ∙ kept (length s.pending)

  pub name_image : (t : Tree) → IsImage s t → map.get t.names path ≡ node
  name_image t i = ap (λ (n : Names). map.get n path) i.names ∙ kept i.kept

  after_op : (op : NameOp) → OpSpares path op → (k : ℕ) → map.get (all_named (take k (s.pending ++ op ∷ [])) s.durable) path ≡ node
  after_op op spares k = ⊎_elim
      (λ short. ap (λ (ops : List NameOp). map.get (all_named ops s.durable) path) short ∙ kept k)
      (λ long. ap (λ (ops : List NameOp). map.get (all_named ops s.durable) path) long ∙ ap (λ (n : Names). map.get n path) (all_push s.pending op s.durable) ∙ get_spared path op (names_now s) spares ∙ name_now)
      (take_push k s.pending op)

  -- a change that doesn't touch it
  pub name_spared : (c : Change) → SparesName path c → IsKeptName (after s c) path node
  name_spared (Created other) spares = after_op (Put other (File_node (length s.files))) spares
  name_spared (Named op) spares = after_op op spares
  name_spared (Appended k bytes) spares = kept
  name_spared (Synced k) spares = kept
  name_spared Names_synced spares = λ k. ap (λ (ops : List NameOp). map.get (all_named ops (names_now s)) path) (take_none k) ∙ name_now
  name_spared Idle spares = kept

-- ---- the file that a name has now

-- a new file
pub created_now : (s : State) (path : List ℕ) → IsFileNow (after s (Created path)) path (length s.files) new_file
created_now s path =
    let op : NameOp = Put path (File_node (length s.files)) in
    record {
      named = ap (λ (n : Names). map.get n path) (all_push s.pending op s.durable) ∙ get_put (names_now s) path (File_node (length s.files));
      file = get_last s.files new_file;
    }

pub sure_same : (f : FileState) → f.unsynced ≡ [] → f ≡ sure f
sure_same f is = λ i. record { synced = (sym (append-nil f.synced) ∙ ap (λ (l : List ℕ). f.synced ++ l) (sym is)) i; unsynced = is i }

module _ (s : State) (path : List ℕ) (id : ℕ) (f : FileState) (now : IsFileNow s path id f) where
  pub now_at : file_at s path ≡ Some id
  now_at = ap id_of now.named

  changed : (change : FileState → FileState) → IsFileNow (record s { files = in_file change id s.files }) path id (change f)
  changed change = record { named = now.named; file = get_changed change s.files id f now.file }

  pub now_appended : (bytes : List ℕ) → IsFileNow (after s (appended path bytes s)) path id (longer bytes f)
  now_appended bytes = subst (λ (o : Option ℕ). IsFileNow (after s (in_found o (λ k. Appended k bytes))) path id (longer bytes f)) (sym now_at) (changed (longer bytes))

  where_unsynced : (loose : List ℕ) → f.unsynced ≡ loose → IsFileNow (after s (where_new loose (Synced id))) path id (sure f)
  where_unsynced [] is = subst (IsFileNow s path id) (sure_same f is) now
  where_unsynced (b ∷ loose) is = changed sure

  pub now_synced : IsFileNow (after s (file_synced path s)) path id (sure f)
  now_synced =
      subst (λ (o : Option ℕ). IsFileNow (after s (synced_by o s)) path id (sure f)) (sym now_at)
      (subst (λ (g : FileState). IsFileNow (after s (where_new g.unsynced (Synced id))) path id (sure f)) (sym (ap file_or now.file)) (where_unsynced f.unsynced refl))

  -- once the names are synced it is kept
  pub now_kept : IsKeptFile (after s (names_synced s)) path id f
  now_kept = subst (λ (x : State). IsKeptFile x path id f) (sym (after_names_synced s))
      (record { named = λ k. ap (λ (ops : List NameOp). map.get (all_named ops (names_now s)) path) (take_none k) ∙ now.named; file = now.file })

  in_found_file : (o : Option ℕ) → o ≡ Some id → (bytes : List ℕ) → InFile id (in_found o (λ k. Appended k bytes))
  in_found_file None is bytes = tt
  in_found_file (Some k) is bytes = cc

  pub appends_in_now : (bytes : List ℕ) → InFile id (appended path bytes s)
  appends_in_now bytes = in_found_file (file_at s path) now_at bytes

  new_in_file : (o : Option ℕ) (loose : List ℕ) → o ≡ Some id → InFile id (where_new loose (in_found o Synced))
  new_in_file o [] is = tt
  new_in_file None (b ∷ loose) is = tt
  new_in_file (Some k) (b ∷ loose) is = cc

  pub syncs_in_now : InFile id (file_synced path s)
  syncs_in_now = new_in_file (file_at s path) (file_by (file_at s path) s).unsynced now_at

-- the changes of one file leave another, and each name
pub file_spares : (path : List ℕ) (other id : ℕ) (c : Change) → other ≢ id → InFile id c → Spares path other c
file_spares path other id (Created p) ne is = absurd is
file_spares path other id (Named op) ne is = absurd is
file_spares path other id (Appended k bytes) ne is = λ same. ne (same ∙ is)
file_spares path other id (Synced k) ne is = λ same. ne (same ∙ is)
file_spares path other id Names_synced ne is = absurd is
file_spares path other id Idle ne is = tt

pub file_spares_name : (path : List ℕ) (id : ℕ) (c : Change) → InFile id c → SparesName path c
file_spares_name path id (Created p) is = absurd is
file_spares_name path id (Named op) is = absurd is
file_spares_name path id (Appended k bytes) is = tt
file_spares_name path id (Synced k) is = tt
file_spares_name path id Names_synced is = absurd is
file_spares_name path id Idle is = tt
