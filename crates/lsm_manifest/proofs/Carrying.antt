-- What holds before a run of calls and is kept by each of its changes.
use Rattle.std.specs.Prelude.{◌≢◌, ℕ, ◌≤◌, List, [], ◌∷◌, length}
use Rattle.std.proofs.Common.{inl, inr, sym, ap, subst, ◌∙◌, arith}
use Rattle.std.specs.FinMap as map
use Rattle.lsm_disk.specs.Names.{File_node, NameOp, Put, Gone, Moved, Names}
use Rattle.lsm_disk.specs.State.{State, FileState, Change, Created, Named, Appended, Synced, Names_synced, Idle, after, names_now, new_file, longer, sure}
use Rattle.lsm_disk.specs.Kept.{IsFileNow, OpSpares, Spares}
use Rattle.lsm_disk.proofs.Images.{all_push}
use Rattle.lsm_disk.proofs.Paths.{get_spared}
use Rattle.lsm_disk.proofs.Files.{get_other, get_before}
use Rattle.lsm_publish.specs.Publishing.{Old, No_file, The_file, Not_known, IsOther, Writes, Switches}
use Rattle.lsm_publish.proofs.Olds.{SparesOld}
use Rattle.lsm_manifest.specs.Installing.{Installs, manifest_path, temporary_path, current_path}

-- ---- what the making of a file leaves

pub writes_spare_old : (p path : List ℕ) (id : ℕ) (old : Old) (c : Change) → p ≢ path → IsOther old id → Writes path id c → SparesOld p old c
writes_spare_old p path id No_file (Created other) ne apart is = λ same. ne (same ∙ is)
writes_spare_old p path id No_file (Named op) ne apart is = absurd is
writes_spare_old p path id No_file (Appended j bytes) ne apart is = tt
writes_spare_old p path id No_file (Synced j) ne apart is = tt
writes_spare_old p path id No_file Names_synced ne apart is = tt
writes_spare_old p path id No_file Idle ne apart is = tt
writes_spare_old p path id (The_file k f) (Created other) ne apart is = λ same. ne (same ∙ is)
writes_spare_old p path id (The_file k f) (Named op) ne apart is = absurd is
writes_spare_old p path id (The_file k f) (Appended j bytes) ne apart is = λ same. apart (same ∙ is)
writes_spare_old p path id (The_file k f) (Synced j) ne apart is = λ same. apart (same ∙ is)
writes_spare_old p path id (The_file k f) Names_synced ne apart is = tt
writes_spare_old p path id (The_file k f) Idle ne apart is = tt
writes_spare_old p path id Not_known c ne apart is = tt

-- another file, whose name is perhaps not yet sure
pub now_written : (s : State) (p : List ℕ) (k : ℕ) (f : FileState) (path : List ℕ) (id : ℕ) (c : Change) → p ≢ path → k ≢ id → Writes path id c → IsFileNow s p k f → IsFileNow (after s c) p k f
now_written s p k f path id (Created other) ne apart is now =
    let op : NameOp = Put other (File_node (length s.files)) in
    record {
      named = ap (λ (n : Names). map.get n p) (all_push s.pending op s.durable) ∙ get_spared p op (names_now s) (λ same. ne (same ∙ is)) ∙ now.named;
      file = get_before s.files (new_file ∷ []) k f now.file;
    }
now_written s p k f path id (Named op) ne apart is now = absurd is
now_written s p k f path id (Appended j bytes) ne apart is now = record { named = now.named; file = get_other (longer bytes) s.files k j (λ same. apart (same ∙ is)) ∙ now.file }
now_written s p k f path id (Synced j) ne apart is now = record { named = now.named; file = get_other sure s.files k j (λ same. apart (same ∙ is)) ∙ now.file }
now_written s p k f path id Names_synced ne apart is now = record { named = now.named; file = now.file }
now_written s p k f path id Idle ne apart is now = now

-- ---- what the switch leaves

pub move_spares : (temporary path other : List ℕ) (op : NameOp) → OpSpares other (Moved temporary path) → Switches temporary path (Named op) → OpSpares other op
move_spares temporary path other (Put p node) spares is = absurd is
move_spares temporary path other (Gone p) spares is = absurd is
move_spares temporary path other (Moved from to) spares is =
    subst (λ (x : List ℕ). OpSpares other (Moved x to)) (sym is.0) (subst (λ (y : List ℕ). OpSpares other (Moved temporary y)) (sym is.1) spares)

pub switch_spares : (temporary path other : List ℕ) (k : ℕ) (c : Change) → OpSpares other (Moved temporary path) → Switches temporary path c → Spares other k c
switch_spares temporary path other k (Created p) spares is = absurd is
switch_spares temporary path other k (Named op) spares is = move_spares temporary path other op spares is
switch_spares temporary path other k (Appended j bytes) spares is = absurd is
switch_spares temporary path other k (Synced j) spares is = absurd is
switch_spares temporary path other k Names_synced spares is = tt
switch_spares temporary path other k Idle spares is = tt

pub switch_spares_old : (temporary path other : List ℕ) (old : Old) (c : Change) → OpSpares other (Moved temporary path) → Switches temporary path c → SparesOld other old c
switch_spares_old temporary path other No_file (Created p) spares is = absurd is
switch_spares_old temporary path other No_file (Named op) spares is = move_spares temporary path other op spares is
switch_spares_old temporary path other No_file (Appended j bytes) spares is = absurd is
switch_spares_old temporary path other No_file (Synced j) spares is = absurd is
switch_spares_old temporary path other No_file Names_synced spares is = tt
switch_spares_old temporary path other No_file Idle spares is = tt
switch_spares_old temporary path other (The_file k f) c spares is = switch_spares temporary path other k c spares is
switch_spares_old temporary path other Not_known c spares is = tt

-- ---- the footprint of the whole

pub new_installs : (dir : List ℕ) (number first : ℕ) (c : Change) → Writes (manifest_path dir number) first c → Installs dir number first c
new_installs dir number first (Created other) is = inl is
new_installs dir number first (Named op) is = absurd is
new_installs dir number first (Appended j bytes) is = omega (arith, is)
new_installs dir number first (Synced j) is = omega (arith, is)
new_installs dir number first Names_synced is = tt
new_installs dir number first Idle is = tt

pub temporary_installs : (dir : List ℕ) (number first id : ℕ) (c : Change) → first ≤ id → Writes (temporary_path dir number) id c → Installs dir number first c
temporary_installs dir number first id (Created other) le is = inr is
temporary_installs dir number first id (Named op) le is = absurd is
temporary_installs dir number first id (Appended j bytes) le is = omega (arith, le, is)
temporary_installs dir number first id (Synced j) le is = omega (arith, le, is)
temporary_installs dir number first id Names_synced le is = tt
temporary_installs dir number first id Idle le is = tt

pub switch_installs : (dir : List ℕ) (number first : ℕ) (c : Change) → Switches (temporary_path dir number) (current_path dir) c → Installs dir number first c
switch_installs dir number first (Created other) is = absurd is
switch_installs dir number first (Named op) is = is
switch_installs dir number first (Appended j bytes) is = absurd is
switch_installs dir number first (Synced j) is = absurd is
switch_installs dir number first Names_synced is = tt
switch_installs dir number first Idle is = tt
