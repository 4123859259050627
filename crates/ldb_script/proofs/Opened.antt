-- What an opening leaves: a store, or why not.
use Rattle.std.specs.Prelude.{◌≡◌, ◌≢◌, ℕ, ◌≤◌, List, [], ◌∷◌, ◌++◌, slice_get, Option, codes}
use Rattle.std.proofs.Common.{sym, ap, ◌∙◌, arith, append-nil}
use Rattle.std.proofs.lemmas.List.Elements.{All-head, All-tail}
use Rattle.lsm_io.specs.Causes.{Rose}
use Rattle.lsm_frame.specs.Frames.{piece, cut, record_text}
use Rattle.lsm_disk.specs.State.{State, Story, state_of, names_now, bytes_of}
use Rattle.lsm_disk.specs.Images.{Tree}
use Rattle.lsm_disk.specs.Goes.{Went}
use Rattle.lsm_disk.specs.Kept.{IsKeptFile, Making}
use Rattle.lsm_disk.proofs.Files.{same_some}
use Rattle.lsm_disk.proofs.Kept.{kept_at}
use Rattle.lsm_disk.proofs.Runs.{kept_goes}
use Rattle.lsm_wal.specs.Standing.{IsWal}
use Rattle.ldb_script.specs.Stored.{log_path, manifest_path, current_path, first_manifest, first_current, whole_file, IsBeside}
use Rattle.lsm_dest.proofs.Places.{inside_folder, rests_apart}
use Rattle.ldb_script.specs.Filling.{Fills, HasCurrent, HasStore}
use Rattle.ldb_script.proofs.Folders.{making_spares, making_spares_name, making_within, manifest_not_log, current_not_log, neither, folder_apart, stands_same, name_goes, elsewhere_goes}
use Rattle.lsm_frame.proofs.Going.{rose_later}

-- ---- the new log

manifest_some : first_manifest ≢ []
unfolding first_manifest record_text cut piece
manifest_some is = cc

current_some : first_current ≢ []
unfolding first_current
current_some is = cc

-- a file that is not empty is another than the log's
module _ (s : State) (log : List ℕ) (wal : IsWal s log [] 0) where
  beside_new : (path bytes : List ℕ) (id : ℕ) → bytes ≢ [] → IsKeptFile s path id (whole_file bytes) → IsBeside s log path bytes
  beside_new path bytes id some kept = record { id = id; kept = kept; apart = λ same. some (none (same_some wal.id id (sym (kept_at s log wal.id wal.file wal.kept) ∙ same))) } where
    none : wal.id ≡ id → bytes ≡ []
    none same =
        let file : wal.file ≡ whole_file bytes = same_some wal.file (whole_file bytes) (sym wal.kept.file ∙ ap (slice_get s.files) same ∙ kept.file) in
        sym (append-nil bytes) ∙ ap bytes_of (sym file) ∙ wal.text

has_store : (folder : List ℕ) (story : Story) (told : Option Story) (P : State → Tree → Type 0) → HasCurrent folder (state_of story) → (w : Went story told (Making (log_path folder)) P (λ s. IsWal s (log_path folder) [] 0)) → HasStore folder (state_of w.story)
has_store folder story told P h w = record {
  log = w.now;
  folder_stands = stands_same (names_now (state_of w.story)) (names_now (state_of story)) folder
      (name_goes folder (Making (log_path folder)) (λ c is. making_spares_name (log_path folder) folder c (folder_apart folder 47 (codes "000002.log")) is) w.goes) ∙ h.folder_stands;
  only = λ name others.
      let A : List ℕ → Type 0 = λ own. name ≢ own in
      let manifest = All-head A (codes "MANIFEST-000001") (codes "CURRENT" ∷ codes "000002.log" ∷ []) others in
      let rest = All-tail A (codes "MANIFEST-000001") (codes "CURRENT" ∷ codes "000002.log" ∷ []) others in
      let current = All-head A (codes "CURRENT") (codes "000002.log" ∷ []) rest in
      let log = All-head A (codes "000002.log") [] (All-tail A (codes "CURRENT") (codes "000002.log" ∷ []) rest) in
      name_goes (folder ++ 47 ∷ name) (Making (log_path folder)) (λ c is. making_spares_name (log_path folder) (folder ++ 47 ∷ name) c (rests_apart folder name (codes "000002.log") log) is) w.goes
      ∙ h.only name (neither name (codes "MANIFEST-000001") (codes "CURRENT") manifest current);
  files = record {
    manifest = beside_new (state_of w.story) (log_path folder) w.now (manifest_path folder) first_manifest h.manifest_id manifest_some
        (kept_goes (manifest_path folder) h.manifest_id (whole_file first_manifest) (Making (log_path folder)) (λ c is. making_spares (log_path folder) (manifest_path folder) h.manifest_id c (manifest_not_log folder) is) w.goes h.manifest);
    current = beside_new (state_of w.story) (log_path folder) w.now (current_path folder) first_current h.current_id current_some
        (kept_goes (current_path folder) h.current_id (whole_file first_current) (Making (log_path folder)) (λ c is. making_spares (log_path folder) (current_path folder) h.current_id c (current_not_log folder) is) w.goes h.current);
  };
}

pub fills_store : (folder : List ℕ) (story : Story) (told : Option Story) (P : State → Tree → Type 0) → HasCurrent folder (state_of story) → (w : Went story told (Making (log_path folder)) P (λ s. IsWal s (log_path folder) [] 0)) → Fills folder (HasStore folder) (state_of story) (state_of w.story)
fills_store folder story told P h w = record {
  has = has_store folder story told P h w;
  elsewhere = elsewhere_goes folder (Making (log_path folder)) (λ c is. making_within folder (log_path folder) c (inside_folder folder (codes "000002.log")) is) w.goes;
}
