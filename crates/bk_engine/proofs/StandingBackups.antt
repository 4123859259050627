-- A backup without tables stands for the batches of its log.
use Rattle.std.specs.Prelude.{◌≡◌, ℕ, ◌<◌, ◌==◌, Bool, true, false, cond, List, [], ◌∷◌, All, Option, Some, None}
use Rattle.std.proofs.Common.{refl, sym, ap, subst, ◌∙◌, arith}
use Rattle.std.proofs.lemmas.Bool.Decides.{nat_tests}
use Rattle.std.specs.Ordering.{nat_cmp, eq_by_cmp}
use Rattle.std.specs.FinMap as finmap
use Rattle.lsm_bytes.specs.Checksum.{crc32c}
use Rattle.lsm_names.specs.declared.file_names.FileName.{FileName}
use Rattle.lsm_names.specs.declared.file_names.FileName.TheVariants.{Log, Manifest, Current}
use Rattle.lsm_rows.specs.declared.operations.Op.{Op}
use Rattle.lsm_rows.specs.Replay.{replayed, sequence_after}
use Rattle.lsm_disk.specs.State.{State}
use Rattle.lsm_disk.specs.Images.{Tree, IsImage}
use Rattle.lsm_disk.proofs.Paths.{itself}
use Rattle.lsm_wal.specs.Batches.{IsLogged, wal_text, in_sequence}
use Rattle.lsm_wal.proofs.Fronts.{whole_reads}
use Rattle.lsm_folder.specs.Names.{name_cmp, names_total, current_text}
use Rattle.lsm_folder.specs.Files.{Item, A_file, Files, bytes_in, file_at}
use Rattle.lsm_folder.specs.Manifests.{first_edit, manifest_text}
use Rattle.lsm_folder.specs.Needed.{HasOneLog, Stands}
use Rattle.lsm_folder.proofs.NameLemmas.{and_true}
use Rattle.lsm_folder.proofs.StandingLemmas.{stands_for}
use Rattle.bk_meta.specs.declared.backup_files.BackupFile.{BackupFile}
use Rattle.bk_meta.specs.declared.backup_files.BackupFile.TheVariants.{Private}
use Rattle.bk_meta.specs.declared.metas.MetaFile.{MetaFile}
use Rattle.bk_meta.specs.BackupFiles.{IsBackupFile}
use Rattle.bk_tree.specs.Holds.{◌>>=◌, only_if, store_name, is_right, entry_of, entries_of, folder_of, held}
use Rattle.bk_tree.specs.Kept.{IsKeptBackup}
use Rattle.bk_tree.specs.Sound.{IsSoundBackup}
use Rattle.bk_tree.proofs.Keeping.{meta_in_image, held_in_image}
use Rattle.bk_restore.proofs.Holding.{entry_steps, entries_steps, folder_steps, folder_by}
use Rattle.bk_engine.specs.Creating.{own_file, own_files}
use Rattle.bk_engine.specs.Standing.{plain_texts, backup_meta, HasNoLog}
use Rattle.bk_engine.proofs.PlainMetas.{found}
use Rattle.bk_engine.proofs.StandingEmpty.{empty_stands}

abbrev Entries : Type 0
Entries = List (FileName × Item)

-- ---- the folder that own files make

module _ (id : ℕ) where
  own_entry : (name : FileName) (bytes : List ℕ) → IsBackupFile (Private name) → entry_of id (own_file id name bytes) bytes ≡ Some (name, A_file bytes)
  own_entry name bytes known =
      let file : MetaFile = own_file id name bytes in
      entry_steps id file bytes
      ∙ ap (λ (o : Option BackupFile). o >>= λ (which : BackupFile). only_if (is_right file which bytes) (store_name which, A_file bytes)) (found id name known)
      ∙ ap (λ (test : Bool). only_if test (name, A_file bytes)) (and_true (crc32c bytes == crc32c bytes) true (itself (crc32c bytes)) refl)

  no_entries : entries_of id [] [] ≡ Some []
  unfolding entries_of
  no_entries = refl

  with_own : (name : FileName) (bytes : List ℕ) (names : List FileName) (texts : List (List ℕ)) (entries : Entries) → IsBackupFile (Private name) → entries_of id (own_files id names texts) texts ≡ Some entries
      → entries_of id (own_files id (name ∷ names) (bytes ∷ texts)) (bytes ∷ texts) ≡ Some ((name, A_file bytes) ∷ entries)
  with_own name bytes names texts entries known is =
      entries_steps id (own_file id name bytes) (own_files id names texts) bytes texts
      ∙ λ i. own_entry name bytes known i >>= λ (entry : FileName × Item). is i >>= λ (more : Entries). Some (entry ∷ more)

  -- `CURRENT` and the manifest
  two : (current manifest : List ℕ) → entries_of id (own_files id (Current ∷ Manifest 1 ∷ []) (current ∷ manifest ∷ [])) (current ∷ manifest ∷ []) ≡ Some ((Current, A_file current) ∷ (Manifest 1, A_file manifest) ∷ [])
  two current manifest =
      with_own Current current (Manifest 1 ∷ []) (manifest ∷ []) ((Manifest 1, A_file manifest) ∷ []) tt
      (with_own (Manifest 1) manifest [] [] [] refl no_entries)

  -- and a log
  three : (log current manifest : List ℕ) → entries_of id (own_files id (Log 2 ∷ Current ∷ Manifest 1 ∷ []) (log ∷ current ∷ manifest ∷ [])) (log ∷ current ∷ manifest ∷ [])
      ≡ Some ((Log 2, A_file log) ∷ (Current, A_file current) ∷ (Manifest 1, A_file manifest) ∷ [])
  three log current manifest = with_own (Log 2) log (Current ∷ Manifest 1 ∷ []) (current ∷ manifest ∷ []) ((Current, A_file current) ∷ (Manifest 1, A_file manifest) ∷ []) refl (two current manifest)

-- ---- what stands under its names

abbrev both_entries : Entries
both_entries = (Current, A_file (current_text 1)) ∷ (Manifest 1, A_file (manifest_text (first_edit ∷ []))) ∷ []

abbrev all_entries : List ℕ → Entries
all_entries text = (Log 2, A_file text) ∷ both_entries

at_name : (entries : Entries) (name : FileName) → file_at (finmap.from_entries entries) name ≡ bytes_in (finmap.find name_cmp name entries)
at_name entries name = ap bytes_in (finmap.get-from_entries names_total entries name)

has_no_log : HasNoLog (finmap.from_entries both_entries)
has_no_log = record {
  current = at_name both_entries Current;
  manifest = at_name both_entries (Manifest 1);
  no_log = λ number high. at_name both_entries (Log number);
}

other_log : (number : ℕ) → 2 < number → eq_by_cmp nat_cmp number 2 ≡ false
other_log number high = grind (arith, nat_tests)

has_one_log : (text : List ℕ) → HasOneLog (finmap.from_entries (all_entries text)) text
has_one_log text = record {
  current = at_name (all_entries text) Current;
  manifest = at_name (all_entries text) (Manifest 1);
  log = at_name (all_entries text) (Log 2);
  no_other = λ number high. at_name (all_entries text) (Log number) ∙ ap (λ (b : Bool). bytes_in (cond b (Some (A_file text)) None)) (other_log number high);
}

-- ---- what the backup stands for

-- the backup of these batches makes a folder that stands for them
abbrev pub BackupStands : ℕ → ℕ → ℕ → List (List Op) → Type 0
BackupStands id timestamp sequence accepted = (files : Files) × (folder_of (backup_meta id timestamp sequence accepted) (plain_texts accepted) ≡ Some files)
    × Stands files (replayed finmap.empty accepted) (sequence_after 0 accepted)

pub backup_stands : (id timestamp sequence : ℕ) (accepted : List (List Op)) → All IsLogged (in_sequence 1 accepted) → BackupStands id timestamp sequence accepted
backup_stands id timestamp sequence [] each = (
  finmap.from_entries both_entries,
  folder_steps (backup_meta id timestamp sequence []) (plain_texts []) ∙ ap folder_by (two id (current_text 1) (manifest_text (first_edit ∷ []))),
  empty_stands (finmap.from_entries both_entries) has_no_log,
)
backup_stands id timestamp sequence (ops ∷ batches) each =
    let text : List ℕ = wal_text (in_sequence 1 (ops ∷ batches)) in (
      finmap.from_entries (all_entries text),
      folder_steps (backup_meta id timestamp sequence (ops ∷ batches)) (plain_texts (ops ∷ batches)) ∙ ap folder_by (three id text (current_text 1) (manifest_text (first_edit ∷ []))),
      stands_for (finmap.from_entries (all_entries text)) text (has_one_log text) (ops ∷ batches) None (whole_reads 1 (ops ∷ batches) each),
    )

-- ---- such a backup in an image

module _ (s : State) (id timestamp sequence : ℕ) (accepted : List (List Op)) (t : Tree) (each : All IsLogged (in_sequence 1 accepted)) (kept : IsKeptBackup s (backup_meta id timestamp sequence accepted) (plain_texts accepted)) (image : IsImage s t) where
  abbrev pub HoldsStanding : Type 0
  HoldsStanding = (files : Files) × (held t id ≡ Some files) × Stands files (replayed finmap.empty accepted) (sequence_after 0 accepted)

  pub kept_stands : HoldsStanding
  kept_stands =
      let made = backup_stands id timestamp sequence accepted each in
      (made.0, held_in_image s t image (backup_meta id timestamp sequence accepted) (plain_texts accepted) kept ∙ made.1, made.2)

  pub kept_sound : sequence ≡ sequence_after 0 accepted → IsSoundBackup t id
  kept_sound is = record {
    meta = backup_meta id timestamp sequence accepted;
    files = kept_stands.0;
    contents = replayed finmap.empty accepted;
    readable = meta_in_image s t image (backup_meta id timestamp sequence accepted) kept.lawful kept.text;
    holds = kept_stands.1;
    stands = subst (λ (n : ℕ). Stands kept_stands.0 (replayed finmap.empty accepted) n) (sym is) kept_stands.2;
  }
