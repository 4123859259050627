-- A backup that outlives each crash, after changes that leave its files alone.
use Rattle.std.specs.Prelude.{◌≡◌, ℕ, zero, suc, ◌<◌, List, [], ◌∷◌, length, map, slice_get, Some}
use Rattle.std.proofs.Common.{arith}
use Rattle.lsm_disk.specs.State.{FileState, State, Change, after}
use Rattle.lsm_disk.specs.Kept.{Spares}
use Rattle.lsm_disk.proofs.Kept.{kept_spared}
use Rattle.bk_meta.specs.declared.metas.MetaFile.{MetaFile}
use Rattle.bk_meta.specs.declared.metas.Meta.{Meta}
use Rattle.bk_meta.specs.Metas.{meta_text}
use Rattle.bk_tree.specs.Places.{meta_path}
use Rattle.bk_tree.specs.Kept.{all_synced, IsKeptText, AreKept, IsKeptBackup, LeavesAlone, paths_of}

pub within : (fs : List FileState) (id : ℕ) (f : FileState) → slice_get fs id ≡ Some f → id < length fs
within [] id f is = cc
within (g ∷ fs) zero f is = omega arith
within (g ∷ fs) (suc id) f is = omega (arith, within fs id f is)

module _ (s : State) (c : Change) where
  text_spared : (path bytes : List ℕ) → IsKeptText s path bytes → ((id : ℕ) → id < length s.files → Spares path id c) → IsKeptText (after s c) path bytes
  text_spared path bytes k spares = record { id = k.id; kept = kept_spared s path k.id (all_synced bytes) k.kept c (spares k.id (within s.files k.id (all_synced bytes) k.kept.file)) }

  texts_spared : (files : List MetaFile) (texts : List (List ℕ)) → AreKept s files texts → LeavesAlone (map (λ (file : MetaFile). file.path) files) (length s.files) c → AreKept (after s c) files texts
  texts_spared [] [] kept alone = tt
  texts_spared [] (bytes ∷ texts) kept alone = absurd kept
  texts_spared (file ∷ files) [] kept alone = absurd kept
  texts_spared (file ∷ files) (bytes ∷ texts) kept alone = (text_spared file.path bytes kept.0 alone.0, texts_spared files texts kept.1 alone.1)

  pub backup_spared : (meta : Meta) (texts : List (List ℕ)) → IsKeptBackup s meta texts → LeavesAlone (paths_of meta) (length s.files) c → IsKeptBackup (after s c) meta texts
  backup_spared meta texts kept alone = record {
    lawful = kept.lawful;
    text = text_spared (meta_path meta.id) (meta_text meta) kept.text alone.0;
    each = texts_spared meta.files texts kept.each alone.1;
  }
