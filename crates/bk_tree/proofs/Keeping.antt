-- A backup that outlives each crash, in each image.
use Rattle.std.specs.Prelude.{◌≡◌, ℕ, ◌<◌, ◌≤◌, ◌^◌, true, List, [], ◌∷◌, if◌then◌else◌, Option, Some, None}
use Rattle.std.proofs.Common.{ap, ◌∙◌, arith}
use Rattle.std.proofs.lemmas.Bool.Decides.{nat_tests}
use Rattle.lsm_disk.specs.State.{State}
use Rattle.lsm_disk.specs.Images.{Tree, IsImage, bytes_at}
use Rattle.lsm_disk.proofs.Cuts.{cut_sure}
use Rattle.lsm_disk.proofs.Kept.{kept_image}
use Rattle.bk_meta.specs.declared.metas.MetaFile.{MetaFile}
use Rattle.bk_meta.specs.declared.metas.Meta.{Meta}
use Rattle.bk_meta.specs.Metas.{IsMeta, meta_text, meta_of}
use Rattle.bk_meta.proofs.RoundLemmas.{printed}
use Rattle.bk_tree.specs.Places.{is_identifier, meta_path}
use Rattle.bk_tree.specs.Holds.{◌>>=◌, ok_of, meta_in, texts_in, folder_of, held}
use Rattle.bk_tree.specs.Kept.{IsKeptText, AreKept, IsKeptBackup, all_synced}
use Rattle.bk_tree.proofs.Holding.{made_of, held_steps, meta_by, meta_steps, texts_steps, no_texts}

pub identifier_of : (meta : Meta) → IsMeta meta → is_identifier meta.id ≡ true
identifier_of meta lawful = let low : 1 ≤ meta.id = lawful.identifier.0 in let high : meta.id < 2 ^ 32 = lawful.identifier.1 in grind (arith, nat_tests)

module _ (s : State) (t : Tree) (image : IsImage s t) where
  pub text_in_image : (path bytes : List ℕ) → IsKeptText s path bytes → bytes_at t path ≡ Some bytes
  text_in_image path bytes k =
      let held = kept_image s path k.id (all_synced bytes) k.kept t image in
      held.is ∙ ap (λ (l : List ℕ). Some l) (cut_sure (record { synced = []; unsynced = bytes }) held.bytes held.cut)

  pub texts_in_image : (files : List MetaFile) (texts : List (List ℕ)) → AreKept s files texts → texts_in t files ≡ Some texts
  texts_in_image [] [] kept = no_texts t
  texts_in_image [] (bytes ∷ texts) kept = absurd kept
  texts_in_image (file ∷ files) [] kept = absurd kept
  texts_in_image (file ∷ files) (bytes ∷ texts) kept = texts_steps t file files
      ∙ λ i. text_in_image file.path bytes kept.0 i >>= λ (b : List ℕ). texts_in_image files texts kept.1 i >>= λ (more : List (List ℕ)). Some (b ∷ more)

  pub meta_in_image : (meta : Meta) → IsMeta meta → IsKeptText s (meta_path meta.id) (meta_text meta) → meta_in t meta.id ≡ Some meta
  meta_in_image meta lawful kept = meta_steps t meta.id ∙ ap (meta_by meta.id) (text_in_image (meta_path meta.id) (meta_text meta) kept)
      ∙ ap (λ b. (if b then Some (meta_text meta) else None) >>= λ (bytes : List ℕ). ok_of (meta_of meta.id bytes)) (identifier_of meta lawful)
      ∙ ap ok_of (printed meta lawful)

  pub held_in_image : (meta : Meta) (texts : List (List ℕ)) → IsKeptBackup s meta texts → held t meta.id ≡ folder_of meta texts
  held_in_image meta texts kept = held_steps t meta.id ∙ ap (made_of t) (meta_in_image meta kept.lawful kept.text)
      ∙ ap (λ (o : Option (List (List ℕ))). o >>= folder_of meta) (texts_in_image meta.files texts kept.each)
