-- What a creation leaves.
use Rattle.std.specs.Prelude.{◌≡◌, ◌⊎◌, ℕ, ◌^◌, ◌<◌, ◌≤◌, List, [], ◌∷◌, length, IsTrue, Option, Some, None, option_map, IfSome}
use Rattle.std.proofs.Common.{inl, inr, arith, refl, sym, ap, subst, ◌∙◌}
use Rattle.lsm_names.specs.FileNames.{is_file_number}
use Rattle.lsm_names.specs.declared.file_names.FileName.{FileName}
use Rattle.lsm_names.specs.declared.file_names.FileName.TheVariants.{Log, Manifest, Current}
use Rattle.lsm_disk.specs.State.{State, Story, Change, Created, Named, Appended, Synced, Names_synced, Idle, after, state_of, folder_made}
use Rattle.lsm_disk.specs.Images.{Tree}
use Rattle.lsm_disk.specs.Goes.{Went}
use Rattle.lsm_disk.specs.Answers.{Makes, LeftBy, Allowed}
use Rattle.lsm_disk.specs.Tree.{IsLawful}
use Rattle.lsm_disk.specs.Viewed.{Viewed}
use Rattle.lsm_disk.specs.declared.calls.DiskError.{DiskError}
use Rattle.lsm_disk.proofs.Runs.{went_start, went_ok, went_err, went_weaker, went_wider, went_then}
use Rattle.bk_meta.specs.declared.backup_files.BackupFile.TheVariants.{Private}
use Rattle.bk_meta.specs.declared.metas.MetaFile.{MetaFile}
use Rattle.bk_meta.specs.declared.metas.Meta.{Meta}
use Rattle.bk_meta.specs.Metas.{IsMeta}
use Rattle.bk_engine.specs.Copying.{Whatever, Anything}
use Rattle.bk_engine.specs.Paths.{own_folder}
use Rattle.bk_engine.specs.Creating.{plain_names, own_files, plain_meta}
use Rattle.bk_engine.specs.Preparing.{Prepares, AreNew, AreTexts, plain_views}
use Rattle.bk_engine.specs.Publishing.{Creates, AreOwn}
use Rattle.bk_engine.proofs.Frames.{went_also, no_fewer}
use Rattle.bk_engine.proofs.PlainMetas.{meta_of_two, meta_of_three}

-- ---- the meta

pub are_own : (id : ℕ) (names : List FileName) (texts : List (List ℕ)) → AreOwn id (own_files id names texts)
are_own id [] texts = tt
are_own id (name ∷ names) [] = tt
are_own id (name ∷ names) (bytes ∷ texts) = ((name, refl), are_own id names texts)

module _ {F : Type 0} (f : F → Viewed) (n : F → ℕ) (current manifest : Viewed) (number : ℕ) (id timestamp sequence : ℕ) (range : (1 ≤ id) × (id < 2 ^ 32)) (time : timestamp < 2 ^ 64) (last : sequence < 2 ^ 64) (named : IsTrue (is_file_number number)) where
  pub plain_is_meta : (o : Option F) (texts : List (List ℕ)) → IfSome o (λ file. IsTrue (is_file_number (n file))) → AreTexts (plain_views (option_map f o) current manifest) texts
      → IsMeta (plain_meta id timestamp sequence (plain_names (option_map n o) number) texts)
  plain_is_meta None [] log same = absurd same
  plain_is_meta None (x ∷ []) log same = absurd same.1
  plain_is_meta None (x ∷ y ∷ []) log same = meta_of_two id timestamp sequence range time last number named x y same.0.1 same.1.0.1
  plain_is_meta None (x ∷ y ∷ z ∷ texts) log same = absurd same.1.1
  plain_is_meta (Some file) [] log same = absurd same
  plain_is_meta (Some file) (w ∷ []) log same = absurd same.1
  plain_is_meta (Some file) (w ∷ x ∷ []) log same = absurd same.1.1
  plain_is_meta (Some file) (w ∷ x ∷ y ∷ []) log same = meta_of_three id timestamp sequence range time last number named (n file) log w x y same.0.1 same.1.0.1 same.1.1.0.1
  plain_is_meta (Some file) (w ∷ x ∷ y ∷ z ∷ texts) log same = absurd same.1.1.1

-- ---- the calls

pub prepares_create : (id first : ℕ) (c : Change) → Prepares id first c → Creates id first c
prepares_create id first (Created path) is = inl is
prepares_create id first (Named op) is = inl is
prepares_create id first (Appended k bytes) is = is
prepares_create id first (Synced k) is = is
prepares_create id first Names_synced is = tt
prepares_create id first Idle is = tt

abbrev Enough : ℕ → State → Type 0
Enough first s = first ≤ length s.files

begun : (id first : ℕ) (story : Story) {told : Option Story} → told ≡ Some story → Went story told (Prepares id first) Anything Whatever
begun id first story tells = went_start Whatever tells tt (λ s i. record { each = λ t image. tt })

pub enough : (q : Change → Type 0) (P : State → Tree → Type 0) (story : Story) {told : Option Story} (I : State → Type 0) → Went story told q P I → Went story told q P (λ s. I s × Enough (length (state_of story).files) s)
enough q P story I w = went_also q P I (Enough (length (state_of story).files)) (λ s c kind. no_fewer (length (state_of story).files) s c) (omega arith) w

-- what is prepared is made
pub then_made : (id first : ℕ) {story : Story} {told : Option Story} (I : State → Type 0) → Went story told (Prepares id first) Anything I → Went story told (Creates id first) Anything I
then_made id first I w = went_wider (Prepares id first) (Creates id first) Anything Anything (prepares_create id first) (λ s t p. p) w

module _ (id : ℕ) {t0 t1 : Option Story} (path : List ℕ) (is : path ≡ own_folder id) (story : Story) (tells : t0 ≡ Some story) where
  pub folder_left : (refusal : State → Option DiskError) (e : DiskError) → LeftBy (t1 ≡ t0) (Allowed refusal t0 × Makes t0 (folder_made path) t1) e → Went story t1 (Prepares id (length (state_of story).files)) Anything Whatever
  folder_left refusal e did = went_weaker _ Whatever (λ s i. tt) (went_err Whatever Whatever (folder_made path) refusal e did (λ s i. (is, refl)) (λ s i. tt) (λ s i. record { each = λ t image. tt }) (begun id (length (state_of story).files) story tells))

  folder_is_made : Makes t0 (folder_made path) t1 → Went story t1 (Prepares id (length (state_of story).files)) Anything Whatever
  folder_is_made makes = went_ok Whatever Whatever (folder_made path) makes (λ s i. (is, refl)) (λ s i. tt) (λ s i. record { each = λ t image. tt }) (begun id (length (state_of story).files) story tells)

  pub folder_refused : (refusal : State → Option DiskError) (e : DiskError) → LeftBy (t1 ≡ t0) (Allowed refusal t0 × Makes t0 (folder_made path) t1) e → Went story t1 (Creates id (length (state_of story).files)) Anything Whatever
  folder_refused refusal e did = then_made id (length (state_of story).files) Whatever (folder_left refusal e did)

  module _ {t2 : Option Story} (makes : Makes t0 (folder_made path) t1) where
    -- what came after the folder was made
    pub then_prepared : (I : ℕ → State → Type 0) → ((mid : Story) (first : ℕ) → t1 ≡ Some mid → first ≤ length (state_of mid).files → Went mid t2 (Prepares id first) Anything (I first))
        → Went story t2 (Prepares id (length (state_of story).files)) Anything (I (length (state_of story).files))
    then_prepared I next =
        let first : ℕ = length (state_of story).files in
        went_then (enough (Prepares id first) Anything story Whatever (folder_is_made makes)) (λ mid told low. next mid first told low.1)

    pub after_folder : (I : ℕ → State → Type 0) → ((mid : Story) (first : ℕ) → t1 ≡ Some mid → first ≤ length (state_of mid).files → Went mid t2 (Prepares id first) Anything (I first))
        → Went story t2 (Creates id (length (state_of story).files)) Anything (I (length (state_of story).files))
    after_folder I next = then_made id (length (state_of story).files) (I (length (state_of story).files)) (then_prepared I next)

    -- and what came after the files were copied
    pub after_copies : {t3 : Option Story} (I : ℕ → State → Type 0) (K : State → Type 0) → ((mid : Story) (first : ℕ) → t1 ≡ Some mid → first ≤ length (state_of mid).files → Went mid t2 (Prepares id first) Anything (I first))
        → ((mid : Story) → t2 ≡ Some mid → length (state_of story).files ≤ length (state_of mid).files → I (length (state_of story).files) (state_of mid) → Went mid t3 (Creates id (length (state_of story).files)) Anything K)
        → Went story t3 (Creates id (length (state_of story).files)) Anything K
    after_copies I K next last = went_then (enough (Creates id (length (state_of story).files)) Anything story (I (length (state_of story).files)) (after_folder I next)) (λ mid told low. last mid told low.1 low.0)

-- where the disk tells, it is lawful
pub lawful_at : (told : Option Story) (mid : Story) → told ≡ Some mid → IfSome told (λ story. IsLawful (state_of story)) → IsLawful (state_of mid)
lawful_at told mid tells lawful = subst (λ (o : Option Story). IfSome o (λ story. IsLawful (state_of story))) tells lawful
