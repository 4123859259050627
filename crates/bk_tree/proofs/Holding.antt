-- What a backup holds, by its meta and by what stands at the paths that the meta names.
use Rattle.std.specs.Prelude.{◌≡◌, ℕ, List, [], ◌∷◌, map, if◌then◌else◌, Option, Some, None}
use Rattle.std.proofs.Common.{refl, ap, ◌∙◌}
use Rattle.lsm_disk.specs.Images.{Tree, bytes_at}
use Rattle.bk_meta.specs.declared.metas.MetaFile.{MetaFile}
use Rattle.bk_meta.specs.declared.metas.Meta.{Meta}
use Rattle.bk_meta.specs.Metas.{meta_of}
use Rattle.bk_tree.specs.Places.{is_identifier, meta_path}
use Rattle.lsm_folder.specs.Files.{Files}
use Rattle.bk_tree.specs.Holds.{◌>>=◌, ok_of, meta_in, texts_in, folder_of, held}
use Rattle.bk_tree.specs.Reached.{named_by, reached_by, AgreeAt}

abbrev pub made_of : Tree → Option Meta → Option Files
made_of t meta = meta >>= λ (m : Meta). texts_in t m.files >>= folder_of m

pub held_steps : (t : Tree) (id : ℕ) → held t id ≡ made_of t (meta_in t id)
unfolding held
held_steps t id = refl

abbrev pub meta_by : ℕ → Option (List ℕ) → Option Meta
meta_by id text = (if is_identifier id then text else None) >>= λ (bytes : List ℕ). ok_of (meta_of id bytes)

pub meta_steps : (t : Tree) (id : ℕ) → meta_in t id ≡ meta_by id (bytes_at t (meta_path id))
unfolding meta_in
meta_steps t id = refl

pub texts_steps : (t : Tree) (file : MetaFile) (files : List MetaFile) → texts_in t (file ∷ files) ≡ (bytes_at t file.path >>= λ (bytes : List ℕ). texts_in t files >>= λ (more : List (List ℕ)). Some (bytes ∷ more))
unfolding texts_in
texts_steps t file files = refl

pub no_texts : (t : Tree) → texts_in t [] ≡ Some []
unfolding texts_in
no_texts t = refl

module _ (t u : Tree) where
  pub same_meta : (id : ℕ) → bytes_at t (meta_path id) ≡ bytes_at u (meta_path id) → meta_in t id ≡ meta_in u id
  unfolding meta_in
  same_meta id is = ap (meta_by id) is

  pub same_texts : (files : List MetaFile) → AgreeAt (map (λ (file : MetaFile). file.path) files) t u → texts_in t files ≡ texts_in u files
  unfolding texts_in
  same_texts [] agree = refl
  same_texts (file ∷ files) agree = λ i. agree.0 i >>= λ (bytes : List ℕ). same_texts files agree.1 i >>= λ (more : List (List ℕ)). Some (bytes ∷ more)

  by_meta : (meta : Option Meta) → AgreeAt (named_by meta) t u → made_of t meta ≡ made_of u meta
  by_meta None agree = refl
  by_meta (Some meta) agree = ap (λ (texts : Option (List (List ℕ))). texts >>= folder_of meta) (same_texts meta.files agree)

  pub held_agrees : (id : ℕ) → AgreeAt (reached_by t id) t u → held t id ≡ held u id
  unfolding held
  held_agrees id agree = by_meta (meta_in t id) agree.1 ∙ ap (made_of u) (same_meta id agree.0)
