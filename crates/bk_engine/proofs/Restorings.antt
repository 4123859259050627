-- The restore of a kept backup.
use Rattle.std.specs.Prelude.{◌≡◌, ◌==◌, ℕ, Bool, true, false, cond, List, [], ◌∷◌, Some, Result, Err}
use Rattle.std.specs.List.{All, AllByRecursion}
use Rattle.std.specs.Result.{IsErrAnd}
use Rattle.std.proofs.Common.{ap, subst, ◌∙◌}
use Rattle.std.proofs.lemmas.List.Elements.{recursion_from_All}
use Rattle.std.proofs.lemmas.Result.{err_from_is_err_and}
use Rattle.lsm_disk.specs.State.{Seen}
use Rattle.lsm_disk.specs.Dest.{DestSeen}
use Rattle.bk_meta.specs.declared.metas.Meta.{Meta}
use Rattle.bk_meta.specs.Metas.{IsMeta}
use Rattle.bk_restore.specs.declared.errors.RestoreError.{RestoreError}
use Rattle.bk_engine.specs.declared.errors.EngineError.{EngineError}
use Rattle.bk_engine.specs.Restoring.{meta_by, engine_error, answered, Restores}

found_lawful : (id : ℕ) (metas : List Meta) → AllByRecursion IsMeta metas → (meta : Meta) → Some meta ≡ meta_by id metas → IsMeta meta
found_lawful id [] all meta is = cc
found_lawful id (m ∷ metas) all meta is = by_test (m.id == id) (found_lawful id metas all.1 meta) is where
  by_test : (b : Bool) → (Some meta ≡ meta_by id metas → IsMeta meta) → Some meta ≡ cond b (Some m) (meta_by id metas) → IsMeta meta
  by_test true rest h = let same : m ≡ meta = cc in subst IsMeta same all.0
  by_test false rest h = rest h

-- a kept meta is lawful
pub found_is_meta : (id : ℕ) (metas : List Meta) (meta : Meta) → All IsMeta metas → Some meta ≡ meta_by id metas → IsMeta meta
found_is_meta id metas meta all is = found_lawful id metas (recursion_from_All IsMeta metas all) meta is

-- it is found in the list that was lent
pub found_in : (id : ℕ) (lent metas : List Meta) (meta : Meta) → Some meta ≡ meta_by id lent → lent ≡ metas → Some meta ≡ meta_by id metas
found_in id lent metas meta is same = is ∙ ap (meta_by id) same

-- the error that a `?` hands on is that of the restore, by its name
pub refused_as : (result : Result ℕ EngineError) (e : RestoreError) → IsErrAnd result (λ x. x ≡ engine_error e) → result ≡ Err (engine_error e)
refused_as result e is = let q = err_from_is_err_and result is in q.1 ∙ ap (λ (x : EngineError). let r : Result ℕ EngineError = Err x in r) q.2

module _ (old new : Seen) (dest dest_now : DestSeen) (dir : List ℕ) (id : ℕ) (metas : List Meta) (result : Result ℕ EngineError) where
  abbrev pub IsRestored : Type 0
  IsRestored = (meta : Meta) → meta_by id metas ≡ Some meta → (r : Result ℕ RestoreError) × (result ≡ answered r) × Restores meta old new dest dest_now dir r

  -- the meta that was found is the one
  pub restored_as : (found : Meta) (r : Result ℕ RestoreError) → Some found ≡ meta_by id metas → result ≡ answered r → Restores found old new dest dest_now dir r → IsRestored
  restored_as found r there is all meta at =
      let both : Some found ≡ Some meta = there ∙ at in
      let same : found ≡ meta = cc in
      (r, is, subst (λ (m : Meta). Restores m old new dest dest_now dir r) same all)
