-- Each exit, by what the calls before it left.
use Rattle.std.specs.Prelude.{◌≡◌, List, ℕ, Some}
use Rattle.std.proofs.Common.{inl, inr, sym, subst, ◌∙◌}
use Rattle.lsm_disk.specs.State.{Story, state_of}
use Rattle.lsm_disk.proofs.Runs.{went_weaker}
use Rattle.bk_engine.specs.Copying.{Whatever}
use Rattle.bk_engine.specs.Opening.{HasRoots, IsFree, IsMissing, no_opening, IsRefusal}
use Rattle.bk_engine.specs.declared.errors.EngineError.{EngineError}
use Rattle.bk_engine.proofs.Openings.{MetasMade, OwnMade, returned, begun, metas_made, own_made, shared_made, then_ended, then_refused, later_refusal}
use Rattle.bk_engine.proofs.opening.make_folders.Goals as goal

pub returns-in_err-missing-clause-went : goal.returns-in_err-missing-clause-went
returns-in_err-missing-clause-went g c story tells = begun story (c.missing_folders.ensures.told ∙ tells)

pub returns-in_err-make_missing-clause-went : goal.returns-in_err-make_missing-clause-went
returns-in_err-make_missing-clause-went g c story tells =
    then_ended story c.meta_folder.result Whatever (inl c.meta_folder.ensures) (begun story (c.missing_folders.ensures.told ∙ tells)) c.make_missing.ensures.went

pub returns-in_err-make_missing-clause-answer : goal.returns-in_err-make_missing-clause-answer
returns-in_err-make_missing-clause-answer g c =
    let e = c.in_err-make_missing.field-0.0 in
    returned (λ (x : EngineError). (story : Story) → (g.B.Disk.seen c.args.disk.now).told ≡ Some story → IsRefusal (no_opening (state_of story)) x) c.from_residual-in_err-make_missing.result e c.from_residual-in_err-make_missing.ensures.1
    (λ story tells.
    let m = c.in_ok-missing.ensures.missing story tells in
    later_refusal (state_of story) c.in_ok-missing.missing.own c.in_ok-missing.missing.shared e m
    (c.in_err-make_missing.ensures.answer story (c.missing_folders.ensures.told ∙ tells) (subst (λ (p : List ℕ). IsFree p (state_of story)) (sym c.meta_folder.ensures) m.no_metas)))

pub returns-in_err-make_missing-2-clause-went : goal.returns-in_err-make_missing-2-clause-went
returns-in_err-make_missing-2-clause-went g c story tells =
    let own = c.in_ok-missing.missing.own in
    let shared = c.in_ok-missing.missing.shared in
    let metas = metas_made story own shared c.meta_folder.result c.meta_folder.ensures (c.missing_folders.ensures.told ∙ tells) (c.in_ok-missing.ensures.missing story tells) c.in_ok-make_missing.ensures.made in
    then_ended story c.private_root.result (MetasMade own shared) (inr (inl c.private_root.ensures)) metas c.make_missing-2.ensures.went

pub returns-in_err-make_missing-2-clause-answer : goal.returns-in_err-make_missing-2-clause-answer
returns-in_err-make_missing-2-clause-answer g c =
    let e = c.in_err-make_missing-2.field-0.0 in
    let own = c.in_ok-missing.missing.own in
    let shared = c.in_ok-missing.missing.shared in
    returned (λ (x : EngineError). (story : Story) → (g.B.Disk.seen c.args.disk.now).told ≡ Some story → IsRefusal (no_opening (state_of story)) x) c.from_residual-in_err-make_missing-2.result e c.from_residual-in_err-make_missing-2.ensures.1
    (λ story tells.
    let m = c.in_ok-missing.ensures.missing story tells in
    let metas = metas_made story own shared c.meta_folder.result c.meta_folder.ensures (c.missing_folders.ensures.told ∙ tells) m c.in_ok-make_missing.ensures.made in
    then_refused story e own shared (MetasMade own shared) (λ s. IsMissing c.private_root.result own s) m metas
    (λ s made. subst (λ (p : List ℕ). IsMissing p own s) (sym c.private_root.ensures) made.1.0) c.in_err-make_missing-2.ensures.answer)

pub returns-in_err-make_missing-3-clause-went : goal.returns-in_err-make_missing-3-clause-went
returns-in_err-make_missing-3-clause-went g c story tells =
    let own = c.in_ok-missing.missing.own in
    let shared = c.in_ok-missing.missing.shared in
    let metas = metas_made story own shared c.meta_folder.result c.meta_folder.ensures (c.missing_folders.ensures.told ∙ tells) (c.in_ok-missing.ensures.missing story tells) c.in_ok-make_missing.ensures.made in
    then_ended story c.shared_root.result (OwnMade shared) (inr (inr c.shared_root.ensures)) (own_made story own shared c.private_root.result c.private_root.ensures metas c.in_ok-make_missing-2.ensures.made) c.make_missing-3.ensures.went

pub returns-in_err-make_missing-3-clause-answer : goal.returns-in_err-make_missing-3-clause-answer
returns-in_err-make_missing-3-clause-answer g c =
    let e = c.in_err-make_missing-3.field-0.0 in
    let own = c.in_ok-missing.missing.own in
    let shared = c.in_ok-missing.missing.shared in
    returned (λ (x : EngineError). (story : Story) → (g.B.Disk.seen c.args.disk.now).told ≡ Some story → IsRefusal (no_opening (state_of story)) x) c.from_residual-in_err-make_missing-3.result e c.from_residual-in_err-make_missing-3.ensures.1
    (λ story tells.
    let m = c.in_ok-missing.ensures.missing story tells in
    let metas = metas_made story own shared c.meta_folder.result c.meta_folder.ensures (c.missing_folders.ensures.told ∙ tells) m c.in_ok-make_missing.ensures.made in
    then_refused story e own shared (OwnMade shared) (λ s. IsMissing c.shared_root.result shared s) m (own_made story own shared c.private_root.result c.private_root.ensures metas c.in_ok-make_missing-2.ensures.made)
    (λ s made. subst (λ (p : List ℕ). IsMissing p shared s) (sym c.shared_root.ensures) made.1.1) c.in_err-make_missing-3.ensures.answer)

pub returns-clause-made : goal.returns-clause-made
returns-clause-made g c story tells =
    let own = c.in_ok-missing.missing.own in
    let shared = c.in_ok-missing.missing.shared in
    let metas = metas_made story own shared c.meta_folder.result c.meta_folder.ensures (c.missing_folders.ensures.told ∙ tells) (c.in_ok-missing.ensures.missing story tells) c.in_ok-make_missing.ensures.made in
    shared_made story shared c.shared_root.result c.shared_root.ensures (own_made story own shared c.private_root.result c.private_root.ensures metas c.in_ok-make_missing-2.ensures.made) c.in_ok-make_missing-3.ensures.made

pub returns-clause-went : goal.returns-clause-went
returns-clause-went g c story tells =
    let own = c.in_ok-missing.missing.own in
    let shared = c.in_ok-missing.missing.shared in
    let metas = metas_made story own shared c.meta_folder.result c.meta_folder.ensures (c.missing_folders.ensures.told ∙ tells) (c.in_ok-missing.ensures.missing story tells) c.in_ok-make_missing.ensures.made in
    went_weaker HasRoots Whatever (λ s i. tt)
    (shared_made story shared c.shared_root.result c.shared_root.ensures (own_made story own shared c.private_root.result c.private_root.ensures metas c.in_ok-make_missing-2.ensures.made) c.in_ok-make_missing-3.ensures.made)
