use Rattle.std.proofs.Common.{◌≡◌, ◌<◌, ◌+◌, ℕ, zero, suc, List, [], ◌∷◌, length, drop, rules, refl, ap, ◌∙◌, arith}
use Rattle.std.specs.Prelude.{Some}
use Rattle.lsm_disk.specs.Names.{under, inside, after_slash}
use Rattle.lsm_nametable.proofs.places.in_folder.Goals as goal

dropped : (path : List ℕ) (at : ℕ) → at < length path → Some (drop (at + 1) path) ≡ after_slash (Some (drop at path))
dropped [] at lt = absurd (omega (arith, lt))
dropped (c ∷ path) zero lt = refl
dropped (c ∷ path) (suc at) lt = let later : suc at + 1 ≡ suc (at + 1) = omega arith in ap (λ (n : ℕ). Some (drop n (c ∷ path))) later ∙ dropped path at (omega (arith, lt))

inside_is : (folder path : List ℕ) (at : ℕ) → 0 < length folder → Some (drop at path) ≡ under folder path → at < length path → Some (drop (at + 1) path) ≡ inside folder path
inside_is [] path at some is lt = absurd (omega (arith, some))
inside_is (f ∷ folder) path at some is lt = dropped path at lt ∙ ap after_slash is

pub returns-then-at-path-clause-rest : goal.returns-then-at-path-clause-rest
returns-then-at-path-clause-rest c =
    let some : 0 < length c.args.folder.now = search rules in
    let lt : c.in-Some.at < length c.args.path.now = search rules in
    inside_is c.args.folder.now c.args.path.now c.in-Some.at some c.in-Some.ensures.rest lt
