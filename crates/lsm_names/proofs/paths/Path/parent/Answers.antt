use Rattle.std.proofs.Common.{◌≡◌, ◌+◌, ◌-◌, ℕ, drop, ap, sym, ◌∙◌, arith}
use Rattle.lsm_names.specs.Paths.{cut_last, parent_of}
use Rattle.lsm_names.proofs.PathLemmas.{parent_at_slash}
use Rattle.lsm_names.proofs.paths.Path.parent.Goals as goal

pub returns-then-path-end-eq47 : goal.returns-then-path-end-eq47
returns-then-path-end-eq47 c =
    let path = c.as_bytes-path.result.now in
    let at = c.loop-end.end - 1 in
    let next : c.loop-end.end ≡ at + 1 = omega arith in
    let none = ap (λ (k : ℕ). cut_last (drop k path)) (sym next) ∙ c.loop-end.invariant.0 in
    sym (parent_at_slash path at (omega arith) c.if-path-end-eq47.true none) ∙ ap parent_of c.as_bytes-path.ensures.bytes
