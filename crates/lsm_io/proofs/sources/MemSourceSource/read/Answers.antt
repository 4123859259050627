use Rattle.std.proofs.Common.{ℕ, List, ◌+◌, ◌-◌, ◌∙◌, ap, drop, take, min, length, arith}
use Rattle.lsm_io.proofs.Fronts.{front_copied, nothing_left}
use Rattle.lsm_io.proofs.sources.MemSourceSource.read.Goals as goal

pub returns-clause-bytes : goal.returns-clause-bytes
returns-clause-bytes c =
    let inside = c.self.inside in
    let len = c.len.ensures ∙ inside.bytes.ok.0 in
    let copied = c.copy_from_slice.ensures.after ∙ ap (λ (s : List ℕ). take (inside.at + c.min-count.result - inside.at) (drop inside.at s)) c.deref-2.ensures.value in
    rw (← c.self.view_is) (
      front_copied inside.bytes.items c.args.into.now c.copy_from_slice.new.self inside.at c.min-count.result (omega arith) copied,
      λ e some. nothing_left inside.bytes.items inside.at c.min-count.result (length c.args.into.now) (omega arith)
          (c.min-count.ensures ∙ ap (λ (k : ℕ). min (length c.args.into.now) (k - inside.at)) len) e,
    )
