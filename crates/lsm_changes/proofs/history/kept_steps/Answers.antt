use Rattle.std.proofs.Common.{◌≡◌, ◌+◌, ◌-◌, ◌≤◌, ◌∙◌, refl, sym, ap, subst, arith, length, drop}
use Rattle.lsm_changes.specs.Replay.{Quiet, changes, syncs_names}
use Rattle.lsm_changes.proofs.Replays.{quiet_none, quiet_more}
use Rattle.lsm_changes.proofs.history.kept_steps.Goals as goal

pub loop-turn-init : goal.loop-turn-init
loop-turn-init c = record { within = omega arith; quiet = quiet_none (length c.args.steps.now) c.args.steps.now refl }

pub loop-turn-preserved : goal.loop-turn-preserved
loop-turn-preserved c =
    let steps = c.args.steps.now in
    let n = c.loop-turn.count - 1 in
    let some : 1 ≤ c.loop-turn.count = omega (arith, c.if-count-eq0.false) in
    let next : n + 1 ≡ c.loop-turn.count = omega (arith, some) in
    record {
      within = omega (arith, c.loop-turn.invariant.within);
      quiet = quiet_more n steps c.index-steps-count.result (omega (arith, some, c.loop-turn.invariant.within))
          (ap (λ s. syncs_names s.1) (sym c.index-steps-count.is) ∙ sym c.if-is_names_sync.ensures)
          (subst (λ m. Quiet (drop m (changes steps))) (sym next) c.loop-turn.invariant.quiet);
    }
