use Rattle.std.proofs.Common.{◌≡◌, ◌+◌, ◌-◌, ◌∙◌, ◌++◌, ◌∷◌, [], ℕ, List, length, refl, ap, sym, subst, arith, vec_len, vec_capacity}
use Rattle.lsm_disk.specs.State.{Change}
use Rattle.lsm_changes.specs.History.{Shown, filled, Rises, appended_by}
use Rattle.lsm_changes.specs.What.{change_of}
use Rattle.lsm_changes.proofs.Histories.{filled_length, filled_push, rises_push, count_push}
use Rattle.lsm_changes.proofs.history.History.push.Goals as goal

pub overflow_add-self : goal.overflow_add-self
overflow_add-self c =
    let m = c.self.inside in
    let long : length (filled 0 m.steps.items m.clock) + 0 ≡ m.clock = filled_length 0 m.clock m.steps.items c.self.invariant.0 in
    let same : length (filled 0 m.steps.items m.clock) ≡ length c.args.self.now.log = ap (λ (h : Shown). length h.log) c.self.view_is in
    omega (arith, long, same, c.requires.clock)

pub invariant_of-self : goal.invariant_of-self
invariant_of-self c =
    let m = c.self.inside in
    let change = change_of c.args.what in
    let log = ap (λ (steps : List (ℕ × Change)). filled 0 steps (m.clock + 1)) c.push_room.ensures.items ∙ filled_push 0 m.clock m.steps.items change in (
      subst (λ (steps : List (ℕ × Change)). Rises 0 steps (m.clock + 1)) (sym c.push_room.ensures.items) (rises_push 0 m.clock m.steps.items change c.self.invariant.0),
      omega (arith, c.saturating_add-self-inside.ensures, c.appended_by.ensures, count_push m.appended (appended_by change) (filled 0 m.steps.items m.clock) (filled 0 c.push_room.new.items.items (m.clock + 1)) change c.self.invariant.1 log refl),
    )

pub returns-clause-log : goal.returns-clause-log
returns-clause-log c =
    let m = c.self.inside in
    ap (λ (steps : List (ℕ × Change)). filled 0 steps (m.clock + 1)) c.push_room.ensures.items ∙ filled_push 0 m.clock m.steps.items (change_of c.args.what)
    ∙ ap (λ (h : Shown). h.log ++ change_of c.args.what ∷ []) c.self.view_is

pub returns-clause-room : goal.returns-clause-room
returns-clause-room c =
    let m = c.self.inside in
    let same : vec_capacity m.steps - vec_len m.steps ≡ c.args.self.now.room = ap (λ (h : Shown). h.room) c.self.view_is in
    omega (arith, same, c.push_room.ensures.room)
