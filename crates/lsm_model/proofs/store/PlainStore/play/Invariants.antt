use Rattle.std.proofs.Common.{◌≡◌, ◌++◌, ◌≤◌, ◌+◌, length}
use Rattle.std.specs.List.{zip}
use Rattle.std.specs.Vec.{vec_len, vec_capacity}
use Rattle.std.specs.Vec.Iter.{into_iter_items, into_iter_len}
use Rattle.lsm_model.specs.Steps.{Run, all_asked}
use Rattle.lsm_model.proofs.store.PlainStore.play.Given as goal

-- the events so far are answered, and there is room for the replies of those to come
abbrev pub invariant-loop-event : goal.invariant-loop-event
invariant-loop-event l = (l.yielded ++ into_iter_items l.event-iterator ≡ into_iter_items l.initial.event-iterator)
    × (into_iter_len l.event-iterator ≡ length (into_iter_items l.event-iterator))
    × (length l.replies.items ≡ length l.yielded)
    × Run l.initial.self (all_asked (zip l.yielded l.replies.items)) l.self
    × (vec_len l.replies + into_iter_len l.event-iterator ≤ vec_capacity l.replies)
