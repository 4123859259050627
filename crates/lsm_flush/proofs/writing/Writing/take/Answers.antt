use Rattle.std.proofs.Common.{sym, ap, subst, ◌∙◌}
use Rattle.lsm_flush.specs.declared.writing.Ahead.{Ahead}
use Rattle.lsm_flush.specs.declared.writing.Ahead.TheVariants.{Piece, Last}
use Rattle.lsm_flush.specs.Writing.{Written, HasTaken, whole}
use Rattle.lsm_flush.proofs.Writes.{rows_left, piece_writing, last_writing, seen_as, taken_before, some_ahead, piece_stepped, last_stepped}
use Rattle.lsm_flush.proofs.writing.Writing.take.Goals as goal
use Rattle.lsm_flush.proofs.writing.Writing.take.Goals.{in-Piece-1, in-Last-1, in-Whole-1, in-Nothing-1, in-Piece-2, in-Last-2, in-Whole-2, in-Nothing-2}

pub step-requires : goal.step-requires
step-requires c =
    rows_left c.self.inside.flush c.self.inside.number c.self.inside.session c.self.inside.ahead c.self.invariant c.in-Nothing.is

pub invariant_of-self-in-Piece-2-4 : goal.invariant_of-self-in-Piece-2-4
invariant_of-self-in-Piece-2-4 c =
    piece_writing c.self.inside.flush c.step.new.self c.self.inside.number c.self.inside.session c.self.inside.ahead c.self.invariant
    c.in_ok-bytes-in-Nothing.ensures.rows c.in_ok-bytes-in-Nothing.ensures.number c.in_ok-bytes-in-Nothing.ensures.session
    c.in_ok-bytes-in-Nothing.field-0 c.in_ok-bytes-in-Nothing.ensures.ok c.in-Piece-2.bytes c.in-Piece-2.is

pub invariant_of-self-in-Last-4 : goal.invariant_of-self-in-Last-4
invariant_of-self-in-Last-4 c =
    last_writing c.self.inside.flush c.step.new.self c.self.inside.number c.self.inside.session c.self.inside.ahead c.self.invariant
    c.in_ok-bytes-in-Nothing.ensures.rows c.in_ok-bytes-in-Nothing.ensures.number c.in_ok-bytes-in-Nothing.ensures.session
    c.in_ok-bytes-in-Nothing.field-0 c.in_ok-bytes-in-Nothing.ensures.ok c.in-Last.last c.in-Last.is

pub returns-in-Piece-2-clause-ok : goal.returns-in-Piece-2-clause-ok
returns-in-Piece-2-clause-ok c =
    let now : Written = seen_as c.step.new.self c.self.inside.number c.self.inside.session (Piece c.in-Piece-2.bytes) in
    let stepped : HasTaken c.args.self.now now =
    subst (λ (w : Written). HasTaken w now) c.self.view_is
    (subst (λ (a : Ahead). HasTaken (seen_as c.self.inside.flush c.self.inside.number c.self.inside.session a) now)
    (sym c.in-Nothing.is) (piece_stepped c.self.inside.flush c.step.new.self c.self.inside.number c.self.inside.session
    c.self.inside.ahead c.self.invariant
    c.in_ok-bytes-in-Nothing.ensures.rows c.in_ok-bytes-in-Nothing.ensures.number c.in_ok-bytes-in-Nothing.ensures.session
    c.in_ok-bytes-in-Nothing.field-0 c.in_ok-bytes-in-Nothing.ensures.ok c.in-Piece-2.bytes c.in-Piece-2.is)) in
    elim c.match-self-2.branch [
      | in-Piece-1 w ↦ subst (λ (x : Written). HasTaken c.args.self.now x) (sym w.self-is) stepped
      | in-Last-1 w ↦ subst (λ (x : Written). HasTaken c.args.self.now x) (sym w.self-is) stepped
      | in-Whole-1 w ↦ subst (λ (x : Written). HasTaken c.args.self.now x) (sym w.self-is) stepped
      | in-Nothing-1 w ↦ subst (λ (x : Written). HasTaken c.args.self.now x) (sym w.self-is) stepped
    ]

pub returns-in-Last-clause-ok : goal.returns-in-Last-clause-ok
returns-in-Last-clause-ok c =
    let now : Written = seen_as c.step.new.self c.self.inside.number c.self.inside.session (Last c.in-Last.last) in
    let stepped : HasTaken c.args.self.now now =
    subst (λ (w : Written). HasTaken w now) c.self.view_is
    (subst (λ (a : Ahead). HasTaken (seen_as c.self.inside.flush c.self.inside.number c.self.inside.session a) now)
    (sym c.in-Nothing.is) (last_stepped c.self.inside.flush c.step.new.self c.self.inside.number c.self.inside.session
    c.self.inside.ahead c.self.invariant
    c.in_ok-bytes-in-Nothing.ensures.rows c.in_ok-bytes-in-Nothing.ensures.number c.in_ok-bytes-in-Nothing.ensures.session
    c.in_ok-bytes-in-Nothing.field-0 c.in_ok-bytes-in-Nothing.ensures.ok c.in-Last.last c.in-Last.is
    (rows_left c.self.inside.flush c.self.inside.number c.self.inside.session c.self.inside.ahead c.self.invariant c.in-Nothing.is))) in
    elim c.match-self-3.branch [
      | in-Piece-2 w ↦ subst (λ (x : Written). HasTaken c.args.self.now x) (sym w.self-is) stepped
      | in-Last-2 w ↦ subst (λ (x : Written). HasTaken c.args.self.now x) (sym w.self-is) stepped
      | in-Whole-2 w ↦ subst (λ (x : Written). HasTaken c.args.self.now x) (sym w.self-is) stepped
      | in-Nothing-2 w ↦ subst (λ (x : Written). HasTaken c.args.self.now x) (sym w.self-is) stepped
    ]

pub returns-in-Piece-clause-ok : goal.returns-in-Piece-clause-ok
returns-in-Piece-clause-ok c =
    subst (λ (w : Written). HasTaken w w) c.self.view_is
    (taken_before c.self.inside.flush c.self.inside.number c.self.inside.session c.self.inside.ahead c.self.invariant
    (ap whole c.self.view_is ∙ c.requires) (some_ahead c.self.inside.ahead c.in-Piece.is))

pub returns-in-Piece-4-clause-ok : goal.returns-in-Piece-4-clause-ok
returns-in-Piece-4-clause-ok c =
    subst (λ (w : Written). HasTaken w w) c.self.view_is
    (taken_before c.self.inside.flush c.self.inside.number c.self.inside.session c.self.inside.ahead c.self.invariant
    (ap whole c.self.view_is ∙ c.requires) (some_ahead c.self.inside.ahead c.in-Piece.is))
