use Rattle.std.proofs.Common.{◌≡◌, ◌++◌, List, ℕ, length, true, refl, sym, ap, ◌∙◌, arith, append_assoc}
use Rattle.lsm_frame.specs.Frames.{cut, piece}
use Rattle.lsm_frame.proofs.Beginnings.{begins_same, begins_trans}
use Rattle.lsm_frame.proofs.Cuts.{cut_last, cut_more}
use Rattle.lsm_frame.proofs.pieces.push_pieces.Goals as goal

pub loop-space-init : goal.loop-space-init
loop-space-init c = record { grown = begins_same _; pieces = (length c.args.payload.now, omega arith, c.args.offset, omega arith, refl) }

pub loop-space-smaller : goal.loop-space-smaller
loop-space-smaller c =
    let was = c.loop-space.invariant.pieces in
    let back = c.split_at.ensures.back_len in
    omega (arith, was.3, c.loop-space-test.true)

-- a piece goes from what is left to what is written
piece_moves : (out old new part tail all whole : List ℕ) (kind kind' : ℕ) → new ≡ out ++ piece kind part → kind ≡ kind' → all ≡ piece kind' part ++ tail → out ++ all ≡ old ++ whole → new ++ tail ≡ old ++ whole
piece_moves out old new part tail all whole kind kind' n k a was = rw (n, k, append_assoc) (ap (λ (s : List ℕ). out ++ s) (sym a) ∙ was)

pub loop-space-preserved : goal.loop-space-preserved
loop-space-preserved c =
    let grown = begins_trans _ _ _ c.loop-space.invariant.grown c.in_ok-push_piece.ensures.begins in
    let was = c.loop-space.invariant.pieces in
    let step = cut_more was.0 c.loop-space.begun was.2 c.loop-space.space c.loop-space.rest.now c.split_at.result.0.now c.split_at.result.1.now was.3 c.loop-space-test.true was.1 c.split_at.ensures.front c.split_at.ensures.back in
    record {
      grown = grown;
      pieces = (
        step.0,
        step.1,
        0,
        refl,
        piece_moves c.loop-space.out c.args.out.now c.push_piece.new.out c.split_at.result.0.now (cut step.0 true 0 c.split_at.result.1.now) _ _ _ _ c.in_ok-push_piece.ensures.text c.kind.ensures step.2 was.4,
      );
    }

pub returns-clause-text : goal.returns-clause-text
returns-clause-text c =
    let was = c.loop-space.invariant.pieces in
    let last = cut_last was.0 c.loop-space.begun was.2 c.loop-space.space c.loop-space.rest.now was.3 c.loop-space-test.false in
    c.in_ok-push_piece-2.ensures.text ∙ ap (λ (k : ℕ). c.loop-space.out ++ piece k c.loop-space.rest.now) c.kind-2.ensures ∙ ap (λ (s : List ℕ). c.loop-space.out ++ s) (sym last) ∙ was.4
