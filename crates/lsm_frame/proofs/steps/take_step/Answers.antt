use Rattle.std.proofs.Common.{◌≡◌, ◌+◌, ◌-◌, ◌%◌, ◌≤◌, ℕ, List, ◌++◌, length, take, drop, ap, ◌∙◌, arith}
use Rattle.lsm_frame.specs.Records.{here}
use Rattle.lsm_frame.specs.Records.Here.{Goes}
use Rattle.lsm_frame.specs.Reading.{in_block, piece_here, under_way}
use Rattle.lsm_frame.proofs.Crossing.{left_next}
use Rattle.lsm_frame.proofs.Stepping.{Stands, step_full, step_part, step_wrong, step_stops}
use Rattle.lsm_frame.proofs.steps.take_step.Goals as goal

stands : (at kind part : ℕ) (rest text : List ℕ) → rest ≡ in_block at text → length rest ≤ 32768 - at % 32768 → (at % 32768 ≤ 32761) × (here at (at % 32768) (drop at text) ≡ Goes (piece_here at kind part (drop at text))) → 7 + part ≤ length rest → Stands at kind part rest text
stands at kind part rest text block within is inside = record { block = block; fits = is.0; inside = inside; within = within; is = is.1 }

sized : (old new rest : List ℕ) (part : ℕ) → new ≡ old ++ take (7 + part - 7) (drop 7 rest) → new ≡ old ++ take part (drop 7 rest)
sized old new rest part e = e ∙ ap (λ (n : ℕ). old ++ take n (drop 7 rest)) (omega arith)

pub returns-in-Nothing-clause-is : goal.returns-in-Nothing-clause-is
returns-in-Nothing-clause-is c = λ text block. step_stops c.args.begun c.args.payload.now c.args.at text c.in-Nothing.ending c.end_inside.result (c.in-Nothing.ensures.is (drop c.args.at text) block) (c.end_inside.ensures c.args.payload.now)

pub returns-in-Zeros-clause-is : goal.returns-in-Zeros-clause-is
returns-in-Zeros-clause-is c = λ text block.
    let is = c.in-Zeros.ensures.is (drop c.args.at text) block in
    left_next (under_way c.args.begun c.args.payload.now) c.args.at (length c.args.rest.now) text is.0 c.in-Zeros.ensures.inside.1 is.1

pub returns-in_ok-extend_from_slice-in-Full-clause-is : goal.returns-in_ok-extend_from_slice-in-Full-clause-is
returns-in_ok-extend_from_slice-in-Full-clause-is c = λ text block.
    let s = stands c.args.at c.in-Whole.kind c.in-Whole.part c.args.rest.now text block c.requires.within (c.in-Whole.ensures.is (drop c.args.at text) block) c.in-Whole.ensures.inside in
    step_full c.args.at c.in-Whole.kind c.in-Whole.part c.args.rest.now text s c.args.begun c.args.payload.now c.extend_from_slice.new.self c.in-Full.place c.in-Full.ensures c.requires.ready (sized c.args.payload.now c.extend_from_slice.new.self c.args.rest.now c.in-Whole.part c.in_ok-extend_from_slice-in-Full.ensures)

pub returns-in_ok-extend_from_slice-in-Part-clause-is : goal.returns-in_ok-extend_from_slice-in-Part-clause-is
returns-in_ok-extend_from_slice-in-Part-clause-is c = λ text block.
    let s = stands c.args.at c.in-Whole.kind c.in-Whole.part c.args.rest.now text block c.requires.within (c.in-Whole.ensures.is (drop c.args.at text) block) c.in-Whole.ensures.inside in
    step_part c.args.at c.in-Whole.kind c.in-Whole.part c.args.rest.now text s c.args.begun c.args.payload.now c.extend_from_slice-in-Part.new.self c.in-Part.place c.in-Part.ensures c.requires.ready (sized c.args.payload.now c.extend_from_slice-in-Part.new.self c.args.rest.now c.in-Whole.part c.in_ok-extend_from_slice-in-Part.ensures)

pub returns-in-Refused-clause-is : goal.returns-in-Refused-clause-is
returns-in-Refused-clause-is c = λ text block.
    let s = stands c.args.at c.in-Whole.kind c.in-Whole.part c.args.rest.now text block c.requires.within (c.in-Whole.ensures.is (drop c.args.at text) block) c.in-Whole.ensures.inside in
    step_wrong c.args.at c.in-Whole.kind c.in-Whole.part c.args.rest.now text s c.args.begun c.args.payload.now c.in-Refused.ensures c.requires.ready
