use Rattle.std.proofs.Common.{◌≡◌, ◌+◌, ℕ, List, Bor, map, drop, Some, sym, ap, ◌∙◌, arith}
use Rattle.std.proofs.lemmas.List.{drop-map, length-drop, length-map}
use Rattle.ldb_script.specs.Script.{first_operation, operations}
use Rattle.ldb_script.proofs.NamedOperations.{then_more, named_within, reading_stops, reading_over, reading_on}
use Rattle.ldb_script.proofs.line.parse_operations.Goals as goal

pub returns-in_default : goal.returns-in_default
returns-in_default c =
    let now = λ (w : Bor (List ℕ)). w.now in
    let words : List (List ℕ) = map now c.args.words.now in
    let rest : map now c.split_at.result.1.now ≡ drop c.loop-at.at words = ap (map now) c.split_at.ensures.back ∙ sym (drop-map now c.loop-at.at c.args.words.now) in
    reading_stops words c.loop-at.ops.items c.loop-at.at c.loop-at.invariant.are
    (omega (arith, length-drop c.loop-at.at words, length-map c.args.words.now now, c.loop-at-test.true))
    (ap first_operation (sym rest) ∙ sym c.in_ok-op.ensures ∙ c.in_default.is)

pub loop-at-preserved : goal.loop-at-preserved
loop-at-preserved c =
    let now = λ (w : Bor (List ℕ)). w.now in
    let words : List (List ℕ) = map now c.args.words.now in
    let rest : map now c.split_at.result.1.now ≡ drop c.loop-at.at words = ap (map now) c.split_at.ensures.back ∙ sym (drop-map now c.loop-at.at c.args.words.now) in
    let op : first_operation (drop c.loop-at.at words) ≡ Some c.in-Some.op = ap first_operation (sym rest) ∙ sym c.in_ok-op.ensures ∙ c.in-Some.is in record {
      within = omega (arith, named_within (drop c.loop-at.at words) c.in-Some.op op, length-drop c.loop-at.at words, length-map c.args.words.now now, c.words_in-at.ensures, c.loop-at-test.true);
      are =
          (λ i. then_more (c.in_ok-push.ensures.items i) (operations (drop (c.loop-at.at + c.words_in-at.ensures i) words)))
          ∙ reading_on words c.loop-at.ops.items c.loop-at.at c.loop-at.invariant.are c.in-Some.op op;
    }

pub returns : goal.returns
returns c =
    let now = λ (w : Bor (List ℕ)). w.now in
    reading_over (map now c.args.words.now) c.loop-at.ops.items c.loop-at.at c.loop-at.invariant.are (omega (arith, length-map c.args.words.now now, c.loop-at-test.false))
