use Rattle.std.proofs.Common.{ℕ, List, Bor, map, sym, ap, ◌∙◌}
use Rattle.std.proofs.lemmas.Result.{IfOk-weaker}
use Rattle.std.specs.List.{list_all}
use Rattle.ldb_script.specs.Words.{is_word}
use Rattle.ldb_script.specs.Script.{line_of_words}
use Rattle.ldb_script.proofs.Lines.{line_of_all, line_of_none}
use Rattle.ldb_script.proofs.line.parse_line.Goals as goal

pub returns-then-all_words : goal.returns-then-all_words
returns-then-all_words c =
    let words = c.in_ok-words.words.items in
    let all = ap (list_all (λ (w : Bor (List ℕ)). is_word w.now)) (sym c.as_slice.ensures.value) ∙ sym c.all_words.ensures ∙ c.if-all_words.true in
    let e = ap (λ (ws : List (Bor (List ℕ))). line_of_words (map (λ (w : Bor (List ℕ)). w.now) ws)) c.as_slice-then-all_words.ensures.value
    ∙ line_of_all c.args.line.now words (sym c.is_blank.ensures ∙ c.if-is_blank.false) c.in_ok-words.ensures all in
    IfOk-weaker c.parse_words.result _ _ (λ parsed is. is ∙ e) c.parse_words.ensures

pub returns : goal.returns
returns c =
    let words = c.in_ok-words.words.items in
    line_of_none c.args.line.now words (sym c.is_blank.ensures ∙ c.if-is_blank.false) c.in_ok-words.ensures
    (ap (list_all (λ (w : Bor (List ℕ)). is_word w.now)) (sym c.as_slice.ensures.value) ∙ sym c.all_words.ensures ∙ c.if-all_words.false)
