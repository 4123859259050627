use Rattle.std.proofs.Common.{◌≡◌, take, true, Bor, List, ℕ}
use Rattle.std.specs.List.{list_all}
use Rattle.ldb_script.specs.Words.{is_word}
use Rattle.ldb_script.proofs.words.all_words.Given as goal

abbrev pub invariant-loop-word : goal.invariant-loop-word
invariant-loop-word l = list_all (λ (w : Bor (List ℕ)). is_word w.now) (take l.word-index l.words) ≡ true
