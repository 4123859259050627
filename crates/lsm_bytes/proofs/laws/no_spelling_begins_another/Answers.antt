use Rattle.lsm_bytes.proofs.Spelling.{IsVarint-begins}
use Rattle.lsm_bytes.proofs.laws.no_spelling_begins_another.Goals as goal

pub returns : goal.returns
returns c = record {
  value = λ spelling more n m one longer. (IsVarint-begins spelling more n m one longer).0;
  rest = λ spelling more n m one longer. (IsVarint-begins spelling more n m one longer).1;
}
