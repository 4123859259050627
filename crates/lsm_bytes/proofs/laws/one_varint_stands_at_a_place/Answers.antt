use Rattle.lsm_bytes.proofs.Places.{IsVarintAt-once}
use Rattle.lsm_bytes.proofs.laws.one_varint_stands_at_a_place.Goals as goal

pub returns : goal.returns
returns c = record {
  value = λ bytes at n m next after one other. (IsVarintAt-once bytes at n m next after one other).0;
  place = λ bytes at n m next after one other. (IsVarintAt-once bytes at n m next after one other).1;
}
