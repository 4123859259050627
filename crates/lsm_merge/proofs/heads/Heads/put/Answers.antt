use Rattle.std.proofs.Common.{ap}
use Rattle.lsm_merge.specs.Held.{Held}
use Rattle.lsm_merge.proofs.Tops.{put_some, put_none}
use Rattle.lsm_merge.proofs.heads.Heads.put.Goals as goal

-- src/heads.rt:140:5
pub returns-in-Some : goal.returns-in-Some
returns-in-Some c = put_some c.args.answer c.in-Some.row c.args.place _ _ _ c.push.result c.unwrap.result c.in-Some.is
    c.unwrap.ensures (ap (λ (v : Held). v.heads) c.self.view_is) c.push.ensures.permutation

-- src/heads.rt:140:5
pub returns-in_default : goal.returns-in_default
returns-in_default c = put_none c.args.answer c.args.place _ c.in_default.is
