use Rattle.std.proofs.Common.{inl, inr}
use Rattle.lsm_rows.proofs.ReadSized.{most_is}
use Rattle.lsm_rows.proofs.lengths.longest.Goals as goal
use Rattle.lsm_rows.proofs.lengths.longest.Goals.{then-room-le128, else-room-le128+then-room-le16385, else-room-le128+else-room-le16385}

pub returns : goal.returns
returns c =
    elim c.if-room-le128.branch [
      | then-room-le128 w ↦ most_is c.args.limit c.args.room c.min.result c.if-room-le128.prefix c.requires.limit c.requires.room (inl (w.if-room-le128.true, w.prefix-is)) c.min.ensures
      | else-room-le128+then-room-le16385 w ↦ most_is c.args.limit c.args.room c.min.result c.if-room-le128.prefix c.requires.limit c.requires.room (inr (inl (w.if-room-le128.false, w.if-room-le16385.true, w.prefix-is))) c.min.ensures
      | else-room-le128+else-room-le16385 w ↦ most_is c.args.limit c.args.room c.min.result c.if-room-le128.prefix c.requires.limit c.requires.room (inr (inr (w.if-room-le16385.false, w.prefix-is))) c.min.ensures
    ]
