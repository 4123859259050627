use Rattle.std.proofs.Common.{List, ℕ, subst}
use Rattle.lsm_frame.specs.Reader.{Tells}
use Rattle.lsm_manifest.specs.Reading.{IsNext, Follows}
use Rattle.lsm_manifest.proofs.Following.{going_more}
use Rattle.lsm_manifest.proofs.reading.read_all.Goals as goal

pub loop-edits-preserved : goal.loop-edits-preserved
loop-edits-preserved g c =
    let now = c.loop-edits.reader in
    going_more c.args.reader.now c.loop-edits.reader c.read_next.new.reader c.loop-edits.edits c.loop-edits.invariant c.read_next.ensures.view
    c.in-More.edit c.push.new.self
    (subst (λ step. (text : List ℕ) → Tells now.viewed text → IsNext text now.given step) c.in-More.is c.in_ok-edit.ensures.next)
    (subst (λ step. Follows now c.read_next.new.reader step) c.in-More.is c.in_ok-edit.ensures.follows)
    c.in-Ok.ensures.ok
