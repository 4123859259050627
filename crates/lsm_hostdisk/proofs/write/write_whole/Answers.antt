use Rattle.std.proofs.Common.{◌≡◌, ℕ, List, ◌++◌, ◌∙◌, take, drop, append_assoc}
use Rattle.std.proofs.lemmas.List.{take-append-drop}
use Rattle.std.proofs.KnownBytes.{Appends-trans}
use Rattle.lsm_hostdisk.proofs.write.write_whole.Goals as goal

-- the front of what was left goes behind what was written
moved : (bytes front rest tail : List ℕ) (n : ℕ) → bytes ≡ front ++ rest → tail ≡ drop n rest → bytes ≡ (front ++ take n rest) ++ tail
moved bytes front rest tail n e t = e ∙ rw (t, append_assoc, take-append-drop)

pub loop-rest-preserved : goal.loop-rest-preserved
loop-rest-preserved g c =
    let was = c.loop-rest.invariant in
    (was.0 ++ take c.in-Ok.count c.loop-rest.rest.now, moved _ _ _ _ _ was.1 c.split_at.ensures.back, Appends-trans _ _ _ _ _ was.2 c.in-Ok.ensures.bytes)
