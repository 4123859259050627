use Rattle.std.proofs.Common.{◌<◌, ◌∙◌, ℕ, List, ap, sym, subst, get_or}
use Rattle.std.proofs.lemmas.List.{get_or-drop}
use Rattle.lsm_bytes.proofs.Division.{eight_step}
use Rattle.lsm_bytes.proofs.checksum.Crc.update.Goals as goal

pub loop-rest-preserved : goal.loop-rest-preserved
loop-rest-preserved c =
    let l = c.loop-rest in
    let behind = c.split_at.ensures.back in
    record {
      same = eight_step l.register c.after_eight-register.result c.read_u64.result l.rest.now c.split_at.result.0.now c.split_at.result.1.now c.loop-rest-test.true l.invariant.fit c.split_at.ensures.front behind c.read_u64.ensures c.after_eight-register.ensures ∙ l.invariant.same;
      fit = λ i. subst (λ (x : ℕ). x < 256) (sym (ap (λ (s : List ℕ). get_or s i 0) behind ∙ get_or-drop 8 l.rest.now i 0)) (l.invariant.fit _);
    }
