use Rattle.std.proofs.Common.{◌≡◌, ℕ, List, ◌≤◌, length, take, drop, inl, inr, true, subst, sym, ap, ◌∙◌, arith, rules}
use Rattle.std.specs.List.{list_all}
use Rattle.std.proofs.lemmas.List.{take_all}
use Rattle.lsm_names.specs.Sessions.{is_session_byte}
use Rattle.lsm_version.specs.Reading.{IsSessionAt}
use Rattle.lsm_version.proofs.ReadSessions.{session_fault, session_at, session_of, IsBadByte}
use Rattle.lsm_version.proofs.table_reading.read_session.Goals as goal
use Rattle.lsm_version.proofs.table_reading.read_session.Goals.{then-i-rest-via-then-i-rest, then-i-rest-via-else-i-rest+then-not-is_session_byte}

pub returns-then-i-rest-clause-fault : goal.returns-then-i-rest-clause-fault
returns-then-i-rest-clause-fault c =
    let rest : List ℕ = c.split_at.result.1.now in
    let back : rest ≡ drop c.args.at c.args.bytes.now = c.split_at.ensures.back in
    let kept = c.loop-i.invariant in
    session_fault c.args.bytes.now c.args.at c.loop-i.i c.loop-i-test.true
    (subst (λ (l : List ℕ). c.loop-i.i ≤ length l) back kept.2)
    (subst (λ (l : List ℕ). list_all is_session_byte (take c.loop-i.i l) ≡ true) back kept.4)
    (subst (λ (l : List ℕ). IsBadByte c.loop-i.i l) back (elim c.then-i-rest.branch [
      | then-i-rest-via-then-i-rest w ↦ inl w.if-i-rest.true
      | then-i-rest-via-else-i-rest+then-not-is_session_byte w ↦ inr (search rules)
    ]))

pub unwrap-requires : goal.unwrap-requires
unwrap-requires c =
    let rest : List ℕ = c.split_at.result.1.now in
    let kept = c.loop-i.invariant in
    let last : c.loop-i.i ≡ 20 = omega arith in
    let whole : c.loop-i.name ≡ take 20 rest =
    sym (take_all 20 c.loop-i.name (omega (arith, kept.1))) ∙ subst (λ (n : ℕ). take n c.loop-i.name ≡ take n rest) last kept.3 in
    c.new.ensures.exactly.1 (session_of c.loop-i.name kept.1 (ap (list_all is_session_byte) whole ∙ subst (λ (n : ℕ). list_all is_session_byte (take n rest) ≡ true) last kept.4))

pub returns-clause-ok : goal.returns-clause-ok
returns-clause-ok c =
    let bytes : List ℕ = c.args.bytes.now in
    let rest : List ℕ = c.split_at.result.1.now in
    let back : rest ≡ drop c.args.at bytes = c.split_at.ensures.back in
    let kept = c.loop-i.invariant in
    let last : c.loop-i.i ≡ 20 = omega arith in
    let whole : c.loop-i.name ≡ take 20 rest =
    sym (take_all 20 c.loop-i.name (omega (arith, kept.1))) ∙ subst (λ (n : ℕ). take n c.loop-i.name ≡ take n rest) last kept.3 in
    let named : c.unwrap.result ≡ c.loop-i.name = search rules in
    subst (λ (name : List ℕ). IsSessionAt bytes c.args.at name) (sym named)
    (session_at bytes c.loop-i.name c.args.at kept.1
    (subst (λ (l : List ℕ). 20 ≤ length l) back (omega (arith, kept.2, last)))
    (whole ∙ ap (take 20) back)
    (subst (λ (l : List ℕ). list_all is_session_byte (take 20 l) ≡ true) back (subst (λ (n : ℕ). list_all is_session_byte (take n rest) ≡ true) last kept.4)))
