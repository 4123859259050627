use Rattle.std.proofs.Common.{◌≡◌, ◌++◌, List, ℕ, ◌+◌, ◌*◌, ◌<◌, ◌≤◌, ◌/◌, ◌%◌, ◌^◌, [], ◌∷◌, take, refl, sym, ap, ◌∙◌, arith, ◌⊎◌, inl, inr}
use Rattle.std.proofs.lemmas.Bool.{cases_lt}
use Rattle.std.proofs.lemmas.List.{append_assoc, length-set, take_more_set}
use Rattle.std.proofs.lemmas.Nat.{pow-add}
use Rattle.std.proofs.Math.Nat.{mul-le-mul_right, pow-le-pow_right}
use Rattle.lsm_bytes.specs.Varint.{varint, varint_within}
use Rattle.lsm_bytes.proofs.Spelling.{varint_last, varint_more}
use Rattle.lsm_bytes.proofs.varint.push_varint.Goals as goal

-- a number of 64 bits has ten groups of seven bits at most
few_groups : (len rest value : ℕ) → rest * 128 ^ len ≤ value → 128 ≤ rest → value < 2 ^ 64 → len + 1 ≤ 9
few_groups len rest value small more fits = by_size (cases_lt len 9)
  where
    by_size : (len < 9) ⊎ (9 ≤ len) → len + 1 ≤ 9
    by_size (inl less) = omega arith
    by_size (inr many) =
        let wide : 128 ^ 9 ≤ 128 ^ len = pow-le-pow_right {n = 128} (omega arith) many in
        let product : 128 * 128 ^ len ≤ rest * 128 ^ len = mul-le-mul_right (128 ^ len) more in
        absurd (omega arith)

-- taking a group off leaves the number under the bound
smaller : (len rest value : ℕ) → rest * 128 ^ len ≤ value → rest / 128 * 128 ^ (len + 1) ≤ value
smaller len rest value small =
    let wider : 128 ^ (len + 1) ≡ 128 ^ len * 128 = pow-add 128 len 1 in
    let fewer : rest / 128 * 128 * 128 ^ len ≤ rest * 128 ^ len = mul-le-mul_right (128 ^ len) (omega arith) in
    omega (arith, ap (λ (x : ℕ). rest / 128 * x) wider)

pub loop-rest-init : goal.loop-rest-init
unfolding varint
loop-rest-init c = record { fuel = c.args.value; within = omega arith; spelled = refl; small = omega arith; few = omega arith; size = refl }

pub loop-rest-preserved : goal.loop-rest-preserved
loop-rest-preserved c =
    let was = c.loop-rest.invariant in
    let few = few_groups c.loop-rest.len c.loop-rest.rest c.args.value was.small c.loop-rest-test.true c.ranges.value.fits in
    let step = varint_more was.fuel c.loop-rest.rest c.loop-rest-test.true was.within in
    let byte : ℕ = c.loop-rest.rest % 128 + 128 in
    let put = take_more_set c.loop-rest.spelling c.loop-rest.len byte (omega (arith, was.size, was.few)) in
    record {
      fuel = step.0;
      within = step.1;
      spelled = ap (λ (s : List ℕ). s ++ varint_within step.0 (c.loop-rest.rest / 128)) put ∙ append_assoc (take c.loop-rest.len c.loop-rest.spelling) (byte ∷ []) (varint_within step.0 (c.loop-rest.rest / 128)) ∙ ap (λ (s : List ℕ). take c.loop-rest.len c.loop-rest.spelling ++ s) (sym step.2) ∙ was.spelled;
      small = smaller c.loop-rest.len c.loop-rest.rest c.args.value was.small;
      few = few;
      size = length-set c.loop-rest.spelling c.loop-rest.len byte ∙ was.size;
    }

pub returns : goal.returns
returns c =
    let was = c.loop-rest.invariant in
    let put = take_more_set c.loop-rest.spelling c.loop-rest.len c.loop-rest.rest (omega (arith, was.size, was.few)) in
    c.in_ok-extend_from_slice.ensures
    ∙ ap (λ (s : List ℕ). c.args.out.now ++ s) (put ∙ ap (λ (s : List ℕ). take c.loop-rest.len c.loop-rest.spelling ++ s) (sym (varint_last was.fuel c.loop-rest.rest c.loop-rest-test.false)) ∙ was.spelled)
