-- Varints and byte lists are read back by their own lengths.
use Rattle.std.specs.Prelude.{◌≡◌, ℕ, zero, suc, ◌+◌, ◌-◌, ◌*◌, ◌/◌, ◌%◌, ◌<◌, ◌≤◌, Bool, true, false, cond, nat_lt, nat_le, List, [], ◌∷◌, ◌++◌, length, take, drop}
use Rattle.std.proofs.Common.{refl, ap, ◌∙◌, arith, ⊎_elim, append_assoc}
use Rattle.std.proofs.lemmas.Bool.Decides.{nat_tests}
use Rattle.std.proofs.lemmas.Bool.{cases_lt}
use Rattle.lsm_bytes.specs.Varint.{varint, varint_within}
use Rattle.lsm_bytes.proofs.Spelling.{varint_last}
use Rattle.lsm_rows.specs.BatchText.{sized}
use Rattle.lsm_folder.specs.Batches.{number_ahead, sized_ahead}

ahead_last : (b : ℕ) (rest : List ℕ) → b < 128 → number_ahead (b ∷ rest) ≡ (b, rest)
ahead_last b rest below = grind (arith, nat_tests)

ahead_more : (b n high : ℕ) (bytes rest : List ℕ) → 128 ≤ b → number_ahead bytes ≡ (high, rest) → b - 128 + 128 * high ≡ n
    → number_ahead (b ∷ bytes) ≡ (n, rest)
ahead_more b n high bytes rest more ahead is =
    let test : nat_lt b 128 ≡ false = grind (arith, nat_tests) in
    ap (λ (t : Bool). cond t (b, bytes) (b - 128 + 128 * (number_ahead bytes).0, (number_ahead bytes).1)) test
    ∙ ap (λ (r : ℕ × List ℕ). (b - 128 + 128 * r.0, r.1)) ahead
    ∙ ap (λ (k : ℕ). (k, rest)) is

number_within : (more n : ℕ) (rest : List ℕ) → n ≤ more → number_ahead (varint_within more n ++ rest) ≡ (n, rest)
unfolding varint_within
number_within zero n rest within = ahead_last n rest (omega arith)
number_within (suc more) n rest within = ⊎_elim
    (λ below. ap (λ (l : List ℕ). number_ahead (l ++ rest)) (varint_last (suc more) n below) ∙ ahead_last n rest below)
    (λ high.
    let test : nat_lt n 128 ≡ false = grind (arith, nat_tests) in
    ap (λ (t : Bool). number_ahead (cond t (n ∷ []) ((n % 128 + 128) ∷ varint_within more (n / 128)) ++ rest)) test
    ∙ ahead_more (n % 128 + 128) n (n / 128) (varint_within more (n / 128) ++ rest) rest (omega arith)
    (number_within more (n / 128) rest (omega arith)) (omega arith))
    (cases_lt n 128)

pub number_back : (n : ℕ) (rest : List ℕ) → number_ahead (varint n ++ rest) ≡ (n, rest)
unfolding varint
number_back n rest = number_within n n rest (omega arith)

pub take_front : (front rest : List ℕ) → take (length front) (front ++ rest) ≡ front
take_front [] rest = refl
take_front (x ∷ front) rest = ap (λ (l : List ℕ). x ∷ l) (take_front front rest)

pub drop_front : (front rest : List ℕ) → drop (length front) (front ++ rest) ≡ rest
drop_front [] rest = refl
drop_front (x ∷ front) rest = drop_front front rest

pub sized_back : (bytes rest : List ℕ) → sized_ahead (sized bytes ++ rest) ≡ (bytes, rest)
unfolding sized
sized_back bytes rest =
    let ahead : number_ahead ((varint (length bytes) ++ bytes) ++ rest) ≡ (length bytes, bytes ++ rest) =
    ap number_ahead (append_assoc (varint (length bytes)) bytes rest) ∙ number_back (length bytes) (bytes ++ rest) in
    ap (λ (r : ℕ × List ℕ). (take r.0 r.1, drop r.0 r.1)) ahead
    ∙ ap (λ (l : List ℕ). (l, drop (length bytes) (bytes ++ rest))) (take_front bytes rest)
    ∙ ap (λ (l : List ℕ). (bytes, l)) (drop_front bytes rest)

-- ---- tests

pub at_most : (m n : ℕ) → nat_le m n ≡ true → m ≤ n
at_most m n h = grind (arith, nat_tests)

pub within : (m n : ℕ) → m ≤ n → nat_le m n ≡ true
within m n h = grind (arith, nat_tests)

pub less_than : (m n : ℕ) → nat_lt m n ≡ true → m < n
less_than m n h = grind (arith, nat_tests)
