-- A rotation of a word of 32 bits by 15 places, either way, in plain arithmetic: two parts change places.
use Rattle.std.proofs.Common.{◌≡◌, ℕ, ◌+◌, ◌*◌, ◌/◌, ◌%◌, ◌^◌, ◌-◌, ◌<◌, ap, ◌∙◌, arith}
use Rattle.std.specs.Int.{w32, rotate_left, rotate_right}
use Rattle.std.specs.Int.Bits.{or_shifted_r}
use Rattle.std.proofs.lemmas.Nat.{or_shifted}
use Rattle.std.specs.Prelude.{bit_or}
use Rattle.lsm_bytes.specs.Checksum.{masked, unmasked}

right_is : (c : ℕ) → c < 2 ^ 32 → rotate_right w32 c 15 ≡ c % 32768 * 131072 + c / 32768
right_is c fits =
    let low : c * 131072 % 4294967296 ≡ c % 32768 * 131072 = omega arith in
    ap (bit_or (c / 32768)) low ∙ or_shifted_r (c % 32768) 17 (c / 32768) (omega arith)

left_is : (c : ℕ) → c < 2 ^ 32 → rotate_left w32 c 15 ≡ c % 131072 * 32768 + c / 131072
left_is c fits =
    let low : c * 32768 % 4294967296 ≡ c % 131072 * 32768 = omega arith in
    ap (λ (x : ℕ). bit_or x (c / 131072)) low ∙ or_shifted (c % 131072) 15 (c / 131072) (omega arith)

-- left after right
left-right : (c : ℕ) → c < 2 ^ 32 → rotate_left w32 (rotate_right w32 c 15) 15 ≡ c
left-right c fits =
    let turned : ℕ = c % 32768 * 131072 + c / 32768 in
    ap (λ (x : ℕ). rotate_left w32 x 15) (right_is c fits) ∙ left_is turned (omega arith) ∙ omega arith

-- right after left
right-left : (c : ℕ) → c < 2 ^ 32 → rotate_right w32 (rotate_left w32 c 15) 15 ≡ c
right-left c fits =
    let turned : ℕ = c % 131072 * 32768 + c / 131072 in
    ap (λ (x : ℕ). rotate_right w32 x 15) (left_is c fits) ∙ right_is turned (omega arith) ∙ omega arith

pub unmasked-masked : (c : ℕ) → c < 2 ^ 32 → unmasked (masked c) ≡ c
unmasked-masked c fits =
    let turned : ℕ = rotate_right w32 c 15 in
    let is : turned ≡ c % 32768 * 131072 + c / 32768 = right_is c fits in
    let taken_off : ((turned + 0xA282EAD8) % 2 ^ 32 + (2 ^ 32 - 0xA282EAD8)) % 2 ^ 32 ≡ turned = omega arith in
    ap (λ (x : ℕ). rotate_left w32 x 15) taken_off ∙ left-right c fits

pub masked-unmasked : (m : ℕ) → m < 2 ^ 32 → masked (unmasked m) ≡ m
masked-unmasked m fits =
    let kept : ℕ = (m + (2 ^ 32 - 0xA282EAD8)) % 2 ^ 32 in
    ap (λ (x : ℕ). (x + 0xA282EAD8) % 2 ^ 32) (right-left kept (omega arith)) ∙ omega arith
