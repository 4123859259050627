-- Digits to base 36 and the names that are made of them.
use Rattle.std.proofs.Common.{◌≡◌, ◌<◌, ℕ, ◌+◌, ◌-◌, ◌*◌, ◌/◌, ◌%◌, ◌^◌, ◌∙◌, sym, drop, List, ◌∷◌, ◌++◌, zero, suc, true, length, take, set, refl, ap, arith, append_assoc}
use Rattle.std.proofs.lemmas.Grind.{take-set_at}
use Rattle.std.proofs.lemmas.List.{length-set, take_at, drop_at}
use Rattle.std.proofs.Math.Nat.{pow-succ'}
use Rattle.std.proofs.lemmas.List.Folds.{list_all-append}
use Rattle.std.proofs.lemmas.Bool.Decides.{nat_tests}
use Rattle.lsm_io.specs.Session.{digits, session_name, character_of, is_session, is_session_byte}

-- the next digit of what is left goes behind those that are written
pub digits_go_on : (into : List ℕ) (number i rest c : ℕ) → i < length into → c ≡ character_of (rest % 36) → take i into ++ digits (length into - i) rest ≡ digits (length into) number
    → take (i + 1) (set into i c) ++ digits (length (set into i c) - (i + 1)) (rest / 36) ≡ digits (length (set into i c)) number
unfolding digits
digits_go_on into number i rest c inside e was =
    let more : length into - i ≡ suc (length into - (i + 1)) = omega arith in
    let next : digits (length into - i) rest ≡ c ∷ digits (length into - (i + 1)) (rest / 36) = rw (more, e) refl in
    rw (length-set, take-set_at into i (i + 1) c refl inside, append_assoc, ← next) was

-- each digit is spelled as a session's byte
digit_is_spelled : (n : ℕ) → n < 36 → is_session_byte (character_of n) ≡ true
digit_is_spelled n small = grind (arith, nat_tests)

digits_spelled : (count number : ℕ) → is_session (digits count number) ≡ true
unfolding digits
digits_spelled zero number = refl
digits_spelled (suc count) number = rw (digit_is_spelled (number % 36) (omega arith)) (digits_spelled count (number / 36))

pub digits_are_spelled : (count more number other : ℕ) → is_session (digits count number ++ digits more other) ≡ true
digits_are_spelled count more number other =
    rw (list_all-append is_session_byte (digits count number) (digits more other), digits_spelled count number, digits_spelled more other) refl

-- two digits that are spelled alike are the same
digit_tells : (m n : ℕ) → m < 36 → n < 36 → character_of m ≡ character_of n → m ≡ n
digit_tells m n h k e = grind (arith, nat_tests)

-- numbers that have the same digits and need no more are the same
digits_tell : (count m n : ℕ) → m < 36 ^ count → n < 36 ^ count → digits count m ≡ digits count n → m ≡ n
unfolding digits
digits_tell zero m n h k e = omega arith
digits_tell (suc count) m n h k e =
    let power : 36 ^ suc count ≡ 36 * 36 ^ count = pow-succ' 36 count in
    let first : character_of (m % 36) ≡ character_of (n % 36) = cc in
    let others : digits count (m / 36) ≡ digits count (n / 36) = cc in
    let same : m % 36 ≡ n % 36 = digit_tells (m % 36) (n % 36) (omega arith) (omega arith) first in
    let rest : m / 36 ≡ n / 36 = digits_tell count (m / 36) (n / 36) (omega arith) (omega arith) others in
    omega arith

length-digits : (count number : ℕ) → length (digits count number) ≡ count
unfolding digits
length-digits zero number = refl
length-digits (suc count) number = ap (λ (k : ℕ). suc k) (length-digits count (number / 36))

-- names made of moments and numbers that need no more digits tell these
pub names_tell : (moment number moment' number' : ℕ) → moment < 36 ^ 13 → moment' < 36 ^ 13 → number < 36 ^ 7 → number' < 36 ^ 7
    → session_name moment number ≡ session_name moment' number' → (moment ≡ moment') × (number ≡ number')
names_tell moment number moment' number' m m' n n' e =
    let front : digits 13 moment ≡ digits 13 moment' = sym (take_at (digits 13 moment) (digits 7 number) 13 (length-digits 13 moment)) ∙ ap (take 13) e ∙ take_at (digits 13 moment') (digits 7 number') 13 (length-digits 13 moment') in
    let back : digits 7 number ≡ digits 7 number' = sym (drop_at (digits 13 moment) (digits 7 number) 13 (length-digits 13 moment)) ∙ ap (drop 13) e ∙ drop_at (digits 13 moment') (digits 7 number') 13 (length-digits 13 moment') in
    (digits_tell 13 moment moment' m m' front, digits_tell 7 number number' n n' back)
