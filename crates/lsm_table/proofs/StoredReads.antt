-- What was stored is read back.
use Rattle.std.proofs.Common.{◌≡◌, ℕ, ◌+◌, ◌-◌, ◌^◌, ◌<◌, true, nat_eq, List, [], ◌∷◌, ◌++◌, length, take, drop, get_or, Ok, refl, sym, ap, ◌∙◌, arith, append_assoc, length-append}
use Rattle.std.specs.Int.{w32, w64, to_le_bytes}
use Rattle.std.specs.Cmp.Lexicographic.{pointwise}
use Rattle.std.proofs.lemmas.Bool.Decides.{nat_tests}
use Rattle.std.proofs.lemmas.List.{take_at, drop_at, get_or-append-add}
use Rattle.lsm_bytes.specs.Checksum.{crc32c, masked}
use Rattle.lsm_bytes.specs.Numbers.{number_at}
use Rattle.lsm_block.specs.TableText.{stored, magic, places_text, footer_text}
use Rattle.lsm_table.specs.declared.parts.Places.{Places}
use Rattle.lsm_table.specs.Opening.{contents_in, footer_in, places_in, lie_in_turn}
use Rattle.lsm_frame.proofs.Written.{masked_small}

pub eight : (n : ℕ) (tail : List ℕ) → n < 2 ^ 64 → number_at 8 (to_le_bytes w64 n ++ tail) 0 ≡ n
eight n tail below = omega arith

four_read : (n : ℕ) (tail : List ℕ) → n < 2 ^ 32 → number_at 4 (to_le_bytes w32 n ++ tail) 0 ≡ n
four_read n tail below = omega arith

contents_by : (place : ℕ) (part c : List ℕ) → get_or part (length part - 5) 0 ≡ 0 → number_at 4 part (length part - 4) ≡ masked (crc32c (take (length part - 4) part)) → take (length part - 5) part ≡ c
    → contents_in place part ≡ Ok c
unfolding contents_in
contents_by place part c plain kept front = grind (arith, nat_tests)

-- contents, a byte 0 and a checksum of 4 bytes
parts_of : (place : ℕ) (c : List ℕ) (m : ℕ) → m ≡ masked (crc32c (c ++ 0 ∷ [])) → contents_in place ((c ++ 0 ∷ []) ++ to_le_bytes w32 m) ≡ Ok c
parts_of place c m is =
    let b : List ℕ = c ++ 0 ∷ [] in
    let part : List ℕ = b ++ to_le_bytes w32 m in
    let size : length b ≡ length c + 1 = length-append c (0 ∷ []) in
    let long : length part ≡ length b + 4 = length-append b (to_le_bytes w32 m) in
    let five : length part - 5 ≡ length c = omega (arith, size, long) in
    let four : length part - 4 ≡ length b = omega (arith, long) in
    let small : m < 2 ^ 32 = omega (arith, is, masked_small (crc32c b)) in
    let apart : part ≡ c ++ (0 ∷ to_le_bytes w32 m) = append_assoc c (0 ∷ []) (to_le_bytes w32 m) in
    contents_by place part c
    (ap (λ (n : ℕ). get_or part n 0) (five ∙ omega arith) ∙ ap (λ (l : List ℕ). get_or l (length c + 0) 0) apart ∙ get_or-append-add c (0 ∷ to_le_bytes w32 m) 0 0)
    (ap (λ (n : ℕ). number_at 4 part n) four ∙ ap (λ (l : List ℕ). number_at 4 l 0) (drop_at b (to_le_bytes w32 m) (length b) refl) ∙ four_read m [] small ∙ is
    ∙ ap (λ (l : List ℕ). masked (crc32c l)) (sym (ap (λ (n : ℕ). take n part) four ∙ take_at b (to_le_bytes w32 m) (length b) refl)))
    (ap (λ (n : ℕ). take n part) five ∙ ap (λ (l : List ℕ). take (length c) l) apart ∙ take_at c (0 ∷ to_le_bytes w32 m) (length c) refl)

pub stored_reads : (place : ℕ) (c : List ℕ) → contents_in place (stored c) ≡ Ok c
unfolding stored
stored_reads place c = parts_of place c (masked (crc32c (c ++ 0 ∷ []))) refl

footer_by : (place : ℕ) (f : List ℕ) (p : Places) → pointwise nat_eq (drop 28 f) magic ≡ true → number_at 4 f 24 ≡ masked (crc32c (take 24 f)) → places_in f ≡ p → lie_in_turn p place ≡ true → footer_in place f ≡ Ok p
unfolding footer_in
footer_by place f p ends kept is turn = grind (arith, nat_tests)

in_turn : (index len properties place : ℕ) → index + len + 5 ≡ properties → properties + 41 ≡ place → lie_in_turn (record { index = index; len = len; properties = properties }) place ≡ true
in_turn index len properties place one two = grind (arith, nat_tests)

-- the three places, their checksum and the last bytes
footer_of_parts : (index len properties place m : ℕ) → m ≡ masked (crc32c (places_text index len properties)) → index + len + 5 ≡ properties → properties + 41 ≡ place → place < 2 ^ 64
    → footer_in place (places_text index len properties ++ to_le_bytes w32 m ++ magic) ≡ Ok (record { index = index; len = len; properties = properties })
unfolding places_text
footer_of_parts index len properties place m is one two below =
    let rest : List ℕ = to_le_bytes w32 m ++ magic in
    let f : List ℕ = places_text index len properties ++ to_le_bytes w32 m ++ magic in
    footer_by place f (record { index = index; len = len; properties = properties }) refl
    (four_read m magic (omega (arith, is, masked_small (crc32c (places_text index len properties)))) ∙ is)
    (λ i. record {
      index = eight index (to_le_bytes w64 len ++ to_le_bytes w64 properties ++ rest) (omega arith) i;
      len = eight len (to_le_bytes w64 properties ++ rest) (omega arith) i;
      properties = eight properties rest (omega arith) i;
    })
    (in_turn index len properties place one two)

pub footer_reads : (index len properties place : ℕ) → index + len + 5 ≡ properties → properties + 41 ≡ place → place < 2 ^ 64 → footer_in place (footer_text index len properties) ≡ Ok (record { index = index; len = len; properties = properties })
unfolding footer_text
footer_reads index len properties place one two below = footer_of_parts index len properties place (masked (crc32c (places_text index len properties))) refl one two below
