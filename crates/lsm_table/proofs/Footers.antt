-- Where the parts stand that a table's footer tells.
use Rattle.std.proofs.Common.{◌≡◌, ℕ, ◌+◌, ◌-◌, ◌≤◌, ◌==◌, Bool, true, false, cond, List, length, take, drop, Result, Ok, Err, refl, sym, ap, ◌∙◌, arith}
use Rattle.std.specs.Prelude.{nat_eq, nat_lt}
use Rattle.std.specs.Cmp.Lexicographic.{pointwise}
use Rattle.std.proofs.lemmas.Bool.Decides.{nat_tests}
use Rattle.std.proofs.lemmas.Bool.{and_parts}
use Rattle.lsm_bytes.specs.Checksum.{crc32c, masked}
use Rattle.lsm_bytes.specs.Numbers.{number_at}
use Rattle.lsm_block.specs.TableText.{magic}
use Rattle.lsm_table.specs.declared.faults.TableFault.{TableFault}
use Rattle.lsm_table.specs.declared.faults.TableFault.TheVariants.{Damaged, Malformed}
use Rattle.lsm_table.specs.declared.parts.Places.{Places}
use Rattle.lsm_table.specs.Opening.{footer_in, footer_of, places_in, lie_in_turn}

equal_is : (m n : ℕ) → nat_eq m n ≡ true → m ≡ n
equal_is m n is = grind (arith, nat_tests)

turned : (a b t : Bool) (first second third : TableFault) (q p : Places) → cond a (cond b (cond t (Ok q) (Err first)) (Err second)) (Err third) ≡ Ok p → (t ≡ true) × (q ≡ p)
turned true true true first second third q p is = (refl, (let same : q ≡ p = cc in same))
turned true true false first second third q p is = cc
turned true false t first second third q p is = cc
turned false b t first second third q p is = cc

footer_place : (place : ℕ) (footer : List ℕ) (p : Places) → footer_in place footer ≡ Ok p → p.properties + 41 ≡ place
unfolding footer_in
footer_place place footer p is =
    let both = turned (pointwise nat_eq (drop 28 footer) magic) (number_at 4 footer 24 == masked (crc32c (take 24 footer))) (lie_in_turn (places_in footer) place) (Malformed place)
    (Damaged place (number_at 4 footer 24) (masked (crc32c (take 24 footer)))) (Malformed place) (places_in footer) p is in
    let turn : lie_in_turn p place ≡ true = ap (λ (q : Places). lie_in_turn q place) (sym both.1) ∙ both.0 in
    equal_is (p.properties + 41) place (and_parts (nat_eq (p.index + p.len + 5) p.properties) (nat_eq (p.properties + 41) place) turn).1

long_by : (size : ℕ) (b : Bool) (r : Result Places TableFault) (p : Places) → nat_lt size 36 ≡ b → cond b (Err (Malformed 0)) r ≡ Ok p → (36 ≤ size) × (r ≡ Ok p)
long_by size true r p test is = cc
long_by size false r p test is = (grind (arith, nat_tests), is)

-- where the properties begin
pub footer_end : (text : List ℕ) (p : Places) → footer_of text ≡ Ok p → p.properties + 77 ≡ length text
unfolding footer_of
footer_end text p is =
    let long = long_by (length text) (nat_lt (length text) 36) (footer_in (length text - 36) (drop (length text - 36) text)) p refl is in
    omega (arith, long.0, footer_place (length text - 36) (drop (length text - 36) text) p long.1)
