-- Each table of the checksum keeps its rule, at each of its 256 entries: the tables are computed anew from the
-- bitwise division and compared whole.
use Rattle.std.proofs.Common.{◌≡◌, ℕ, ◌+◌, ◌*◌, ◌<◌, ◌∙◌, List, [], map, get_or, refl, ap, arith, zero, suc}
use Rattle.std.specs.List.{range_with_len}
use Rattle.std.proofs.lemmas.List.FromFn.{get_or-map-range_with_len}
use Rattle.lsm_bytes.specs.declared.tables.TheConstants.{TABLES}
use Rattle.lsm_bytes.specs.Checksum.{divide_bits}

-- what so many bits of the division make of each byte
ruled : ℕ → List ℕ
ruled bits = map (divide_bits bits) (range_with_len 0 256)

row-0 : get_or TABLES 0 [] ≡ ruled 8
unfolding divide_bits ruled
row-0 = refl

row-1 : get_or TABLES 1 [] ≡ ruled 16
unfolding divide_bits ruled
row-1 = refl

row-2 : get_or TABLES 2 [] ≡ ruled 24
unfolding divide_bits ruled
row-2 = refl

row-3 : get_or TABLES 3 [] ≡ ruled 32
unfolding divide_bits ruled
row-3 = refl

row-4 : get_or TABLES 4 [] ≡ ruled 40
unfolding divide_bits ruled
row-4 = refl

row-5 : get_or TABLES 5 [] ≡ ruled 48
unfolding divide_bits ruled
row-5 = refl

row-6 : get_or TABLES 6 [] ≡ ruled 56
unfolding divide_bits ruled
row-6 = refl

row-7 : get_or TABLES 7 [] ≡ ruled 64
unfolding divide_bits ruled
row-7 = refl

ruled_at : (bits : ℕ) (row : List ℕ) (byte : ℕ) → row ≡ ruled bits → byte < 256 → get_or row byte 0 ≡ divide_bits bits byte
unfolding ruled
ruled_at bits row byte is fits =
    ap (λ (t : List ℕ). get_or t byte 0) is ∙ get_or-map-range_with_len (divide_bits bits) 0 256 byte byte 0 fits (omega arith)

pub entry_of : (table byte : ℕ) → table < 8 → byte < 256 → get_or (get_or TABLES table []) byte 0 ≡ divide_bits (8 * (table + 1)) byte
entry_of zero byte inside fits = ruled_at 8 (get_or TABLES 0 []) byte row-0 fits
entry_of (suc zero) byte inside fits = ruled_at 16 (get_or TABLES 1 []) byte row-1 fits
entry_of (suc (suc zero)) byte inside fits = ruled_at 24 (get_or TABLES 2 []) byte row-2 fits
entry_of (suc (suc (suc zero))) byte inside fits = ruled_at 32 (get_or TABLES 3 []) byte row-3 fits
entry_of (suc (suc (suc (suc zero)))) byte inside fits = ruled_at 40 (get_or TABLES 4 []) byte row-4 fits
entry_of (suc (suc (suc (suc (suc zero))))) byte inside fits = ruled_at 48 (get_or TABLES 5 []) byte row-5 fits
entry_of (suc (suc (suc (suc (suc (suc zero)))))) byte inside fits = ruled_at 56 (get_or TABLES 6 []) byte row-6 fits
entry_of (suc (suc (suc (suc (suc (suc (suc zero))))))) byte inside fits = ruled_at 64 (get_or TABLES 7 []) byte row-7 fits
entry_of (suc (suc (suc (suc (suc (suc (suc (suc table)))))))) byte inside fits = absurd (omega arith)
