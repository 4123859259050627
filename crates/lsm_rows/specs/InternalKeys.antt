-- Internal keys: a user key, and 8 bytes, little endian, of its row's sequence * 256 + kind.
use Rattle.std.specs.Prelude.{◌≡◌, ℕ, ◌+◌, ◌-◌, ◌*◌, ◌^◌, ◌<◌, List, ◌++◌, length, take}
use Rattle.std.specs.Int.{w64, to_le_bytes}
use Rattle.std.specs.Ordering.{nat_cmp, ordering_then}
use Rattle.std.specs.declared.cmp.Ordering.{Ordering}
use Rattle.std.specs.Cmp.{IsTotalOrder}
use Rattle.std.proofs.lemmas.Cmp.{on_total, then_total, back_total, nat_cmp_total, nat_list_cmp_total}
use Rattle.lsm_bytes.specs.Numbers.{number_at}
use Rattle.lsm_rows.specs.Replay.{key_cmp}
use Rattle.lsm_rows.specs.declared.internal_keys.Kind.{Kind}
use Rattle.lsm_rows.specs.declared.internal_keys.Kind.TheVariants.{Delete, Put}

-- the kind bytes, the same as in a batch's text
abbrev pub kind_byte : Kind → ℕ
kind_byte Delete = 0
kind_byte Put = 1

-- the internal key of a user key's row with this sequence and kind byte
unfoldable pub internal_key : List ℕ → ℕ → ℕ → List ℕ
internal_key key sequence kind = key ++ to_le_bytes w64 (sequence * 256 + kind)

-- the bytes are the internal key of this user key, sequence and kind
pub record IsInternalKey (bytes key : List ℕ) (sequence : ℕ) (kind : Kind) : Type 0 where
  pub is : bytes ≡ internal_key key sequence (kind_byte kind)
  pub below : sequence < 2 ^ 56

-- all but the last 8 bytes
abbrev pub user_key : List ℕ → List ℕ
user_key bytes = take (length bytes - 8) bytes

-- the number in the last 8 bytes: sequence * 256 + kind
abbrev pub trailer : List ℕ → ℕ
trailer bytes = number_at 8 bytes (length bytes - 8)

-- user keys by their bytes ascending, and of one user key the greater sequence first
unfoldable pub internal_cmp : List ℕ → List ℕ → Ordering
internal_cmp a b = ordering_then (key_cmp (user_key a) (user_key b)) (nat_cmp (trailer b) (trailer a))

-- that order is total
pub internal_total : IsTotalOrder internal_cmp
unfolding internal_cmp
internal_total = then_total (on_total user_key nat_list_cmp_total) (back_total (on_total trailer nat_cmp_total))
