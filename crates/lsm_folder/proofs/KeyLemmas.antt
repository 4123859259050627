-- The test of an internal key says what one is.
use Rattle.std.specs.Prelude.{◌≡◌, ℕ, zero, suc, ◌+◌, ◌*◌, ◌/◌, ◌%◌, ◌^◌, ◌<◌, ◌≤◌, true, ◌&&◌, nat_lt, nat_le, List}
use Rattle.std.proofs.Common.{refl, sym, ap, ◌∙◌, arith}
use Rattle.std.specs.Str.{bytes_eq}
use Rattle.lsm_rows.specs.declared.internal_keys.Kind.{Kind}
use Rattle.lsm_rows.specs.declared.internal_keys.Kind.TheVariants.{Delete, Put}
use Rattle.lsm_rows.specs.InternalKeys.{IsInternalKey, internal_key, kind_byte, user_key, trailer}
use Rattle.lsm_rows.proofs.InternalOrder.{trailer_of, user_key_of, kind_small}
use Rattle.lsm_folder.proofs.NameLemmas.{same_text, equal_texts, and_true}
use Rattle.lsm_block.specs.Blocks.{IsKey}
use Rattle.lsm_folder.specs.Keys.{is_internal_key}
use Rattle.lsm_folder.proofs.AheadLemmas.{at_most, within, less_than}
use Rattle.std.proofs.lemmas.Bool.{and_parts}
use Rattle.lsm_rows.proofs.ReplayedRows.{lesser}

module _ (bytes user : List ℕ) (sequence : ℕ) (kind : Kind) (is : IsInternalKey bytes user sequence kind) where
  number_is : trailer bytes ≡ sequence * 256 + kind_byte kind
  unfolding internal_key
  number_is = ap trailer is.is ∙ trailer_of user (sequence * 256 + kind_byte kind) (omega (arith, is.below, kind_small kind))

  pub user_is : user_key bytes ≡ user
  unfolding internal_key
  user_is = ap user_key is.is ∙ user_key_of user (sequence * 256 + kind_byte kind)

  sequence_is : trailer bytes / 256 ≡ sequence
  sequence_is = omega (arith, number_is, kind_small kind)

  byte_is : trailer bytes % 256 ≡ kind_byte kind
  byte_is = omega (arith, number_is, kind_small kind)

  pub key_tested : is_internal_key bytes ≡ true
  unfolding is_internal_key
  key_tested =
      let low : trailer bytes / 256 < 2 ^ 56 = omega (arith, sequence_is, is.below) in
      let kind_low : trailer bytes % 256 ≤ 1 = omega (arith, byte_is, kind_small kind) in
      let text : internal_key (user_key bytes) (trailer bytes / 256) (trailer bytes % 256) ≡ bytes =
      (λ i. internal_key (user_is i) (sequence_is i) (byte_is i)) ∙ sym is.is in
      and_true _ _ (and_true _ _ (lesser (trailer bytes / 256) (2 ^ 56) low) (within (trailer bytes % 256) 1 kind_low))
      (ap (bytes_eq bytes) text ∙ same_text bytes)

pub key_is_tested : (bytes : List ℕ) → IsKey bytes → is_internal_key bytes ≡ true
key_is_tested bytes key = key_tested bytes key.user key.sequence key.kind key.is

-- a byte of at most 1 is a kind's
pub record IsKindByte (byte : ℕ) : Type 0 where
  pub kind : Kind
  pub is : byte ≡ kind_byte kind

kind_of_byte : (byte : ℕ) → byte ≤ 1 → IsKindByte byte
kind_of_byte zero low = record { kind = Delete; is = refl }
kind_of_byte (suc zero) low = record { kind = Put; is = refl }
kind_of_byte (suc (suc n)) low = absurd (omega (arith, low))

pub tested_key : (bytes : List ℕ) → is_internal_key bytes ≡ true → IsKey bytes
unfolding is_internal_key
tested_key bytes h =
    let parts =
    and_parts (nat_lt (trailer bytes / 256) (2 ^ 56) && nat_le (trailer bytes % 256) 1)
    (bytes_eq bytes (internal_key (user_key bytes) (trailer bytes / 256) (trailer bytes % 256))) h in
    let front = and_parts (nat_lt (trailer bytes / 256) (2 ^ 56)) (nat_le (trailer bytes % 256) 1) parts.0 in
    let kind = kind_of_byte (trailer bytes % 256) (at_most (trailer bytes % 256) 1 front.1) in
    record {
      user = user_key bytes;
      sequence = trailer bytes / 256;
      kind = kind.kind;
      is = record {
        is =
            equal_texts bytes (internal_key (user_key bytes) (trailer bytes / 256) (trailer bytes % 256)) parts.1
            ∙ ap (internal_key (user_key bytes) (trailer bytes / 256)) kind.is;
        below = less_than (trailer bytes / 256) (2 ^ 56) front.0;
      };
    }
