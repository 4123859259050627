-- Where a row stands among internal keys.
use Rattle.std.proofs.Common.{◌≡◌, ℕ, ◌+◌, ◌*◌, ◌^◌, ◌<◌, Bool, List, arith, ap, ◌∙◌}
use Rattle.std.specs.Prelude.{Option, nat_lt}
use Rattle.std.specs.Ordering.{nat_cmp, ordering_then, is_lt}
use Rattle.std.specs.declared.cmp.Ordering.{Ordering}
use Rattle.std.specs.declared.cmp.Ordering.TheVariants.{Equal}
use Rattle.std.proofs.lemmas.Bool.Decides.{nat_tests}
use Rattle.lsm_rows.specs.declared.rows.Row.{Row}
use Rattle.lsm_rows.specs.declared.internal_keys.Kind.{Kind}
use Rattle.lsm_rows.specs.declared.internal_keys.Kind.TheVariants.{Delete, Put}
use Rattle.lsm_rows.specs.InternalKeys.{kind_byte, internal_key, internal_cmp, user_key, trailer}
use Rattle.lsm_rows.specs.Replay.{key_cmp}
use Rattle.lsm_rows.proofs.InternalOrder.{trailer_of, user_key_of, kind_small}
use Rattle.lsm_block.specs.TableText.{kind_of, row_entry}
use Rattle.lsm_block.specs.Runs.{comes_after}

-- the number behind a row's user key
abbrev pub number : Row → ℕ
number row = row.sequence * 256 + kind_byte (kind_of row.value)

compared : (after : List ℕ) (row : Row) → row.sequence < 2 ^ 56 → internal_cmp after (row_entry row).key ≡ ordering_then (key_cmp (user_key after) row.key) (nat_cmp (number row) (trailer after))
unfolding internal_cmp internal_key
compared after row below =
    λ i. ordering_then (key_cmp (user_key after) (user_key_of row.key (number row) i)) (nat_cmp (trailer_of row.key (number row) (omega (arith, below, kind_small (kind_of row.value))) i) (trailer after))

less_is : (a b : ℕ) → is_lt (nat_cmp a b) ≡ nat_lt a b
less_is a b = grind (arith, nat_tests)

-- a row behind an internal key has a greater user key, or the same one and a smaller number
pub is_behind_by : (after : List ℕ) (row : Row) (o : Ordering) → row.sequence < 2 ^ 56 → key_cmp (user_key after) row.key ≡ o
    → is_lt (internal_cmp after (row_entry row).key) ≡ is_lt (ordering_then o (nat_cmp (number row) (trailer after)))
is_behind_by after row o below is = ap is_lt (compared after row below) ∙ ap (λ p. is_lt (ordering_then p (nat_cmp (number row) (trailer after)))) is

pub is_behind_same : (after : List ℕ) (row : Row) → row.sequence < 2 ^ 56 → key_cmp (user_key after) row.key ≡ Equal
    → is_lt (internal_cmp after (row_entry row).key) ≡ nat_lt (number row) (trailer after)
is_behind_same after row below is = is_behind_by after row Equal below is ∙ less_is (number row) (trailer after)

-- whether a row comes after an internal key
abbrev pub is_row_after : Option (List ℕ) → Row → Bool
is_row_after after row = comes_after after (row_entry row).key
