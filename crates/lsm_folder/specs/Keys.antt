-- Which bytes are an internal key, as a test.
use Rattle.std.specs.Prelude.{ℕ, ◌/◌, ◌%◌, ◌^◌, Bool, ◌&&◌, nat_lt, nat_le, List}
use Rattle.std.specs.Str.{bytes_eq}
use Rattle.lsm_rows.specs.InternalKeys.{internal_key, user_key, trailer}

-- the bytes are the internal key of their user key, their sequence and their kind, and the kind is a put or a delete
unfoldable pub is_internal_key : List ℕ → Bool
is_internal_key bytes = nat_lt (trailer bytes / 256) (2 ^ 56) && nat_le (trailer bytes % 256) 1
    && bytes_eq bytes (internal_key (user_key bytes) (trailer bytes / 256) (trailer bytes % 256))
