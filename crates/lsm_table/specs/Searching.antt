-- What a data block has of a user key.
use Rattle.std.specs.Prelude.{◌≡◌, ℕ, ◌^◌, ◌<◌, List, Option, Some, None}
use Rattle.std.specs.List.{find}
use Rattle.std.specs.Cmp.Lexicographic.{pointwise}
use Rattle.std.specs.Prelude.{nat_eq}
use Rattle.lsm_rows.specs.declared.rows.Row.{Row}
use Rattle.lsm_rows.specs.declared.internal_keys.Kind.{Kind}
use Rattle.lsm_rows.specs.declared.internal_keys.Kind.TheVariants.{Delete, Put}
use Rattle.lsm_rows.specs.InternalKeys.{user_key}
use Rattle.lsm_block.specs.declared.entries.Entry.{Entry}
use Rattle.lsm_block.specs.TableText.{row_entry}

-- the first entry of a user key, which is that of its newest row
unfoldable pub entry_of : List ℕ → List Entry → Option Entry
entry_of key es = find (λ e. pointwise nat_eq (user_key e.key) key) es

-- the value of a row of this kind whose entry has these bytes
unfoldable pub IsValue : Kind → List ℕ → Option (List ℕ) → Type 0
IsValue Put bytes value = value ≡ Some bytes
IsValue Delete bytes value = value ≡ None

-- a row that an entry is of: it has the entry's key, and a put has the entry's value
pub record IsOf (e : Entry) (row : Row) : Type 0 where
  pub key_is : e.key ≡ (row_entry row).key
  pub value_is : (value : List ℕ) → row.value ≡ Some value → value ≡ e.value
  pub below : row.sequence < 2 ^ 56

-- the newest row of a user key, or that there is none
unfoldable pub IsRowOf : List Entry → List ℕ → Option Row → Type 0
IsRowOf es key None = entry_of key es ≡ None
IsRowOf es key (Some row) = (row.key ≡ key) × (e : Entry) × (entry_of key es ≡ Some e) × IsOf e row
