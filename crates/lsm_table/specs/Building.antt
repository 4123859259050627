-- A table that is being built.
use Rattle.std.specs.Prelude.{◌≡◌, ℕ, ◌+◌, List, [], ◌∷◌, ◌++◌, length, map, unwrap_or}
use Rattle.lsm_rows.specs.declared.rows.Row.{Row}
use Rattle.lsm_block.specs.Parts.{IsPast, last_key}
use Rattle.lsm_block.specs.TableText.{row_entry, Blocks, blocks_of, blocks_text, index_from, table_text}
use Rattle.lsm_table.specs.Cuts.{Cut}

-- what a builder keeps: the table's number and session, the count of rows, the first row's key and the data blocks
pub record Built : Type 0 where
  pub number : ℕ
  pub session : List ℕ
  pub count : ℕ
  pub smallest : List ℕ
  pub blocks : Cut

-- the data blocks are those of these entries, when these bytes were handed out
pub record IsCutOf (c : Cut) (b : Blocks) (handed : List ℕ) : Type 0 where
  pub begun_is : c.begun ≡ b.begun
  pub index_is : c.index ≡ index_from 0 b.ended
  pub text_is : handed ++ c.pending ≡ blocks_text b.ended
  pub place_is : c.place ≡ length (blocks_text b.ended)

-- the builder has taken these rows and handed out these bytes
pub record IsBuilt (v : Built) (rows : List Row) (handed : List ℕ) : Type 0 where
  pub count_is : v.count ≡ length rows
  pub first_is : (row : Row) (more : List Row) → rows ≡ row ∷ more → v.smallest ≡ (row_entry row).key
  pub blocks_are : IsCutOf v.blocks (blocks_of (map row_entry rows)) handed
  pub last_is : last_key (v.blocks.index ++ v.blocks.begun) ≡ last_key (map row_entry rows)

-- a row's key is past all keys so far
pub record IsBehind (v : Built) (row : Row) : Type 0 where
  pub begun : IsPast v.blocks.begun (row_entry row).key
  pub index : IsPast v.blocks.index (row_entry row).key

-- how many bytes a row's key and value have
abbrev pub row_len : Row → ℕ
row_len row = length row.key + length (unwrap_or row.value [])

-- what a finished table is: the bytes that weren't handed out, its size and its first and last internal keys
pub record IsFinished (v : Built) (rows : List Row) (handed tail : List ℕ) (size : ℕ) (smallest largest : List ℕ) : Type 0 where
  pub text : handed ++ tail ≡ table_text rows v.number v.session
  pub size_is : size ≡ length (table_text rows v.number v.session)
  pub smallest_is : (row : Row) (more : List Row) → rows ≡ row ∷ more → smallest ≡ (row_entry row).key
  pub largest_is : largest ≡ last_key (map row_entry rows)
