-- A whole table, and where its data blocks stand.
use Rattle.std.specs.Prelude.{◌≡◌, ℕ, ◌^◌, ◌<◌, IsTrue, List, ◌∷◌, ◌++◌, length}
use Rattle.lsm_names.specs.Sessions.{is_session}
use Rattle.lsm_rows.specs.declared.rows.Row.{Row}
use Rattle.lsm_block.specs.declared.entries.Entry.{Entry}
use Rattle.lsm_block.specs.TableText.{IsTableText, blocks_text}

-- The bytes are the table with these rows, this number and this session. They are few enough for restarts, which are
-- numbers of 4 bytes.
pub record IsTable (text : List ℕ) (rows : List Row) (number : ℕ) (session : List ℕ) : Type 0 where
  pub is : IsTableText text rows number session
  pub spelled : IsTrue (is_session session)
  pub small : length text < 2 ^ 32

-- of blocks that are stored one behind another this one stands at this place
pub record StandsAt (blocks : List (List Entry)) (place : ℕ) (block : List Entry) : Type 0 where
  pub before : List (List Entry)
  pub behind : List (List Entry)
  pub is : blocks ≡ before ++ block ∷ behind
  pub place_is : place ≡ length (blocks_text before)
