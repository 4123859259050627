-- A data block where an index tells it.
use Rattle.std.proofs.Common.{◌≡◌, ℕ, ◌+◌, ◌≤◌, List, length, Ok, inl, inr, refl, subst, arith}
use Rattle.lsm_disk.specs.Viewed.{Viewed}
use Rattle.lsm_frame.specs.Reader.{Stays, Tells}
use Rattle.lsm_block.specs.declared.entries.Entry.{Entry}
use Rattle.lsm_block.specs.declared.errors.BlockError.TheVariants as block
use Rattle.lsm_block.specs.Blocks.{IsBad}
use Rattle.lsm_table.specs.declared.faults.TableFault.TheVariants.{Malformed}
use Rattle.lsm_table.specs.declared.parts.Properties.{Properties}
use Rattle.lsm_table.specs.Opening.{contents_at}
use Rattle.lsm_table.specs.Tables.{Shows, AreParts}
use Rattle.lsm_table.specs.DataBlocks.{IsTold, IsStoredFault, IsBlockRefused}
use Rattle.lsm_table.proofs.Openings.{no_block}
use Rattle.lsm_frame.proofs.Agreeing.{tells_before}

-- a view that tells a text has room for what the text has
pub within_text : (v : Viewed) (text : List ℕ) (place len : ℕ) → place + len + 5 ≤ v.len → Tells v text → place + len + 5 ≤ length text
within_text v text place len there told = omega (arith, there, told.whole)

pub block_malformed : (text contents : List ℕ) (place len at : ℕ) → place + len + 5 ≤ length text → contents_at place len text ≡ Ok contents → IsBad contents (block.Malformed at) → IsStoredFault text place len (Malformed place)
block_malformed text contents place len at there stored bad = inr (there, inr (refl, record { contents = contents; stored = stored; none = no_block contents at bad }))

pub no_told : (text : List ℕ) (entries index : List Entry) (place : ℕ) → entries ≡ index → ((len : ℕ) → ¬ IsTold entries place len) → IsBlockRefused text index place (Malformed place)
no_told text entries index place same none = inr (inl (refl, subst (λ es. (len : ℕ) → ¬ IsTold es place len) same none))

-- a table whose view stays keeps its parts
pub parts_stay : (a b : Viewed) (properties : Properties) (index : List Entry) → Stays a b → AreParts a properties index → AreParts b properties index
unfolding Shows
parts_stay a b properties index stays parts = record { shows = λ text told. parts.shows text (tells_before a b text stays told); places = parts.places }
