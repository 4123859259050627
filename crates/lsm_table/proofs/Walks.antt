-- The data blocks in the order of an index.
use Rattle.std.proofs.Common.{◌≡◌, ℕ, ◌<◌, List, [], ◌∷◌, length, get_or, subst, Result, Ok, Err, ap, ◌∙◌, sym, refl, zero, suc}
use Rattle.std.specs.Prelude.{Some, slice_get, IfOk, IfErr, MatchResult}
use Rattle.lsm_disk.specs.Viewed.{Viewed}
use Rattle.lsm_frame.specs.Reader.{Tells}
use Rattle.lsm_rows.specs.declared.rows.Row.{Row}
use Rattle.lsm_block.specs.declared.entries.Entry.{Entry}
use Rattle.lsm_block.specs.TableText.{data_blocks}
use Rattle.lsm_block.proofs.Sought.{at_index}
use Rattle.lsm_table.specs.declared.faults.TableFault.{TableFault}
use Rattle.lsm_table.specs.declared.parts.Properties.{Properties}
use Rattle.lsm_table.specs.Opening.{IsOutside}
use Rattle.lsm_table.specs.DataBlocks.{StoresBlock, StoresFault, IsNthBlock, IsNthFault}
use Rattle.lsm_table.specs.Rows.{IsOfBlock, AreOfBlocks}
use Rattle.lsm_table.specs.Tables.{Shows}
use Rattle.lsm_table.specs.WholeTables.{IsTable}
use Rattle.lsm_table.proofs.WholeRows.{of_opened}

-- of the blocks that entries are of, the one that the entry of this number is of
record IsTurnOf (text : List ℕ) (blocks : List (List Entry)) (nth : ℕ) (e : Entry) : Type 0 where
  block : List Entry
  at : slice_get blocks nth ≡ Some block
  is_of : IsOfBlock text e block

turn_at : (text : List ℕ) (index : List Entry) (blocks : List (List Entry)) (nth : ℕ) (e : Entry) → AreOfBlocks text index blocks → slice_get index nth ≡ Some e → IsTurnOf text blocks nth e
unfolding AreOfBlocks
turn_at text [] [] nth e of at = cc
turn_at text [] (block ∷ blocks) nth e of at = absurd of
turn_at text (d ∷ index) [] nth e of at = absurd of
turn_at text (d ∷ index) (block ∷ blocks) zero e of at = let same : d ≡ e = cc in record { block = block; at = refl; is_of = subst (λ x. IsOfBlock text x block) same of.0 }
turn_at text (d ∷ index) (block ∷ blocks) (suc nth) e of at = let rest = turn_at text index blocks nth e of.1 at in record { block = rest.block; at = rest.at; is_of = rest.is_of }

-- the entry of this number
pub nth_at : (entries index : List Entry) (nth : ℕ) (e : Entry) → entries ≡ index → nth < length index → e ≡ get_or entries nth e → slice_get index nth ≡ Some e
nth_at entries index nth e same less is = ap (λ (es : List Entry). slice_get es nth) (sym same) ∙ at_index entries nth e (subst (λ (es : List Entry). nth < length es) (sym same) less) is

-- what is read where it tells
pub nth_ok : (v : Viewed) (index : List Entry) (nth : ℕ) (e : Entry) (r : Result (List Entry) TableFault) → slice_get index nth ≡ Some e
    → IfOk r (λ block. (text : List ℕ) → Tells v text → StoresBlock text e block) → IfOk r (λ block. (text : List ℕ) → Tells v text → IsNthBlock text index nth block)
nth_ok v index nth e (Ok block) at ok = λ text told. record { entry = e; at = at; stores = ok text told }
nth_ok v index nth e (Err fault) at ok = tt

pub nth_err : (v : Viewed) (index : List Entry) (nth : ℕ) (e : Entry) (r : Result (List Entry) TableFault) → slice_get index nth ≡ Some e
    → IfErr r (λ fault. (text : List ℕ) → Tells v text → StoresFault text e fault) → IfErr r (λ fault. (text : List ℕ) → Tells v text → IsNthFault text index nth fault)
nth_err v index nth e (Ok block) at err = tt
nth_err v index nth e (Err fault) at err = λ text told. record { entry = e; at = at; stores = err text told }

-- what the nth block of a whole table is
pub whole_nth : (v : Viewed) (properties : Properties) (index : List Entry) (nth : ℕ) (r : Result (List Entry) TableFault) → Shows v properties index
    → IfOk r (λ block. (text : List ℕ) → Tells v text → IsNthBlock text index nth block) → IfErr r (λ fault. (text : List ℕ) → Tells v text → IsNthFault text index nth fault)
    → (text : List ℕ) (rows : List Row) (number : ℕ) (session : List ℕ) → Tells v text → IsTable text rows number session → MatchResult r (λ block. slice_get (data_blocks rows) nth ≡ Some block) IsOutside
unfolding Shows
whole_nth v properties index nth (Ok block) shows ok err text rows number session told is =
    let n = ok text told in
    let turn = turn_at text index (data_blocks rows) nth n.entry (of_opened text rows number session properties index is (shows text told)) n.at in
    turn.at ∙ ap Some (sym (turn.is_of.read n.stores.place n.stores.len block n.stores.tells n.stores.stored))
whole_nth v properties index nth (Err fault) shows ok err text rows number session told is =
    let n = err text told in
    let turn = turn_at text index (data_blocks rows) nth n.entry (of_opened text rows number session properties index is (shows text told)) n.at in
    turn.is_of.outside n.stores.place n.stores.len fault n.stores.tells n.stores.fault_is
