-- A text is the table of one list of rows.
use Rattle.std.proofs.Common.{◌≡◌, ℕ, ◌+◌, ◌^◌, ◌<◌, List, [], ◌∷◌, ◌++◌, length, refl, sym, ap, ◌∙◌, arith, append_assoc, append-nil}
use Rattle.std.specs.Prelude.{Option, All, map, unwrap_or}
use Rattle.std.proofs.lemmas.List.Elements.{All-nil, All-cons, All-head, All-tail}
use Rattle.lsm_bytes.specs.Varint.{varint}
use Rattle.lsm_rows.specs.declared.rows.Row.{Row}
use Rattle.lsm_rows.specs.InternalKeys.{user_key}
use Rattle.lsm_rows.proofs.Prefixes.{varint_once, same_length}
use Rattle.lsm_block.specs.declared.entries.Entry.{Entry}
use Rattle.lsm_block.specs.BlockText.{block_text}
use Rattle.lsm_block.specs.Blocks.{IsBlock}
use Rattle.lsm_block.specs.Parts.{last_key}
use Rattle.lsm_block.specs.TableText.{row_entry, data_blocks, blocks_text, index_from, stored, properties_text, footer_text}
use Rattle.lsm_block.proofs.Readings.{block_once}
use Rattle.lsm_table.specs.declared.parts.Properties.{Properties}
use Rattle.lsm_table.specs.Opening.{contents_in}
use Rattle.lsm_table.specs.WholeTables.{IsTable}
use Rattle.lsm_table.proofs.BehindRows.{joined, user-is}
use Rattle.lsm_table.proofs.Cutting.{stored-len}
use Rattle.lsm_table.proofs.BuiltRows.{blocks_text-cons}
use Rattle.lsm_table.proofs.StoredReads.{stored_reads}
use Rattle.lsm_table.proofs.OrderedBlocks.{entries_are}
use Rattle.lsm_table.proofs.WholeTables.{ok_once, parts_are, stands_block, table_opens, opens_once}
use Rattle.lsm_table.proofs.WholeSearches.{row_once}

-- contents are known by how they are stored, and a block by its contents
stored_once : (a b : List ℕ) → stored a ≡ stored b → a ≡ b
stored_once a b same = ok_once (contents_in 0 (stored a)) a b (stored_reads 0 a) (ap (contents_in 0) same ∙ stored_reads 0 b)

text_once : (a b : List Entry) → IsBlock a → IsBlock b → block_text a ≡ block_text b → a ≡ b
text_once a b one other same = block_once (block_text a) a b (record { is = refl; block = one }) (record { is = same; block = other })

-- blocks are known by their index and their text
blocks_once : (place : ℕ) (a b : List (List Entry)) → All IsBlock a → All IsBlock b → index_from place a ≡ index_from place b → blocks_text a ≡ blocks_text b → a ≡ b
unfolding index_from
blocks_once place [] [] ones others index text = refl
blocks_once place [] (y ∷ b) ones others index text = cc
blocks_once place (x ∷ a) [] ones others index text = cc
blocks_once place (x ∷ a) (y ∷ b) ones others index text =
    let one : Entry = record { key = last_key x; value = varint place ++ varint (length (block_text x)) } in
    let other : Entry = record { key = last_key y; value = varint place ++ varint (length (block_text y)) } in
    let first : one ≡ other = cc in
    let lens : varint (length (block_text x)) ≡ varint (length (block_text y)) = (varint_once place place (varint (length (block_text x))) (varint (length (block_text y))) (ap (λ (e : Entry). e.value) first)).1 in
    let len : length (block_text x) ≡ length (block_text y) =
    (varint_once (length (block_text x)) (length (block_text y)) [] [] (append-nil (varint (length (block_text x))) ∙ lens ∙ sym (append-nil (varint (length (block_text y)))))).0 in
    let apart = same_length (stored (block_text x)) (stored (block_text y)) (blocks_text a) (blocks_text b) (omega (arith, len, stored-len (block_text x), stored-len (block_text y))) (sym (blocks_text-cons x a) ∙ text ∙ blocks_text-cons y b) in
    let block : x ≡ y = text_once x y (All-head IsBlock x a ones) (All-head IsBlock y b others) (stored_once (block_text x) (block_text y) apart.0) in
    let rest : index_from (place + length (stored (block_text x))) a ≡ index_from (place + length (stored (block_text y))) b = cc in
    let rest_too : index_from (place + length (stored (block_text x))) a ≡ index_from (place + length (stored (block_text x))) b =
    rest ∙ ap (λ (s : List ℕ). index_from (place + length s) b) (sym apart.0) in
    λ i. block i ∷ blocks_once (place + length (stored (block_text x))) a b (All-tail IsBlock x a ones) (All-tail IsBlock y b others) rest_too apart.1 i

-- each data block is a block
each : (P : List Entry → Type 0) (before rest : List (List Entry)) → ((front : List (List Entry)) (b : List Entry) (behind : List (List Entry)) → before ++ rest ≡ front ++ b ∷ behind → P b) → All P rest
each P before [] holds = All-nil P
each P before (b ∷ rest) holds = All-cons P b rest (holds before b rest refl) (each P (before ++ b ∷ []) rest (λ front d behind is. holds front d behind (sym (append_assoc before (b ∷ []) rest) ∙ is)))

all_blocks_are : (text : List ℕ) (rows : List Row) (number : ℕ) (session : List ℕ) → IsTable text rows number session → All IsBlock (data_blocks rows)
all_blocks_are text rows number session is =
    each IsBlock [] (data_blocks rows) (λ front b behind cut. stands_block text rows number session (length (blocks_text front)) b is (record { before = front; behind = behind; is = cut; place_is = refl }))

-- rows are known by their entries
row_known : (a b : Row) → a.sequence < 2 ^ 56 → b.sequence < 2 ^ 56 → row_entry a ≡ row_entry b → a ≡ b
row_known a b first second same =
    let keys : (row_entry a).key ≡ (row_entry b).key = ap (λ (e : Entry). e.key) same in
    row_once a b first second keys (sym (user-is a) ∙ ap user_key keys ∙ user-is b)
    (λ v is. sym (ap (λ (o : Option (List ℕ)). unwrap_or o []) is) ∙ ap (λ (e : Entry). e.value) same)

rows_known : (a b : List Row) → All (λ (r : Row). r.sequence < 2 ^ 56) a → All (λ (r : Row). r.sequence < 2 ^ 56) b → map row_entry a ≡ map row_entry b → a ≡ b
rows_known [] [] first second same = refl
rows_known [] (q ∷ b) first second same = cc
rows_known (r ∷ a) [] first second same = cc
rows_known (r ∷ a) (q ∷ b) first second same =
    let head : row_entry r ≡ row_entry q = cc in
    let tail : map row_entry a ≡ map row_entry b = cc in
    λ i. row_known r q (All-head (λ (d : Row). d.sequence < 2 ^ 56) r a first) (All-head (λ (d : Row). d.sequence < 2 ^ 56) q b second) head i
    ∷ rows_known a b (All-tail (λ (d : Row). d.sequence < 2 ^ 56) r a first) (All-tail (λ (d : Row). d.sequence < 2 ^ 56) q b second) tail i

pub table_once : (text : List ℕ) (rows others : List Row) (number other : ℕ) (session name : List ℕ) → IsTable text rows number session → IsTable text others other name
    → (rows ≡ others) × (number ≡ other) × (session ≡ name)
table_once text rows others number other session name one two =
    let a : List (List Entry) = data_blocks rows in
    let b : List (List Entry) = data_blocks others in
    let p : Properties = record { number = number; session = session; rows = length rows } in
    let q : Properties = record { number = other; session = name; rows = length others } in
    let opens = opens_once text p q (index_from 0 a) (index_from 0 b) (table_opens text rows number session one) (table_opens text others other name two) in
    let first = parts_are text rows number session one in
    let second = parts_are text others other name two in
    let size : length (blocks_text a) ≡ length (blocks_text b) = omega (arith, first.len, second.len, ap (λ (es : List Entry). length (block_text es)) opens.1) in
    let x : List ℕ = stored (block_text (index_from 0 a)) in
    let y : List ℕ = stored (block_text (index_from 0 b)) in
    let c : List ℕ = stored (properties_text number session (length rows)) in
    let d : List ℕ = stored (properties_text other name (length others)) in
    let f : List ℕ = footer_text (length (blocks_text a)) (length (block_text (index_from 0 a))) (length (blocks_text a) + length x) in
    let g : List ℕ = footer_text (length (blocks_text b)) (length (block_text (index_from 0 b))) (length (blocks_text b) + length y) in
    let front : text ≡ blocks_text a ++ (x ++ (c ++ f)) = first.whole ∙ append_assoc (blocks_text a ++ x) c f ∙ append_assoc (blocks_text a) x (c ++ f) in
    let front_too : text ≡ blocks_text b ++ (y ++ (d ++ g)) = second.whole ∙ append_assoc (blocks_text b ++ y) d g ∙ append_assoc (blocks_text b) y (d ++ g) in
    let texts : blocks_text a ≡ blocks_text b = (same_length (blocks_text a) (blocks_text b) (x ++ (c ++ f)) (y ++ (d ++ g)) size (sym front ∙ front_too)).0 in
    let blocks : a ≡ b = blocks_once 0 a b (all_blocks_are text rows number session one) (all_blocks_are text others other name two) opens.1 texts in
    let entries : map row_entry rows ≡ map row_entry others = sym (entries_are rows) ∙ ap joined blocks ∙ entries_are others in (
      rows_known rows others one.is.are_rows.sequences two.is.are_rows.sequences entries,
      ap (λ (r : Properties). r.number) opens.0,
      ap (λ (r : Properties). r.session) opens.0,
    )
