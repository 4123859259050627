-- A table's text opens, and its data blocks stand where its index tells.
use Rattle.std.proofs.Common.{◌≡◌, ℕ, ◌+◌, ◌-◌, ◌^◌, ◌<◌, ◌≤◌, ◌⊎◌, inl, inr, true, cond, List, [], ◌∷◌, ◌++◌, length, take, drop, Ok, Err, Result, refl, sym, ap, ◌∙◌, subst, arith, append_assoc, length-append, append-nil, zero, suc}
use Rattle.std.specs.Prelude.{Contains}
use Rattle.std.specs.List.{slice_index_or}
use Rattle.std.specs.Int.{w64, to_le_bytes}
use Rattle.std.proofs.lemmas.List.{take_at, drop_at}
use Rattle.std.proofs.lemmas.List.Elements.{Contains-append_right, Contains-get_or}
use Rattle.lsm_bytes.specs.Varint.{varint}
use Rattle.lsm_bytes.specs.Numbers.{number_at}
use Rattle.lsm_names.specs.Sessions.{is_session}
use Rattle.lsm_rows.specs.declared.rows.Row.{Row}
use Rattle.lsm_rows.proofs.Prefixes.{varint_once}
use Rattle.lsm_block.specs.declared.entries.Entry.{Entry}
use Rattle.lsm_block.specs.BlockText.{block_text}
use Rattle.lsm_block.specs.Blocks.{IsBlock, IsBlockText}
use Rattle.lsm_block.specs.TableText.{data_blocks, blocks_text, index_from, stored, properties_text, footer_text}
use Rattle.lsm_block.proofs.Readings.{block_once}
use Rattle.lsm_table.specs.declared.faults.TableFault.{TableFault}
use Rattle.lsm_table.specs.declared.faults.TableFault.TheVariants.{ReadFault, Damaged, Malformed, NoMemory}
use Rattle.lsm_table.specs.declared.parts.Places.{Places}
use Rattle.lsm_table.specs.declared.parts.Properties.{Properties}
use Rattle.lsm_table.specs.Cuts.{index_entry}
use Rattle.lsm_table.specs.Opening.{part_at, footer_in, footer_of, contents_in, contents_at, properties_in, properties_at, TellsPlace, IsIndexText, IsIndex, Opens, IsFaultOf, IsIndexFault, IsPropertiesFault, IsRefused, IsOutside}
use Rattle.lsm_table.specs.DataBlocks.{IsTold, IsStoredFault, IsDataBlock, IsBlockRefused}
use Rattle.lsm_table.specs.WholeTables.{IsTable, StandsAt}
use Rattle.lsm_table.proofs.Cutting.{stored-len}
use Rattle.lsm_table.proofs.BuiltRows.{blocks_text-nil, blocks_text-cons, table-is, properties-len, footer-len}
use Rattle.lsm_table.proofs.StoredReads.{eight, stored_reads, footer_reads}
use Rattle.lsm_table.proofs.Openings.{long_footer, told_ok}
use Rattle.lsm_table.proofs.OrderedBlocks.{blocks_ordered, entries_some, blocks_text-append, rows_len, block_is, index_is, index_tells}

-- a part of a text
part_is : (before mid after : List ℕ) (place len : ℕ) → place ≡ length before → len ≡ length mid → part_at place len ((before ++ mid) ++ after) ≡ mid
part_is before mid after place len place_is len_is =
    ap (λ (s : List ℕ). take len (drop place s)) (append_assoc before mid after) ∙ ap (λ (s : List ℕ). take len s) (drop_at before (mid ++ after) place (sym place_is)) ∙ take_at mid after len (sym len_is)

stored_at : (before c after : List ℕ) (place len : ℕ) → place ≡ length before → len ≡ length c → contents_at place len ((before ++ stored c) ++ after) ≡ Ok c
stored_at before c after place len place_is len_is =
    ap (λ (s : List ℕ). contents_in place s) (part_is before (stored c) after place (len + 5) place_is (omega (arith, len_is, stored-len c))) ∙ stored_reads place c

footer_at : (front footer text : List ℕ) → text ≡ front ++ footer → length footer ≡ 36 → footer_of text ≡ footer_in (length front) footer
footer_at front footer text whole size =
    let all : length text ≡ length front + length footer = ap (length {A = ℕ}) whole ∙ length-append front footer in
    let place : length text - 36 ≡ length front = omega (arith, all, size) in
    let cut : drop (length text - 36) text ≡ footer = ap (λ (s : List ℕ). drop (length text - 36) s) whole ∙ drop_at front footer (length text - 36) (sym place) in
    long_footer text (omega (arith, all, size)) ∙ (λ i. footer_in (place i) (cut i))

-- the properties that were written
properties_by : (place : ℕ) (c session : List ℕ) (number rows : ℕ) → take 20 (drop 8 c) ≡ session → is_session session ≡ true → number_at 8 c 0 ≡ number → number_at 8 c 28 ≡ rows
    → properties_in place c ≡ Ok (record { number = number; session = session; rows = rows })
unfolding properties_in
properties_by place c session number rows session_is good number_is rows_are =
    let test : is_session (take 20 (drop 8 c)) ≡ true = ap is_session session_is ∙ good in
    λ i. cond (test i) (Ok (record { number = number_is i; session = session_is i; rows = rows_are i })) (Err (Malformed place))

properties_read : (place number : ℕ) (session : List ℕ) (rows : ℕ) → number < 2 ^ 64 → rows < 2 ^ 64 → length session ≡ 20 → is_session session ≡ true
    → properties_in place (properties_text number session rows) ≡ Ok (record { number = number; session = session; rows = rows })
unfolding properties_text
properties_read place number session rows fits few twenty good =
    let last : List ℕ = to_le_bytes w64 rows in
    properties_by place (to_le_bytes w64 number ++ session ++ last) session number rows
    (take_at session last 20 twenty)
    good
    (eight number (session ++ last) fits)
    (ap (λ (s : List ℕ). number_at 8 s 0) (drop_at session last 20 twenty) ∙ eight rows [] few)

-- a table's text in its parts
pub record AreParts (text : List ℕ) (rows : List Row) (number : ℕ) (session : List ℕ) (data_text index_text : List ℕ) : Type 0 where
  pub whole : text ≡ data_text ++ stored index_text ++ stored (properties_text number session (length rows)) ++ footer_text (length data_text) (length index_text) (length data_text + length (stored index_text))
  pub front : length (data_text ++ stored index_text ++ stored (properties_text number session (length rows))) ≡ length data_text + length index_text + 46
  pub len : length text ≡ length data_text + length index_text + 82

pub parts_are : (text : List ℕ) (rows : List Row) (number : ℕ) (session : List ℕ) → IsTable text rows number session
    → AreParts text rows number session (blocks_text (data_blocks rows)) (block_text (index_from 0 (data_blocks rows)))
parts_are text rows number session is =
    let d : List ℕ = blocks_text (data_blocks rows) in
    let x : List ℕ = block_text (index_from 0 (data_blocks rows)) in
    let p : List ℕ = stored (properties_text number session (length rows)) in
    let f : List ℕ = footer_text (length d) (length x) (length d + length (stored x)) in
    let whole : text ≡ d ++ stored x ++ p ++ f = is.is.is ∙ table-is rows number session (data_blocks rows) refl in
    let front : length (d ++ stored x ++ p) ≡ length d + length x + 46 =
    omega (
      arith,
      length-append (d ++ stored x) p,
      length-append d (stored x),
      stored-len x,
      stored-len (properties_text number session (length rows)),
      properties-len number session (length rows) is.is.session_len,
    ) in
    record {
      whole = whole;
      front = front;
      len = ap (length {A = ℕ}) whole ∙ length-append (d ++ stored x ++ p) f ∙ omega (arith, front, footer-len (length d) (length x) (length d + length (stored x)));
    }

-- the index of a table is a block
index_block : (text : List ℕ) (rows : List Row) (number : ℕ) (session : List ℕ) → IsTable text rows number session → IsBlock (index_from 0 (data_blocks rows))
index_block text rows number session is =
    let parts = parts_are text rows number session is in
    index_is (data_blocks rows) (blocks_ordered rows is.is.are_rows) (entries_some rows is.is.are_rows) (omega (arith, parts.len, is.small))

-- a table's text opens
pub table_opens : (text : List ℕ) (rows : List Row) (number : ℕ) (session : List ℕ) → IsTable text rows number session
    → Opens text (record { number = number; session = session; rows = length rows }) (index_from 0 (data_blocks rows))
table_opens text rows number session is =
    let parts = parts_are text rows number session is in
    let d : List ℕ = blocks_text (data_blocks rows) in
    let x : List ℕ = block_text (index_from 0 (data_blocks rows)) in
    let c : List ℕ = properties_text number session (length rows) in
    let behind : ℕ = length d + length (stored x) in
    let f : List ℕ = footer_text (length d) (length x) behind in
    let size : length (stored x) ≡ length x + 5 = stored-len x in
    let at_index : text ≡ (d ++ stored x) ++ (stored c ++ f) = parts.whole ∙ append_assoc (d ++ stored x) (stored c) f in
    let index_stored : contents_at (length d) (length x) text ≡ Ok x = ap (λ (s : List ℕ). contents_at (length d) (length x) s) at_index ∙ stored_at d x (stored c ++ f) (length d) (length x) refl refl in
    let stored_properties : contents_at behind 36 text ≡ Ok c =
    ap (λ (s : List ℕ). contents_at behind 36 s) parts.whole
    ∙ stored_at (d ++ stored x) c f behind 36 (sym (length-append d (stored x))) (sym (properties-len number session (length rows) is.is.session_len)) in
    record {
      places = record { index = length d; len = length x; properties = behind };
      footer =
          footer_at (d ++ stored x ++ stored c) f text parts.whole (footer-len (length d) (length x) behind)
          ∙ footer_reads (length d) (length x) behind (length (d ++ stored x ++ stored c)) (omega (arith, size)) (omega (arith, size, parts.front)) (omega (arith, parts.front, parts.len, is.small));
      is_index = record {
        contents = x;
        stored = index_stored;
        is = record { block = record { is = refl; block = index_block text rows number session is }; places = index_tells 0 (data_blocks rows) (omega (arith, parts.len, is.small)) };
      };
      told =
          told_ok behind text c stored_properties
          ∙ properties_read behind number session (length rows) is.is.number_fits (omega (arith, rows_len rows, parts.len, is.small)) is.is.session_len is.spelled;
    }

-- a text opens in one way
pub ok_once : {A : Type 0} (r : Result A TableFault) (x y : A) → r ≡ Ok x → r ≡ Ok y → x ≡ y
ok_once r x y one other = let same : Ok x ≡ Ok y = sym one ∙ other in cc

index_once : (text : List ℕ) (places : Places) (a b : List Entry) → IsIndex text places a → IsIndex text places b → a ≡ b
index_once text places a b one other =
    let same : one.contents ≡ other.contents = ok_once (contents_at places.index places.len text) one.contents other.contents one.stored other.stored in
    block_once other.contents a b (subst (λ (c : List ℕ). IsBlockText c a) same one.is.block) other.is.block

pub opens_once : (text : List ℕ) (properties other : Properties) (index others : List Entry) → Opens text properties index → Opens text other others → (properties ≡ other) × (index ≡ others)
opens_once text properties other index others one two =
    let places : one.places ≡ two.places = ok_once (footer_of text) one.places two.places one.footer two.footer in (
      ok_once (properties_at two.places.properties text) properties other (ap (λ (p : Places). properties_at p.properties text) (sym places) ∙ one.told) two.told,
      index_once text two.places index others (subst (λ (p : Places). IsIndex text p index) places one.is_index) two.is_index,
    )

-- what is read has no fault of its own
pub no_fault : {A : Type 0} (read : Result A TableFault) (x : A) (fault : TableFault) → read ≡ Ok x → IsFaultOf read fault → IsOutside fault
unfolding IsFaultOf IsOutside
no_fault read x ReadFault ok is = tt
no_fault read x (Damaged place kept found) ok is = let clash : Ok x ≡ Err (Damaged place kept found) = sym ok ∙ is in cc
no_fault read x (Malformed place) ok is = let clash : Ok x ≡ Err (Malformed place) = sym ok ∙ is in cc
no_fault read x NoMemory ok is = tt

-- where the index is right, it isn't refused
index_right : (text : List ℕ) (places : Places) (index : List Entry) (fault : TableFault) → IsIndex text places index → IsIndexFault text places fault → IsOutside fault
index_right text places index fault is (inl stored) = no_fault (contents_at places.index places.len text) is.contents fault is.stored stored
index_right text places index fault is (inr wrong) =
    let same : is.contents ≡ wrong.1.contents = ok_once (contents_at places.index places.len text) is.contents wrong.1.contents is.stored wrong.1.stored in
    absurd (wrong.1.none index (subst (λ (c : List ℕ). IsIndexText c index) same is.is))

part_outside : (text : List ℕ) (places : Places) (properties : Properties) (index : List Entry) (fault : TableFault) → IsIndex text places index → properties_at places.properties text ≡ Ok properties
    → IsIndexFault text places fault ⊎ IsPropertiesFault text places fault → IsOutside fault
part_outside text places properties index fault is told (inl wrong) = index_right text places index fault is wrong
part_outside text places properties index fault is told (inr wrong) = no_fault (properties_at places.properties text) properties fault told wrong.fault_is

pub never_refused : (text : List ℕ) (properties : Properties) (index : List Entry) (fault : TableFault) → Opens text properties index → IsRefused text fault → IsOutside fault
never_refused text properties index fault opens (inl footer) = no_fault (footer_of text) opens.places fault opens.footer footer
never_refused text properties index fault opens (inr part) =
    let places : opens.places ≡ part.places = ok_once (footer_of text) opens.places part.places opens.footer part.footer in
    part_outside text part.places properties index fault (subst (λ (p : Places). IsIndex text p index) places opens.is_index) (ap (λ (p : Places). properties_at p.properties text) (sym places) ∙ opens.told) part.fault_is

-- what is answered where a table's text is opened
pub opened_as : (text : List ℕ) (rows : List Row) (number : ℕ) (session : List ℕ) (properties : Properties) (index : List Entry) → IsTable text rows number session → Opens text properties index
    → (properties ≡ record { number = number; session = session; rows = length rows }) × (index ≡ index_from 0 (data_blocks rows))
opened_as text rows number session properties index is opens =
    opens_once text properties (record { number = number; session = session; rows = length rows }) index (index_from 0 (data_blocks rows)) opens (table_opens text rows number session is)

pub refused_for : (text : List ℕ) (rows : List Row) (number : ℕ) (session : List ℕ) (fault : TableFault) → IsTable text rows number session → IsRefused text fault → IsOutside fault
refused_for text rows number session fault is refused =
    never_refused text (record { number = number; session = session; rows = length rows }) (index_from 0 (data_blocks rows)) fault (table_opens text rows number session is) refused

-- a text is refused in one way
pub fault_is : {A : Type 0} (read : Result A TableFault) (fault : TableFault) → IsFaultOf read fault → (IsOutside fault → ⊥) → read ≡ Err fault
unfolding IsFaultOf IsOutside
fault_is read ReadFault is inside = absurd (inside tt)
fault_is read (Damaged place kept found) is inside = is
fault_is read (Malformed place) is inside = is
fault_is read NoMemory is inside = absurd (inside tt)

err_once : {A : Type 0} (r : Result A TableFault) (a b : TableFault) → r ≡ Err a → r ≡ Err b → a ≡ b
err_once r a b one other = let same : Err a ≡ Err b = sym one ∙ other in cc

faults_once : {A : Type 0} (read : Result A TableFault) (a b : TableFault) → IsFaultOf read a → IsFaultOf read b → (IsOutside a → ⊥) → (IsOutside b → ⊥) → a ≡ b
faults_once read a b one other inside in_too = err_once read a b (fault_is read a one inside) (fault_is read b other in_too)

index_faults_once : (text : List ℕ) (places : Places) (a b : TableFault) → IsIndexFault text places a → IsIndexFault text places b → (IsOutside a → ⊥) → (IsOutside b → ⊥) → a ≡ b
index_faults_once text places a b (inl one) (inl other) inside in_too = faults_once (contents_at places.index places.len text) a b one other inside in_too
index_faults_once text places a b (inl one) (inr other) inside in_too = absurd (inside (no_fault (contents_at places.index places.len text) other.1.contents a other.1.stored one))
index_faults_once text places a b (inr one) (inl other) inside in_too = absurd (in_too (no_fault (contents_at places.index places.len text) one.1.contents b one.1.stored other))
index_faults_once text places a b (inr one) (inr other) inside in_too = one.0 ∙ sym other.0

parts_once : (text : List ℕ) (places : Places) (a b : TableFault) → IsIndexFault text places a ⊎ IsPropertiesFault text places a → IsIndexFault text places b ⊎ IsPropertiesFault text places b
    → (IsOutside a → ⊥) → (IsOutside b → ⊥) → a ≡ b
parts_once text places a b (inl one) (inl other) inside in_too = index_faults_once text places a b one other inside in_too
parts_once text places a b (inl one) (inr other) inside in_too = absurd (inside (index_right text places other.index a other.is_index one))
parts_once text places a b (inr one) (inl other) inside in_too = absurd (in_too (index_right text places one.index b one.is_index other))
parts_once text places a b (inr one) (inr other) inside in_too = faults_once (properties_at places.properties text) a b one.fault_is other.fault_is inside in_too

pub refused_once : (text : List ℕ) (a b : TableFault) → IsRefused text a → IsRefused text b → (IsOutside a → ⊥) → (IsOutside b → ⊥) → a ≡ b
refused_once text a b (inl one) (inl other) inside in_too = faults_once (footer_of text) a b one other inside in_too
refused_once text a b (inl one) (inr other) inside in_too = absurd (inside (no_fault (footer_of text) other.places a other.footer one))
refused_once text a b (inr one) (inl other) inside in_too = absurd (in_too (no_fault (footer_of text) one.places b one.footer other))
refused_once text a b (inr one) (inr other) inside in_too =
    let places : one.places ≡ other.places = ok_once (footer_of text) one.places other.places one.footer other.footer in
    parts_once text other.places a b (subst (λ (p : Places). IsIndexFault text p a ⊎ IsPropertiesFault text p a) places one.fault_is) other.fault_is inside in_too

-- the index of blocks, cut at one of them
index_from-at : (place : ℕ) (before : List (List Entry)) (b : List Entry) (behind : List (List Entry))
    → index_from place (before ++ b ∷ behind) ≡ index_from place before ++ index_entry (place + length (blocks_text before)) b ∷ index_from (place + length (blocks_text before) + length (stored (block_text b))) behind
unfolding index_from
index_from-at place [] b behind =
    ap (λ n. index_entry n b ∷ index_from (n + length (stored (block_text b))) behind) (omega (arith, ap (length {A = ℕ}) blocks_text-nil))
index_from-at place (d ∷ before) b behind =
    let next : ℕ = place + length (stored (block_text d)) in
    let same : next + length (blocks_text before) ≡ place + length (blocks_text (d ∷ before)) = omega (arith, ap (length {A = ℕ}) (blocks_text-cons d before), length-append (stored (block_text d)) (blocks_text before)) in
    ap (λ (l : List Entry). index_entry place d ∷ l) (index_from-at next before b behind
    ∙ ap (λ n. index_from next before ++ index_entry n b ∷ index_from (n + length (stored (block_text b))) behind) same)

-- how much stands up to the end of a block
pub stands_len : (blocks : List (List Entry)) (place : ℕ) (b : List Entry) → StandsAt blocks place b → place + length (block_text b) + 5 ≤ length (blocks_text blocks)
stands_len blocks place b at =
    omega (
      arith,
      at.place_is,
      ap (λ (bs : List (List Entry)). length (blocks_text bs)) at.is,
      ap (length {A = ℕ}) (blocks_text-append at.before (b ∷ at.behind)),
      length-append (blocks_text at.before) (blocks_text (b ∷ at.behind)),
      ap (length {A = ℕ}) (blocks_text-cons b at.behind),
      length-append (stored (block_text b)) (blocks_text at.behind),
      stored-len (block_text b),
    )

-- the index tells each block
pub stands_told : (text : List ℕ) (rows : List Row) (number : ℕ) (session : List ℕ) (place : ℕ) (b : List Entry) → IsTable text rows number session → StandsAt (data_blocks rows) place b
    → IsTold (index_from 0 (data_blocks rows)) place (length (block_text b))
stands_told text rows number session place b is at =
    let parts = parts_are text rows number session is in
    let size = stands_len (data_blocks rows) place b at in
    let e : Entry = index_entry (0 + length (blocks_text at.before)) b in
    let more : List Entry = index_from (0 + length (blocks_text at.before) + length (stored (block_text b))) at.behind in
    let list : index_from 0 (data_blocks rows) ≡ index_from 0 at.before ++ e ∷ more = ap (index_from 0) at.is ∙ index_from-at 0 at.before b at.behind in
    let here : 0 + length (blocks_text at.before) ≡ place = omega (arith, at.place_is) in
    record {
      entry = e;
      among = subst (λ (l : List Entry). Contains l e) (sym list) (Contains-append_right (index_from 0 at.before) (e ∷ more) e (Contains-get_or (e ∷ more) 0 e (omega arith)));
      tells = record {
        text = ap (λ n. varint n ++ varint (length (block_text b))) here;
        place_fits = omega (arith, size, parts.len, is.small);
        len_fits = omega (arith, size, parts.len, is.small);
      };
    }

-- and nothing else
record IsEntryOf (place : ℕ) (blocks : List (List Entry)) (e : Entry) : Type 0 where
  block : List Entry
  before : List (List Entry)
  behind : List (List Entry)
  is : blocks ≡ before ++ block ∷ behind
  entry_is : e ≡ index_entry (place + length (blocks_text before)) block

entry_at : (place : ℕ) (blocks : List (List Entry)) (e : Entry) (k : ℕ) → k < length (index_from place blocks) → slice_index_or (index_from place blocks) k e ≡ e → IsEntryOf place blocks e
unfolding index_from
entry_at place [] e k inside is = absurd (omega (arith, inside))
entry_at place (es ∷ blocks) e zero inside is = record {
  block = es;
  before = [];
  behind = blocks;
  is = refl;
  entry_is = sym is ∙ ap (λ n. index_entry n es) (omega (arith, ap (length {A = ℕ}) blocks_text-nil));
}
entry_at place (es ∷ blocks) e (suc k) inside is =
    let next : ℕ = place + length (stored (block_text es)) in
    let rest = entry_at next blocks e k (omega (arith, inside)) is in
    record {
      block = rest.block;
      before = es ∷ rest.before;
      behind = rest.behind;
      is = ap (λ (bs : List (List Entry)). es ∷ bs) rest.is;
      entry_is =
          rest.entry_is
          ∙ ap (λ n. index_entry n rest.block) (omega (arith, ap (length {A = ℕ}) (blocks_text-cons es rest.before), length-append (stored (block_text es)) (blocks_text rest.before)));
    }

-- a value tells one place and one length
pub told_both : (value : List ℕ) (place len other long : ℕ) → TellsPlace value place len → value ≡ varint other ++ varint long → (place ≡ other) × (len ≡ long)
told_both value place len other long tells is =
    let one = varint_once place other (varint len) (varint long) (sym tells.text ∙ is) in
    (one.0, (varint_once len long [] [] (append-nil (varint len) ∙ one.1 ∙ sym (append-nil (varint long)))).0)

-- a block that the index tells
pub record IsToldBlock (rows : List Row) (place len : ℕ) : Type 0 where
  pub block : List Entry
  pub stands : StandsAt (data_blocks rows) place block
  pub len_is : len ≡ length (block_text block)

pub told_stands : (rows : List Row) (place len : ℕ) → IsTold (index_from 0 (data_blocks rows)) place len → IsToldBlock rows place len
told_stands rows place len told =
    let at = entry_at 0 (data_blocks rows) told.entry told.among.0 told.among.1 told.among.2 in
    let both = told_both told.entry.value place len (0 + length (blocks_text at.before)) (length (block_text at.block)) told.tells (ap (λ (e : Entry). e.value) at.entry_is) in
    record { block = at.block; stands = record { before = at.before; behind = at.behind; is = at.is; place_is = both.0 ∙ omega arith }; len_is = both.1 }

-- what is stored at a block's place
stands_contents : (text : List ℕ) (rows : List Row) (number : ℕ) (session : List ℕ) (place : ℕ) (b : List Entry) → IsTable text rows number session → StandsAt (data_blocks rows) place b
    → contents_at place (length (block_text b)) text ≡ Ok (block_text b)
stands_contents text rows number session place b is at =
    let parts = parts_are text rows number session is in
    let d : List ℕ = blocks_text (data_blocks rows) in
    let x : List ℕ = stored (block_text (index_from 0 (data_blocks rows))) in
    let p : List ℕ = stored (properties_text number session (length rows)) in
    let f : List ℕ = footer_text (length d) (length (block_text (index_from 0 (data_blocks rows)))) (length d + length x) in
    let front : List ℕ = blocks_text at.before in
    let more : List ℕ = blocks_text at.behind in
    let here : List ℕ = stored (block_text b) in
    let data_is : d ≡ (front ++ here) ++ more =
    ap blocks_text at.is ∙ blocks_text-append at.before (b ∷ at.behind) ∙ ap (λ (s : List ℕ). front ++ s) (blocks_text-cons b at.behind) ∙ sym (append_assoc front here more) in
    let whole : text ≡ (front ++ here) ++ (more ++ (x ++ (p ++ f))) =
    parts.whole ∙ append_assoc (d ++ x) p f ∙ append_assoc d x (p ++ f) ∙ ap (λ (s : List ℕ). s ++ (x ++ (p ++ f))) data_is ∙ append_assoc (front ++ here) more (x ++ (p ++ f)) in
    ap (λ (s : List ℕ). contents_at place (length (block_text b)) s) whole ∙ stored_at front (block_text b) (more ++ (x ++ (p ++ f))) place (length (block_text b)) at.place_is refl

-- each of them is a block
pub stands_block : (text : List ℕ) (rows : List Row) (number : ℕ) (session : List ℕ) (place : ℕ) (b : List Entry) → IsTable text rows number session → StandsAt (data_blocks rows) place b → IsBlock b
stands_block text rows number session place b is at =
    let parts = parts_are text rows number session is in
    block_is (data_blocks rows) at.before b at.behind at.is (blocks_ordered rows is.is.are_rows) (omega (arith, stands_len (data_blocks rows) place b at, parts.len, is.small))

pub stands_stored : (text : List ℕ) (rows : List Row) (number : ℕ) (session : List ℕ) → IsTable text rows number session → (place : ℕ) (b : List Entry) → StandsAt (data_blocks rows) place b
    → IsDataBlock text (index_from 0 (data_blocks rows)) place b
stands_stored text rows number session is place b at = record {
  len = length (block_text b);
  told = stands_told text rows number session place b is at;
  stored = record {
    there = omega (arith, stands_len (data_blocks rows) place b at, (parts_are text rows number session is).len);
    contents = block_text b;
    stored = stands_contents text rows number session place b is at;
    is = record { is = refl; block = stands_block text rows number session place b is at };
  };
}

-- what is told and read is one of them
told_contents : (text : List ℕ) (rows : List Row) (number : ℕ) (session : List ℕ) (place len : ℕ) → IsTable text rows number session → (told : IsToldBlock rows place len)
    → contents_at place len text ≡ Ok (block_text told.block)
told_contents text rows number session place len is told =
    ap (λ n. contents_at place n text) told.len_is ∙ stands_contents text rows number session place told.block is told.stands

pub stored_stands : (text : List ℕ) (rows : List Row) (number : ℕ) (session : List ℕ) → IsTable text rows number session → (place : ℕ) (b : List Entry) → IsDataBlock text (index_from 0 (data_blocks rows)) place b
    → StandsAt (data_blocks rows) place b
stored_stands text rows number session is place b read =
    let told = told_stands rows place read.len read.told in
    let contents : block_text told.block ≡ read.stored.contents =
    ok_once (contents_at place read.len text) (block_text told.block) read.stored.contents (told_contents text rows number session place read.len is told) read.stored.stored in
    let block : IsBlockText read.stored.contents told.block = record { is = sym contents; block = stands_block text rows number session place told.block is told.stands } in
    subst (λ (es : List Entry). StandsAt (data_blocks rows) place es) (block_once read.stored.contents told.block b block read.stored.is) told.stands

-- where the index tells a block nothing of the text refuses it
told_outside : (text : List ℕ) (rows : List Row) (number : ℕ) (session : List ℕ) (place len : ℕ) (fault : TableFault) → IsTable text rows number session → IsToldBlock rows place len
    → IsStoredFault text place len fault → IsOutside fault
told_outside text rows number session place len fault is told (inl (at, short)) =
    let parts = parts_are text rows number session is in
    absurd (omega (arith, short, told.len_is, stands_len (data_blocks rows) place told.block told.stands, parts.len))
told_outside text rows number session place len fault is told (inr (there, inl wrong)) =
    no_fault (contents_at place len text) (block_text told.block) fault (told_contents text rows number session place len is told) wrong
told_outside text rows number session place len fault is told (inr (there, inr (at, none))) =
    let same : block_text told.block ≡ none.contents =
    ok_once (contents_at place len text) (block_text told.block) none.contents (told_contents text rows number session place len is told) none.stored in
    absurd (none.none told.block (record { is = sym same; block = stands_block text rows number session place told.block is told.stands }))

pub block_outside : (text : List ℕ) (rows : List Row) (number : ℕ) (session : List ℕ) (place : ℕ) (b : List Entry) (fault : TableFault) → IsTable text rows number session → StandsAt (data_blocks rows) place b
    → IsBlockRefused text (index_from 0 (data_blocks rows)) place fault → IsOutside fault
block_outside text rows number session place b fault is at (inl outside) = outside
block_outside text rows number session place b fault is at (inr (inl (malformed, none))) = absurd (none (length (block_text b)) (stands_told text rows number session place b is at))
block_outside text rows number session place b fault is at (inr (inr wrong)) =
    told_outside text rows number session place wrong.len fault is (told_stands rows place wrong.len wrong.told) wrong.fault_is

-- at one place stands one block
cut_once : (a c : List (List Entry)) (b d : List Entry) (more rest : List (List Entry)) → a ++ b ∷ more ≡ c ++ d ∷ rest → length (blocks_text a) ≡ length (blocks_text c) → (a ≡ c) × (b ≡ d)
cut_once [] [] b d more rest same even = (refl, let first : b ≡ d = cc in first)
cut_once [] (y ∷ c) b d more rest same even =
    absurd (omega (arith, even, ap (length {A = ℕ}) blocks_text-nil, ap (length {A = ℕ}) (blocks_text-cons y c), length-append (stored (block_text y)) (blocks_text c), stored-len (block_text y)))
cut_once (x ∷ a) [] b d more rest same even =
    absurd (omega (arith, even, ap (length {A = ℕ}) blocks_text-nil, ap (length {A = ℕ}) (blocks_text-cons x a), length-append (stored (block_text x)) (blocks_text a), stored-len (block_text x)))
cut_once (x ∷ a) (y ∷ c) b d more rest same even =
    let first : x ≡ y = cc in
    let others : a ++ b ∷ more ≡ c ++ d ∷ rest = cc in
    let next = cut_once a c b d more rest others (omega (
      arith,
      even,
      ap (λ (es : List Entry). length (stored (block_text es))) first,
      ap (length {A = ℕ}) (blocks_text-cons x a),
      length-append (stored (block_text x)) (blocks_text a),
      ap (length {A = ℕ}) (blocks_text-cons y c),
      length-append (stored (block_text y)) (blocks_text c),
    )) in
    ((λ i. first i ∷ next.0 i), next.1)

pub stands_same : (blocks : List (List Entry)) (place : ℕ) (b d : List Entry) → (one : StandsAt blocks place b) → (other : StandsAt blocks place d) → (one.before ≡ other.before) × (b ≡ d)
stands_same blocks place b d one other = cut_once one.before other.before b d one.behind other.behind (sym one.is ∙ other.is) (sym one.place_is ∙ other.place_is)

pub stands_once : (blocks : List (List Entry)) (place : ℕ) (b d : List Entry) → StandsAt blocks place b → StandsAt blocks place d → b ≡ d
stands_once blocks place b d one other = (stands_same blocks place b d one other).1
