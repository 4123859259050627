-- A builder's data blocks are those of its rows.
use Rattle.std.proofs.Common.{◌≡◌, ℕ, ◌+◌, ◌^◌, ◌<◌, ◌≤◌, ⊎_elim, true, List, [], ◌∷◌, ◌++◌, length, refl, sym, ap, ◌∙◌, subst, arith, append_assoc, length-append}
use Rattle.std.specs.Prelude.{map}
use Rattle.std.specs.List.{flat_map}
use Rattle.lsm_names.specs.Sessions.{is_session}
use Rattle.lsm_rows.specs.declared.internal_keys.Kind.{Kind}
use Rattle.lsm_rows.specs.InternalKeys.{IsInternalKey, internal_key, kind_byte}
use Rattle.std.specs.Int.{w32, w64, to_le_bytes}
use Rattle.std.proofs.lemmas.Bool.{cases_lt}
use Rattle.std.proofs.lemmas.Bool.Decides.{nat_tests}
use Rattle.std.proofs.lemmas.Grind.{flat_map-append}
use Rattle.std.proofs.lemmas.List.{append-nil, map-append}
use Rattle.std.proofs.lemmas.List.Sums.{fold-append}
use Rattle.lsm_bytes.specs.Checksum.{crc32c, masked}
use Rattle.lsm_rows.specs.declared.rows.Row.{Row}
use Rattle.lsm_block.specs.declared.entries.Entry.{Entry}
use Rattle.lsm_block.specs.BlockText.{block_text}
use Rattle.lsm_block.specs.Parts.{last_from, last_key}
use Rattle.lsm_block.specs.TableText.{kind_of, row_entry, Blocks, blocks_more, blocks_of, all_blocks, data_blocks, blocks_text, index_from, stored, properties_text, places_text, magic, footer_text, table_of_blocks, table_text, AreTableRows}
use Rattle.lsm_block.proofs.EntryLists.{last_key-push}
use Rattle.lsm_table.specs.Cuts.{Cut, index_entry, end_block, added, ended}
use Rattle.lsm_table.specs.Building.{Built, IsCutOf, IsBuilt, IsFinished}
use Rattle.lsm_table.specs.WholeTables.{IsTable}
use Rattle.lsm_table.proofs.Cutting.{added_open, added_full, ended_some, ended_none, end-is, stored-len}
use Rattle.lsm_names.proofs.SessionLemmas.{length_of_session}

pub blocks-push : (es : List Entry) (e : Entry) → blocks_of (es ++ e ∷ []) ≡ blocks_more (blocks_of es) e
unfolding blocks_of
blocks-push es e = fold-append blocks_more (record { ended = []; begun = [] }) es (e ∷ [])

pub blocks-none : blocks_of [] ≡ record { ended = []; begun = [] }
unfolding blocks_of
blocks-none = refl

pub more_open : (b : Blocks) (e : Entry) → length (block_text (b.begun ++ e ∷ [])) < 4096 → blocks_more b e ≡ record { ended = b.ended; begun = b.begun ++ e ∷ [] }
unfolding blocks_more
more_open b e less = grind (arith, nat_tests)

pub more_full : (b : Blocks) (e : Entry) → 4096 ≤ length (block_text (b.begun ++ e ∷ [])) → blocks_more b e ≡ record { ended = b.ended ++ (b.begun ++ e ∷ []) ∷ []; begun = [] }
unfolding blocks_more
more_full b e full = grind (arith, nat_tests)

pub all_some : (b : Blocks) → 1 ≤ length b.begun → all_blocks b ≡ b.ended ++ b.begun ∷ []
unfolding all_blocks
all_some b some = grind (arith, nat_tests)

pub all_none : (b : Blocks) → length b.begun ≡ 0 → all_blocks b ≡ b.ended
unfolding all_blocks
all_none b none = grind (arith, nat_tests)

blocks_text-push : (bs : List (List Entry)) (es : List Entry) → blocks_text (bs ++ es ∷ []) ≡ blocks_text bs ++ stored (block_text es)
unfolding blocks_text
blocks_text-push bs es = flat_map-append (λ l. stored (block_text l)) bs (es ∷ []) ∙ ap (λ s. flat_map (λ l. stored (block_text l)) bs ++ s) (append-nil (stored (block_text es)))

pub blocks_text-nil : blocks_text [] ≡ []
unfolding blocks_text
blocks_text-nil = refl

pub blocks_text-cons : (es : List Entry) (bs : List (List Entry)) → blocks_text (es ∷ bs) ≡ stored (block_text es) ++ blocks_text bs
unfolding blocks_text
blocks_text-cons es bs = refl

index_from-push : (place : ℕ) (bs : List (List Entry)) (es : List Entry) → index_from place (bs ++ es ∷ []) ≡ index_from place bs ++ index_entry (place + length (blocks_text bs)) es ∷ []
unfolding index_from
index_from-push place [] es = ap (λ n. index_entry n es ∷ []) (omega (arith, ap (length {A = ℕ}) blocks_text-nil))
index_from-push place (d ∷ bs) es =
    ap (λ l. index_entry place d ∷ l) (index_from-push (place + length (stored (block_text d))) bs es
    ∙ ap (λ n. index_from (place + length (stored (block_text d))) bs ++ index_entry n es ∷ []) (omega (arith, ap (length {A = ℕ}) (blocks_text-cons d bs), length-append (stored (block_text d)) (blocks_text bs))))

pub index_from-nil : index_from 0 [] ≡ []
unfolding index_from
index_from-nil = refl

-- the end of the open block
cut_end : (c : Cut) (b : Blocks) (handed : List ℕ) → IsCutOf c b handed → IsCutOf (end_block c) (record { ended = b.ended ++ b.begun ∷ []; begun = [] }) handed
unfolding end_block
cut_end c b handed is =
    let text : blocks_text (b.ended ++ b.begun ∷ []) ≡ blocks_text b.ended ++ stored (block_text b.begun) = blocks_text-push b.ended b.begun in
    record {
      begun_is = refl;
      index_is =
          (λ i. is.index_is i ++ index_entry (is.place_is i) (is.begun_is i) ∷ []) ∙ ap (λ n. index_from 0 b.ended ++ index_entry n b.begun ∷ []) (omega arith) ∙ sym (index_from-push 0 b.ended b.begun);
      text_is =
          sym (append_assoc handed c.pending (stored (block_text c.begun))) ∙ (λ i. is.text_is i ++ stored (block_text (is.begun_is i))) ∙ sym text;
      place_is =
          (λ i. is.place_is i + length (stored (block_text (is.begun_is i)))) ∙ sym (ap (length {A = ℕ}) text ∙ length-append (blocks_text b.ended) (stored (block_text b.begun)));
    }

cut_more : (c : Cut) (b : Blocks) (handed : List ℕ) (e : Entry) → IsCutOf c b handed → IsCutOf (record c { begun = c.begun ++ e ∷ [] }) (record b { begun = b.begun ++ e ∷ [] }) handed
cut_more c b handed e is = record { begun_is = ap (λ l. l ++ e ∷ []) is.begun_is; index_is = is.index_is; text_is = is.text_is; place_is = is.place_is }

pub cut_added : (c : Cut) (b : Blocks) (handed : List ℕ) (e : Entry) → IsCutOf c b handed → IsCutOf (added c e) (blocks_more b e) handed
cut_added c b handed e is =
    ⊎_elim
    (λ (less : length (block_text (c.begun ++ e ∷ [])) < 4096). subst (λ d. IsCutOf d (blocks_more b e) handed) (sym (added_open c e less))
    (subst (λ d. IsCutOf (record c { begun = c.begun ++ e ∷ [] }) d handed) (sym (more_open b e (subst (λ l. length (block_text (l ++ e ∷ [])) < 4096) is.begun_is less))) (cut_more c b handed e is)))
    (λ (full : 4096 ≤ length (block_text (c.begun ++ e ∷ []))). subst (λ d. IsCutOf d (blocks_more b e) handed) (sym (added_full c e full))
    (subst (λ d. IsCutOf (end_block (record c { begun = c.begun ++ e ∷ [] })) d handed) (sym (more_full b e (subst (λ l. 4096 ≤ length (block_text (l ++ e ∷ []))) is.begun_is full)))
    (cut_end (record c { begun = c.begun ++ e ∷ [] }) (record b { begun = b.begun ++ e ∷ [] }) handed (cut_more c b handed e is))))
    (cases_lt (length (block_text (c.begun ++ e ∷ []))) 4096)

-- the last key of all
last_from-append : (before : List ℕ) (a : List Entry) (e : Entry) (b : List Entry) → last_from before (a ++ e ∷ b) ≡ last_from e.key b
last_from-append before [] e b = refl
last_from-append before (d ∷ a) e b = last_from-append d.key a e b

last_key-append : (a b : List Entry) → 1 ≤ length b → last_key (a ++ b) ≡ last_key b
unfolding last_key
last_key-append a [] some = absurd (omega (arith, some))
last_key-append a (e ∷ b) some = last_from-append [] a e b

last_added : (c : Cut) (e : Entry) → last_key ((added c e).index ++ (added c e).begun) ≡ e.key
last_added c e =
    ⊎_elim
    (λ (less : length (block_text (c.begun ++ e ∷ [])) < 4096). ap (λ (d : Cut). last_key (d.index ++ d.begun)) (added_open c e less)
    ∙ ap last_key (sym (append_assoc c.index c.begun (e ∷ []))) ∙ last_key-push (c.index ++ c.begun) e)
    (λ (full : 4096 ≤ length (block_text (c.begun ++ e ∷ []))). ap (λ (d : Cut). last_key (d.index ++ d.begun)) (added_full c e full ∙ end-is (record c { begun = c.begun ++ e ∷ [] }))
    ∙ ap last_key (append-nil (c.index ++ index_entry c.place (c.begun ++ e ∷ []) ∷ [])) ∙ last_key-push c.index (index_entry c.place (c.begun ++ e ∷ [])) ∙ last_key-push c.begun e)
    (cases_lt (length (block_text (c.begun ++ e ∷ []))) 4096)

rows-push : (rows : List Row) (row : Row) → map row_entry (rows ++ row ∷ []) ≡ map row_entry rows ++ row_entry row ∷ []
rows-push rows row = map-append row_entry rows (row ∷ [])

first_row : (rows : List Row) (row r : Row) (more : List Row) (smallest key : List ℕ) → rows ++ row ∷ [] ≡ r ∷ more → (length rows ≡ 0 → smallest ≡ (row_entry row).key)
    → ((d : Row) (ds : List Row) → rows ≡ d ∷ ds → smallest ≡ (row_entry d).key) → smallest ≡ (row_entry r).key
first_row [] row r more smallest key same none some = none refl ∙ ap (λ (d : Row). (row_entry d).key) (let is : row ≡ r = cc in is)
first_row (x ∷ rows) row r more smallest key same none some = some x rows refl ∙ ap (λ (d : Row). (row_entry d).key) (let is : x ≡ r = cc in is)

some_rows : (rows : List Row) (d : Row) (ds : List Row) → rows ≡ d ∷ ds → 1 ≤ length rows
some_rows rows d ds is = omega (arith, ap (length {A = Row}) is)

-- one more row
pub built_more : (v w : Built) (rows : List Row) (handed : List ℕ) (row : Row) (key value : List ℕ) → IsBuilt v rows handed → w.blocks ≡ added v.blocks (record { key = key; value = value })
    → key ≡ (row_entry row).key → value ≡ (row_entry row).value → w.count ≡ v.count + 1 → (v.count ≡ 0 → w.smallest ≡ key) → (1 ≤ v.count → w.smallest ≡ v.smallest)
    → IsBuilt w (rows ++ row ∷ []) handed
built_more v w rows handed row key value was blocks key_is value_is count first later =
    let e : Entry = row_entry row in
    let same : record { key = key; value = value } ≡ e = λ i. record { key = key_is i; value = value_is i } in
    let now : w.blocks ≡ added v.blocks e = blocks ∙ ap (added v.blocks) same in
    record {
      count_is = count ∙ ap (λ n. n + 1) was.count_is ∙ sym (length-append rows (row ∷ []));
      first_is = λ r more is. first_row rows row r more w.smallest key is (λ none. first (was.count_is ∙ none) ∙ key_is)
          (λ d ds rows_are. later (omega (arith, was.count_is, some_rows rows d ds rows_are)) ∙ was.first_is d ds rows_are);
      blocks_are =
          subst (λ c. IsCutOf c (blocks_of (map row_entry (rows ++ row ∷ []))) handed) (sym now)
          (subst (λ b. IsCutOf (added v.blocks e) b handed) (sym (ap blocks_of (rows-push rows row) ∙ blocks-push (map row_entry rows) e))
          (cut_added v.blocks (blocks_of (map row_entry rows)) handed e was.blocks_are));
      last_is =
          ap (λ (c : Cut). last_key (c.index ++ c.begun)) now ∙ last_added v.blocks e ∙ sym (ap last_key (rows-push rows row) ∙ last_key-push (map row_entry rows) e);
    }

-- no rows
pub built_none : (v : Built) → v.count ≡ 0 → v.blocks ≡ record { begun = []; index = []; pending = []; place = 0 } → IsBuilt v [] []
built_none v none blocks = record {
  count_is = none;
  first_is = λ row more is. cc;
  blocks_are =
      subst (λ c. IsCutOf c (blocks_of []) []) (sym blocks)
      (subst (λ b. IsCutOf (record { begun = []; index = []; pending = []; place = 0 }) b []) (sym blocks-none)
      (record { begun_is = refl; index_is = sym index_from-nil; text_is = sym blocks_text-nil; place_is = ap (length {A = ℕ}) (sym blocks_text-nil) }));
  last_is = ap (λ (c : Cut). last_key (c.index ++ c.begun)) blocks;
}

-- text that was handed out
pub built_handed : (v w : Built) (rows : List Row) (handed piece : List ℕ) → IsBuilt v rows handed → piece ≡ v.blocks.pending → w.blocks ≡ record v.blocks { pending = [] } → w.count ≡ v.count → w.smallest ≡ v.smallest
    → IsBuilt w rows (handed ++ piece)
built_handed v w rows handed piece was piece_is blocks count first = record {
  count_is = count ∙ was.count_is;
  first_is = λ row more is. first ∙ was.first_is row more is;
  blocks_are =
      subst (λ c. IsCutOf c (blocks_of (map row_entry rows)) (handed ++ piece)) (sym blocks)
      (record {
        begun_is = was.blocks_are.begun_is;
        index_is = was.blocks_are.index_is;
        text_is = append-nil (handed ++ piece) ∙ ap (λ s. handed ++ s) piece_is ∙ was.blocks_are.text_is;
        place_is = was.blocks_are.place_is;
      });
  last_is = ap (λ (c : Cut). last_key (c.index ++ c.begun)) blocks ∙ was.last_is;
}

-- all blocks, where no row follows
pub record AreAll (c : Cut) (blocks : List (List Entry)) (handed : List ℕ) : Type 0 where
  pub index_is : c.index ≡ index_from 0 blocks
  pub text_is : handed ++ c.pending ≡ blocks_text blocks
  pub place_is : c.place ≡ length (blocks_text blocks)
  pub last_is : (largest : List ℕ) → last_key c.index ≡ largest → last_key c.index ≡ largest

all_ended : (c : Cut) (b : Blocks) (handed : List ℕ) → IsCutOf c b handed → (AreAll (ended c) (all_blocks b) handed) × (last_key (ended c).index ≡ last_key (c.index ++ c.begun))
all_ended c b handed is =
    ⊎_elim
    (λ (some : 0 < length c.begun). let end = cut_end c b handed is in let ends_are : ended c ≡ end_block c = ended_some c (omega arith) in (
      subst (λ d. AreAll d (all_blocks b) handed) (sym ends_are)
          (subst (λ bs. AreAll (end_block c) bs handed) (sym (all_some b (omega (arith, ap (length {A = Entry}) is.begun_is, some))))
          (record { index_is = end.index_is; text_is = end.text_is; place_is = end.place_is; last_is = λ largest same. same })),
      ap (λ (d : Cut). last_key d.index) (ends_are ∙ end-is c) ∙ last_key-push c.index (index_entry c.place c.begun) ∙ sym (last_key-append c.index c.begun (omega arith)),
    ))
    (λ (none : length c.begun ≤ 0). let same : ended c ≡ c = ended_none c (omega arith) in (
      subst (λ d. AreAll d (all_blocks b) handed) (sym same)
          (subst (λ bs. AreAll c bs handed) (sym (all_none b (omega (arith, ap (length {A = Entry}) is.begun_is, none))))
          (record { index_is = is.index_is; text_is = is.text_is; place_is = is.place_is; last_is = λ largest is_it. is_it })),
      ap (λ (d : Cut). last_key d.index) same ∙ ap last_key (sym (no_begun c.begun none)),
    ))
    (cases_lt 0 (length c.begun))
  where
    no_begun : (es : List Entry) → length es ≤ 0 → c.index ++ es ≡ c.index
    no_begun [] none = append-nil c.index
    no_begun (e ∷ es) none = absurd (omega (arith, none))

footer-is : (index len properties : ℕ) → footer_text index len properties ≡ places_text index len properties ++ to_le_bytes w32 (masked (crc32c (places_text index len properties))) ++ magic
unfolding footer_text
footer-is index len properties = refl

pub properties-len : (number : ℕ) (session : List ℕ) (count : ℕ) → length session ≡ 20 → length (properties_text number session count) ≡ 36
unfolding properties_text
properties-len number session count twenty =
    length-append (to_le_bytes w64 number ++ session) (to_le_bytes w64 count) ∙ omega (arith, length-append (to_le_bytes w64 number) session, twenty)

pub footer-len : (index len properties : ℕ) → length (footer_text index len properties) ≡ 36
unfolding footer_text places_text
footer-len index len properties = refl

pub table-is : (rows : List Row) (number : ℕ) (session : List ℕ) (blocks : List (List Entry)) → data_blocks rows ≡ blocks
    → table_text rows number session ≡ blocks_text blocks ++ stored (block_text (index_from 0 blocks)) ++ stored (properties_text number session (length rows))
    ++ footer_text (length (blocks_text blocks)) (length (block_text (index_from 0 blocks))) (length (blocks_text blocks) + length (stored (block_text (index_from 0 blocks))))
unfolding table_text table_of_blocks
table-is rows number session blocks same = ap (λ bs. table_of_blocks bs (length rows) number session) same

pub data-is : (rows : List Row) → data_blocks rows ≡ all_blocks (blocks_of (map row_entry rows))
unfolding data_blocks
data-is rows = refl

-- the finished table
pub finished : (v : Built) (rows : List Row) (handed text index_text tail one two : List ℕ) (index : List Entry) (place count properties size : ℕ) (smallest largest : List ℕ) → IsBuilt v rows handed → length v.session ≡ 20 → 1 ≤ v.count
    → text ≡ (ended v.blocks).pending → index ≡ (ended v.blocks).index → place ≡ (ended v.blocks).place → index_text ≡ block_text index → properties ≡ place + length index_text + 5
    → one ≡ text ++ stored index_text → two ≡ one ++ stored (properties_text v.number v.session v.count) → tail ≡ two ++ footer_text place (length index_text) properties
    → size ≡ properties + 41 + 36 → smallest ≡ v.smallest → largest ≡ last_key index → IsFinished v rows handed tail size smallest largest
finished v rows handed text index_text tail one two index place count properties size smallest largest built twenty some text_is index_is place_is contents behind one_is two_is tail_is size_is smallest_is largest_is =
    let blocks : List (List Entry) = all_blocks (blocks_of (map row_entry rows)) in
    let all = all_ended v.blocks (blocks_of (map row_entry rows)) handed built.blocks_are in
    let stored_data : List ℕ = blocks_text blocks in
    let index_all : index ≡ index_from 0 blocks = index_is ∙ all.0.index_is in
    let contents_all : index_text ≡ block_text (index_from 0 blocks) = contents ∙ ap block_text index_all in
    let place_all : place ≡ length stored_data = place_is ∙ all.0.place_is in
    let text_all : handed ++ text ≡ stored_data = ap (λ s. handed ++ s) text_is ∙ all.0.text_is in
    let properties_all : properties ≡ length stored_data + length (stored (block_text (index_from 0 blocks))) =
    behind ∙ omega (arith, place_all, ap (length {A = ℕ}) contents_all, stored-len (block_text (index_from 0 blocks))) in
    let p : List ℕ = stored (properties_text v.number v.session v.count) in
    let f : List ℕ = footer_text place (length index_text) properties in
    let table = table-is rows v.number v.session blocks (data-is rows) in
    let joined : handed ++ tail ≡ (handed ++ text) ++ stored index_text ++ p ++ f =
    ap (λ s. handed ++ s) (tail_is ∙ ap (λ s. s ++ f) (two_is ∙ ap (λ s. s ++ p) one_is)) ∙ sym (append_assoc handed (text ++ stored index_text ++ p) f)
    ∙ ap (λ s. s ++ f) (sym (append_assoc handed (text ++ stored index_text) p) ∙ ap (λ s. s ++ p) (sym (append_assoc handed text (stored index_text)))) in
    let whole : handed ++ tail ≡ table_text rows v.number v.session =
    joined ∙ (λ i. text_all i ++ stored (contents_all i) ++ stored (properties_text v.number v.session (built.count_is i)) ++ footer_text (place_all i) (length (contents_all i)) (properties_all i)) ∙ sym table in
    let index_len = stored-len (block_text (index_from 0 blocks)) in
    let s : List ℕ = stored (properties_text v.number v.session (length rows)) in
    let g : List ℕ = footer_text (length stored_data) (length (block_text (index_from 0 blocks))) (length stored_data + length (stored (block_text (index_from 0 blocks)))) in
    record {
      text = whole;
      size_is =
          size_is ∙ omega (
            arith,
            properties_all,
            ap (length {A = ℕ}) table,
            length-append (stored_data ++ stored (block_text (index_from 0 blocks)) ++ s) g,
            length-append (stored_data ++ stored (block_text (index_from 0 blocks))) s,
            length-append stored_data (stored (block_text (index_from 0 blocks))),
            footer-len (length stored_data) (length (block_text (index_from 0 blocks))) (length stored_data + length (stored (block_text (index_from 0 blocks)))),
            stored-len (properties_text v.number v.session (length rows)),
            properties-len v.number v.session (length rows) twenty,
          );
      smallest_is = λ row more is. smallest_is ∙ built.first_is row more is;
      largest_is = largest_is ∙ ap last_key index_is ∙ all.1 ∙ built.last_is;
    }

-- the pieces behind the index, as they are written
pub properties_made : (p q r t n s k session out new : List ℕ) (number count : ℕ) (stored_is : List ℕ) → p ≡ [] → q ≡ p ++ n → n ≡ to_le_bytes w64 number → r ≡ q ++ s → s ≡ session → t ≡ r ++ k → k ≡ to_le_bytes w64 count
    → stored_is ≡ t → new ≡ out ++ stored stored_is → new ≡ out ++ stored (properties_text number session count)
unfolding properties_text
properties_made p q r t n s k session out new number count stored_is p_is q_is n_is r_is s_is t_is k_is same is =
    is ∙ ap (λ x. out ++ stored x) (same ∙ t_is ∙ (λ i. (r_is ∙ (λ j. (q_is ∙ (λ l. p_is l ++ n_is l)) j ++ s_is j)) i ++ k_is i))

pub places_made : (p q r t a b d : List ℕ) (index len properties : ℕ) → p ≡ [] → q ≡ p ++ a → a ≡ to_le_bytes w64 index → r ≡ q ++ b → b ≡ to_le_bytes w64 len → t ≡ r ++ d → d ≡ to_le_bytes w64 properties
    → t ≡ places_text index len properties
unfolding places_text
places_made p q r t a b d index len properties p_is q_is a_is r_is b_is t_is d_is = t_is ∙ (λ i. (r_is ∙ (λ j. (q_is ∙ (λ l. p_is l ++ a_is l)) j ++ b_is j)) i ++ d_is i)

pub footer_made : (places first second out mid next new cells : List ℕ) (index len properties k m : ℕ) → places ≡ places_text index len properties → first ≡ places → k ≡ crc32c first → m ≡ masked k → second ≡ places → mid ≡ out ++ second
    → cells ≡ to_le_bytes w32 m → next ≡ mid ++ cells → new ≡ next ++ magic → new ≡ out ++ footer_text index len properties
unfolding footer_text
footer_made places first second out mid next new cells index len properties k m places_are first_is k_is m_is second_is mid_is cells_are next_is new_is =
    let check : m ≡ masked (crc32c (places_text index len properties)) = m_is ∙ ap masked (k_is ∙ ap crc32c (first_is ∙ places_are)) in
    new_is ∙ ap (λ s. s ++ magic) (next_is ∙ (λ i. (mid_is ∙ ap (λ s. out ++ s) (second_is ∙ places_are)) i ++ (cells_are ∙ ap (to_le_bytes w32) check) i))
    ∙ ap (λ s. s ++ magic) (append_assoc out (places_text index len properties) (to_le_bytes w32 (masked (crc32c (places_text index len properties)))))
    ∙ append_assoc out (places_text index len properties ++ to_le_bytes w32 (masked (crc32c (places_text index len properties)))) magic

pub row_key : (key made user : List ℕ) (sequence : ℕ) (kind : Kind) (row : Row) → IsInternalKey key user sequence kind → user ≡ row.key → sequence ≡ row.sequence → kind ≡ kind_of row.value → made ≡ key → made ≡ (row_entry row).key
row_key key made user sequence kind row is user_is sequence_is kind_is made_is = made_is ∙ is.is ∙ (λ i. internal_key (user_is i) (sequence_is i) (kind_byte (kind_is i)))

-- a finished table is a whole one
pub whole_made : (v : Built) (rows : List Row) (handed tail : List ℕ) (size : ℕ) (smallest largest : List ℕ) → IsFinished v rows handed tail size smallest largest → AreTableRows rows → v.number < 2 ^ 64 → is_session v.session ≡ true
    → size < 2 ^ 32 → IsTable (handed ++ tail) rows v.number v.session
whole_made v rows handed tail size smallest largest is are number session small = record {
  is = record { is = is.text; are_rows = are; number_fits = number; session_len = length_of_session v.session session };
  spelled = session;
  small = omega (arith, ap (length {A = ℕ}) is.text, is.size_is, small);
}
