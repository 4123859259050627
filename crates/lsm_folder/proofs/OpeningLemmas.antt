-- A table that isn't opened is refused for the fault of its opening.
use Rattle.std.specs.Prelude.{◌≡◌, ◌⊎◌, ℕ, true, false, cond, ◌&&◌, nat_lt, ◌^◌, List, [], ◌∷◌, ◌++◌, length, All, Option, Some, None, Result, Ok, Err}
use Rattle.std.proofs.Common.{inl, inr, refl, sym, ap, subst, ◌∙◌}
use Rattle.std.proofs.lemmas.List.Elements.{All-nil, All-cons, All-head, All-tail}
use Rattle.std.specs.Str.{bytes_eq}
use Rattle.lsm_bytes.specs.Varint.{varint}
use Rattle.lsm_names.specs.declared.file_names.FileName.{FileName}
use Rattle.lsm_names.specs.declared.file_names.FileName.TheVariants.{Table}
use Rattle.lsm_folder.specs.Batches.{number_ahead}
use Rattle.lsm_folder.proofs.NameLemmas.{equal_texts}
use Rattle.lsm_block.specs.declared.entries.Entry.{Entry}
use Rattle.lsm_table.specs.declared.faults.TableFault.{TableFault}
use Rattle.lsm_table.specs.declared.faults.TableFault.TheVariants as table
use Rattle.lsm_table.specs.declared.parts.Properties.{Properties}
use Rattle.lsm_table.specs.Opening.{footer_of, contents_at, properties_at, TellsPlace, TellsBlock, IsIndexText, IsIndexFault, IsPartFault, IsPropertiesFault, IsRefused, IsOutside}
use Rattle.lsm_version.specs.declared.tables.TableInfo.{TableInfo}
use Rattle.lsm_folder.specs.declared.refusals.Refusal.{Refusal}
use Rattle.lsm_folder.specs.declared.refusals.Refusal.TheVariants.{Malformed}
use Rattle.lsm_folder.specs.Blocks.{block_of}
use Rattle.lsm_folder.specs.Steps.{◌>>=◌, some_or, table_says}
use Rattle.lsm_folder.specs.Tables.{Told, told_in, with_told, all_told, told_by_block, index_of, TableRead, table_rows_in, table_in, table_said}
use Rattle.lsm_folder.proofs.AheadLemmas.{less_than}
use Rattle.lsm_folder.proofs.BlockLemmas.{block_back, block_only}
use Rattle.lsm_folder.proofs.TableLemmas.{told_back, said_at_size}
use Rattle.std.proofs.lemmas.Option.{same_Some}
use Rattle.std.proofs.lemmas.Bool.{and_parts}
use Rattle.lsm_table.proofs.WholeTables.{fault_is}

-- ---- an index that tells data blocks

tells_so : (value : List ℕ) (told : Told) → told_in value ≡ Some told → TellsPlace value told.place told.len
unfolding told_in
tells_so value told h =
    let place : ℕ = (number_ahead value).0 in
    let len : ℕ = (number_ahead (number_ahead value).1).0 in
    elim (nat_lt place (2 ^ 64) && nat_lt len (2 ^ 64) && bytes_eq value (varint place ++ varint len)) as (λ b. (nat_lt place (2 ^ 64) && nat_lt len (2 ^ 64) && bytes_eq value (varint place ++ varint len)) ≡ b
    → cond b (Some (record { place = place; len = len })) None ≡ Some told → TellsPlace value told.place told.len) [
      | true ↦ λ is e.
          let one = and_parts (nat_lt place (2 ^ 64) && nat_lt len (2 ^ 64)) (bytes_eq value (varint place ++ varint len)) is in
          let two = and_parts (nat_lt place (2 ^ 64)) (nat_lt len (2 ^ 64)) one.0 in
          subst (λ (t : Told). TellsPlace value t.place t.len) (same_Some (record { place = place; len = len }) told e)
          (record { text = equal_texts value (varint place ++ varint len) one.1; place_fits = less_than place (2 ^ 64) two.0; len_fits = less_than len (2 ^ 64) two.1 })
      | false ↦ λ is e. cc
    ] refl h

-- what is told of an entry and of those behind it
pub record IsToldFirst (one : Option Told) (rest : Option (List Told)) : Type 0 where
  pub first : Told
  pub more : List Told
  pub one_is : one ≡ Some first
  pub rest_is : rest ≡ Some more

pub told_first : (one : Option Told) (rest : Option (List Told)) (all : List Told) → with_told one rest ≡ Some all
    → IsToldFirst one rest
told_first None rest all is = cc
told_first (Some first) None all is = cc
told_first (Some first) (Some more) all is = record { first = first; more = more; one_is = refl; rest_is = refl }

all_tell : (es : List Entry) (all : List Told) → all_told es ≡ Some all → All TellsBlock es
all_tell [] all is = All-nil TellsBlock
all_tell (e ∷ es) all is =
    let parts = told_first (told_in e.value) (all_told es) all is in
    All-cons TellsBlock e es
    (record { place = parts.first.place; len = parts.first.len; tells = tells_so e.value parts.first parts.one_is })
    (all_tell es parts.more parts.rest_is)

pub record AreTold (es : List Entry) : Type 0 where
  pub all : List Told
  pub is : all_told es ≡ Some all

pub told_all : (es : List Entry) → All TellsBlock es → AreTold es
told_all [] each = record { all = []; is = refl }
told_all (e ∷ es) each =
    let first : TellsBlock e = All-head TellsBlock e es each in
    let more = told_all es (All-tail TellsBlock e es each) in
    record {
      all = record { place = first.place; len = first.len } ∷ more.all;
      is = (λ i. with_told (told_back e.value first.place first.len first.tells i) (more.is i));
    }

no_index_by : (contents : List ℕ) → ((es : List Entry) → IsIndexText contents es → ⊥) → (o : Option (List Entry))
    → block_of contents ≡ o → (r : Option (List Told)) → told_by_block o ≡ r → r ≡ None
no_index_by contents none None block None is = refl
no_index_by contents none None block (Some all) is = cc
no_index_by contents none (Some es) block None is = refl
no_index_by contents none (Some es) block (Some all) is =
    absurd (none es (record { block = block_only contents es block; places = all_tell es all is }))

-- contents that are no index tell none
pub no_index : (contents : List ℕ) → ((es : List Entry) → IsIndexText contents es → ⊥) → index_of contents ≡ None
unfolding index_of
no_index contents none = no_index_by contents none (block_of contents) refl (told_by_block (block_of contents)) refl

pub record HasIndex (contents : List ℕ) : Type 0 where
  pub all : List Told
  pub is : index_of contents ≡ Some all

pub index_there : (contents : List ℕ) (es : List Entry) → IsIndexText contents es → HasIndex contents
unfolding index_of
index_there contents es is =
    let told = told_all es is.places in
    record { all = told.all; is = ap told_by_block (block_back contents es is.block) ∙ told.is }

-- ---- the first fault

pub stops : {A B : Type 0} (name : FileName) (fault : TableFault) (f : A → Result B Refusal)
    → (table_says name (Err fault) >>= f) ≡ table_says name (Err fault)
stops name table.ReadFault f = refl
stops name (table.Damaged place kept found) f = refl
stops name (table.Malformed place) f = refl
stops name table.NoMemory f = refl

module _ (number : ℕ) (info : TableInfo) (bytes : List ℕ) where
  abbrev refused : TableFault → Result TableRead Refusal
  refused fault = table_says (Table number) (Err fault)

  footer_refused : (fault : TableFault) → footer_of bytes ≡ Err fault → table_in number info bytes ≡ refused fault
  unfolding table_in
  footer_refused fault is =
      ap (λ r. table_says (Table number) r >>= λ places.
      table_says (Table number) (contents_at places.index places.len bytes) >>= λ (contents : List ℕ).
      some_or (Malformed (Table number) places.index) (index_of contents) >>= λ (index : List Told).
      table_says (Table number) (properties_at places.properties bytes) >>= λ (found : Properties).
      table_rows_in number info bytes found places.properties index) is
      ∙ stops (Table number) fault _

  module _ (fault : TableFault) (part : IsPartFault bytes fault) where
    abbrev at : ℕ
    at = part.places.index

    abbrev properties_place : ℕ
    properties_place = part.places.properties

    abbrev behind_index : List Told → Result TableRead Refusal
    behind_index index =
        table_says (Table number) (properties_at properties_place bytes) >>= λ
        (found : Properties). table_rows_in number info bytes found properties_place index

    abbrev behind_contents : List ℕ → Result TableRead Refusal
    behind_contents contents = some_or (Malformed (Table number) at) (index_of contents) >>= behind_index

    behind_footer : table_in number info bytes ≡ (table_says (Table number) (contents_at at part.places.len bytes) >>= behind_contents)
    unfolding table_in
    behind_footer =
        ap (λ r. table_says (Table number) r >>= λ places.
        table_says (Table number) (contents_at places.index places.len bytes) >>= λ (contents : List ℕ).
        some_or (Malformed (Table number) places.index) (index_of contents) >>= λ (index : List Told).
        table_says (Table number) (properties_at places.properties bytes) >>= λ (found : Properties).
        table_rows_in number info bytes found places.properties index) part.footer

    with_contents : (contents : List ℕ) → contents_at at part.places.len bytes ≡ Ok contents
        → table_in number info bytes ≡ behind_contents contents
    with_contents contents is =
        behind_footer ∙ ap (λ (r : Result (List ℕ) TableFault). table_says (Table number) r >>= behind_contents) is

    part_refused : (IsOutside fault → ⊥) → IsIndexFault bytes part.places fault ⊎ IsPropertiesFault bytes part.places fault
        → table_in number info bytes ≡ refused fault
    part_refused inside (inl (inl stored)) =
        behind_footer
        ∙ ap (λ (r : Result (List ℕ) TableFault). table_says (Table number) r >>= behind_contents)
        (fault_is (contents_at at part.places.len bytes) fault stored inside)
        ∙ stops (Table number) fault behind_contents
    part_refused inside (inl (inr (is, none))) =
        with_contents none.contents none.stored
        ∙ ap (λ (o : Option (List Told)). some_or (Malformed (Table number) at) o >>= behind_index)
        (no_index none.contents none.none)
        ∙ sym (ap refused is)
    part_refused inside (inr wrong) =
        let index = index_there wrong.is_index.contents wrong.index wrong.is_index.is in
        with_contents wrong.is_index.contents wrong.is_index.stored
        ∙ ap (λ (o : Option (List Told)). some_or (Malformed (Table number) at) o >>= behind_index) index.is
        ∙ ap (λ (r : Result Properties TableFault). table_says (Table number) r >>= λ (found : Properties). table_rows_in number info bytes found properties_place index.all) (fault_is (properties_at properties_place bytes) fault wrong.fault_is inside)
        ∙ stops (Table number) fault (λ (found : Properties). table_rows_in number info bytes found properties_place index.all)

  pub in_refused : (fault : TableFault) → IsRefused bytes fault → (IsOutside fault → ⊥)
      → table_in number info bytes ≡ refused fault
  in_refused fault (inl footer) inside = footer_refused fault (fault_is (footer_of bytes) fault footer inside)
  in_refused fault (inr part) inside = part_refused fault part inside part.fault_is

  -- a table of the size that the version has
  pub opening_refused : (fault : TableFault) → length bytes ≡ info.size → IsRefused bytes fault → (IsOutside fault → ⊥)
      → table_said number info bytes ≡ refused fault
  opening_refused fault size is inside = said_at_size number info bytes size ∙ in_refused fault is inside
