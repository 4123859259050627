-- What the bytes of a table open to.
use Rattle.std.specs.Prelude.{◌≡◌, ◌≢◌, ◌⊎◌, ℕ, ◌-◌, Bool, true, false, cond, ◌==◌, List, length, Option, Result, Ok, Err}
use Rattle.std.proofs.Common.{inl, inr, sym, ap, subst, ◌∙◌, arith}
use Rattle.std.proofs.lemmas.Bool.Decides.{nat_tests}
use Rattle.lsm_names.specs.declared.file_names.FileName.TheVariants.{Table}
use Rattle.lsm_block.specs.declared.entries.Entry.{Entry}
use Rattle.lsm_table.specs.declared.faults.TableFault.{TableFault}
use Rattle.lsm_table.specs.declared.parts.Properties.{Properties}
use Rattle.lsm_table.specs.Opening.{footer_of, contents_at, properties_at, Opens, IsIndexFault, IsPartFault, IsPropertiesFault, IsRefused, IsOutside}
use Rattle.lsm_table.proofs.Footers.{footer_end}
use Rattle.lsm_table.proofs.WholeTables.{fault_is}
use Rattle.lsm_version.specs.declared.tables.TableInfo.{TableInfo}
use Rattle.lsm_folder.specs.declared.refusals.Refusal.{Refusal}
use Rattle.lsm_folder.specs.declared.refusals.Refusal.TheVariants as refusal
use Rattle.lsm_folder.specs.Steps.{◌>>=◌, some_or, table_says}
use Rattle.lsm_folder.specs.Tables.{Told, index_of, is_of}
use Rattle.lsm_folder.proofs.OpeningLemmas.{no_index, index_there, stops}
use Rattle.lsm_recover.specs.declared.errors.FolderError.{FolderError}
use Rattle.lsm_recover.specs.declared.errors.FolderError.TheVariants.{Malformed}
use Rattle.lsm_recover.specs.Answers.{IsRefusedBy}
use Rattle.lsm_recover.specs.Causes.{table_error}
use Rattle.lsm_recover.specs.Opening.{own_properties, opened_in, opened_said}
use Rattle.lsm_recover.proofs.WalkedLemmas.{fault_refused}

module _ (number : ℕ) (info : TableInfo) (bytes : List ℕ) where
  -- behind the parts that were read: the index stands at one place, the properties at another
  abbrev by_properties : ℕ → Result Properties TableFault → Result Properties Refusal
  by_properties at r = table_says (Table number) r >>= own_properties number info at

  abbrev by_index : ℕ → ℕ → Option (List Told) → Result Properties Refusal
  by_index place at o = some_or (refusal.Malformed (Table number) place) o >>= λ (index : List Told). by_properties at (properties_at at bytes)

  abbrev by_contents : ℕ → ℕ → Result (List ℕ) TableFault → Result Properties Refusal
  by_contents place at r = table_says (Table number) r >>= λ (contents : List ℕ). by_index place at (index_of contents)

  -- a table that opens
  module _ (properties : Properties) (index : List Entry) (opens : Opens bytes properties index) where
    properties_are : opened_in number info bytes ≡ own_properties number info opens.places.properties properties
    unfolding opened_in
    properties_are =
        let told = index_there opens.is_index.contents index opens.is_index.is in
        ap (λ r. table_says (Table number) r >>= λ places. by_contents places.index places.properties (contents_at places.index places.len bytes)) opens.footer
        ∙ ap (by_contents opens.places.index opens.places.properties) opens.is_index.stored
        ∙ ap (by_index opens.places.index opens.places.properties) told.is
        ∙ ap (by_properties opens.places.properties) opens.told

    opens_own : is_of number info properties ≡ true → opened_in number info bytes ≡ Ok properties
    opens_own own = properties_are ∙ ap (λ (b : Bool). cond b (Ok properties) (Err (refusal.Malformed (Table number) opens.places.properties))) own

    opens_other : is_of number info properties ≡ false → opened_in number info bytes ≡ Err (refusal.Malformed (Table number) (length bytes - 77))
    opens_other other =
        let place : opens.places.properties ≡ length bytes - 77 = omega (arith, footer_end bytes opens.places opens.footer) in
        properties_are
        ∙ ap (λ (b : Bool). cond b (Ok properties) (Err (refusal.Malformed (Table number) opens.places.properties))) other
        ∙ ap (λ (n : ℕ). Err (refusal.Malformed (Table number) n)) place

  -- a fault of its parts
  module _ (fault : TableFault) (inside : IsOutside fault → ⊥) where
    abbrev refused : Result Properties Refusal
    refused = table_says (Table number) (Err fault)

    module _ (part : IsPartFault bytes fault) where
      abbrev place : ℕ
      place = part.places.index

      abbrev at : ℕ
      at = part.places.properties

      behind_footer : opened_in number info bytes ≡ by_contents place at (contents_at place part.places.len bytes)
      unfolding opened_in
      behind_footer = ap (λ r. table_says (Table number) r >>= λ places. by_contents places.index places.properties (contents_at places.index places.len bytes)) part.footer

      part_refused : IsIndexFault bytes part.places fault ⊎ IsPropertiesFault bytes part.places fault → opened_in number info bytes ≡ refused
      part_refused (inl (inl stored)) =
          behind_footer
          ∙ ap (by_contents place at) (fault_is (contents_at place part.places.len bytes) fault stored inside)
          ∙ stops (Table number) fault (λ (contents : List ℕ). by_index place at (index_of contents))
      part_refused (inl (inr (is, none))) =
          behind_footer
          ∙ ap (by_contents place at) none.stored
          ∙ ap (by_index place at) (no_index none.contents none.none)
          ∙ sym (ap (λ (f : TableFault). table_says (Table number) (Err f)) is)
      part_refused (inr wrong) =
          let told = index_there wrong.is_index.contents wrong.index wrong.is_index.is in
          behind_footer
          ∙ ap (by_contents place at) wrong.is_index.stored
          ∙ ap (by_index place at) told.is
          ∙ ap (by_properties at) (fault_is (properties_at at bytes) fault wrong.fault_is inside)
          ∙ stops (Table number) fault (own_properties number info at)

    footer_refused : footer_of bytes ≡ Err fault → opened_in number info bytes ≡ refused
    unfolding opened_in
    footer_refused is =
        ap (λ r. table_says (Table number) r >>= λ places. by_contents places.index places.properties (contents_at places.index places.len bytes)) is
        ∙ stops (Table number) fault (λ places. by_contents places.index places.properties (contents_at places.index places.len bytes))

    in_refused : IsRefused bytes fault → opened_in number info bytes ≡ refused
    in_refused (inl footer) = footer_refused (fault_is (footer_of bytes) fault footer inside)
    in_refused (inr part) = part_refused part part.fault_is

  -- ---- by the size that the version has

  abbrev said : Result Properties Refusal
  said = opened_said number info bytes

  at_size : length bytes ≡ info.size → said ≡ opened_in number info bytes
  unfolding opened_said
  at_size size =
      let test : (length bytes == info.size) ≡ true = grind (arith, nat_tests) in
      ap (λ (b : Bool). cond b (opened_in number info bytes) (Err (refusal.Short (Table number) info.size (length bytes)))) test

  pub opens_short : (found : ℕ) → length bytes ≡ found → (found ≡ info.size → ⊥) → said ≡ Err (refusal.Short (Table number) info.size found)
  unfolding opened_said
  opens_short found is other =
      let differs : length bytes ≢ info.size = λ size. other (sym is ∙ size) in
      let test : (length bytes == info.size) ≡ false = grind (arith, nat_tests, differs) in
      ap (λ (b : Bool). cond b (opened_in number info bytes) (Err (refusal.Short (Table number) info.size (length bytes)))) test
      ∙ ap (λ (n : ℕ). Err (refusal.Short (Table number) info.size n)) is

  module _ (size : length bytes ≡ info.size) where
    pub open_refuses : (fault : TableFault) (error : FolderError) → error ≡ table_error (Table number) fault → IsRefused bytes fault → IsRefusedBy said error
    open_refuses fault error is refused = subst (IsRefusedBy said) (sym is) (fault_refused said (Table number) fault (λ inside. at_size size ∙ in_refused fault inside refused))

    module _ (properties : Properties) (index : List Entry) (opens : Opens bytes properties index) where
      pub own_opens : is_of number info properties ≡ true → said ≡ Ok properties
      own_opens own = at_size size ∙ opens_own properties index opens own

      pub other_refuses : (error : FolderError) → error ≡ Malformed (Table number) (info.size - 77) → is_of number info properties ≡ false → IsRefusedBy said error
      other_refuses error is other = subst (IsRefusedBy said) (sym is) (at_size size ∙ opens_other properties index opens other ∙ ap (λ (n : ℕ). Err (refusal.Malformed (Table number) (n - 77))) size)
