-- A table's data blocks, gathered one after another, come to what the table says.
use Rattle.std.specs.Prelude.{◌≡◌, ℕ, ◌+◌, ◌-◌, Bool, true, false, List, [], ◌++◌, length, map, Result, Ok, Err, OnOk, IfErr}
use Rattle.std.proofs.Common.{refl, sym, ap, subst, ◌∙◌, arith, inl, inr}
use Rattle.std.proofs.lemmas.List.Sums.{fold-append}
use Rattle.lsm_names.specs.declared.file_names.FileName.{FileName}
use Rattle.lsm_names.specs.declared.file_names.FileName.TheVariants.{Table}
use Rattle.lsm_disk.specs.Viewed.{Viewed}
use Rattle.lsm_frame.specs.Reader.{Tells, Stays}
use Rattle.lsm_block.specs.declared.entries.Entry.{Entry}
use Rattle.lsm_table.specs.declared.faults.TableFault.{TableFault}
use Rattle.lsm_table.specs.declared.faults.TableFault.TheVariants as table
use Rattle.lsm_table.specs.declared.parts.Properties.{Properties}
use Rattle.lsm_table.specs.Opening.{Opens, IsRefused, IsOutside}
use Rattle.lsm_table.specs.Rows.{row_at}
use Rattle.lsm_table.specs.Tables.{Shows}
use Rattle.lsm_version.specs.declared.tables.TableInfo.{TableInfo}
use Rattle.lsm_folder.specs.declared.refusals.Refusal.{Refusal}
use Rattle.lsm_folder.specs.declared.refusals.Refusal.TheVariants as refusal
use Rattle.lsm_folder.specs.Steps.{table_says}
use Rattle.lsm_folder.specs.Tables.{TableRead, is_of, table_said}
use Rattle.lsm_folder.proofs.OpeningLemmas.{in_refused}
use Rattle.lsm_folder.proofs.TableLemmas.{said_at_size, said_short}
use Rattle.lsm_folder.proofs.WalkLemmas.{walk_begins, walk_goes_on, walked_whole, walk_stops, other_table}
use Rattle.lsm_frame.proofs.Going.{stays_trans}
use Rattle.lsm_recover.specs.declared.errors.FolderError.{FolderError}
use Rattle.lsm_recover.specs.declared.errors.FolderError.TheVariants.{Malformed}
use Rattle.lsm_recover.specs.Answers.{IsRefusedBy}
use Rattle.lsm_recover.specs.Causes.{table_error}
use Rattle.lsm_recover.specs.Gathered.{Gathered, with_row, with_rows}
use Rattle.lsm_recover.specs.Tables.{AnswersTable, GathersTable, GathersBlock, HasGathered, IsWalkTrouble}

-- ---- where a walk stands

pub record IsWalking (index : List Entry) (start now : Viewed) (nth : ℕ) (before after : Gathered) : Type 0 where
  pub stays : Stays start now
  pub gathered : (text : List ℕ) → Tells start text → HasGathered text index nth before after

pub walking_begun : (index : List Entry) (start : Viewed) (rows : Gathered) → IsWalking index start start 0 rows rows
walking_begun index start rows = record {
  stays = record { bytes = refl; len = refl; faults = omega arith };
  gathered = λ text tells. record { rows = []; walked = walk_begins text index; rows_are = refl };
}

tells_still : (text : List ℕ) (before now : Viewed) → Tells before text → Stays before now → Tells now text
tells_still text before now tells stays = record { bytes = stays.bytes ∙ tells.bytes; whole = tells.whole ∙ sym stays.len }

module _ (index : List Entry) (start now : Viewed) (nth : ℕ) (before mid : Gathered) (so_far : IsWalking index start now nth before mid) where
  -- one block more
  pub walking_more : (next : Viewed) (after : Gathered) → Stays now next → ((text : List ℕ) → Tells now text → GathersBlock text index nth mid after) → IsWalking index start next (nth + 1) before after
  walking_more next after stays gathers = record {
    stays = stays_trans start now next so_far.stays stays;
    gathered = λ text tells.
        let was = so_far.gathered text tells in
        let block = gathers text (tells_still text start now tells so_far.stays) in
        record {
          rows = was.rows ++ map row_at block.block;
          walked = walk_goes_on text index nth was.rows block.block was.walked block.is;
          rows_are = block.rows_are ∙ ap (λ (g : Gathered). with_rows g (map row_at block.block)) was.rows_are ∙ sym (fold-append with_row before was.rows (map row_at block.block));
        };
  }

-- ---- what the table says

not_outside_damaged : (place kept found : ℕ) → IsOutside (table.Damaged place kept found) → ⊥
unfolding IsOutside
not_outside_damaged place kept found h = h

not_outside_malformed : (place : ℕ) → IsOutside (table.Malformed place) → ⊥
unfolding IsOutside
not_outside_malformed place h = h

-- what reads as a table's fault is refused by the error that the fault is
pub fault_refused : {A : Type 0} (read : Result A Refusal) (name : FileName) (fault : TableFault) → ((IsOutside fault → ⊥) → read ≡ table_says name (Err fault)) → IsRefusedBy read (table_error name fault)
fault_refused read name table.ReadFault is = tt
fault_refused read name (table.Damaged place kept found) is = is (not_outside_damaged place kept found)
fault_refused read name (table.Malformed place) is = is (not_outside_malformed place)
fault_refused read name table.NoMemory is = tt

module _ (number : ℕ) (info : TableInfo) (text : List ℕ) where
  abbrev said : Result TableRead Refusal
  said = table_said number info text

  pub short_refused : (found : ℕ) → length text ≡ found → (found ≡ info.size → ⊥) → said ≡ Err (refusal.Short (Table number) info.size found)
  short_refused found is other = said_short number info text (λ size. other (sym is ∙ size)) ∙ ap (λ (n : ℕ). Err (refusal.Short (Table number) info.size n)) is

  module _ (size : length text ≡ info.size) where
    pub opening_refuses : (fault : TableFault) (error : FolderError) → error ≡ table_error (Table number) fault → IsRefused text fault → IsRefusedBy said error
    opening_refuses fault error is refused =
        subst (IsRefusedBy said) (sym is) (fault_refused said (Table number) fault (λ inside. said_at_size number info text size ∙ in_refused number info text fault refused inside))

    module _ (properties : Properties) (index : List Entry) (opens : Opens text properties index) where
      pub other_refused : (error : FolderError) → error ≡ Malformed (Table number) (info.size - 77) → is_of number info properties ≡ false → IsRefusedBy said error
      other_refused error is other = subst (IsRefusedBy said) (sym is)
          (said_at_size number info text size ∙ other_table number info text properties index opens other ∙ ap (λ (n : ℕ). Err (refusal.Malformed (Table number) (n - 77))) size)

      module _ (own : is_of number info properties ≡ true) (before after : Gathered) where
        all_gathered : HasGathered text index (length index) before after → GathersTable said before after
        all_gathered has = record {
          table = record { rows = has.rows };
          is = said_at_size number info text size ∙ walked_whole number info text properties index opens own has.rows has.walked;
          rows_are = has.rows_are;
        }

        walk_refused : (error : FolderError) → IsWalkTrouble (Table number) text index error → IsRefusedBy said error
        walk_refused error (inl memory) = subst (IsRefusedBy said) (sym memory) tt
        walk_refused error (inr stop) = subst (IsRefusedBy said) (sym stop.error_is)
            (fault_refused said (Table number) stop.fault (λ inside. said_at_size number info text size ∙ walk_stops number info text properties index opens own stop.nth stop.rows stop.fault stop.walked stop.wrong inside))

        -- a walk's answer is the table's
        pub walk_answers : {T : Type 0} (result : Result T FolderError) → OnOk result (HasGathered text index (length index) before after) → IfErr result (IsWalkTrouble (Table number) text index) → AnswersTable said before after result
        walk_answers (Ok done) whole stopped = all_gathered whole
        walk_answers (Err error) whole stopped = walk_refused error stopped

-- ---- where a view tells this text

pub opens_told : (text : List ℕ) (viewed : Viewed) (properties : Properties) (index : List Entry) → Tells viewed text → Shows viewed properties index → Opens text properties index
unfolding Shows
opens_told text viewed properties index tells shows = shows text tells

pub own_told : (number : ℕ) (info : TableInfo) (properties found : Properties) (result test : Bool) → found ≡ properties → result ≡ is_of number info found → result ≡ test → is_of number info properties ≡ test
own_told number info properties found result test same is so = ap (is_of number info) (sym same) ∙ sym is ∙ so

pub whole_told : {T : Type 0} (result : Result T FolderError) (P Q : Type 0) → (P → Q) → OnOk result P → OnOk result Q
whole_told (Ok done) P Q f h = f h
whole_told (Err error) P Q f h = tt

pub stopped_told : {T : Type 0} (result : Result T FolderError) (P Q : FolderError → Type 0) → ((e : FolderError) → P e → Q e) → IfErr result P → IfErr result Q
stopped_told (Ok done) P Q f h = tt
stopped_told (Err error) P Q f h = f error h
