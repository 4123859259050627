-- The tables of a version, opened one after another by their numbers.
use Rattle.std.specs.Prelude.{◌≡◌, ℕ, List, [], ◌∷◌, ◌++◌, map, Result, Ok, Err}
use Rattle.std.proofs.Common.{refl, sym, ap, subst, ◌∙◌, append_assoc, append-nil}
use Rattle.std.proofs.lemmas.List.{map-append}
use Rattle.lsm_table.specs.declared.parts.Properties.{Properties}
use Rattle.lsm_table.specs.Tables.{Opened}
use Rattle.lsm_version.specs.declared.tables.Placed.{Placed}
use Rattle.lsm_folder.specs.declared.refusals.Refusal.{Refusal}
use Rattle.lsm_folder.specs.Files.{Files}
use Rattle.lsm_folder.specs.Steps.{◌>>=◌}
use Rattle.lsm_recover.specs.declared.errors.FolderError.{FolderError}
use Rattle.lsm_recover.specs.Answers.{IsRefusedBy}
use Rattle.lsm_recover.specs.Opening.{IsOpenOn, AreOpenOn, IsOpenBehind, all_opened, opened_of}
use Rattle.lsm_recover.proofs.AnswerLemmas.{refused_too}

abbrev properties_of : List Opened → List Properties
properties_of tables = map (λ (table : Opened). table.properties) tables

-- what was opened, before what is still to be opened
abbrev before_opened : List Properties → Result (List Properties) Refusal → Result (List Properties) Refusal
before_opened found rest = rest >>= λ (more : List Properties). Ok (found ++ more)

none_before : (r : Result (List Properties) Refusal) → r ≡ before_opened [] r
none_before (Ok more) = refl
none_before (Err refusal) = refl

one_before : (found : List Properties) (one : Properties) (r : Result (List Properties) Refusal) → before_opened found (r >>= λ (more : List Properties). Ok (one ∷ more)) ≡ before_opened (found ++ one ∷ []) r
one_before found one (Ok more) = ap Ok (sym (append_assoc found (one ∷ []) more))
one_before found one (Err refusal) = refl

last_open : (files : Files) (es : List (ℕ × Placed)) (tables : List Opened) (e : ℕ × Placed) (table : Opened) → AreOpenOn files es tables → IsOpenOn files e.0 e.1 table → AreOpenOn files (es ++ e ∷ []) (tables ++ table ∷ [])
last_open files [] [] e table are is = (is, tt)
last_open files [] (other ∷ tables) e table are is = absurd are
last_open files (other ∷ es) [] e table are is = absurd are
last_open files (other ∷ es) (t ∷ tables) e table are is = (are.0, last_open files es tables e table are.1 is)

-- the tables before the rest were opened
pub record HasOpened (files : Files) (all rest : List (ℕ × Placed)) (before now : List Opened) : Type 0 where
  pub front : List (ℕ × Placed)
  pub tables : List Opened
  pub all_is : all ≡ front ++ rest
  pub are : AreOpenOn files front tables
  pub now_is : now ≡ before ++ tables
  pub is : all_opened files all ≡ before_opened (properties_of tables) (all_opened files rest)

pub open_begun : (files : Files) (all : List (ℕ × Placed)) (tables : List Opened) → HasOpened files all all tables tables
open_begun files all tables = record { front = []; tables = []; all_is = refl; are = tt; now_is = sym (append-nil tables); is = none_before (all_opened files all) }

module _ (files : Files) (all : List (ℕ × Placed)) (e : ℕ × Placed) (rest : List (ℕ × Placed)) (before now : List Opened) (so_far : HasOpened files all (e ∷ rest) before now) where
  abbrev behind : Result Properties Refusal → Result (List Properties) Refusal
  behind r = r >>= λ (first : Properties). all_opened files rest >>= λ (more : List Properties). Ok (first ∷ more)

  pub open_more : (table : Opened) (after : List Opened) → IsOpenOn files e.0 e.1 table → after ≡ now ++ table ∷ [] → HasOpened files all rest before after
  open_more table after is made = record {
    front = so_far.front ++ e ∷ [];
    tables = so_far.tables ++ table ∷ [];
    all_is = so_far.all_is ∙ sym (append_assoc so_far.front (e ∷ []) rest);
    are = last_open files so_far.front so_far.tables e table so_far.are is;
    now_is = made ∙ ap (λ (l : List Opened). l ++ table ∷ []) so_far.now_is ∙ append_assoc before so_far.tables (table ∷ []);
    is =
        so_far.is
        ∙ ap (λ (r : Result Properties Refusal). before_opened (properties_of so_far.tables) (behind r)) is.is
        ∙ one_before (properties_of so_far.tables) table.properties (all_opened files rest)
        ∙ ap (λ (l : List Properties). before_opened l (all_opened files rest)) (sym (map-append (λ (t : Opened). t.properties) so_far.tables (table ∷ [])));
  }

  pub open_refuses : (error : FolderError) → IsRefusedBy (opened_of files e.0 e.1) error → IsRefusedBy (all_opened files all) error
  open_refuses = refused_too (opened_of files e.0 e.1) (all_opened files all) (λ refused says. so_far.is ∙ ap (λ (r : Result Properties Refusal). before_opened (properties_of so_far.tables) (behind r)) says)

pub all_open : (files : Files) (all : List (ℕ × Placed)) (before now : List Opened) → HasOpened files all [] before now → IsOpenBehind files all before now
all_open files all before now so_far = record {
  tables = so_far.tables;
  are = subst (λ (es : List (ℕ × Placed)). AreOpenOn files es so_far.tables) (sym (so_far.all_is ∙ append-nil so_far.front)) so_far.are;
  after_is = so_far.now_is;
  said = so_far.is ∙ ap Ok (append-nil (properties_of so_far.tables));
}
