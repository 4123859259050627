-- What edits come to with one more behind them.
use Rattle.std.specs.Prelude.{◌≡◌, ℕ, ◌^◌, ◌<◌, ◌≤◌, Bool, true, false, cond, ◌&&◌, List, [], ◌∷◌, ◌++◌, length, Option, Some, None, IfSome, IfOk, IfErr, unwrap_or, Result, Ok, Err}
use Rattle.std.proofs.Common.{refl, sym, ap, subst, ◌∙◌, arith, length-append, inl, inr}
use Rattle.std.proofs.lemmas.List.Sums.{fold-append}
use Rattle.lsm_names.specs.declared.file_names.FileName.{FileName}
use Rattle.lsm_version.specs.declared.edits.Edit.{Edit}
use Rattle.lsm_version.specs.declared.refusals.ApplyError.{ApplyError}
use Rattle.lsm_version.specs.Edits.{IsEditText, IsSomeEdit}
use Rattle.lsm_version.specs.Levels.{Tables}
use Rattle.lsm_version.specs.Versions.{empty_version, applied, applied_after, version_after, later, numbers_set, numbers_after}
use Rattle.lsm_folder.specs.declared.refusals.Refusal.{Refusal}
use Rattle.lsm_folder.specs.declared.refusals.Refusal.TheVariants as refusal
use Rattle.lsm_folder.specs.Edits.{edit_of}
use Rattle.lsm_folder.specs.Manifests.{is_there, may_follow, with_edit}
use Rattle.lsm_folder.specs.Steps.{◌>>=◌, some_or, version_says}
use Rattle.lsm_folder.proofs.EditLemmas.{edit_back, edit_only}
use Rattle.lsm_recover.specs.declared.errors.FolderError.{FolderError}
use Rattle.lsm_recover.specs.declared.manifest.Stated.{Stated}
use Rattle.lsm_recover.specs.Answers.{IsRefusedBy}
use Rattle.lsm_recover.specs.Stated.{AreStated, IsStated, IsNotApplied, IsNoEdit, said_so_far}
use Rattle.lsm_recover.proofs.AnswerLemmas.{refused_too}

module _ (name : FileName) (place : ℕ) (edits : List Edit) (edit : Edit) where
  abbrev all : List Edit
  all = edits ++ edit ∷ []

  version_is : (tables : Tables) → version_after edits ≡ Ok tables → version_after all ≡ applied tables edit
  unfolding version_after
  version_is tables is = fold-append applied_after (Ok empty_version) edits (edit ∷ []) ∙ ap (λ (r : Result Tables ApplyError). applied_after r edit) is

  numbers_are : numbers_after all ≡ numbers_set (numbers_after edits) edit
  unfolding numbers_after
  numbers_are = fold-append numbers_set (record { log = None; next = None; last = None }) edits (edit ∷ [])

  abbrev by_version : Result Tables ApplyError → Result (List Edit) Refusal
  by_version r = version_says name place r >>= λ (tables : Tables). Ok all

  followed : may_follow edits edit ≡ true → with_edit name place edits edit ≡ by_version (version_after all)
  unfolding with_edit
  followed may = ap (λ (b : Bool). cond b (by_version (version_after all)) (Err (refusal.Malformed name place))) may

  pub not_followed : may_follow edits edit ≡ false → with_edit name place edits edit ≡ Err (refusal.Malformed name place)
  unfolding with_edit
  not_followed may = ap (λ (b : Bool). cond b (by_version (version_after all)) (Err (refusal.Malformed name place))) may

  module _ (may : may_follow edits edit ≡ true) (tables : Tables) (is : version_after edits ≡ Ok tables) where
    pub edit_taken : (after : Tables) → applied tables edit ≡ Ok after → with_edit name place edits edit ≡ Ok all
    edit_taken after takes = followed may ∙ ap by_version (version_is tables is ∙ takes)

    pub edit_refused : (error : FolderError) → IsNotApplied name place tables edit error → IsRefusedBy (with_edit name place edits edit) error
    edit_refused = refused_too (version_says name place (applied tables edit)) (with_edit name place edits edit)
        (λ refused says. followed may ∙ ap by_version (version_is tables is) ∙ ap (λ (r : Result Tables Refusal). r >>= λ (t : Tables). Ok all) says)

    long : 1 ≤ length all
    long = omega (arith, length-append edits (edit ∷ []))

    pub stated_more : (after : Tables) → applied tables edit ≡ Ok after → (log next last : ℕ) → numbers_set (numbers_after edits) edit ≡ record { log = Some log; next = Some next; last = Some last }
        → AreStated all (record { version = after; log = log; next = next; last = last })
    stated_more after takes log next last numbers = record { some = long; version = version_is tables is ∙ takes; numbers = numbers_are ∙ numbers }

-- ---- a first edit

pub first_version : version_after [] ≡ Ok empty_version
unfolding version_after
first_version = refl

pub first_numbers : (edit : Edit) (log next last : ℕ) → edit.log ≡ Some log → edit.next ≡ Some next → edit.last ≡ Some last → numbers_set (numbers_after []) edit ≡ record { log = Some log; next = Some next; last = Some last }
unfolding numbers_after
first_numbers edit log next last one two three = λ i. record { log = later None (one i); next = later None (two i); last = later None (three i) }

pub first_follows : (edit : Edit) (log next last : ℕ) → edit.log ≡ Some log → edit.next ≡ Some next → edit.last ≡ Some last → may_follow [] edit ≡ true
first_follows edit log next last one two three = (λ i. is_there (one i) && is_there (two i) && is_there (three i))

none_last : (log next : Bool) → (log && next && false) ≡ false
none_last true true = refl
none_last true false = refl
none_last false next = refl

pub no_last : (edit : Edit) → edit.last ≡ None → may_follow [] edit ≡ false
no_last edit none = ap (λ (o : Option ℕ). is_there edit.log && is_there edit.next && is_there o) none ∙ none_last (is_there edit.log) (is_there edit.next)

none_next : (log last : Bool) → (log && false && last) ≡ false
none_next true last = refl
none_next false last = refl

pub no_next : (edit : Edit) → edit.next ≡ None → may_follow [] edit ≡ false
no_next edit none = ap (λ (o : Option ℕ). is_there edit.log && is_there o && is_there edit.last) none ∙ none_next (is_there edit.log) (is_there edit.last)

pub no_log : (edit : Edit) → edit.log ≡ None → may_follow [] edit ≡ false
no_log edit none = ap (λ (o : Option ℕ). is_there o && is_there edit.next && is_there edit.last) none

-- ---- a later edit

later_is : (was : ℕ) (o : Option ℕ) → later (Some was) o ≡ Some (unwrap_or o was)
later_is was None = refl
later_is was (Some n) = refl

pub next_follows : (edits : List Edit) (edit : Edit) → 1 ≤ length edits → may_follow edits edit ≡ true
next_follows [] edit some = absurd (none some) where
  none : 1 ≤ 0 → ⊥
  none h = omega (arith, h)
next_follows (first ∷ edits) edit some = refl

pub next_numbers : (edits : List Edit) (edit : Edit) (stated : Stated) → AreStated edits stated
    → numbers_set (numbers_after edits) edit ≡ record { log = Some (unwrap_or edit.log stated.log); next = Some (unwrap_or edit.next stated.next); last = Some (unwrap_or edit.last stated.last) }
next_numbers edits edit stated are =
    ap (λ numbers. numbers_set numbers edit) are.numbers
    ∙ (λ i. record { log = later_is stated.log edit.log i; next = later_is stated.next edit.next i; last = later_is stated.last edit.last i })

pub last_stays_small : (was : ℕ) (o : Option ℕ) → was < 2 ^ 56 → IfSome o (λ (n : ℕ). n < 2 ^ 56) → unwrap_or o was < 2 ^ 56
last_stays_small was None small some = small
last_stays_small was (Some n) small some = some

-- ---- the edit of a record

none_read : (text : List ℕ) (o : Option Edit) → edit_of text ≡ o → (IsSomeEdit text → ⊥) → o ≡ None
none_read text None is none = refl
none_read text (Some edit) is none = absurd (none (record { edit = edit; text_is = edit_only text edit is }))

module _ (name : FileName) (place : ℕ) (text : List ℕ) (edits : List Edit) where
  pub no_edit_refused : (error : FolderError) → IsNoEdit name place text error → IsRefusedBy (said_so_far name place text edits) error
  no_edit_refused error (inl memory) = subst (IsRefusedBy (said_so_far name place text edits)) (sym memory) tt
  no_edit_refused error (inr wrong) = subst (IsRefusedBy (said_so_far name place text edits)) (sym wrong.0)
      (ap (λ (o : Option Edit). some_or (refusal.Malformed name place) o >>= with_edit name place edits) (none_read text (edit_of text) refl wrong.1))

  pub so_far_is : (edit : Edit) → IsEditText text edit → said_so_far name place text edits ≡ with_edit name place edits edit
  so_far_is edit is = ap (λ (o : Option Edit). some_or (refusal.Malformed name place) o >>= with_edit name place edits) (edit_back text edit is)

-- ---- the answer about a record, by that about its edit

module _ (name : FileName) (place : ℕ) (text : List ℕ) (stated : Option Stated) (edit : Edit) (is : IsEditText text edit) where
  pub record_taken : (result : Result Stated FolderError)
      → IfOk result (λ (now : Stated). (edits : List Edit) → IsStated edits stated → (with_edit name place edits edit ≡ Ok (edits ++ edit ∷ [])) × AreStated (edits ++ edit ∷ []) now)
      → IfOk result (λ (now : Stated). (edits : List Edit) → IsStated edits stated → (more : List Edit) × (said_so_far name place text edits ≡ Ok more) × AreStated more now)
  record_taken (Ok now) takes = λ edits are. let found = takes edits are in (edits ++ edit ∷ [], so_far_is name place text edits edit is ∙ found.0, found.1)
  record_taken (Err error) takes = tt

  pub record_refused : (result : Result Stated FolderError)
      → IfErr result (λ (e : FolderError). (edits : List Edit) → IsStated edits stated → IsRefusedBy (with_edit name place edits edit) e)
      → IfErr result (λ (e : FolderError). (edits : List Edit) → IsStated edits stated → IsRefusedBy (said_so_far name place text edits) e)
  record_refused (Ok now) refused = tt
  record_refused (Err error) refused = λ edits are. subst (λ (r : Result (List Edit) Refusal). IsRefusedBy r error) (sym (so_far_is name place text edits edit is)) (refused edits are)
