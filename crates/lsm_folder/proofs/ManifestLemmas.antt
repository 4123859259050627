-- What a manifest says whose records are good edits.
use Rattle.std.specs.Prelude.{◌≡◌, ℕ, ◌≤◌, zero, suc, Bool, true, cond, List, [], ◌∷◌, ◌++◌, length, take, drop, map, All, Option, Some, Result, Ok, Err}
use Rattle.std.proofs.Common.{refl, sym, ap, subst, ◌∙◌, arith, append_assoc, append-nil}
use Rattle.std.proofs.lemmas.List.{take-map, take-append-drop}
use Rattle.std.proofs.lemmas.List.Elements.{All-head, All-tail, All-take}
use Rattle.std.proofs.lemmas.List.Sums.{fold-append}
use Rattle.std.specs.List.{fold}
use Rattle.lsm_names.specs.declared.file_names.FileName.{FileName}
use Rattle.lsm_frame.specs.Growth.{IsOpen}
use Rattle.lsm_frame.specs.Records.{records_of, front, end_of}
use Rattle.lsm_frame.specs.declared.ending.Ending.{Ending}
use Rattle.lsm_frame.specs.declared.ending.Ending.TheVariants as ending
use Rattle.lsm_frame.proofs.Appended.{front_log}
use Rattle.lsm_frame.proofs.Crash.{log_cut, log_cut_count}
use Rattle.lsm_version.specs.declared.edits.Edit.{Edit}
use Rattle.lsm_version.specs.declared.refusals.ApplyError.{ApplyError}
use Rattle.lsm_version.specs.EditText.{edit_text}
use Rattle.lsm_version.specs.Edits.{IsEdit}
use Rattle.lsm_version.specs.Levels.{Tables}
use Rattle.lsm_version.specs.Versions.{empty_version, applied_after, version_after}
use Rattle.lsm_folder.specs.declared.refusals.Refusal.{Refusal}
use Rattle.lsm_folder.specs.declared.refusals.Refusal.TheVariants.{Malformed}
use Rattle.lsm_folder.specs.Edits.{edit_of}
use Rattle.lsm_folder.specs.Manifests.{manifest_text, may_follow, with_edit, edits_in, some_edits, edits_said}
use Rattle.lsm_folder.specs.Parts.{IsTaken, first_may, AreEdits, IsManifest}
use Rattle.lsm_folder.specs.Steps.{◌>>=◌, some_or, read_to_end, version_says}
use Rattle.lsm_folder.proofs.EditLemmas.{edit_back}

-- ---- versions

-- behind a refusal no edit is taken
stays_refused : (e : ApplyError) (more : List Edit) → fold applied_after (Err e) more ≡ Err e
stays_refused e [] = refl
stays_refused e (edit ∷ more) = stays_refused e more

-- where edits are taken, the first of them are
pub front_taken : (before more : List Edit) → IsTaken (before ++ more) → IsTaken before
unfolding version_after
front_taken before more all =
    let whole : fold applied_after (fold applied_after (Ok empty_version) before) more ≡ Ok all.tables =
    sym (fold-append applied_after (Ok empty_version) before more) ∙ all.is in
    by_front (fold applied_after (Ok empty_version) before) refl whole
  where
    by_front : (r : Result Tables ApplyError) → fold applied_after (Ok empty_version) before ≡ r
        → fold applied_after (fold applied_after (Ok empty_version) before) more ≡ Ok all.tables → IsTaken before
    by_front (Ok tables) is whole = record { tables = tables; is = is }
    by_front (Err e) is whole =
        let clash : Err e ≡ Ok all.tables =
        sym (stays_refused e more) ∙ ap (λ (r : Result Tables ApplyError). fold applied_after r more) (sym is) ∙ whole in
        absurd (cc)

pub with_taken : (name : FileName) (place : ℕ) (before : List Edit) (edit : Edit) → may_follow before edit ≡ true
    → IsTaken (before ++ edit ∷ []) → with_edit name place before edit ≡ Ok (before ++ edit ∷ [])
unfolding with_edit
with_taken name place before edit follows taken =
    let all : List Edit = before ++ edit ∷ [] in
    ap (λ (b : Bool). cond b (version_says name place (version_after all) >>= λ (tables : Tables). Ok all) (Err (Malformed name place))) follows
    ∙ ap (λ (r : Result Tables ApplyError). version_says name place r >>= λ (tables : Tables). Ok all) taken.is

-- ---- records

may_follow_some : (before : List Edit) (edit other : Edit) → may_follow (before ++ edit ∷ []) other ≡ true
may_follow_some [] edit other = refl
may_follow_some (first ∷ before) edit other = refl

-- the first of these edits may follow those
abbrev pub may_go_on : List Edit → List Edit → Bool
may_go_on before [] = true
may_go_on before (edit ∷ edits) = may_follow before edit

goes_on : (before : List Edit) (edit : Edit) (edits : List Edit) → may_go_on (before ++ edit ∷ []) edits ≡ true
goes_on before edit [] = refl
goes_on before edit (next ∷ edits) = may_follow_some before edit next

abbrev pub payload : ℕ × List ℕ → List ℕ
payload r = r.1

edits_read : (name : FileName) (before : List Edit) (rs : List (ℕ × List ℕ)) (end : Ending) (edits : List Edit)
    → map payload rs ≡ map edit_text edits → All IsEdit edits → may_go_on before edits ≡ true → IsTaken (before ++ edits)
    → edits_in name before rs end ≡ read_to_end name end (before ++ edits)
edits_read name before [] end [] same good follows taken =
    ap (λ (l : List Edit). read_to_end name end l) (sym (append-nil before))
edits_read name before [] end (edit ∷ edits) same good follows taken = cc
edits_read name before (r ∷ rs) end [] same good follows taken = cc
edits_read name before (r ∷ rs) end (edit ∷ edits) same good follows taken =
    let text : r.1 ≡ edit_text edit = cc in
    let rest : map payload rs ≡ map edit_text edits = cc in
    let is : edit_of r.1 ≡ Some edit = edit_back r.1 edit (record { is = text; edit_is = All-head IsEdit edit edits good }) in
    let all : IsTaken ((before ++ edit ∷ []) ++ edits) = subst IsTaken (sym (append_assoc before (edit ∷ []) edits)) taken in
    ap (λ (o : Option Edit). some_or (Malformed name r.0) o >>= λ (edit : Edit). with_edit name r.0 before edit >>= λ (more : List Edit). edits_in name more rs end) is
    ∙ ap (λ (q : Result (List Edit) Refusal). q >>= λ (more : List Edit). edits_in name more rs end)
    (with_taken name r.0 before edit follows (front_taken (before ++ edit ∷ []) edits all))
    ∙ edits_read name (before ++ edit ∷ []) rs end edits rest (All-tail IsEdit edit edits good) (goes_on before edit edits) all
    ∙ ap (λ (l : List Edit). read_to_end name end l) (append_assoc before (edit ∷ []) edits)

pub open_read : (name : FileName) (end : Ending) (edits : List Edit) → IsOpen end → read_to_end name end edits ≡ Ok edits
open_read name ending.End edits is = refl
open_read name (ending.Torn place) edits is = refl
open_read name (ending.Damaged place kept found) edits is = absurd is
open_read name (ending.Malformed place) edits is = absurd is

first_goes : (edits : List Edit) → first_may edits ≡ true → may_go_on [] edits ≡ true
first_goes [] h = refl
first_goes (edit ∷ edits) h = h

first_some : (name : FileName) (edits : List Edit) → first_may edits ≡ true → some_edits name edits ≡ Ok edits
first_some name [] h = cc
first_some name (edit ∷ edits) h = refl

-- a manifest of good edits says them
pub manifest_says : (name : FileName) (text : List ℕ) (edits : List Edit) → IsManifest text edits
    → edits_said name text ≡ Ok edits
unfolding edits_said
manifest_says name text edits is =
    ap (λ (r : Result (List Edit) Refusal). r >>= some_edits name)
    (edits_read name [] (records_of text).0 (records_of text).1 edits is.records is.are.each (first_goes edits is.are.first) is.are.taken ∙ open_read name (end_of text) edits is.ends)
    ∙ first_some name edits is.are.first

is_open : (end : Ending) → end ≡ ending.End → IsOpen end
is_open end is = subst IsOpen (sym is) tt

-- the text that a store writes is such a manifest
pub manifest_written : (edits : List Edit) → AreEdits edits → IsManifest (manifest_text edits) edits
manifest_written edits are =
    let is = front_log (map edit_text edits) in
    record { are = are; records = is.0; ends = is_open (end_of (manifest_text edits)) is.1 }

-- ---- a manifest that is cut

first_kept : (k : ℕ) (edits : List Edit) → 1 ≤ k → first_may edits ≡ true → first_may (take k edits) ≡ true
first_kept zero edits some h = absurd (omega (arith, some))
first_kept (suc k) [] some h = h
first_kept (suc k) (edit ∷ edits) some h = h

module _ (edits : List Edit) (n : ℕ) where
  abbrev cut : List ℕ
  cut = take n (manifest_text edits)

  -- how many edits lie whole before the cut
  abbrev pub count : ℕ
  count = length (front cut)

  -- it says the edits that lie whole before the cut, if there is one
  pub manifest_cut : AreEdits edits → 1 ≤ count → IsManifest cut (take count edits)
  manifest_cut are some = record {
    are = record {
      first = first_kept count edits some are.first;
      each = All-take IsEdit count edits are.each;
      taken = front_taken (take count edits) (drop count edits) (subst IsTaken (sym (take-append-drop count edits)) are.taken);
    };
    records = log_cut_count (map edit_text edits) n ∙ take-map edit_text count edits;
    ends = (log_cut (map edit_text edits) n).1;
  }
