-- What says edits is a manifest of them.
use Rattle.std.specs.Prelude.{◌≡◌, ℕ, Bool, true, false, cond, List, [], ◌∷◌, ◌++◌, map, All, Option, Some, None, Result, Ok, Err}
use Rattle.std.proofs.Common.{refl, sym, ap, subst, ◌∙◌, append_assoc, append-nil}
use Rattle.std.proofs.lemmas.List.Elements.{All-nil, All-cons}
use Rattle.lsm_names.specs.declared.file_names.FileName.{FileName}
use Rattle.lsm_frame.specs.Growth.{IsOpen}
use Rattle.lsm_frame.specs.Records.{records_of}
use Rattle.lsm_frame.specs.declared.ending.Ending.{Ending}
use Rattle.lsm_frame.specs.declared.ending.Ending.TheVariants as ending
use Rattle.lsm_version.specs.declared.edits.Edit.{Edit}
use Rattle.lsm_version.specs.declared.refusals.ApplyError.{ApplyError}
use Rattle.lsm_version.specs.declared.refusals.ApplyError.TheVariants as apply
use Rattle.lsm_version.specs.EditText.{edit_text}
use Rattle.lsm_version.specs.Edits.{IsEdit, IsEditText}
use Rattle.lsm_version.specs.Levels.{Tables}
use Rattle.lsm_version.specs.Versions.{empty_version, version_after}
use Rattle.lsm_folder.specs.declared.refusals.Refusal.{Refusal}
use Rattle.lsm_folder.specs.declared.refusals.Refusal.TheVariants.{Malformed}
use Rattle.lsm_folder.specs.Edits.{edit_of}
use Rattle.lsm_folder.specs.Manifests.{may_follow, with_edit, edits_in, some_edits, edits_said}
use Rattle.lsm_folder.specs.Parts.{IsTaken, first_may, IsManifest}
use Rattle.lsm_folder.specs.Steps.{◌>>=◌, some_or, read_to_end, version_says}
use Rattle.lsm_folder.proofs.EditLemmas.{edit_only}
use Rattle.lsm_folder.proofs.StepLemmas.{ok_once}
use Rattle.lsm_folder.proofs.ManifestLemmas.{may_go_on, payload}

-- ---- one edit more

pub record IsWith (before : List Edit) (edit : Edit) (all : List Edit) : Type 0 where
  pub follows : may_follow before edit ≡ true
  pub all_is : before ++ edit ∷ [] ≡ all
  pub taken : IsTaken (before ++ edit ∷ [])

with_version : (name : FileName) (place : ℕ) (before : List Edit) (edit : Edit) (all : List Edit) (follows : may_follow before edit ≡ true) (r : Result Tables ApplyError) → version_after (before ++ edit ∷ []) ≡ r
    → (version_says name place r >>= λ (tables : Tables). Ok (before ++ edit ∷ [])) ≡ Ok all → IsWith before edit all
with_version name place before edit all follows (Ok tables) version is =
    record { follows = follows; all_is = ok_once (Ok (before ++ edit ∷ [])) (before ++ edit ∷ []) all refl is; taken = record { tables = tables; is = version } }
with_version name place before edit all follows (Err (apply.BadEdit at)) version is = cc
with_version name place before edit all follows (Err (apply.BadLevels level left right)) version is = cc
with_version name place before edit all follows (Err apply.NoMemory) version is = cc

with_test : (name : FileName) (place : ℕ) (before : List Edit) (edit : Edit) (all : List Edit) (b : Bool)
    → may_follow before edit ≡ b
    → cond b (version_says name place (version_after (before ++ edit ∷ [])) >>= λ (tables : Tables). Ok (before ++ edit ∷ []))
    (Err (Malformed name place)) ≡ Ok all → IsWith before edit all
with_test name place before edit all true follows is =
    with_version name place before edit all follows (version_after (before ++ edit ∷ [])) refl is
with_test name place before edit all false follows is = cc

with_so : (name : FileName) (place : ℕ) (before : List Edit) (edit : Edit) (all : List Edit)
    → with_edit name place before edit ≡ Ok all → IsWith before edit all
unfolding with_edit
with_so name place before edit all is = with_test name place before edit all (may_follow before edit) refl is

-- ---- records

-- the edits that records said behind those before them
pub record AreSaid (before : List Edit) (rs : List (ℕ × List ℕ)) (end : Ending) (all : List Edit) : Type 0 where
  pub more : List Edit
  pub all_is : before ++ more ≡ all
  pub records : map payload rs ≡ map edit_text more
  pub each : All IsEdit more
  pub goes_on : may_go_on before more ≡ true
  pub taken : IsTaken (before ++ more)
  pub ends : IsOpen end

ended_so : (name : FileName) (before : List Edit) (end : Ending) (all : List Edit) → IsTaken before
    → read_to_end name end before ≡ Ok all → AreSaid before [] end all
ended_so name before ending.End all taken is = record {
  more = [];
  all_is = append-nil before ∙ ok_once (Ok before) before all refl is;
  records = refl;
  each = All-nil IsEdit;
  goes_on = refl;
  taken = subst IsTaken (sym (append-nil before)) taken;
  ends = tt;
}
ended_so name before (ending.Torn place) all taken is = record {
  more = [];
  all_is = append-nil before ∙ ok_once (Ok before) before all refl is;
  records = refl;
  each = All-nil IsEdit;
  goes_on = refl;
  taken = subst IsTaken (sym (append-nil before)) taken;
  ends = tt;
}
ended_so name before (ending.Damaged place kept found) all taken is = cc
ended_so name before (ending.Malformed place) all taken is = cc

-- a record's edit, and the edits with it
pub record IsRead (name : FileName) (before : List Edit) (r : ℕ × List ℕ) (rs : List (ℕ × List ℕ)) (end : Ending)
    (all : List Edit) : Type 0 where
  pub edit : Edit
  pub next : List Edit
  pub edit_is : edit_of r.1 ≡ Some edit
  pub next_is : with_edit name r.0 before edit ≡ Ok next
  pub rest : edits_in name next rs end ≡ Ok all

module _ (name : FileName) (before : List Edit) (r : ℕ × List ℕ) (rs : List (ℕ × List ℕ)) (end : Ending) (all : List Edit) where
  read_next : (edit : Edit) → edit_of r.1 ≡ Some edit → (q : Result (List Edit) Refusal) → with_edit name r.0 before edit ≡ q
      → (q >>= λ (more : List Edit). edits_in name more rs end) ≡ Ok all → IsRead name before r rs end all
  read_next edit one (Err refusal) next is = cc
  read_next edit one (Ok more) next is = record { edit = edit; next = more; edit_is = one; next_is = next; rest = is }

  read_one : (o : Option Edit) → edit_of r.1 ≡ o → (some_or (Malformed name r.0) o >>= λ (edit : Edit). with_edit name r.0 before edit >>= λ (more : List Edit). edits_in name more rs end) ≡ Ok all → IsRead name before r rs end all
  read_one None one is = cc
  read_one (Some edit) one is = read_next edit one (with_edit name r.0 before edit) refl is

  one_read : edits_in name before (r ∷ rs) end ≡ Ok all → IsRead name before r rs end all
  one_read is = read_one (edit_of r.1) refl is

edits_are : (name : FileName) (before : List Edit) (rs : List (ℕ × List ℕ)) (end : Ending) (all : List Edit) → IsTaken before
    → edits_in name before rs end ≡ Ok all → AreSaid before rs end all
edits_are name before [] end all taken is = ended_so name before end all taken is
edits_are name before (r ∷ rs) end all taken is =
    let one = one_read name before r rs end all is in
    let with_it = with_so name r.0 before one.edit one.next one.next_is in
    let text : IsEditText r.1 one.edit = edit_only r.1 one.edit one.edit_is in
    let rest = edits_are name one.next rs end all (subst IsTaken with_it.all_is with_it.taken) one.rest in
    let joined : before ++ one.edit ∷ rest.more ≡ one.next ++ rest.more =
    sym (append_assoc before (one.edit ∷ []) rest.more) ∙ ap (λ (l : List Edit). l ++ rest.more) with_it.all_is in
    record {
      more = one.edit ∷ rest.more;
      all_is = joined ∙ rest.all_is;
      records = (λ i. text.is i ∷ rest.records i);
      each = All-cons IsEdit one.edit rest.more text.edit_is rest.each;
      goes_on = with_it.follows;
      taken = subst IsTaken (sym joined) rest.taken;
      ends = rest.ends;
    }

-- ---- manifests

none_taken : IsTaken []
unfolding version_after
none_taken = record { tables = empty_version; is = refl }

some_so : (name : FileName) (found edits : List Edit) → may_go_on [] found ≡ true → some_edits name found ≡ Ok edits
    → (found ≡ edits) × (first_may found ≡ true)
some_so name [] edits may is = cc
some_so name (edit ∷ found) edits may is = (ok_once (Ok (edit ∷ found)) (edit ∷ found) edits refl is, may)

manifest_so : (name : FileName) (text : List ℕ) (edits : List Edit) (r : Result (List Edit) Refusal)
    → edits_in name [] (records_of text).0 (records_of text).1 ≡ r → (r >>= some_edits name) ≡ Ok edits
    → IsManifest text edits
manifest_so name text edits (Err refusal) was is = cc
manifest_so name text edits (Ok found) was is =
    let said = edits_are name [] (records_of text).0 (records_of text).1 found none_taken was in
    let some = some_so name found edits (subst (λ (l : List Edit). may_go_on [] l ≡ true) said.all_is said.goes_on) is in
    let same : said.more ≡ edits = said.all_is ∙ some.0 in
    record {
      are = record {
        first = subst (λ (l : List Edit). first_may l ≡ true) some.0 some.1;
        each = subst (All IsEdit) same said.each;
        taken = subst IsTaken same said.taken;
      };
      records = said.records ∙ ap (map edit_text) same;
      ends = said.ends;
    }

-- only a manifest of edits says them
pub manifest_only : (name : FileName) (text : List ℕ) (edits : List Edit) → edits_said name text ≡ Ok edits
    → IsManifest text edits
unfolding edits_said
manifest_only name text edits is =
    manifest_so name text edits (edits_in name [] (records_of text).0 (records_of text).1) refl is
