-- How a manifest is read record by record: each edit behind those before it.
use Rattle.std.specs.Prelude.{◌≡◌, ℕ, suc, ◌+◌, List, [], ◌∷◌, drop, Option, Some, None, IfSome, slice_get, Result, Ok, Err}
use Rattle.std.proofs.Common.{refl, sym, ap, subst, ◌∙◌, arith}
use Rattle.std.proofs.lemmas.Option.{same_Some}
use Rattle.lsm_names.specs.declared.file_names.FileName.{FileName}
use Rattle.lsm_disk.specs.Viewed.{Viewed}
use Rattle.lsm_frame.specs.Records.{records_of}
use Rattle.lsm_frame.specs.Reader.{Tells, Stays, IsRecord, EndsBehind, ending_of, record_in}
use Rattle.lsm_frame.specs.declared.ending.Ending.{Ending}
use Rattle.lsm_frame.specs.declared.ending.Ending.TheVariants as ending
use Rattle.lsm_frame.specs.declared.next.Next.{Next}
use Rattle.lsm_frame.specs.declared.next.Next.TheVariants as next
use Rattle.lsm_frame.specs.declared.next.FrameError.{FrameError}
use Rattle.lsm_frame.specs.declared.next.FrameError.TheVariants as frame
use Rattle.lsm_version.specs.declared.edits.Edit.{Edit}
use Rattle.lsm_folder.specs.declared.refusals.Refusal.{Refusal}
use Rattle.lsm_folder.specs.declared.refusals.Refusal.TheVariants.{Malformed, Damaged}
use Rattle.lsm_folder.specs.Edits.{edit_of}
use Rattle.lsm_folder.specs.Manifests.{with_edit, edits_in, some_edits, edits_said}
use Rattle.lsm_folder.specs.Steps.{◌>>=◌, some_or, read_to_end, frame_trouble}
use Rattle.lsm_folder.proofs.LogLemmas.{drop_all, drop_at}

-- what the records behind the first so many come to, behind these edits
abbrev pub edits_behind : FileName → List ℕ → ℕ → List Edit → Result (List Edit) Refusal
edits_behind name text given edits = edits_in name edits (drop given (records_of text).0) (records_of text).1

-- the first so many records were read as these edits
pub record EditsRead (name : FileName) (text : List ℕ) (given : ℕ) (edits : List Edit) : Type 0 where
  pub is : edits_behind name text 0 [] ≡ edits_behind name text given edits

pub begun : (name : FileName) (text : List ℕ) → EditsRead name text 0 []
begun name text = record { is = refl }

-- ---- behind a record, and at the end

drop_here : {A : Type 0} (xs : List A) (n : ℕ) (x : A) → slice_get xs n ≡ Some x → drop n xs ≡ x ∷ drop (n + 1) xs
drop_here xs n x is =
    let next : suc n ≡ n + 1 = omega arith in
    drop_at xs n x is ∙ ap (λ (k : ℕ). x ∷ drop k xs) next

module _ (name : FileName) (text : List ℕ) (given : ℕ) (edits : List Edit) where
  -- what comes of the edits with one more, where it is taken
  abbrev behind_taken : Result (List Edit) Refusal → Result (List Edit) Refusal
  behind_taken taken = taken >>= λ (more : List Edit). edits_behind name text (given + 1) more

  -- and of what the record at a place is, an edit or none
  abbrev behind_one : ℕ → Option Edit → Result (List Edit) Refusal
  behind_one place one = some_or (Malformed name place) one >>= λ (edit : Edit). behind_taken (with_edit name place edits edit)

  at_record : (place : ℕ) (payload : List ℕ) → IsRecord text given place payload
      → edits_behind name text given edits ≡ behind_one place (edit_of payload)
  at_record place payload is =
      ap (λ (rs : List (ℕ × List ℕ)). edits_in name edits rs (records_of text).1)
      (drop_here (records_of text).0 given (place, payload) is)

  at_end : (stop : Ending) → EndsBehind text given stop → edits_behind name text given edits ≡ read_to_end name stop edits
  at_end stop is =
      ap (λ (rs : List (ℕ × List ℕ)). edits_in name edits rs (records_of text).1)
      (drop_all (records_of text).0 given is.records)
      ∙ ap (λ (e : Ending). read_to_end name e edits) is.end

  -- the whole manifest, by what stands here
  whole : EditsRead name text given edits → (here : Result (List Edit) Refusal) → edits_behind name text given edits ≡ here
      → edits_said name text ≡ (here >>= some_edits name)
  unfolding edits_said
  whole r here is = ap (λ (all : Result (List Edit) Refusal). all >>= some_edits name) (r.is ∙ is)

  -- a record that is an edit, which the version takes
  pub edits_more : (place : ℕ) (payload : List ℕ) (edit : Edit) (more : List Edit) → EditsRead name text given edits
      → IsRecord text given place payload → edit_of payload ≡ Some edit → with_edit name place edits edit ≡ Ok more
      → EditsRead name text (given + 1) more
  edits_more place payload edit more r is one taken = record {
    is =
        r.is ∙ at_record place payload is
        ∙ ap (behind_one place) one
        ∙ ap behind_taken taken;
  }

  -- a record that is no edit
  pub edits_wrong : (place : ℕ) (payload : List ℕ) → EditsRead name text given edits → IsRecord text given place payload
      → edit_of payload ≡ None → edits_said name text ≡ Err (Malformed name place)
  edits_wrong place payload r is none =
      whole r (Err (Malformed name place))
      (at_record place payload is ∙ ap (behind_one place) none)

  -- an edit that the version refuses
  pub edits_refused : (place : ℕ) (payload : List ℕ) (edit : Edit) (refusal : Refusal) → EditsRead name text given edits
      → IsRecord text given place payload → edit_of payload ≡ Some edit → with_edit name place edits edit ≡ Err refusal
      → edits_said name text ≡ Err refusal
  edits_refused place payload edit refusal r is one refused =
      whole r (Err refusal)
      (at_record place payload is
      ∙ ap (behind_one place) one
      ∙ ap behind_taken refused)

  -- the reader's trouble
  pub edits_trouble : (error : FrameError) (refusal : Refusal) → EditsRead name text given edits
      → IfSome (ending_of (Err error)) (λ (e : Ending). EndsBehind text given e) → frame_trouble name error ≡ Some refusal
      → edits_said name text ≡ Err refusal
  edits_trouble frame.ReadFault refusal r ends is = cc
  edits_trouble (frame.Damaged place kept found) refusal r ends is =
      whole r (Err (Damaged name place kept found)) (at_end (ending.Damaged place kept found) ends)
      ∙ ap Err (same_Some (Damaged name place kept found) refusal is)
  edits_trouble (frame.Malformed place) refusal r ends is =
      whole r (Err (Malformed name place)) (at_end (ending.Malformed place) ends)
      ∙ ap Err (same_Some (Malformed name place) refusal is)
  edits_trouble frame.NoMemory refusal r ends is = cc

  pub ended : EndsBehind text given ending.End → edits_behind name text given edits ≡ Ok edits
  ended ends = at_end ending.End ends

  pub torn : (place : ℕ) → EndsBehind text given (ending.Torn place) → edits_behind name text given edits ≡ Ok edits
  torn place ends = at_end (ending.Torn place) ends

  -- the end, where nothing is wrong behind the edits
  pub all_read : EditsRead name text given edits → edits_behind name text given edits ≡ Ok edits
      → edits_said name text ≡ some_edits name edits
  all_read r is = whole r (Ok edits) is

-- ---- what the reader answers

module _ (name : FileName) (text : List ℕ) (given : ℕ) (edits : List Edit) (found : Next) where
  abbrev ends_so : Next → Type 0
  ends_so answer = IfSome (ending_of (Ok answer)) (λ (e : Ending). EndsBehind text given e)

  pub next_ended : found ≡ next.End → ends_so found
      → edits_behind name text given edits ≡ Ok edits
  next_ended is ends = ended name text given edits (subst ends_so is ends)

  pub next_torn : (place : ℕ) → found ≡ next.Torn place
      → IfSome (ending_of (Ok found)) (λ (e : Ending). EndsBehind text given e)
      → edits_behind name text given edits ≡ Ok edits
  next_torn place is ends = torn name text given edits place (subst ends_so is ends)

module _ (text : List ℕ) (given : ℕ) (found : Next) where
  pub next_record : (place : ℕ) (payload : List ℕ) → found ≡ next.Record payload
      → IfSome (record_in (Ok found)) (λ (p : List ℕ). IsRecord text given place p) → IsRecord text given place payload
  next_record place payload is stands =
      subst (λ (n : Next). IfSome (record_in (Ok n)) (λ (p : List ℕ). IsRecord text given place p)) is stands

  pub next_given : (more : ℕ) (payload : List ℕ) → found ≡ next.Record payload
      → IfSome (record_in (Ok found)) (λ (_ : List ℕ). more ≡ given + 1) → more ≡ given + 1
  next_given more payload is counted =
      subst (λ (n : Next). IfSome (record_in (Ok n)) (λ (_ : List ℕ). more ≡ given + 1)) is counted

pub still_tells : (text : List ℕ) (before now : Viewed) → Tells before text → Stays before now → Tells now text
still_tells text before now tells stays = record { bytes = stays.bytes ∙ tells.bytes; whole = tells.whole ∙ sym stays.len }
