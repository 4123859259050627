-- What a crash leaves of a manifest's file reads as the edits, or as these and the new one.
use Rattle.std.specs.Prelude.{◌≡◌, ◌⊎◌, ℕ, ◌+◌, ◌≤◌, min, List, [], ◌∷◌, ◌++◌, length, take, map}
use Rattle.std.proofs.Common.{⊎_elim, inl, inr, sym, ap, subst, ◌∙◌, arith, length-append}
use Rattle.std.proofs.lemmas.List.{take_all, take_at, take-take, length-take}
use Rattle.std.proofs.lemmas.Bool.{cases_lt}
use Rattle.lsm_frame.specs.Records.{front}
use Rattle.lsm_frame.specs.Begins.{Begins}
use Rattle.lsm_frame.specs.Frames.{log_text}
use Rattle.lsm_frame.proofs.Crash.{log_cut, log_cut_count, log_keeps}
use Rattle.lsm_disk.specs.State.{FileState, State, bytes_of}
use Rattle.lsm_disk.specs.Images.{IsCut}
use Rattle.lsm_disk.specs.Kept.{IsKeptFile}
use Rattle.lsm_disk.specs.Goes.{Shows}
use Rattle.lsm_disk.proofs.Cuts.{cut_front}
use Rattle.lsm_disk.proofs.Kept.{kept_image}
use Rattle.lsm_version.specs.declared.edits.Edit.{Edit}
use Rattle.lsm_version.specs.EditText.{edit_text}
use Rattle.lsm_manifest.specs.Texts.{manifest_text}
use Rattle.lsm_manifest.specs.Standing.{ReadsEither, HoldsEither}
use Rattle.lsm_manifest.proofs.Texts.{texts_push}

-- the file has a front of the text with the new edit, and all earlier edits are synced
pub record IsFrontFile (edits : List Edit) (next : Edit) (f : FileState) : Type 0 where
  pub count : ℕ
  pub text : bytes_of f ≡ take count (manifest_text (edits ++ next ∷ []))
  pub synced : length (manifest_text edits) ≤ length f.synced

-- the first so many of a list with one more, where these are no fewer than the list
few_or_all : {A : Type 0} (xs : List A) (x : A) (n : ℕ) → length xs ≤ n → (take n (xs ++ x ∷ []) ≡ xs) ⊎ (take n (xs ++ x ∷ []) ≡ xs ++ x ∷ [])
few_or_all xs x n le = ⊎_elim
    (λ lt. inl (take_at xs (x ∷ []) n (omega (arith, lt, le))))
    (λ ge. inr (take_all n (xs ++ x ∷ []) (omega (arith, ge, length-append xs (x ∷ [])))))
    (cases_lt n (length xs + 1))

-- how a front of the records' text reads that is no shorter than the earlier ones
fronts_of : (records : List (List ℕ)) (next : List ℕ) (n : ℕ) → length (log_text records) ≤ n
    → let held = front (take n (log_text (records ++ next ∷ []))) in (held ≡ records) ⊎ (held ≡ records ++ next ∷ [])
fronts_of records next n long =
    let held : List (List ℕ) = front (take n (log_text (records ++ next ∷ []))) in
    let keeps : Begins records held = log_keeps records (next ∷ []) n long in
    let many : length records ≤ length held = omega (arith, ap length keeps.is, length-append records keeps.rest) in
    let is : held ≡ take (length held) (records ++ next ∷ []) = log_cut_count (records ++ next ∷ []) n in
    ⊎_elim (λ e. inl (is ∙ e)) (λ e. inr (is ∙ e)) (few_or_all records next (length held) many)

reads_front : (edits : List Edit) (next : Edit) (n : ℕ) (held : List ℕ) → length (manifest_text edits) ≤ n → held ≡ take n (manifest_text (edits ++ next ∷ [])) → ReadsEither edits next held
reads_front edits next n held long is =
    let push = texts_push edits next in
    let whole : List (List ℕ) → List ℕ = λ records. take n (log_text records) in
    let grown : ReadsEither edits next (take n (manifest_text (edits ++ next ∷ []))) = record {
      edits_are = ⊎_elim
          (λ e. inl (ap (λ (rs : List (List ℕ)). front (whole rs)) push ∙ e))
          (λ e. inr (ap (λ (rs : List (List ℕ)). front (whole rs)) push ∙ e ∙ sym push))
          (fronts_of (map edit_text edits) (edit_text next) n long);
      ends = (log_cut (map edit_text (edits ++ next ∷ [])) n).1;
    } in
    subst (ReadsEither edits next) (sym is) grown

take_twice : (i j : ℕ) (l : List ℕ) → take i (take j l) ≡ take (min i j) l
take_twice i j l = ⊎_elim
    (λ lt. take-take i j l (omega (arith, lt)) ∙ ap (λ (n : ℕ). take n l) (omega (arith, lt)))
    (λ ge. take_all i (take j l) (omega (arith, ge, length-take j l)) ∙ ap (λ (n : ℕ). take n l) (omega (arith, ge)))
    (cases_lt i j)

-- this lemma alone asks how a crash cuts a file
cut_reads : (edits : List Edit) (next : Edit) (f : FileState) (held : List ℕ) → IsFrontFile edits next f → IsCut f held → ReadsEither edits next held
cut_reads edits next f held file cut =
    let text : List ℕ = manifest_text (edits ++ next ∷ []) in
    let fronts = cut_front f held cut in
    let long : length f.synced ≤ file.count = omega (arith, ap length file.text, length-append f.synced f.unsynced, length-take file.count text) in
    reads_front edits next (min fronts.count file.count) held (omega (arith, file.synced, fronts.enough, long))
    (fronts.is ∙ ap (take fronts.count) file.text ∙ take_twice fronts.count file.count text)

-- each image of such a file has the edits, or these and the new one
pub file_shows : (path : List ℕ) (edits : List Edit) (next : Edit) (id : ℕ) (f : FileState) → IsFrontFile edits next f → (s : State) → IsKeptFile s path id f → Shows (HoldsEither path edits next) s
file_shows path edits next id f file s kept = record {
  each = λ t i.
      let held = kept_image s path id f kept t i in
      record { bytes = held.bytes; is = held.is; reads = cut_reads edits next f held.bytes file held.cut };
}
