-- What CURRENT names, and the manifest of a number, by the files' bytes.
use Rattle.std.specs.Prelude.{◌≡◌, ◌≢◌, ℕ, ◌-◌, true, false, List, [], ◌∷◌, ◌++◌, length, take, drop, Option, Some, None, Err}
use Rattle.std.proofs.Common.{refl, sym, ap, ◌∙◌, arith}
use Rattle.lsm_names.specs.declared.file_names.FileName.{FileName}
use Rattle.std.specs.Str.{bytes_eq}
use Rattle.lsm_names.specs.FileNames.{is_file_number, spelled, IsFileName}
use Rattle.lsm_folder.proofs.AheadLemmas.{drop_front}
use Rattle.lsm_folder.proofs.NameLemmas.{manifest_only, manifest_again, equal_texts, same_text}
use Rattle.lsm_folder.specs.Names.{current_text, manifest_in, manifest_number}
use Rattle.lsm_folder.specs.declared.refusals.Refusal.TheVariants.{NoCurrent, Missing, Malformed}
use Rattle.lsm_folder.specs.Files.{Files, file_at}
use Rattle.lsm_folder.specs.Manifests.{edits_said}
use Rattle.lsm_folder.specs.Reading.{current_of, edits_of}
use Rattle.lsm_folder.specs.Steps.{◌>>=◌, some_or}
use Rattle.lsm_names.specs.declared.file_names.FileName.TheVariants.{Log, Table, Manifest, Temp, Current}
use Rattle.lsm_names.proofs.FileNameLemmas.{spelled_injective}
use Rattle.std.proofs.lemmas.List.{append_cancel_right, take-append-drop, length-append}

-- ---- the manifest that CURRENT names

pub no_manifest : (text : List ℕ) → ((number : ℕ) → is_file_number number ≡ true → text ≡ current_text number → ⊥)
    → None ≡ manifest_in text
no_manifest text none = sym (by_number (manifest_in text) refl) where
  by_number : (o : Option ℕ) → manifest_in text ≡ o → manifest_in text ≡ None
  by_number None is = is
  by_number (Some number) is = let names = manifest_only text number is in absurd (none number names.fits names.is)

-- a text that ends with a newline, or doesn't
ends_so : (text : List ℕ) → bytes_eq (drop (length text - 1) text) (10 ∷ []) ≡ true
    → text ≡ take (length text - 1) text ++ 10 ∷ []
ends_so text h =
    sym (take-append-drop (length text - 1) text)
    ∙ ap (λ (l : List ℕ). take (length text - 1) text ++ l) (equal_texts (drop (length text - 1) text) (10 ∷ []) h)

ends_else : (text front : List ℕ) → bytes_eq (drop (length text - 1) text) (10 ∷ []) ≡ false → text ≡ front ++ 10 ∷ [] → ⊥
ends_else text front h is =
    let long : length text - 1 ≡ length front = omega (arith, ap length is, length-append front (10 ∷ [])) in
    let end : drop (length text - 1) text ≡ 10 ∷ [] =
    ap (λ (n : ℕ). drop n text) long ∙ ap (drop (length front)) is ∙ drop_front front (10 ∷ []) in
    let clash : true ≡ false = sym (same_text (10 ∷ [])) ∙ sym (ap (λ (l : List ℕ). bytes_eq l (10 ∷ [])) end) ∙ h in
    cc

pub no_newline : (text : List ℕ) → bytes_eq (drop (length text - 1) text) (10 ∷ []) ≡ false → None ≡ manifest_in text
unfolding current_text
no_newline text h = no_manifest text (λ number fits is. ends_else text (spelled (Manifest number)) h is)

module _ (text name : List ℕ) (ends : bytes_eq (drop (length text - 1) text) (10 ∷ []) ≡ true)
    (front : name ≡ take (length text - 1) text) where
  whole : text ≡ name ++ 10 ∷ []
  whole = ends_so text ends ∙ ap (λ (l : List ℕ). l ++ 10 ∷ []) (sym front)

  spelled_as : (number : ℕ) → text ≡ current_text number → name ≡ spelled (Manifest number)
  unfolding current_text
  spelled_as number is = append_cancel_right name (spelled (Manifest number)) (10 ∷ []) (sym whole ∙ is)

  pub no_name : ((found : FileName) → IsFileName found → name ≢ spelled found) → None ≡ manifest_in text
  no_name none = no_manifest text (λ number fits is. none (Manifest number) fits (spelled_as number is))

  other_name : (found : FileName) → IsFileName found → name ≡ spelled found → ((number : ℕ) → found ≡ Manifest number → ⊥)
      → None ≡ manifest_in text
  other_name found fits is other =
      no_manifest text
      (λ number small so. other number (spelled_injective found (Manifest number) fits small (sym is ∙ spelled_as number so)))

  pub found_name : (found : FileName) → IsFileName found → name ≡ spelled found → manifest_number found ≡ manifest_in text
  unfolding current_text
  found_name (Log n) fits is = other_name (Log n) fits is (λ number e. cc)
  found_name (Table n) fits is = other_name (Table n) fits is (λ number e. cc)
  found_name (Manifest n) fits is = sym (ap manifest_in (whole ∙ ap (λ (l : List ℕ). l ++ 10 ∷ []) is) ∙ manifest_again n fits)
  found_name (Temp n) fits is = other_name (Temp n) fits is (λ number e. cc)
  found_name Current fits is = other_name Current fits is (λ number e. cc)

-- ---- CURRENT and the manifest by their bytes

module _ (files : Files) where
  pub no_current : None ≡ file_at files Current → Err NoCurrent ≡ current_of files
  unfolding current_of
  no_current is = ap (λ (o : Option (List ℕ)). some_or NoCurrent o >>= λ (bytes : List ℕ). some_or (Malformed Current 0) (manifest_in bytes)) is

  pub some_current : (bytes slice : List ℕ) (number : Option ℕ) → Some bytes ≡ file_at files Current → slice ≡ bytes
      → number ≡ manifest_in slice → some_or (Malformed Current 0) number ≡ current_of files
  unfolding current_of
  some_current bytes slice number is same named =
      ap (some_or (Malformed Current 0)) (named ∙ ap manifest_in same)
      ∙ ap (λ (o : Option (List ℕ)). some_or NoCurrent o >>= λ (bytes : List ℕ). some_or (Malformed Current 0) (manifest_in bytes)) is

  pub missing : (number : ℕ) → None ≡ file_at files (Manifest number) → edits_of files number ≡ Err (Missing (Manifest number))
  unfolding edits_of
  missing number is = sym (ap (λ (o : Option (List ℕ)). some_or (Missing (Manifest number)) o >>= λ (bytes : List ℕ). edits_said (Manifest number) bytes) is)

  pub manifest_says : (number : ℕ) (bytes slice : List ℕ) → Some bytes ≡ file_at files (Manifest number) → slice ≡ bytes
      → edits_said (Manifest number) slice ≡ edits_of files number
  unfolding edits_of
  manifest_says number bytes slice is same =
      ap (edits_said (Manifest number)) same
      ∙ ap (λ (o : Option (List ℕ)). some_or (Missing (Manifest number)) o >>= λ (bytes : List ℕ). edits_said (Manifest number) bytes) is
