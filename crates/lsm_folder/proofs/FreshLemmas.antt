-- A fresh place holds no store.
use Rattle.std.specs.Prelude.{◌≡◌, ◌⊎◌, ℕ, true, List, [], ◌∷◌, None, Result, Err}
use Rattle.std.proofs.Common.{inl, inr, refl, sym, ap, ◌∙◌}
use Rattle.std.specs.List.{list_all}
use Rattle.std.specs.FinMap as finmap
use Rattle.lsm_names.specs.declared.file_names.FileName.{FileName}
use Rattle.lsm_names.specs.declared.file_names.FileName.TheVariants.{Log, Table, Manifest, Temp, Current}
use Rattle.lsm_folder.specs.Files.{Item, A_file, A_folder, Place, Nothing, Not_a_folder, Stands_with, bytes_in, file_at}
use Rattle.lsm_folder.specs.Names.{name_cmp}
use Rattle.lsm_folder.specs.Needed.{is_aside, IsFresh}
use Rattle.lsm_folder.proofs.CurrentLemmas as by_current
use Rattle.lsm_folder.specs.declared.refusals.Refusal.{Refusal}
use Rattle.lsm_folder.specs.declared.refusals.Refusal.TheVariants.{NoFolder, NoCurrent}
use Rattle.lsm_folder.specs.Steps.{◌>>=◌}
use Rattle.lsm_folder.specs.Reading.{current_of, edits_of, texts_behind, texts_in, read, reading}

no_current : (es : List (FileName × Item)) → list_all is_aside es ≡ true → finmap.find name_cmp Current es ≡ None
no_current [] h = refl
no_current ((Log n, item) ∷ es) h = cc
no_current ((Table n, item) ∷ es) h = cc
no_current ((Manifest n, A_file bytes) ∷ es) h = no_current es h
no_current ((Manifest n, A_folder) ∷ es) h = cc
no_current ((Temp n, A_file bytes) ∷ es) h = no_current es h
no_current ((Temp n, A_folder) ∷ es) h = cc
no_current ((Current, item) ∷ es) h = cc

pub fresh_is_none : (place : Place) → IsFresh place → (reading place ≡ Err NoFolder) ⊎ (reading place ≡ Err NoCurrent)
unfolding IsFresh texts_in
fresh_is_none Nothing fresh = inl refl
fresh_is_none Not_a_folder fresh = absurd fresh
fresh_is_none (Stands_with files) fresh =
    let none : file_at files Current ≡ None =
    ap bytes_in (finmap.get-entries files Current ∙ no_current (finmap.entries files) fresh) in
    let current : current_of files ≡ Err NoCurrent = sym (by_current.no_current files (sym none)) in
    inr (ap (λ (r : Result ℕ Refusal). (r >>= λ (manifest : ℕ). edits_of files manifest >>= texts_behind files) >>= read) current)
