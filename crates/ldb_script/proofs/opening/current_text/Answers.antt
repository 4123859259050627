use Rattle.std.proofs.Common.{◌≡◌, ℕ, List, [], ◌∷◌, ◌++◌, refl, ap, ◌∙◌, codes}
use Rattle.std.specs.Fmt.{digits}
use Rattle.lsm_names.specs.FileNames.{spelled}
use Rattle.lsm_names.specs.Numbers.{padded_decimal}
use Rattle.lsm_names.specs.declared.file_names.FileName.TheVariants.{Manifest}
use Rattle.ldb_script.specs.Stored.{first_current}
use Rattle.ldb_script.proofs.opening.current_text.Goals as goal

name : spelled (Manifest 1) ≡ codes "MANIFEST-000001"
unfolding spelled padded_decimal digits
name = refl

pub returns : goal.returns
unfolding first_current
returns c = c.in_ok-push.ensures ∙ ap (λ (l : List ℕ). l ++ 10 ∷ []) (c.in_ok-text.ensures ∙ c.as_bytes.ensures.bytes ∙ c.path.ensures ∙ name)
