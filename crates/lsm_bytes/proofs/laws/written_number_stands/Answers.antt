use Rattle.std.proofs.Common.{List, ℕ, ◌++◌, length, drop, refl, ap, ◌∙◌}
use Rattle.std.proofs.lemmas.List.{append_assoc, drop_at}
use Rattle.byteorder.specs.Endian.{little_number}
use Rattle.byteorder.specs.Numbers.{little_number-reads_back}
use Rattle.lsm_bytes.specs.Numbers.{number_bytes}
use Rattle.lsm_bytes.proofs.laws.written_number_stands.Goals as goal

pub returns : goal.returns
returns c =
    λ before more size n fits. ap (λ (bytes : List ℕ). little_number size (drop (length before) bytes)) (append_assoc before (number_bytes size n) more) ∙ ap (little_number size) (drop_at before (number_bytes size n ++ more) (length before) refl) ∙ little_number-reads_back size n more fits
