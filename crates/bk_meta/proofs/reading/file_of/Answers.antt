use Rattle.std.proofs.Common.{◌≡◌, ◌^◌, ◌-◌, true, arith, sym, ap, ◌∙◌}
use Rattle.lsm_names.specs.Paths.{is_path}
use Rattle.bk_meta.proofs.FileLemmas.{path_spells, file_has_path}
use Rattle.bk_meta.proofs.NumberLemmas.{number_within, not_left}
use Rattle.bk_meta.proofs.reading.file_of.Goals as goal

pub returns-in_err-ok : goal.returns-in_err-ok
returns-in_err-ok c =
    let path = c.in_ok-path.path.now in
    let said = path_spells c.args.id path c.in_ok-_file._file (sym c.parse.ensures ∙ c.in_ok-_file.was) in
    let known : is_path path ≡ true = ap is_path said.1 ∙ file_has_path c.args.id c.in_ok-_file._file (omega (arith, c.ranges.id)) said.0 in
    absurd (not_left c.parse-2.result c.ok.result c.in_err-ok.was c.ok.ensures.variant (c.parse-2.ensures.exactly.1 known))

pub overflow_cast-result : goal.overflow_cast-result
overflow_cast-result c = omega (arith, number_within (2 ^ 32 - 1) c.in_ok-crc.crc c.in_ok-strip_prefix.field-0.now (sym c.number_up_to.ensures ∙ c.in_ok-crc.was))
