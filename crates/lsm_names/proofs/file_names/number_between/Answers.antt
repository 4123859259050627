use Rattle.std.proofs.Common.{◌++◌, None, Some, sym, ◌∙◌}
use Rattle.std.proofs.lemmas.Bool.Decides.{Decides-eqb}
use Rattle.std.proofs.lemmas.List.{append_assoc, append_cancel_left}
use Rattle.std.proofs.lemmas.Slice.Eq.{strip_prefix_is, strip_suffix_is}
use Rattle.lsm_names.specs.Numbers.{six_digits}
use Rattle.lsm_names.proofs.FileNameLemmas.{stands_between}
use Rattle.lsm_names.proofs.file_names.number_between.Goals as goal

pub returns-in_err-strip_prefix-clause-found : goal.returns-in_err-strip_prefix-clause-found
returns-in_err-strip_prefix-clause-found c number h same =
    absurd (strip_prefix_is Decides-eqb c.args.text.now c.args.before.now None c.in_err-strip_prefix.ensures.cases (six_digits number ++ c.args.behind.now)
    (same ∙ append_assoc c.args.before.now (six_digits number) c.args.behind.now))

pub returns-in_err-strip_suffix-clause-found : goal.returns-in_err-strip_suffix-clause-found
returns-in_err-strip_suffix-clause-found c number h same =
    let inner = c.in_ok-strip_prefix.field-0 in
    let front = strip_prefix_is Decides-eqb c.args.text.now c.args.before.now (Some inner) c.in_ok-strip_prefix.ensures.cases in
    let back = append_cancel_left c.args.before.now inner.now (six_digits number ++ c.args.behind.now)
    (sym front ∙ same ∙ append_assoc c.args.before.now (six_digits number) c.args.behind.now) in
    absurd (strip_suffix_is Decides-eqb inner.now c.args.behind.now None c.in_err-strip_suffix.ensures.cases (six_digits number) back)

pub returns-clause-spelling : goal.returns-clause-spelling
returns-clause-spelling c =
    let inner = c.in_ok-strip_prefix.field-0 in
    let digits = c.in_ok-strip_suffix.field-0 in
    stands_between c.read_file_number.result c.args.text.now c.args.before.now c.args.behind.now inner.now digits.now
    (strip_prefix_is Decides-eqb c.args.text.now c.args.before.now (Some inner) c.in_ok-strip_prefix.ensures.cases)
    (strip_suffix_is Decides-eqb inner.now c.args.behind.now (Some digits) c.in_ok-strip_suffix.ensures.cases)
    c.read_file_number.ensures.digits
