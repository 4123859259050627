use Rattle.std.proofs.Common.{Some, ap, ◌∙◌}
use Rattle.lsm_names.specs.declared.shared_names.SharedName.{SharedName}
use Rattle.lsm_names.specs.Numbers.{six_digits}
use Rattle.lsm_names.proofs.FileNameLemmas.{file_number_fits}
use Rattle.lsm_names.proofs.SharedNameLemmas.{origin, shared_parts, six_have_no_underscore, some_is_not_none, same_some, same_name}
use Rattle.lsm_names.proofs.shared_names.read.Goals as goal

pub returns-in_err-number : goal.returns-in_err-number
returns-in_err-number c name h same =
    absurd (c.in_err-number.ensures (six_digits name.number) (origin name.session name.size) (six_have_no_underscore name.number h.number) (same ∙ shared_parts name))

pub returns-in_err-number-2 : goal.returns-in_err-number-2
returns-in_err-number-2 c name h same =
    let cut = c.in_ok-number.ensures (six_digits name.number) (origin name.session name.size) (six_have_no_underscore name.number h.number) (same ∙ shared_parts name) in
    let found = c.read_decimal.ensures 6 name.number (file_number_fits name.number h.number) cut.0 in
    absurd (some_is_not_none c.read_decimal.result name.number c.in_err-number-2.was found)

pub returns-in_err-session : goal.returns-in_err-session
returns-in_err-session c name h same =
    let cut = c.in_ok-number.ensures (six_digits name.number) (origin name.session name.size) (six_have_no_underscore name.number h.number) (same ∙ shared_parts name) in
    let found = c.read_origin.ensures name.session name.size h.session h.size cut.1 in
    absurd (some_is_not_none c.read_origin.result (name.session, name.size) c.in_err-session.was found)

pub returns : goal.returns
returns c name h same =
    let cut = c.in_ok-number.ensures (six_digits name.number) (origin name.session name.size) (six_have_no_underscore name.number h.number) (same ∙ shared_parts name) in
    let number = c.read_decimal.ensures 6 name.number (file_number_fits name.number h.number) cut.0 in
    let found = c.read_origin.ensures name.session name.size h.session h.size cut.1 in
    let same_number = same_some c.read_decimal.result c.in_ok-number-2.number name.number c.in_ok-number-2.was number in
    let same_origin = same_some c.read_origin.result (c.in_ok-session.session, c.in_ok-session.size) (name.session, name.size) c.in_ok-session.was found in
    ap (λ (n : SharedName). Some n) (same_name c.in_ok-number-2.number c.in_ok-session.size c.in_ok-session.session name same_number (λ i. (same_origin i).0) (λ i. (same_origin i).1))
