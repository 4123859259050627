use Rattle.std.proofs.Common.{◌≡◌, ◌++◌, true, Some, None, ap, sym, ◌∙◌}
use Rattle.std.specs.Prelude.{codes}
use Rattle.std.specs.Fmt.{decimal}
use Rattle.std.proofs.lemmas.Bool.Decides.{Decides-eqb}
use Rattle.std.proofs.lemmas.List.{append_cancel_left, append_cancel_right}
use Rattle.std.proofs.lemmas.Slice.Eq.{strip_prefix_is, strip_suffix_is}
use Rattle.lsm_names.specs.Sessions.{is_session}
use Rattle.lsm_names.proofs.SharedNameLemmas.{decimal_is_padded, some_is_not_none, same_some}
use Rattle.lsm_names.proofs.SessionLemmas.{session_has_no_underscore}
use Rattle.lsm_names.proofs.shared_names.read_origin.Goals as goal

pub returns-in_err-session : goal.returns-in_err-session
returns-in_err-session c session size named small same =
    let front = strip_prefix_is Decides-eqb c.args.text.now (codes "s") (Some c.in_ok-strip_prefix.field-0) c.in_ok-strip_prefix.ensures.cases in
    absurd (c.in_err-session.ensures session (decimal size ++ codes ".sst") (session_has_no_underscore session named) (append_cancel_left (codes "s") _ _ (sym front ∙ same)))

pub returns-in_err-session-2 : goal.returns-in_err-session-2
returns-in_err-session-2 c session size named small same =
    let front = strip_prefix_is Decides-eqb c.args.text.now (codes "s") (Some c.in_ok-strip_prefix.field-0) c.in_ok-strip_prefix.ensures.cases in
    let cut = c.in_ok-session.ensures session (decimal size ++ codes ".sst") (session_has_no_underscore session named) (append_cancel_left (codes "s") _ _ (sym front ∙ same)) in
    let known : is_session c.in_ok-session.session.now ≡ true = ap is_session cut.0 ∙ named in
    let no = c.in_err-session-2.ensures.exactly.1 known in
    absurd (cc)

pub returns-in_err-strip_suffix : goal.returns-in_err-strip_suffix
returns-in_err-strip_suffix c session size named small same =
    let front = strip_prefix_is Decides-eqb c.args.text.now (codes "s") (Some c.in_ok-strip_prefix.field-0) c.in_ok-strip_prefix.ensures.cases in
    let cut = c.in_ok-session.ensures session (decimal size ++ codes ".sst") (session_has_no_underscore session named) (append_cancel_left (codes "s") _ _ (sym front ∙ same)) in
    absurd (strip_suffix_is Decides-eqb c.in_ok-session.size.now (codes ".sst") None c.in_err-strip_suffix.ensures.cases (decimal size) cut.1)

pub returns-in_err-size : goal.returns-in_err-size
returns-in_err-size c session size named small same =
    let front = strip_prefix_is Decides-eqb c.args.text.now (codes "s") (Some c.in_ok-strip_prefix.field-0) c.in_ok-strip_prefix.ensures.cases in
    let cut = c.in_ok-session.ensures session (decimal size ++ codes ".sst") (session_has_no_underscore session named) (append_cancel_left (codes "s") _ _ (sym front ∙ same)) in
    let back = strip_suffix_is Decides-eqb c.in_ok-session.size.now (codes ".sst") (Some c.in_ok-strip_suffix.field-0) c.in_ok-strip_suffix.ensures.cases in
    let digits = append_cancel_right c.in_ok-strip_suffix.field-0.now (decimal size) (codes ".sst") (sym back ∙ cut.1) in
    let found = c.read_decimal.ensures 0 size small (digits ∙ sym (decimal_is_padded size)) in
    absurd (some_is_not_none c.read_decimal.result size c.in_err-size.was found)

pub returns : goal.returns
returns c session size named small same =
    let front = strip_prefix_is Decides-eqb c.args.text.now (codes "s") (Some c.in_ok-strip_prefix.field-0) c.in_ok-strip_prefix.ensures.cases in
    let cut = c.in_ok-session.ensures session (decimal size ++ codes ".sst") (session_has_no_underscore session named) (append_cancel_left (codes "s") _ _ (sym front ∙ same)) in
    let back = strip_suffix_is Decides-eqb c.in_ok-session.size.now (codes ".sst") (Some c.in_ok-strip_suffix.field-0) c.in_ok-strip_suffix.ensures.cases in
    let digits = append_cancel_right c.in_ok-strip_suffix.field-0.now (decimal size) (codes ".sst") (sym back ∙ cut.1) in
    let found = c.read_decimal.ensures 0 size small (digits ∙ sym (decimal_is_padded size)) in
    let same_session = c.in_ok-session-2.ensures.ok ∙ cut.0 in
    let same_size = same_some c.read_decimal.result c.in_ok-size.size size c.in_ok-size.was found in
    λ i. Some (same_session i, same_size i)
