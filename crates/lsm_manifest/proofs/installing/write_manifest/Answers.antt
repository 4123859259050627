-- Each exit: no call was made, or by what the installing left.
use Rattle.std.specs.Prelude.{[]}
use Rattle.std.proofs.Common.{inl, inr, ◌∙◌}
use Rattle.lsm_manifest.specs.Installing.{no_installing}
use Rattle.lsm_manifest.proofs.Answering.{wanting_answers}
use Rattle.lsm_manifest.proofs.Placed.{exit_none}
use Rattle.lsm_manifest.proofs.Wanting.{wants_new, untouched_is, untouched_wants}
use Rattle.lsm_manifest.proofs.installing.write_manifest.Goals as goal

pub returns-in_default-clause-went : goal.returns-in_default-clause-went
returns-in_default-clause-went g c story dir before tells new temporary path still apart =
    exit_none dir c.args.number c.args.edit.now before c.requires.number c.requires.taken apart story still c.refusal.result (c.refusal.ensures.path ∙ new) c.refusal.ensures.call c.refusal.ensures.why tells

pub returns-in_default-current_bytes-clause-went : goal.returns-in_default-current_bytes-clause-went
returns-in_default-current_bytes-clause-went g c story dir before tells new temporary path still apart =
    exit_none dir c.args.number c.args.edit.now before c.requires.number c.requires.taken apart story still c.refusal-in_default-current_bytes.result (c.refusal-in_default-current_bytes.ensures.path ∙ new) c.refusal-in_default-current_bytes.ensures.call c.refusal-in_default-current_bytes.ensures.why tells

pub returns-in-Ok-install-clause-went : goal.returns-in-Ok-install-clause-went
returns-in-Ok-install-clause-went g c story dir before tells new temporary path still apart =
    c.in-Ok-install.ensures.went story dir c.args.number c.args.edit.now before tells c.requires.number c.requires.taken new temporary path
    (c.as_slice.ensures ∙ c.in-Ok.ensures) (c.as_slice-2.ensures ∙ c.in-Ok-current_bytes.ensures) still apart

pub returns-clause-went : goal.returns-clause-went
returns-clause-went g c story dir before tells new temporary path still apart =
    c.in-Err.ensures.went story dir c.args.number c.args.edit.now before tells c.requires.number c.requires.taken new temporary path
    (c.as_slice.ensures ∙ c.in-Ok.ensures) (c.as_slice-2.ensures ∙ c.in-Ok-current_bytes.ensures) still apart

pub returns-in_default-clause-answer : goal.returns-in_default-clause-answer
returns-in_default-clause-answer g c dir new temporary path =
    wanting_answers (no_installing dir c.args.number) (g.D.Disk.seen c.args.disk.now).told c.refusal.result c.refusal.ensures.why

pub returns-in_default-current_bytes-clause-answer : goal.returns-in_default-current_bytes-clause-answer
returns-in_default-current_bytes-clause-answer g c dir new temporary path =
    wanting_answers (no_installing dir c.args.number) (g.D.Disk.seen c.args.disk.now).told c.refusal-in_default-current_bytes.result c.refusal-in_default-current_bytes.ensures.why

pub returns-in-Ok-install-clause-answer : goal.returns-in-Ok-install-clause-answer
returns-in-Ok-install-clause-answer g c dir new temporary path = c.in-Ok-install.ensures.answer dir c.args.number c.requires.number new temporary path

pub returns-clause-answer : goal.returns-clause-answer
returns-clause-answer g c dir new temporary path = c.in-Err.ensures.answer dir c.args.number c.requires.number new temporary path

pub returns-in_default-clause-lawful : goal.returns-in_default-clause-lawful
returns-in_default-clause-lawful g c =
    inr (untouched_is c.args.places.now.manifest c.refusal.result c.refusal.ensures.path c.refusal.ensures.call
    c.refusal.ensures.why (g.D.Disk.seen c.args.disk.now))

pub returns-in_default-clause-wanting : goal.returns-in_default-clause-wanting
returns-in_default-clause-wanting g c dir new temporary path =
    wants_new dir c.args.number c.requires.number c.args.places.now.manifest c.args.places.now.temporary
    c.args.places.now.current [] [] new temporary path c.refusal.result
    (λ want. untouched_wants c.args.places.now.manifest c.refusal.result c.refusal.ensures.path c.refusal.ensures.call
    (g.D.Disk.seen c.args.disk.now).told)

pub returns-in_default-current_bytes-clause-lawful : goal.returns-in_default-current_bytes-clause-lawful
returns-in_default-current_bytes-clause-lawful g c =
    inr (untouched_is c.args.places.now.manifest c.refusal-in_default-current_bytes.result c.refusal-in_default-current_bytes.ensures.path c.refusal-in_default-current_bytes.ensures.call
    c.refusal-in_default-current_bytes.ensures.why (g.D.Disk.seen c.args.disk.now))

pub returns-in_default-current_bytes-clause-wanting : goal.returns-in_default-current_bytes-clause-wanting
returns-in_default-current_bytes-clause-wanting g c dir new temporary path =
    wants_new dir c.args.number c.requires.number c.args.places.now.manifest c.args.places.now.temporary
    c.args.places.now.current [] [] new temporary path c.refusal-in_default-current_bytes.result
    (λ want. untouched_wants c.args.places.now.manifest c.refusal-in_default-current_bytes.result c.refusal-in_default-current_bytes.ensures.path c.refusal-in_default-current_bytes.ensures.call
    (g.D.Disk.seen c.args.disk.now).told)

pub returns-in-Ok-install-clause-lawful : goal.returns-in-Ok-install-clause-lawful
returns-in-Ok-install-clause-lawful g c = inl c.in-Ok-install.ensures.lawful

pub returns-clause-lawful : goal.returns-clause-lawful
returns-clause-lawful g c = inl c.in-Err.ensures.lawful

pub returns-clause-wanting : goal.returns-clause-wanting
returns-clause-wanting g c dir new temporary path = c.in-Err.ensures.wanting dir c.args.number c.requires.number new temporary path
