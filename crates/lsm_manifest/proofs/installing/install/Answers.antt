-- Each exit, by what the parts before it left.
use Rattle.std.specs.Prelude.{Ok, Err}
use Rattle.lsm_manifest.proofs.Answering.{new_answers, temporary_answers, led_answers}
use Rattle.lsm_manifest.proofs.Placed.{exit_new, exit_temporary, exit_led}
use Rattle.lsm_manifest.proofs.Settling.{tells_lawful}
use Rattle.lsm_manifest.proofs.Wanting.{wants_new, wants_temporary, wants_lead}
use Rattle.lsm_manifest.proofs.installing.install.Goals as goal

pub returns-in-Err-clause-went : goal.returns-in-Err-clause-went
returns-in-Err-clause-went g c story dir number edit before tells is taken new temporary path text bytes still apart =
    exit_new dir number edit before is taken apart c.args.places.now.manifest c.args.places.now.temporary
    c.args.places.now.current c.args.text.now c.args.current.now new temporary path text bytes story still
    (tells_lawful story _ tells c.in-Err.ensures.lawful)
    c.in-Err.refused c.in-Err.ensures.at (c.in-Err.ensures.went story tells)

pub returns-in-Err-write_new-clause-went : goal.returns-in-Err-write_new-clause-went
returns-in-Err-write_new-clause-went g c story dir number edit before tells is taken new temporary path text bytes still apart =
    exit_temporary dir number edit before is taken apart c.args.places.now.manifest c.args.places.now.temporary
    c.args.places.now.current c.args.text.now c.args.current.now new temporary path text bytes story still
    (tells_lawful story _ tells c.in_default.ensures.lawful)
    (c.in_default.ensures.went story tells) c.in-Err-write_new.refused c.in-Err-write_new.ensures.at
    (λ mid here. c.in-Err-write_new.ensures.went mid here)

pub returns-in-Ok-clause-went : goal.returns-in-Ok-clause-went
returns-in-Ok-clause-went g c story dir number edit before tells is taken new temporary path text bytes still apart =
    exit_led dir number edit before is taken apart c.args.places.now.manifest c.args.places.now.temporary
    c.args.places.now.current c.args.text.now c.args.current.now new temporary path text bytes story still
    (tells_lawful story _ tells c.in_default.ensures.lawful)
    (c.in_default.ensures.went story tells) (Ok (tt {0}))
    (λ mid here. c.in_default-write_new.ensures.went mid here) c.in-Ok.ensures.went

pub returns-in-Err-lead-clause-went : goal.returns-in-Err-lead-clause-went
returns-in-Err-lead-clause-went g c story dir number edit before tells is taken new temporary path text bytes still apart =
    exit_led dir number edit before is taken apart c.args.places.now.manifest c.args.places.now.temporary
    c.args.places.now.current c.args.text.now c.args.current.now new temporary path text bytes story still
    (tells_lawful story _ tells c.in_default.ensures.lawful)
    (c.in_default.ensures.went story tells) (Err c.in-Err-lead.refused)
    (λ mid here. c.in_default-write_new.ensures.went mid here) c.in-Err-lead.ensures.went

pub returns-in-Err-clause-answer : goal.returns-in-Err-clause-answer
returns-in-Err-clause-answer g c dir number is new temporary path =
    new_answers dir number is c.args.places.now.manifest c.args.places.now.temporary c.args.places.now.current c.args.text.now
    c.args.current.now new temporary path _ c.in-Err.refused c.in-Err.ensures.answer

pub returns-in-Err-write_new-clause-answer : goal.returns-in-Err-write_new-clause-answer
returns-in-Err-write_new-clause-answer g c dir number is new temporary path =
    temporary_answers dir number is c.args.places.now.manifest c.args.places.now.temporary c.args.places.now.current
    c.args.text.now c.args.current.now new temporary path _ _
    c.in_default.ensures.answer c.in_default.ensures.went c.in-Err-write_new.refused c.in-Err-write_new.ensures.answer

pub returns-in-Ok-clause-answer : goal.returns-in-Ok-clause-answer
returns-in-Ok-clause-answer g c dir number is new temporary path =
    led_answers dir number is c.args.places.now.manifest c.args.places.now.temporary c.args.places.now.current c.args.text.now
    c.args.current.now new temporary path _ _
    c.in_default.ensures.answer c.in_default.ensures.went _ (Ok
    (tt {0})) c.in_default-write_new.ensures.answer c.in_default-write_new.ensures.went c.in-Ok.ensures.answer

pub returns-in-Err-lead-clause-answer : goal.returns-in-Err-lead-clause-answer
returns-in-Err-lead-clause-answer g c dir number is new temporary path =
    led_answers dir number is c.args.places.now.manifest c.args.places.now.temporary c.args.places.now.current c.args.text.now
    c.args.current.now new temporary path _ _
    c.in_default.ensures.answer c.in_default.ensures.went _
    (Err c.in-Err-lead.refused) c.in_default-write_new.ensures.answer c.in_default-write_new.ensures.went
    c.in-Err-lead.ensures.answer

pub returns-in-Err-clause-wanting : goal.returns-in-Err-clause-wanting
returns-in-Err-clause-wanting g c dir number is new temporary path =
    wants_new dir number is c.args.places.now.manifest c.args.places.now.temporary c.args.places.now.current c.args.text.now
    c.args.current.now new temporary path c.in-Err.refused c.in-Err.ensures.wanting

pub returns-in-Err-write_new-clause-wanting : goal.returns-in-Err-write_new-clause-wanting
returns-in-Err-write_new-clause-wanting g c dir number is new temporary path =
    wants_temporary dir number is c.args.places.now.manifest c.args.places.now.temporary c.args.places.now.current
    c.args.text.now c.args.current.now new temporary path c.in_default.ensures.went c.in-Err-write_new.refused
    c.in-Err-write_new.ensures.wanting

pub returns-in-Err-lead-clause-wanting : goal.returns-in-Err-lead-clause-wanting
returns-in-Err-lead-clause-wanting g c dir number is new temporary path =
    wants_lead dir number is c.args.places.now.manifest c.args.places.now.temporary c.args.places.now.current
    c.args.text.now c.args.current.now new temporary path c.in_default.ensures.went c.in_default-write_new.ensures.went
    c.in-Err-lead.refused c.in-Err-lead.ensures.wanting
