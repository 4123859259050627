-- Each exit, by what the append left.
use Rattle.std.specs.Prelude.{ℕ, List, length, Option, option_map}
use Rattle.std.proofs.Common.{sym, ap, subst, ◌∙◌, arith}
use Rattle.lsm_disk.specs.State.{appended}
use Rattle.lsm_disk.specs.Refusals.{no_file}
use Rattle.lsm_disk.specs.Answers.{Makes, MakesFront}
use Rattle.lsm_disk.specs.declared.calls.DiskCall.TheVariants as call
use Rattle.std.proofs.lemmas.List.{take_all}
use Rattle.lsm_disk.proofs.Files.{same_some}
use Rattle.lsm_dest.specs.declared.hand.Hand.{Hand}
use Rattle.lsm_dest.proofs.Doing.{exit_did}
use Rattle.lsm_dest.proofs.Calls.{still_writing}
use Rattle.lsm_dest.proofs.Exits.{path_is, bytes_added, bytes_refused}
use Rattle.lsm_dest.proofs.restoring.AnyBuilding.append_in.Goals as goal

pub returns-in-Some-clause-went : goal.returns-in-Some-clause-went
returns-in-Some-clause-went g c start story begun parts name file tells is in_hand writing = still_writing start story begun parts name file tells writing

pub returns-in-Ok-clause-went : goal.returns-in-Ok-clause-went
returns-in-Ok-clause-went g c start story begun parts name file tells is in_hand writing =
    let built = c.args.built.now in
    let hand = c.in-Some-Some.hand in
    let same = same_some hand.name name (sym (ap (λ (o : Option Hand). option_map (λ h. h.name) o) c.in-Some-Some.is-1) ∙ in_hand) in
    let path = path_is built.folder built.names.items c.in-Some-Some.folder begun hand.name name c.file-path.result c.in-Some-Some.is-0 is same c.file-path.ensures in
    bytes_added start story begun parts name c.file-path.result path tells file writing c.args.bytes.now c.in-Ok.ensures.did

pub returns-in-Err-clause-went : goal.returns-in-Err-clause-went
returns-in-Err-clause-went g c start story begun parts name file tells is in_hand writing =
    let built = c.args.built.now in
    let hand = c.in-Some-Some.hand in
    let same = same_some hand.name name (sym (ap (λ (o : Option Hand). option_map (λ h. h.name) o) c.in-Some-Some.is-1) ∙ in_hand) in
    let path = path_is built.folder built.names.items c.in-Some-Some.folder begun hand.name name c.file-path.result c.in-Some-Some.is-0 is same c.file-path.ensures in
    bytes_refused start story begun parts name c.file-path.result path tells file writing c.args.bytes.now c.in-Err.why c.refused.result c.refuse.result c.refused.ensures c.refuse.ensures.answer c.in-Err.ensures.did c.in-Err.ensures.answer

pub returns-in-Ok-clause-did : goal.returns-in-Ok-clause-did
returns-in-Ok-clause-did g c begun name is in_hand =
    let built = c.args.built.now in
    let hand = c.in-Some-Some.hand in
    let same = same_some hand.name name (sym (ap (λ (o : Option Hand). option_map (λ h. h.name) o) c.in-Some-Some.is-1) ∙ in_hand) in
    let path = path_is built.folder built.names.items c.in-Some-Some.folder begun hand.name name c.file-path.result c.in-Some-Some.is-0 is same c.file-path.ensures in
    let old = (g.D.Disk.seen c.args.self.now).told in
    let new = (g.D.Disk.seen c.append.new.self).told in
    subst (λ (p : List ℕ). MakesFront p c.args.bytes.now old new) path
    (length c.args.bytes.now, subst (λ (b : List ℕ). Makes old (appended c.file-path.result b) new) (sym (take_all (length c.args.bytes.now) c.args.bytes.now (omega (arith)))) c.in-Ok.ensures.did)

pub returns-in-Err-clause-did : goal.returns-in-Err-clause-did
returns-in-Err-clause-did g c begun name is in_hand =
    let built = c.args.built.now in
    let hand = c.in-Some-Some.hand in
    let same = same_some hand.name name (sym (ap (λ (o : Option Hand). option_map (λ h. h.name) o) c.in-Some-Some.is-1) ∙ in_hand) in
    let path = path_is built.folder built.names.items c.in-Some-Some.folder begun hand.name name c.file-path.result c.in-Some-Some.is-0 is same c.file-path.ensures in
    let old = (g.D.Disk.seen c.args.self.now).told in
    let new = (g.D.Disk.seen c.append.new.self).told in
    exit_did (λ (p : List ℕ). MakesFront p c.args.bytes.now old new) no_file old new call.Append c.file-path.result _ path c.in-Err.why
    c.refused.result c.refuse.result c.refused.ensures c.in-Err.ensures.did c.in-Err.ensures.answer c.refuse.ensures.answer
