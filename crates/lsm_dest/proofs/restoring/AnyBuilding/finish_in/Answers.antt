-- Each exit, by what the end of the folder left.
use Rattle.std.specs.Prelude.{ℕ, List, Option, Err}
use Rattle.std.proofs.Common.{length, refl, sym, subst}
use Rattle.lsm_disk.specs.Goes.{Went}
use Rattle.lsm_disk.specs.Halts.{IsAmong}
use Rattle.lsm_disk.specs.Dest.{finish_calls}
use Rattle.lsm_disk.specs.State.{state_of}
use Rattle.lsm_disk.specs.Building.{IsBuilding, with_current, IsWithin, HasNoneOrAll}
use Rattle.lsm_disk.specs.declared.dest.DestError.{DestError}
use Rattle.lsm_disk.specs.declared.dest.DestError.TheVariants.{Halted}
use Rattle.lsm_disk.proofs.Runs.{went_weaker}
use Rattle.lsm_dest.specs.FolderDests.{begun_of, Ended}
use Rattle.lsm_dest.proofs.Refusing.{halts_by}
use Rattle.lsm_dest.proofs.Exits.{folder_is}
use Rattle.lsm_dest.proofs.Finishing.{begins}
use Rattle.lsm_dest.proofs.restoring.AnyBuilding.finish_in.Goals as goal

pub returns-in-Some-clause-went : goal.returns-in-Some-clause-went
returns-in-Some-clause-went g c start story begun parts tells is building =
    went_weaker (IsBuilding start begun parts)
    (Ended {T = Unit {0}} start begun parts c.args.current.now (Err (Halted c.in-Some.first)))
    (λ s b. (b, b.holds.stands)) (begins start story begun parts c.args.current.now tells building)

pub returns-in-Ok-clause-went : goal.returns-in-Ok-clause-went
returns-in-Ok-clause-went g c start story begun parts tells is building =
    let built = c.args.built.now in
    c.in-Ok.ensures.went start story begun parts tells (sym (folder_is built.folder built.names.items c.in-Some-folder.folder begun c.in-Some-folder.is is)) building

pub returns-in-Err-clause-went : goal.returns-in-Err-clause-went
returns-in-Err-clause-went g c start story begun parts tells is building =
    let built = c.args.built.now in
    let whole = with_current c.args.current.now parts in
    subst
    (λ (e : DestError). Went story (g.D.Disk.seen c.end_folder.new.self).told (IsWithin begun.folder (length (state_of story).files)) (HasNoneOrAll start begun.folder whole) (Ended {T = Unit {0}} start begun parts c.args.current.now (Err e)))
    (sym c.refuse.ensures.answer)
    (c.in-Err.ensures.went start story begun parts tells (sym (folder_is built.folder built.names.items c.in-Some-folder.folder begun c.in-Some-folder.is is)) building)

pub returns-in-Err-clause-halt : goal.returns-in-Err-clause-halt
returns-in-Err-clause-halt g c =
    let built = c.args.built.now in
    let at = c.in-Err.refusal.at in
    halts_by _ _ _ at c.in-Err.refusal.why c.refuse.result c.in_default.is c.refuse.ensures.answer c.refuse.ensures.halt
    (subst (λ (o : Option (List ℕ)). IsAmong at (finish_calls (begun_of o built.names.items))) (sym c.in-Some-folder.is) c.in-Err.ensures.at)

pub returns-in-Some-clause-lawful : goal.returns-in-Some-clause-lawful
returns-in-Some-clause-lawful g c still = absurd (still c.in-Some.first refl)
