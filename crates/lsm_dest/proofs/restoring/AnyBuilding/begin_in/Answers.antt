-- Each exit, by what the making of the folder left.
use Rattle.std.proofs.Common.{ℕ, List, length, sym, ap, subst, ◌∙◌, Ok, Err}
use Rattle.lsm_disk.specs.State.{state_of, folder_made}
use Rattle.lsm_disk.specs.Refusals.{no_room}
use Rattle.lsm_disk.specs.Goes.{Went}
use Rattle.lsm_disk.specs.Halts.{halt_at}
use Rattle.lsm_disk.specs.declared.calls.DiskCall.TheVariants as call
use Rattle.lsm_disk.specs.Building.{IsWithin, MayHaveFolder, Begins}
use Rattle.lsm_disk.specs.declared.calls.DiskRefusal.{DiskRefusal}
use Rattle.lsm_disk.specs.declared.dest.DestError.{DestError}
use Rattle.lsm_names.specs.Paths.{parent_of}
use Rattle.lsm_dest.specs.FolderDests.{begin_answer_by, MakesIn}
use Rattle.lsm_dest.proofs.Doing.{left_in, exit_did_begin}
use Rattle.lsm_dest.proofs.Calls.{not_begun, after_begin, refused_begin}
use Rattle.lsm_dest.proofs.restoring.AnyBuilding.begin_in.Goals as goal

pub returns-in-Some-clause-went : goal.returns-in-Some-clause-went
returns-in-Some-clause-went g c story tells = not_begun c.args.dir.now story tells

pub returns-in-Ok-clause-went : goal.returns-in-Ok-clause-went
returns-in-Ok-clause-went g c story tells =
    let path_is = c.path-path.ensures.path in
    subst (λ (p : List ℕ). Went story (g.D.Disk.seen c.make_folder.new.self).told (IsWithin p (length (state_of story).files)) (MayHaveFolder (state_of story) p) (Begins {T = Unit {0}} p (state_of story) (Ok tt))) path_is
    (after_begin c.path-path.result (ap parent_of path_is ∙ c.path-path.ensures.root) story tells c.in-Ok.ensures.lawful c.in-Ok.ensures.answer c.in-Ok.ensures.did)

pub returns-in-Err-clause-went : goal.returns-in-Err-clause-went
returns-in-Err-clause-went g c story tells =
    let path_is = c.path-path.ensures.path in
    let Left = λ (p : List ℕ) (e : DestError). Went story (g.D.Disk.seen c.make_folder.new.self).told (IsWithin p (length (state_of story).files)) (MayHaveFolder (state_of story) p) (Begins {T = Unit {0}} p (state_of story) (Err e)) in
    subst (Left c.args.dir.now) (sym (c.refuse_begin.ensures.answer ∙ ap (λ (r : DiskRefusal). begin_answer_by r.at r.why) c.refused.ensures))
    (subst (λ (p : List ℕ). Left p (begin_answer_by (halt_at call.MakeFolder c.path-path.result) c.in-Err.why)) path_is
    (refused_begin c.path-path.result (ap parent_of path_is ∙ c.path-path.ensures.root) story tells c.in-Err.ensures.lawful (halt_at call.MakeFolder c.path-path.result) c.in-Err.why c.in-Err.ensures.did c.in-Err.ensures.answer))

pub returns-in-Ok-clause-did : goal.returns-in-Ok-clause-did
returns-in-Ok-clause-did g c =
    let old = g.D.Disk.seen c.args.self.now in
    let new = g.D.Disk.seen c.make_folder.new.self in
    subst (λ (p : List ℕ). MakesIn (folder_made p) old new) c.path-path.ensures.path (record { lawful = c.in-Ok.ensures.lawful; makes = c.in-Ok.ensures.did })

pub returns-in-Err-clause-did : goal.returns-in-Err-clause-did
returns-in-Err-clause-did g c =
    let old = g.D.Disk.seen c.args.self.now in
    let new = g.D.Disk.seen c.make_folder.new.self in
    exit_did_begin (λ (p : List ℕ). MakesIn (folder_made p) old new) no_room old.told new.told call.MakeFolder c.path-path.result
    c.args.dir.now c.path-path.ensures.path c.in-Err.why c.refused.result c.refuse_begin.result c.refused.ensures
    (left_in (folder_made c.path-path.result) (no_room c.path-path.result) old new c.in-Err.why c.in-Err.ensures.lawful c.in-Err.ensures.did) c.in-Err.ensures.answer c.refuse_begin.ensures.answer
