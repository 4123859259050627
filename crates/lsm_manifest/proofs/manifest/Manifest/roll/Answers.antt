-- Each exit, by what the manifest's writing left.
use Rattle.std.proofs.Common.{◌≡◌, ℕ, length, subst}
use Rattle.std.specs.Prelude.{List, Option, Some, Result, Ok, Err}
use Rattle.lsm_version.specs.declared.edits.Edit.{Edit}
use Rattle.lsm_disk.specs.State.{Story, Seen, state_of}
use Rattle.lsm_disk.specs.Goes.{Went}
use Rattle.lsm_disk.specs.declared.calls.DiskRefusal.{DiskRefusal}
use Rattle.lsm_publish.specs.Publishing.{AnswersAs}
use Rattle.lsm_manifest.specs.Shown.{Shown}
use Rattle.lsm_manifest.specs.Installing.{Before, StillBefore, IsApart, NamesOldOrNew, Installs, Leaves, LawfulOrUntouched, WantsMemory, no_installing, manifest_path}
use Rattle.lsm_manifest.proofs.manifest.Manifest.roll.Goals as goal

-- what a roll leaves of a folder whose manifest is seen so
abbrev Rolled : Option Story → Option Story → ℕ → Edit → Result (Unit {0}) DiskRefusal → Shown → Type 0
Rolled old new number whole result seen = (story : Story) (before : Before) → old ≡ Some story → StillBefore seen.dir before (state_of story) → IsApart seen.dir number before.path
    → Went story new (Installs seen.dir number (length (state_of story).files)) (NamesOldOrNew seen.dir number whole before) (Leaves {T = Unit {0}} seen.dir number (length (state_of story).files) whole before result)

pub returns-in-Ok-clause-went : goal.returns-in-Ok-clause-went
returns-in-Ok-clause-went g c =
    let seen = g.D.Disk.seen in
    subst (Rolled (seen c.args.disk.now).told (seen c.write_manifest.new.disk).told c.args.number c.args.whole.now (Ok (tt {0}))) c.self.view_is
    (λ story before tells still apart. c.in-Ok.ensures.went story c.self.inside.dir before tells c.places_in-places.ensures.manifest c.places_in-places.ensures.temporary c.places_in-places.ensures.current still apart)

pub returns-in-Err-clause-went : goal.returns-in-Err-clause-went
returns-in-Err-clause-went g c =
    let seen = g.D.Disk.seen in
    subst (Rolled (seen c.args.disk.now).told (seen c.write_manifest.new.disk).told c.args.number c.args.whole.now (Err c.in-Err.refused)) c.self.view_is
    (λ story before tells still apart. c.in-Err.ensures.went story c.self.inside.dir before tells c.places_in-places.ensures.manifest c.places_in-places.ensures.temporary c.places_in-places.ensures.current still apart)

-- which answers come of a roll of a manifest that is seen so
abbrev Answered : Seen → ℕ → Result (Unit {0}) DiskRefusal → Shown → Type 0
Answered old number result seen = AnswersAs {T = Unit {0}} (no_installing seen.dir number) old result

pub returns-in-Ok-clause-answer : goal.returns-in-Ok-clause-answer
returns-in-Ok-clause-answer g c =
    subst (Answered (g.D.Disk.seen c.args.disk.now) c.args.number (Ok (tt {0}))) c.self.view_is
    (c.in-Ok.ensures.answer c.self.inside.dir c.places_in-places.ensures.manifest c.places_in-places.ensures.temporary c.places_in-places.ensures.current)

pub returns-in-Err-clause-answer : goal.returns-in-Err-clause-answer
returns-in-Err-clause-answer g c =
    subst (Answered (g.D.Disk.seen c.args.disk.now) c.args.number (Err c.in-Err.refused)) c.self.view_is
    (c.in-Err.ensures.answer c.self.inside.dir c.places_in-places.ensures.manifest c.places_in-places.ensures.temporary c.places_in-places.ensures.current)

-- whether the disk's names are a tree, and what want of memory left, of a roll of a manifest that is seen so
abbrev Lawful : Seen → Seen → ℕ → Result (Unit {0}) DiskRefusal → Shown → Type 0
Lawful old new number result seen = LawfulOrUntouched {T = Unit {0}} (manifest_path seen.dir number) old new result

abbrev Wanted : Option Story → Option Story → ℕ → Result (Unit {0}) DiskRefusal → Shown → Type 0
Wanted old new number result seen = WantsMemory {T = Unit {0}} seen.dir number old new result

pub returns-in-Ok-clause-lawful : goal.returns-in-Ok-clause-lawful
returns-in-Ok-clause-lawful g c =
    let seen = g.D.Disk.seen in
    subst (Lawful (seen c.args.disk.now) (seen c.write_manifest.new.disk) c.args.number (Ok (tt {0}))) c.self.view_is
    (subst (λ (p : List ℕ). LawfulOrUntouched {T = Unit {0}} p (seen c.args.disk.now) (seen c.write_manifest.new.disk)
    (Ok (tt {0}))) c.places_in-places.ensures.manifest c.in-Ok.ensures.lawful)

pub returns-in-Err-clause-lawful : goal.returns-in-Err-clause-lawful
returns-in-Err-clause-lawful g c =
    let seen = g.D.Disk.seen in
    subst (Lawful (seen c.args.disk.now) (seen c.write_manifest.new.disk) c.args.number (Err c.in-Err.refused)) c.self.view_is
    (subst (λ (p : List ℕ). LawfulOrUntouched {T = Unit {0}} p (seen c.args.disk.now) (seen c.write_manifest.new.disk)
    (Err c.in-Err.refused)) c.places_in-places.ensures.manifest c.in-Err.ensures.lawful)

pub returns-in-Err-clause-wanting : goal.returns-in-Err-clause-wanting
returns-in-Err-clause-wanting g c =
    let seen = g.D.Disk.seen in
    subst (Wanted (seen c.args.disk.now).told (seen c.write_manifest.new.disk).told c.args.number (Err c.in-Err.refused))
    c.self.view_is
    (c.in-Err.ensures.wanting c.self.inside.dir c.places_in-places.ensures.manifest c.places_in-places.ensures.temporary
    c.places_in-places.ensures.current)
