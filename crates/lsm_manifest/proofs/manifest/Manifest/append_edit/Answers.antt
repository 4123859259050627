-- Each exit, by what the record's writing left.
use Rattle.std.proofs.Common.{◌≡◌, ℕ, ◌%◌, List, length, refl, ap, subst, ◌∙◌}
use Rattle.std.specs.Prelude.{Option, Some, Result, Ok, Err}
use Rattle.lsm_version.specs.declared.edits.Edit.{Edit}
use Rattle.lsm_version.specs.EditText.{edit_text}
use Rattle.lsm_frame.specs.Frames.{record_text}
use Rattle.lsm_disk.specs.State.{Story, state_of}
use Rattle.lsm_disk.specs.Goes.{Went}
use Rattle.lsm_disk.specs.Kept.{InFile}
use Rattle.lsm_disk.specs.declared.calls.DiskRefusal.{DiskRefusal}
use Rattle.lsm_manifest.specs.Texts.{manifest_text, record_behind}
use Rattle.lsm_manifest.specs.Shown.{Shown}
use Rattle.lsm_manifest.specs.Standing.{Stands, HoldsEither, IsLeft}
use Rattle.lsm_manifest.proofs.Steps.{after_nothing}
use Rattle.lsm_manifest.proofs.manifest.Manifest.append_edit.Goals as goal

-- what an append of this edit leaves behind a manifest that is seen so
abbrev Leaves : Option Story → Option Story → Edit → Result (Unit {0}) DiskRefusal → Shown → Type 0
Leaves old new next result seen = (story : Story) (edits : List Edit) → old ≡ Some story → seen.len ≡ length (manifest_text edits) → (stands : Stands (state_of story) seen.path edits)
    → Went story new (InFile stands.id) (HoldsEither seen.path edits next) (IsLeft seen.path edits next result)

-- the bytes are the record behind the edits
is_record : (next : Edit) (edits : List Edit) (len : ℕ) (bytes : List ℕ) → len ≡ length (manifest_text edits) → bytes ≡ record_text (len % 32768) (edit_text next) → bytes ≡ record_behind edits next
is_record next edits len bytes is e = e ∙ ap (λ (n : ℕ). record_text (n % 32768) (edit_text next)) is

pub returns-in_default-clause-went : goal.returns-in_default-clause-went
returns-in_default-clause-went g c story edits tells len stands =
    after_nothing c.args.self.now.path edits c.args.edit.now (record_behind edits c.args.edit.now) refl (state_of story) stands story tells refl (Unit {0}) c.refusal.result c.refusal.ensures.call

pub returns-in-Ok-write_record-clause-went : goal.returns-in-Ok-write_record-clause-went
returns-in-Ok-write_record-clause-went g c =
    let seen = g.D.Disk.seen in
    let frame : c.as_slice.result.now ≡ record_text (c.self.inside.len % 32768) (edit_text c.args.edit.now) = c.as_slice.ensures ∙ c.in-Ok.ensures in
    subst (Leaves (seen c.args.disk.now).told (seen c.write_record.new.disk).told c.args.edit.now (Ok (tt {0}))) c.self.view_is
    (λ story edits tells len stands. c.in-Ok-write_record.ensures.went story edits c.args.edit.now tells (is_record c.args.edit.now edits c.self.inside.len c.as_slice.result.now len frame) c.requires.taken stands)

pub returns-in-Err-clause-went : goal.returns-in-Err-clause-went
returns-in-Err-clause-went g c =
    let seen = g.D.Disk.seen in
    let frame : c.as_slice.result.now ≡ record_text (c.self.inside.len % 32768) (edit_text c.args.edit.now) = c.as_slice.ensures ∙ c.in-Ok.ensures in
    subst (Leaves (seen c.args.disk.now).told (seen c.write_record.new.disk).told c.args.edit.now (Err c.in-Err.refused)) c.self.view_is
    (λ story edits tells len stands. c.in-Err.ensures.went story edits c.args.edit.now tells (is_record c.args.edit.now edits c.self.inside.len c.as_slice.result.now len frame) c.requires.taken stands)
