-- Each exit, by what the record's writing left.
use Rattle.std.proofs.Common.{◌≡◌, ℕ, ◌%◌, Bool, List, [], ◌∷◌, ◌++◌, length, refl, ap, subst, ◌∙◌}
use Rattle.std.specs.Prelude.{Option, Some, Result, Ok, Err}
use Rattle.lsm_rows.specs.declared.operations.Op.{Op}
use Rattle.lsm_rows.specs.BatchText.{batch_text}
use Rattle.lsm_frame.specs.Frames.{record_text}
use Rattle.lsm_disk.specs.State.{Story, state_of}
use Rattle.lsm_disk.specs.Goes.{Went}
use Rattle.lsm_disk.specs.Kept.{InFile}
use Rattle.lsm_disk.specs.declared.calls.DiskRefusal.{DiskRefusal}
use Rattle.lsm_wal.specs.Batches.{Logged, wal_text, record_behind}
use Rattle.lsm_wal.specs.Shown.{Shown}
use Rattle.lsm_wal.specs.Standing.{IsWal, HoldsFront, IsLeft}
use Rattle.lsm_wal.proofs.Steps.{after_nothing}
use Rattle.lsm_wal.proofs.log.Wal.append.Goals as goal

-- what an append of this batch leaves behind a log that is seen so
abbrev Leaves : Option Story → Option Story → Logged → Bool → Result (Unit {0}) DiskRefusal → Shown → Type 0
Leaves old new next sync result log = (story : Story) (batches : List Logged) (durable : ℕ) → old ≡ Some story → log.len ≡ length (wal_text batches) → (wal : IsWal (state_of story) log.path batches durable)
    → Went story new (InFile wal.id) (HoldsFront log.path (batches ++ next ∷ []) durable) (IsLeft log.path batches next durable sync result)

-- the bytes are the record behind the batches
is_record : (first : ℕ) (ops : List Op) (batches : List Logged) (len : ℕ) (bytes : List ℕ) → len ≡ length (wal_text batches) → bytes ≡ record_text (len % 32768) (batch_text first ops) → bytes ≡ record_behind batches (record { first = first; ops = ops })
is_record first ops batches len bytes is e = e ∙ ap (λ (n : ℕ). record_text (n % 32768) (batch_text first ops)) is

pub returns-in_default-clause-went : goal.returns-in_default-clause-went
returns-in_default-clause-went g c story batches durable tells len wal =
    let next : Logged = record { first = c.args.first; ops = c.args.batch.now } in
    after_nothing c.args.self.now.path batches next durable (record_behind batches next) refl (state_of story) wal story tells refl (Unit {0}) c.args.sync c.refusal.result c.refusal.ensures.call

pub returns-in-Ok-write_record-clause-went : goal.returns-in-Ok-write_record-clause-went
returns-in-Ok-write_record-clause-went g c =
    let seen = g.D.Disk.seen in
    let next : Logged = record { first = c.args.first; ops = c.args.batch.now } in
    let frame : c.as_slice.result.now ≡ record_text (c.self.inside.len % 32768) (batch_text c.args.first c.args.batch.now) = c.as_slice.ensures ∙ c.in-Ok.ensures.text in
    subst (Leaves (seen c.args.disk.now).told (seen c.write_record.new.disk).told next c.args.sync (Ok (tt {0}))) c.self.view_is
    (λ story batches durable tells len wal. c.in-Ok-write_record.ensures.went story batches next durable tells (is_record c.args.first c.args.batch.now batches c.self.inside.len c.as_slice.result.now len frame) c.in-Ok.ensures.logged wal)

pub returns-in-Err-clause-went : goal.returns-in-Err-clause-went
returns-in-Err-clause-went g c =
    let seen = g.D.Disk.seen in
    let next : Logged = record { first = c.args.first; ops = c.args.batch.now } in
    let frame : c.as_slice.result.now ≡ record_text (c.self.inside.len % 32768) (batch_text c.args.first c.args.batch.now) = c.as_slice.ensures ∙ c.in-Ok.ensures.text in
    subst (Leaves (seen c.args.disk.now).told (seen c.write_record.new.disk).told next c.args.sync (Err c.in-Err.refused)) c.self.view_is
    (λ story batches durable tells len wal. c.in-Err.ensures.went story batches next durable tells (is_record c.args.first c.args.batch.now batches c.self.inside.len c.as_slice.result.now len frame) c.in-Ok.ensures.logged wal)
