use Rattle.std.proofs.Common.{refl, ◌∙◌, Ok, Err}
use Rattle.bk_engine.proofs.Publications.{writing_refused, switch_ended, switch_done, created_whatever}
use Rattle.bk_engine.proofs.Crashes.{unpublished_crash, writing_crash, switch_crash}
use Rattle.bk_engine.proofs.publishing.publish_meta.Goals as goal

pub returns-in_err-text-clause-went : goal.returns-in_err-text-clause-went
returns-in_err-text-clause-went g c story first tells le = created_whatever c.args.meta.now.id first story tells

pub returns-in_err-write_temporary-clause-went : goal.returns-in_err-write_temporary-clause-went
returns-in_err-write_temporary-clause-went g c story first tells le =
    writing_refused c.args.meta.now (g.B.Disk.seen c.args.disk.now).told (g.B.Disk.seen c.write_temporary.new.disk).told c.temporary_path-temporary.result c.as_slice.result.now c.temporary_path-temporary.ensures
    c.in_err-write_temporary.field-0.0 c.in_err-write_temporary.ensures.went story first tells le

pub returns-in_err-switch-clause-went : goal.returns-in_err-switch-clause-went
returns-in_err-switch-clause-went g c story first tells le =
    switch_ended c.args.meta.now (g.B.Disk.seen c.args.disk.now).told (g.B.Disk.seen c.write_temporary.new.disk).told c.temporary_path-temporary.result c.as_slice.result.now c.temporary_path-temporary.ensures
    (g.B.Disk.seen c.switch.new.disk).told c.meta_path.result c.meta_path.ensures c.in_ok-write_temporary.field-0 (Err c.in_err-switch.field-0.0) c.in_ok-write_temporary.ensures.went c.in_err-switch.ensures.went story first tells le

pub returns-clause-went : goal.returns-clause-went
returns-clause-went g c story first tells le =
    switch_ended c.args.meta.now (g.B.Disk.seen c.args.disk.now).told (g.B.Disk.seen c.write_temporary.new.disk).told c.temporary_path-temporary.result c.as_slice.result.now c.temporary_path-temporary.ensures
    (g.B.Disk.seen c.switch.new.disk).told c.meta_path.result c.meta_path.ensures c.in_ok-write_temporary.field-0 (Ok c.in_ok-switch.field-0) c.in_ok-write_temporary.ensures.went c.in_ok-switch.ensures.went story first tells le

pub returns-clause-kept : goal.returns-clause-kept
returns-clause-kept g c story first texts tells le lawful own new =
    switch_done c.args.meta.now (g.B.Disk.seen c.args.disk.now).told (g.B.Disk.seen c.write_temporary.new.disk).told c.temporary_path-temporary.result c.as_slice.result.now c.temporary_path-temporary.ensures
    (g.B.Disk.seen c.switch.new.disk).told c.meta_path.result c.meta_path.ensures c.in_ok-write_temporary.field-0 c.in_ok-switch.field-0 (c.as_slice.ensures ∙ c.in_ok-text.ensures)
    c.in_ok-write_temporary.ensures.went c.in_ok-switch.ensures.went c.requires story first texts tells le lawful own new

pub returns-in_err-text-clause-crash : goal.returns-in_err-text-clause-crash
returns-in_err-text-clause-crash g c story first texts tells le lawful own new free = unpublished_crash c.args.meta.now texts first story free tells

pub returns-in_err-write_temporary-clause-crash : goal.returns-in_err-write_temporary-clause-crash
returns-in_err-write_temporary-clause-crash g c story first texts tells le lawful own new free =
    writing_crash c.args.meta.now texts (g.B.Disk.seen c.args.disk.now).told (g.B.Disk.seen c.write_temporary.new.disk).told c.temporary_path-temporary.result c.as_slice.result.now c.temporary_path-temporary.ensures
    c.in_err-write_temporary.field-0.0 c.in_err-write_temporary.ensures.went story first tells le free

pub returns-in_err-switch-clause-crash : goal.returns-in_err-switch-clause-crash
returns-in_err-switch-clause-crash g c story first texts tells le lawful own new free =
    switch_crash c.args.meta.now texts (g.B.Disk.seen c.args.disk.now).told (g.B.Disk.seen c.write_temporary.new.disk).told c.temporary_path-temporary.result c.as_slice.result.now c.temporary_path-temporary.ensures
    (g.B.Disk.seen c.switch.new.disk).told c.meta_path.result c.meta_path.ensures c.in_ok-write_temporary.field-0 (Err c.in_err-switch.field-0.0) (c.as_slice.ensures ∙ c.in_ok-text.ensures)
    c.in_ok-write_temporary.ensures.went c.in_err-switch.ensures.went c.requires story first tells le lawful own new free

pub returns-clause-crash : goal.returns-clause-crash
returns-clause-crash g c story first texts tells le lawful own new free =
    switch_crash c.args.meta.now texts (g.B.Disk.seen c.args.disk.now).told (g.B.Disk.seen c.write_temporary.new.disk).told c.temporary_path-temporary.result c.as_slice.result.now c.temporary_path-temporary.ensures
    (g.B.Disk.seen c.switch.new.disk).told c.meta_path.result c.meta_path.ensures c.in_ok-write_temporary.field-0 (Ok c.in_ok-switch.field-0) (c.as_slice.ensures ∙ c.in_ok-text.ensures)
    c.in_ok-write_temporary.ensures.went c.in_ok-switch.ensures.went c.requires story first tells le lawful own new free
