use Rattle.std.proofs.Common.{◌++◌, ◌∷◌, [], refl, sym, ap, arith, subst}
use Rattle.lsm_block.specs.BlockText.{block_text}
use Rattle.lsm_table.specs.Cuts.{Cut, IsCut, size_of}
use Rattle.lsm_table.proofs.Cutting.{entry_added, entry_grown, end_made, full_made, ends, size_end, size-is, stored-len}
use Rattle.lsm_table.proofs.data_blocks.DataBlocks.add.Goals as goal

pub add-requires-clause-small : goal.add-requires-clause-small
add-requires-clause-small c =
    let f = entry_added (record { begun = c.self.inside.begun; index = c.self.inside.index; pending = c.self.inside.pending; place = c.self.inside.place }) c.args.self.now c.args.key.now c.args.value.now (c.self.inside.begun ++ record { key = c.args.key.now; value = c.args.value.now } ∷ []) c.self.view_is c.self.invariant c.requires.key c.requires.past
    c.requires.behind c.requires.room refl in
    f.0

pub invariant_of-self-then-len-lt-FULL : goal.invariant_of-self-then-len-lt-FULL
invariant_of-self-then-len-lt-FULL c =
    let f = entry_added (record { begun = c.self.inside.begun; index = c.self.inside.index; pending = c.self.inside.pending; place = c.self.inside.place }) c.args.self.now c.args.key.now c.args.value.now c.add.new.self c.self.view_is c.self.invariant c.requires.key c.requires.past c.requires.behind c.requires.room c.in_ok-add.ensures.ok in
    f.1

pub returns-then-len-lt-FULL-clause-grown : goal.returns-then-len-lt-FULL-clause-grown
returns-then-len-lt-FULL-clause-grown c =
    let f = entry_added (record { begun = c.self.inside.begun; index = c.self.inside.index; pending = c.self.inside.pending; place = c.self.inside.place }) c.args.self.now c.args.key.now c.args.value.now c.add.new.self c.self.view_is c.self.invariant c.requires.key c.requires.past c.requires.behind c.requires.room c.in_ok-add.ensures.ok in
    omega (arith, f.2)

pub end_open-requires-clause-cut : goal.end_open-requires-clause-cut
end_open-requires-clause-cut c =
    let f = entry_added (record { begun = c.self.inside.begun; index = c.self.inside.index; pending = c.self.inside.pending; place = c.self.inside.place }) c.args.self.now c.args.key.now c.args.value.now c.add.new.self c.self.view_is c.self.invariant c.requires.key c.requires.past c.requires.behind c.requires.room c.in_ok-add.ensures.ok in
    f.1

pub overflow_add-self : goal.overflow_add-self
overflow_add-self c =
    let f = entry_added (record { begun = c.self.inside.begun; index = c.self.inside.index; pending = c.self.inside.pending; place = c.self.inside.place }) c.args.self.now c.args.key.now c.args.value.now c.add.new.self c.self.view_is c.self.invariant c.requires.key c.requires.past c.requires.behind c.requires.room c.in_ok-add.ensures.ok in
    let v : Cut = record (record { begun = c.self.inside.begun; index = c.self.inside.index; pending = c.self.inside.pending; place = c.self.inside.place }) { begun = c.add.new.self } in
    omega (arith, f.1.small, size-is v, stored-len (block_text c.add.new.self), c.in-Ok.ensures.len)

pub invariant_of-self-in-Ok : goal.invariant_of-self-in-Ok
invariant_of-self-in-Ok c =
    let f = entry_added (record { begun = c.self.inside.begun; index = c.self.inside.index; pending = c.self.inside.pending; place = c.self.inside.place }) c.args.self.now c.args.key.now c.args.value.now c.add.new.self c.self.view_is c.self.invariant c.requires.key c.requires.past c.requires.behind c.requires.room c.in_ok-add.ensures.ok in
    let v : Cut = record (record { begun = c.self.inside.begun; index = c.self.inside.index; pending = c.self.inside.pending; place = c.self.inside.place }) { begun = c.add.new.self } in
    subst IsCut (sym (end_made v c.new.result c.end_open.new.index c.end_open.new.pending c.in-Ok.len c.new.ensures c.in-Ok.ensures.index c.in-Ok.ensures.pending c.in-Ok.ensures.len))
    ((ends v f.1 f.3).left (omega (arith, f.2, c.requires.room)))

pub returns-in-Ok-clause-ok : goal.returns-in-Ok-clause-ok
returns-in-Ok-clause-ok c =
    full_made (record { begun = c.self.inside.begun; index = c.self.inside.index; pending = c.self.inside.pending; place = c.self.inside.place }) c.args.self.now c.args.key.now c.args.value.now c.add.new.self c.new.result c.end_open.new.index c.end_open.new.pending c.in-Ok.len c.self.view_is c.in_ok-add.ensures.ok
    (omega (arith, c.if-len-lt-FULL.false, c.len.ensures)) c.new.ensures c.in-Ok.ensures.index c.in-Ok.ensures.pending c.in-Ok.ensures.len

pub returns-in-Ok-clause-grown : goal.returns-in-Ok-clause-grown
returns-in-Ok-clause-grown c =
    let f = entry_added (record { begun = c.self.inside.begun; index = c.self.inside.index; pending = c.self.inside.pending; place = c.self.inside.place }) c.args.self.now c.args.key.now c.args.value.now c.add.new.self c.self.view_is c.self.invariant c.requires.key c.requires.past c.requires.behind c.requires.room c.in_ok-add.ensures.ok in
    let v : Cut = record (record { begun = c.self.inside.begun; index = c.self.inside.index; pending = c.self.inside.pending; place = c.self.inside.place }) { begun = c.add.new.self } in
    let made = end_made v c.new.result c.end_open.new.index c.end_open.new.pending c.in-Ok.len c.new.ensures c.in-Ok.ensures.index c.in-Ok.ensures.pending c.in-Ok.ensures.len in
    omega (arith, ap size_of made, size_end v, f.2)

pub returns-then-len-lt-FULL-clause-more : goal.returns-then-len-lt-FULL-clause-more
returns-then-len-lt-FULL-clause-more c = entry_grown (record { begun = c.self.inside.begun; index = c.self.inside.index; pending = c.self.inside.pending; place = c.self.inside.place }) c.args.self.now (record { key = c.args.key.now; value = c.args.value.now }) c.add.new.self c.self.view_is c.in_ok-add.ensures.ok

pub returns-in-Ok-clause-more : goal.returns-in-Ok-clause-more
returns-in-Ok-clause-more c =
    let v : Cut = record (record { begun = c.self.inside.begun; index = c.self.inside.index; pending = c.self.inside.pending; place = c.self.inside.place }) { begun = c.add.new.self } in
    let more = entry_grown (record { begun = c.self.inside.begun; index = c.self.inside.index; pending = c.self.inside.pending; place = c.self.inside.place }) c.args.self.now (record { key = c.args.key.now; value = c.args.value.now }) c.add.new.self c.self.view_is c.in_ok-add.ensures.ok in
    let made = end_made v c.new.result c.end_open.new.index c.end_open.new.pending c.in-Ok.len c.new.ensures c.in-Ok.ensures.index c.in-Ok.ensures.pending c.in-Ok.ensures.len in
    omega (arith, ap size_of made, size_end v, more)
