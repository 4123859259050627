use Rattle.std.proofs.Common.{List, ℕ, ◌∙◌, subst}
use Rattle.lsm_block.specs.declared.entries.Entry.{Entry}
use Rattle.lsm_frame.specs.Reader.{Tells}
use Rattle.lsm_recover.specs.Tables.{GathersBlock}
use Rattle.lsm_recover.proofs.WalkedLemmas.{walking_more}
use Rattle.lsm_recover.proofs.tables.walk.Goals as goal

pub loop-nth-preserved : goal.loop-nth-preserved
loop-nth-preserved g c =
    let l = c.loop-nth in
    record {
      index = c.in_ok-read_nth.ensures.index ∙ l.invariant.index;
      walking = walking_more c.args.table.now.index c.args.table.now.viewed l.table.viewed l.nth c.args.rows.now l.rows l.invariant.walking c.read_nth.new.table.viewed c.read_nth.new.rows c.in_ok-read_nth.ensures.view
          (subst (λ (index : List Entry). (text : List ℕ) → Tells l.table.viewed text → GathersBlock text index l.nth l.rows c.read_nth.new.rows) l.invariant.index c.in_ok-read_nth.ensures.read);
    }
