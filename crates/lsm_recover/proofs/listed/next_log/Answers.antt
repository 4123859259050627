use Rattle.std.proofs.Common.{ℕ, ◌≤◌, IsTrue}
use Rattle.lsm_names.specs.FileNames.{is_file_number}
use Rattle.lsm_recover.proofs.ListedLemmas.{found_more, found_all, lesser_has}
use Rattle.lsm_recover.proofs.listed.next_log.Goals as goal

pub loop-entry-preserved : goal.loop-entry-preserved
loop-entry-preserved c =
    let before = c.loop-entry.invariant in
    let here = c.log_in.result in
    let next = c.lesser-found.result in
    record {
      found = found_more c.args.least c.args.entries.now c.loop-entry.entry-index c.loop-entry.found before.found c.entry-item.result here next c.loop-entry-test.true c.entry-item.is c.log_in.ensures.is c.lesser-found.ensures;
      fits = lesser_has (λ (n : ℕ). IsTrue (is_file_number n)) c.loop-entry.found here next before.fits c.log_in.ensures.number c.lesser-found.ensures;
      live = lesser_has (λ (n : ℕ). c.args.least ≤ n) c.loop-entry.found here next before.live c.log_in.ensures.later c.lesser-found.ensures;
    }

pub returns-clause-is : goal.returns-clause-is
returns-clause-is c = found_all c.args.least c.args.entries.now c.loop-entry.entry-index c.loop-entry.found c.loop-entry.invariant.found c.loop-entry-test.false
