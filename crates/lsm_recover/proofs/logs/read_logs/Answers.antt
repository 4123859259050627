-- Each exit, by what was replayed before it.
use Rattle.std.proofs.Common.{◌∙◌, ◌+◌, Ok, Err, rules, arith}
use Rattle.lsm_disk.specs.State.{Story}
use Rattle.lsm_recover.specs.Answers.{IsRefusedBy}
use Rattle.lsm_recover.specs.Listed.{IsListing}
use Rattle.lsm_recover.proofs.OpenLemmas.{where_told, told_that}
use Rattle.lsm_recover.proofs.LoopLemmas.{HasReplayed, Answers_one, whole, ended_in, refused_in, more_in}
use Rattle.lsm_recover.proofs.logs.read_logs.Goals as goal

pub returns-in_err-last-clause-answer : goal.returns-in_err-last-clause-answer
returns-in_err-last-clause-answer g c =
    let dir = c.args.dir.now in
    let entries = c.args.entries.now in
    let log = c.args.log in
    let start = c.args.last in
    let seen = g.D.Disk.seen in
    let told = (seen c.args.disk.now).told in
    let l = c.loop-number in
    let error = c.in_err-last.field-0.0 in
    let number = c.in-Some.number in
    let is_last = c.is_none-is_last.result in
    let after = c.read_log.new.rows in
    let refused = where_told told (λ (story : Story). IsListing dir story entries → IsRefusedBy (whole dir story log start) error)
    (λ story is listed.
    let so_far = told_that told (λ (x : Story). HasReplayed dir x entries log start l.least c.args.rows.now l.rows l.last) story is l.invariant.replayed in
    let says = told_that (seen l.disk).told (λ (x : Story). Answers_one dir x number is_last l.last l.rows after (Err error)) story (l.invariant.told ∙ is) c.in_err-last.ensures.answer in
    refused_in dir c.requires.room l.invariant.spells story entries log start l.least c.args.rows.now l.rows l.last so_far number c.in-Some.ensures.is is_last c.next_log-in-Some.result c.is_none-is_last.ensures c.next_log-in-Some.ensures.is listed error after says) in
    search (rules, refused)

pub loop-number-preserved : goal.loop-number-preserved
loop-number-preserved g c =
    let dir = c.args.dir.now in
    let entries = c.args.entries.now in
    let log = c.args.log in
    let start = c.args.last in
    let seen = g.D.Disk.seen in
    let told = (seen c.args.disk.now).told in
    let l = c.loop-number in
    let found = c.in_ok-last.last in
    let number = c.in-Some.number in
    let is_last = c.is_none-is_last.result in
    let after = c.read_log.new.rows in
    record {
      spells = l.invariant.spells;
      told = c.in_ok-last.ensures.told ∙ l.invariant.told;
      faults_later = omega (arith, l.invariant.faults_later, c.in_ok-last.ensures.cause.faults_later);
      refusals_later = omega (arith, l.invariant.refusals_later, c.in_ok-last.ensures.cause.refusals_later);
      replayed = where_told told (λ (story : Story). HasReplayed dir story entries log start (number + 1) c.args.rows.now after found)
          (λ story is.
          let so_far = told_that told (λ (x : Story). HasReplayed dir x entries log start l.least c.args.rows.now l.rows l.last) story is l.invariant.replayed in
          let says = told_that (seen l.disk).told (λ (x : Story). Answers_one dir x number is_last l.last l.rows after (Ok found)) story (l.invariant.told ∙ is) c.in_ok-last.ensures.answer in
          more_in dir c.requires.room l.invariant.spells story entries log start l.least c.args.rows.now l.rows l.last so_far number c.in-Some.ensures.is is_last c.next_log-in-Some.result c.is_none-is_last.ensures c.next_log-in-Some.ensures.is found after says);
    }

pub returns-clause-answer : goal.returns-clause-answer
returns-clause-answer g c =
    let dir = c.args.dir.now in
    let entries = c.args.entries.now in
    let log = c.args.log in
    let start = c.args.last in
    let told = (g.D.Disk.seen c.args.disk.now).told in
    let l = c.loop-number in
    where_told told _
    (λ story is listed.
    let so_far = told_that told (λ (x : Story). HasReplayed dir x entries log start l.least c.args.rows.now l.rows l.last) story is l.invariant.replayed in
    ended_in dir c.requires.room l.invariant.spells story entries log start l.least c.args.rows.now l.rows l.last so_far c.in_default.ensures.is listed)
