-- Each exit, by the tables that were opened before it.
use Rattle.std.proofs.Common.{◌≡◌, ◌∷◌, ◌∙◌, List, ℕ, true, sym, subst, rules, refl, arith}
use Rattle.std.specs.FinMap as finmap
use Rattle.lsm_names.specs.FileNames.{is_file_number}
use Rattle.lsm_disk.specs.State.{Story}
use Rattle.lsm_version.specs.declared.tables.Placed.{Placed}
use Rattle.lsm_recover.specs.Answers.{files_now}
use Rattle.lsm_recover.specs.Opening.{IsOpenOn}
use Rattle.lsm_recover.proofs.OpenLemmas.{where_told, told_that}
use Rattle.lsm_recover.proofs.OpenTablesLemmas.{HasOpened, open_begun, open_more}
use Rattle.lsm_recover.proofs.TablesLemmas.{Numbered, entries_numbered, entries_are, number_first, numbers_behind}
use Rattle.lsm_recover.proofs.open_tables.open_tables.Goals as goal

pub loop-number-init : goal.loop-number-init
loop-number-init g c =
    let dir = c.args.dir.now in
    let version = c.args.version.now in
    let tables = c.args.tables.now in
    let told = (g.D.Disk.seen c.args.disk.now).told in
    let es = c.tables-number-items.result.now.entries in
    let gives = c.into_iter-number-iterator.ensures.into_iter_gives in
    let all = entries_are version es c.tables-number-items.ensures (search rules) in
    record {
      told = refl;
      faults_later = omega arith;
      refusals_later = omega arith;
      numbered = subst Numbered (sym gives.0) (entries_numbered version es c.requires.numbered c.tables-number-items.ensures gives.6);
      opened = where_told told (λ (story : Story). HasOpened (files_now dir story) (finmap.entries version) c.into_iter-number-iterator.result tables tables)
          (λ story is. subst (λ (l : List (ℕ × Placed)). HasOpened (files_now dir story) (finmap.entries version) l tables tables) (sym (gives.0 ∙ all)) (open_begun (files_now dir story) (finmap.entries version) tables));
    }

pub open_table-requires-clause-number : goal.open_table-requires-clause-number
open_table-requires-clause-number g c =
    let step : c.loop-number.number-iterator ≡ (c.in-Some.number.now, c.in-Some.placed.now) ∷ c.next.new.self = search rules in
    let fits : is_file_number c.in-Some.number.now ≡ true = number_first c.loop-number.number-iterator c.next.new.self c.in-Some.number.now c.in-Some.placed.now step c.loop-number.invariant.numbered in
    search (rules, fits)

pub loop-number-preserved : goal.loop-number-preserved
loop-number-preserved g c =
    let dir = c.args.dir.now in
    let all = finmap.entries c.args.version.now in
    let seen = g.D.Disk.seen in
    let told = (seen c.args.disk.now).told in
    let l = c.loop-number in
    let e : ℕ × Placed = (c.in-Some.number.now, c.in-Some.placed.now) in
    let table = c.in_ok-table.table in
    let after = c.push.new.self in
    let step : l.number-iterator ≡ e ∷ c.next.new.self = search rules in
    record {
      told = c.in_ok-table.ensures.told ∙ l.invariant.told;
      faults_later = omega (arith, l.invariant.faults_later, c.in_ok-table.ensures.cause.faults_later);
      refusals_later = omega (arith, l.invariant.refusals_later, c.in_ok-table.ensures.cause.refusals_later);
      numbered = numbers_behind l.number-iterator c.next.new.self c.in-Some.number.now c.in-Some.placed.now step l.invariant.numbered;
      opened = where_told told (λ (story : Story). HasOpened (files_now dir story) all c.next.new.self c.args.tables.now after)
          (λ story is.
          let so_far = subst (λ (es : List (ℕ × Placed)). HasOpened (files_now dir story) all es c.args.tables.now l.tables) step
          (told_that told (λ (x : Story). HasOpened (files_now dir x) all l.number-iterator c.args.tables.now l.tables) story is l.invariant.opened) in
          let opens = told_that (seen l.disk).told (λ (x : Story). IsOpenOn (files_now dir x) e.0 e.1 table) story (l.invariant.told ∙ is) c.in_ok-table.ensures.opened in
          open_more (files_now dir story) all e c.next.new.self c.args.tables.now l.tables so_far table after opens c.in_default.ensures.ok);
    }
