-- Each exit, by the tables that were read before it.
use Rattle.std.proofs.Common.{◌≡◌, ◌∷◌, ◌∙◌, List, ℕ, true, sym, subst, rules, refl, arith}
use Rattle.std.specs.FinMap as finmap
use Rattle.lsm_names.specs.FileNames.{is_file_number}
use Rattle.lsm_disk.specs.State.{Story}
use Rattle.lsm_version.specs.declared.tables.Placed.{Placed}
use Rattle.lsm_folder.specs.Reading.{table_of}
use Rattle.lsm_recover.specs.Answers.{files_now}
use Rattle.lsm_recover.specs.Tables.{GathersTable}
use Rattle.lsm_recover.proofs.OpenLemmas.{where_told, told_that}
use Rattle.lsm_recover.proofs.TablesLemmas.{HasRead, Numbered, read_begun, read_more, entries_numbered, entries_are, number_first, numbers_behind}
use Rattle.lsm_recover.proofs.tables.read_tables.Goals as goal

pub loop-number-init : goal.loop-number-init
loop-number-init g c =
    let dir = c.args.dir.now in
    let version = c.args.version.now in
    let told = (g.D.Disk.seen c.args.disk.now).told in
    let es = c.tables-number-items.result.now.entries in
    let gives = c.into_iter-number-iterator.ensures.into_iter_gives in
    let all = entries_are version es c.tables-number-items.ensures (search rules) in
    record {
      told = refl;
      faults_later = omega arith;
      refusals_later = omega arith;
      numbered = subst Numbered (sym gives.0) (entries_numbered version es c.requires.numbered c.tables-number-items.ensures gives.6);
      read = where_told told (λ (story : Story). HasRead (files_now dir story) (finmap.entries version) c.into_iter-number-iterator.result c.args.rows.now c.args.rows.now)
          (λ story is. subst (λ (l : List (ℕ × Placed)). HasRead (files_now dir story) (finmap.entries version) l c.args.rows.now c.args.rows.now) (sym (gives.0 ∙ all)) (read_begun (files_now dir story) (finmap.entries version) c.args.rows.now));
    }

pub read_table-requires-clause-number : goal.read_table-requires-clause-number
read_table-requires-clause-number g c =
    let step : c.loop-number.number-iterator ≡ (c.in-Some.number.now, c.in-Some.placed.now) ∷ c.next.new.self = search rules in
    let fits : is_file_number c.in-Some.number.now ≡ true = number_first c.loop-number.number-iterator c.next.new.self c.in-Some.number.now c.in-Some.placed.now step c.loop-number.invariant.numbered in
    search (rules, fits)

pub loop-number-preserved : goal.loop-number-preserved
loop-number-preserved g c =
    let dir = c.args.dir.now in
    let all = finmap.entries c.args.version.now in
    let seen = g.D.Disk.seen in
    let told = (seen c.args.disk.now).told in
    let l = c.loop-number in
    let table : ℕ × Placed = (c.in-Some.number.now, c.in-Some.placed.now) in
    let after = c.read_table.new.rows in
    let step : l.number-iterator ≡ table ∷ c.next.new.self = search rules in
    record {
      told = c.in_ok-read_table.ensures.told ∙ l.invariant.told;
      faults_later = omega (arith, l.invariant.faults_later, c.in_ok-read_table.ensures.cause.faults_later);
      refusals_later = omega (arith, l.invariant.refusals_later, c.in_ok-read_table.ensures.cause.refusals_later);
      numbered = numbers_behind l.number-iterator c.next.new.self c.in-Some.number.now c.in-Some.placed.now step l.invariant.numbered;
      read = where_told told (λ (story : Story). HasRead (files_now dir story) all c.next.new.self c.args.rows.now after)
          (λ story is.
          let so_far = subst (λ (es : List (ℕ × Placed)). HasRead (files_now dir story) all es c.args.rows.now l.rows) step
          (told_that told (λ (x : Story). HasRead (files_now dir x) all l.number-iterator c.args.rows.now l.rows) story is l.invariant.read) in
          let says = told_that (seen l.disk).told (λ (x : Story). GathersTable (table_of (files_now dir x) table.0 table.1) l.rows after) story (l.invariant.told ∙ is) c.in_ok-read_table.ensures.answer in
          read_more (files_now dir story) all table c.next.new.self c.args.rows.now l.rows so_far after says);
    }
