-- Each table is read behind those before it.
use Rattle.std.specs.Prelude.{◌≡◌, ℕ, ◌∷◌, ◌++◌, [], List, Result, Ok, Err}
use Rattle.std.proofs.Common.{refl, sym, ap, ◌∙◌, arith, rules, subst}
use Rattle.lsm_rows.specs.declared.rows.Row.{Row}
use Rattle.lsm_version.specs.declared.tables.Placed.{Placed}
use Rattle.lsm_folder.specs.Parts.{rows_of_tables}
use Rattle.lsm_model.specs.declared.errors.StoreError.{StoreError}
use Rattle.lsm_core.specs.Reading.{Reads, seen_with}
use Rattle.lsm_core.proofs.ReadLemmas.{reads_nothing, reads_then, reads_refusal, reads_so}
use Rattle.lsm_core.proofs.WholeRows.{AreLive, rows_in, live_entries, all_to_read, live_first, live_rest, read_more, all_read}
use Rattle.lsm_core.proofs.scanning.rows_of_tables.Goals as goal

pub loop-number-init : goal.loop-number-init
loop-number-init g c =
    let version = c.args.version.now in
    let es = c.tables-number-items.result.now.entries in
    let gives = c.into_iter-number-iterator.ensures.into_iter_gives in
    let none : c.new-all.result.items ≡ [] = search rules in
    record {
      live = subst (AreLive version) (sym gives.0) (live_entries version es c.tables-number-items.ensures gives.6);
      reads = reads_nothing c.args.home.now version (g.D.Disk.seen c.args.disk.now) (g.D.Disk.seen c.args.disk.now)
          c.args.tables.now
          (λ rows value. rows_of_tables version rows ≡ c.new-all.result.items ++ rows_in rows c.into_iter-number-iterator.result)
          tt refl (omega arith) (omega arith)
          (λ rows t.
          all_to_read version es c.tables-number-items.ensures (search rules) c.into_iter-number-iterator.result gives.0 rows
          ∙ ap (λ (l : List Row). l ++ rows_in rows c.into_iter-number-iterator.result) (sym none));
    }

pub loop-number-preserved : goal.loop-number-preserved
loop-number-preserved g c =
    let version = c.args.version.now in
    let l = c.loop-number in
    let number : ℕ = c.in-Some.number.now in
    let placed : Placed = c.in-Some.placed.now in
    let step : l.number-iterator ≡ (number, placed) ∷ c.next.new.self = search rules in
    record {
      live = live_rest version l.number-iterator c.next.new.self number placed step l.invariant.live;
      reads = reads_then (seen_with (g.D.Disk.seen c.args.disk.now) c.args.home.now version c.args.tables.now)
          (seen_with (g.D.Disk.seen l.disk) c.args.home.now version l.tables)
          (seen_with (g.D.Disk.seen c.add_rows.new.disk) c.args.home.now version c.add_rows.new.tables)
          (λ rows value. rows_of_tables version rows ≡ l.all.items ++ rows_in rows l.number-iterator)
          (λ rows value. c.add_rows.new.all.items ≡ l.all.items ++ rows number)
          (λ rows value. rows_of_tables version rows ≡ c.add_rows.new.all.items ++ rows_in rows c.next.new.self)
          tt (Ok tt) l.invariant.reads
          (c.in-Ok.ensures version (live_first version l.number-iterator c.next.new.self number placed step l.invariant.live))
          (λ rows value first second.
          read_more version l.number-iterator c.next.new.self number placed step rows (rows_of_tables version rows) l.all.items
          c.add_rows.new.all.items first second);
    }

pub returns-in-Err : goal.returns-in-Err
returns-in-Err g c =
    let version = c.args.version.now in
    let l = c.loop-number in
    let number : ℕ = c.in-Some.number.now in
    let placed : Placed = c.in-Some.placed.now in
    let step : l.number-iterator ≡ (number, placed) ∷ c.next.new.self = search rules in
    reads_refusal (λ rows value. Unit {0}) (λ rows all. all ≡ rows_of_tables version rows)
    (seen_with (g.D.Disk.seen c.args.disk.now) c.args.home.now version c.args.tables.now)
    (seen_with (g.D.Disk.seen c.add_rows.new.disk) c.args.home.now version c.add_rows.new.tables)
    c.in-Err.refused
    (reads_then (seen_with (g.D.Disk.seen c.args.disk.now) c.args.home.now version c.args.tables.now)
    (seen_with (g.D.Disk.seen l.disk) c.args.home.now version l.tables)
    (seen_with (g.D.Disk.seen c.add_rows.new.disk) c.args.home.now version c.add_rows.new.tables)
    (λ rows value. rows_of_tables version rows ≡ l.all.items ++ rows_in rows l.number-iterator)
    (λ rows value. c.add_rows.new.all.items ≡ l.all.items ++ rows number)
    (λ rows value. Unit {0})
    tt (Err c.in-Err.refused) l.invariant.reads
    (c.in-Err.ensures version (live_first version l.number-iterator c.next.new.self number placed step l.invariant.live))
    (λ rows value first second. tt))

pub returns : goal.returns
returns g c =
    let version = c.args.version.now in
    let l = c.loop-number in
    reads_so (λ rows value. rows_of_tables version rows ≡ l.all.items ++ rows_in rows l.number-iterator)
    (λ rows all. all ≡ rows_of_tables version rows)
    (seen_with (g.D.Disk.seen c.args.disk.now) c.args.home.now version c.args.tables.now)
    (seen_with (g.D.Disk.seen l.disk) c.args.home.now version l.tables) tt c.from_vec.result l.invariant.reads
    (λ rows so_far. c.from_vec.ensures ∙ all_read rows (rows_of_tables version rows) l.all.items l.number-iterator (search rules) so_far)
