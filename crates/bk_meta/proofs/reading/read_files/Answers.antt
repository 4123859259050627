use Rattle.std.proofs.Common.{◌≡◌, sym, rules, refl, ◌++◌, ◌+◌, ◌∷◌, []}
use Rattle.bk_meta.proofs.ReadingLemmas.{no_files, files_step, files_end_line, files_end_file, last_path_push, files_ascend, files_named}
use Rattle.bk_meta.proofs.reading.read_files.Goals as goal

pub loop-index-init : goal.loop-index-init
loop-index-init c = record {
  read = rw c.new-files.ensures (no_files c.args.id c.args.first c.args.text.now);
  last = rw c.new-files.ensures refl;
}

pub returns-in_err-line-clause-bad : goal.returns-in_err-line-clause-bad
returns-in_err-line-clause-bad c =
    let bad = files_end_line c.args.id c.args.first c.loop-index.index c.args.count c.args.text.now c.loop-index.rest.now c.loop-index.files c.in_err-line.field-0.0
    c.loop-index-test.true c.loop-index.invariant.read c.in_err-line.ensures.bad in
    search (rules, bad)

pub returns-in_err-file-clause-bad : goal.returns-in_err-file-clause-bad
returns-in_err-file-clause-bad c =
    let bad = files_end_file c.args.id c.args.first c.loop-index.index c.args.count c.args.text.now c.loop-index.rest.now c.in_ok-line.line.now c.in_ok-line.behind.now c.loop-index.files c.loop-index.last c.in_err-file.field-0.0
    c.loop-index-test.true c.loop-index.invariant.read c.loop-index.invariant.last c.in_ok-line.ensures.ok c.in_err-file.ensures.bad in
    search (rules, bad)

pub loop-index-preserved : goal.loop-index-preserved
loop-index-preserved c =
    let pushed : c.push.new.self ≡ c.loop-index.files ++ c.in_ok-file.file ∷ [] = search rules in
    record {
      read =
          rw pushed
          (files_step c.args.id c.args.first c.loop-index.index (c.loop-index.index + 1) c.args.text.now c.loop-index.rest.now c.in_ok-line.line.now c.in_ok-line.behind.now c.loop-index.files c.loop-index.last c.in_ok-file.file
          c.loop-index.invariant.read c.loop-index.invariant.last c.in_ok-line.ensures.ok c.in_ok-file.ensures.ok refl);
      last = rw pushed (sym (last_path_push c.loop-index.files c.in_ok-file.file));
    }

pub returns-clause-ascending : goal.returns-clause-ascending
returns-clause-ascending c =
    files_ascend c.args.id c.args.first c.loop-index.index c.args.text.now c.loop-index.rest.now c.loop-index.files c.loop-index.invariant.read

pub returns-clause-named : goal.returns-clause-named
returns-clause-named c =
    files_named c.args.id c.args.first c.loop-index.index c.args.text.now c.loop-index.rest.now c.loop-index.files c.loop-index.invariant.read
