use Rattle.std.proofs.Common.{◌+◌, rules, sym, ap, ◌∙◌, subst, List}
use Rattle.bk_meta.specs.declared.metas.MetaFile.{MetaFile}
use Rattle.bk_meta.specs.Lines.{IsBad}
use Rattle.bk_meta.specs.Metas.{ends_at}
use Rattle.bk_meta.proofs.MetaLemmas.{IsBegun, bad_timestamp, bad_sequence, bad_line, bad_metadata, bad_count, bad_files, bad_end, whole_meta}
use Rattle.bk_meta.proofs.reading.read_meta.Goals as goal

pub returns-in_err-timestamp-clause-bad : goal.returns-in_err-timestamp-clause-bad
returns-in_err-timestamp-clause-bad c =
    let bad = bad_timestamp c.args.id c.args.bytes.now c.in_err-timestamp.field-0.0 c.in_err-timestamp.ensures.bad in
    search (rules, bad)

pub returns-in_err-sequence-clause-bad : goal.returns-in_err-sequence-clause-bad
returns-in_err-sequence-clause-bad c =
    let bad = bad_sequence c.args.id c.in_ok-timestamp.timestamp c.args.bytes.now c.in_ok-timestamp.second.now c.in_err-sequence.field-0.0 c.in_ok-timestamp.ensures.ok c.in_err-sequence.ensures.bad in
    search (rules, bad)

pub returns-in_err-line-clause-bad : goal.returns-in_err-line-clause-bad
returns-in_err-line-clause-bad c =
    let bad = bad_line c.args.id c.in_ok-timestamp.timestamp c.in_ok-sequence.sequence c.args.bytes.now c.in_ok-timestamp.second.now c.in_ok-sequence.third.now c.in_err-line.field-0.0
    c.in_ok-timestamp.ensures.ok c.in_ok-sequence.ensures.ok c.in_err-line.ensures.bad in
    search (rules, bad)

pub returns-in_err-metadata-clause-bad : goal.returns-in_err-metadata-clause-bad
returns-in_err-metadata-clause-bad c =
    let bad = bad_metadata c.args.id c.in_ok-timestamp.timestamp c.in_ok-sequence.sequence c.args.bytes.now c.in_ok-timestamp.second.now c.in_ok-sequence.third.now c.in_ok-line.line.now c.in_ok-line.fourth.now c.in_err-metadata.field-0.0
    c.in_ok-timestamp.ensures.ok c.in_ok-sequence.ensures.ok c.in_ok-line.ensures.ok c.in_err-metadata.ensures.bad in
    search (rules, bad)

pub returns-in_err-count-clause-bad : goal.returns-in_err-count-clause-bad
returns-in_err-count-clause-bad c =
    let begun : IsBegun c.args.bytes.now c.in_ok-timestamp.timestamp c.in_ok-sequence.sequence c.in_ok-metadata.metadata c.behind_metadata-line.result.0 c.behind_metadata-line.result.1.now = record {
      second = c.in_ok-timestamp.second.now;
      third = c.in_ok-sequence.third.now;
      line = c.in_ok-line.line.now;
      fourth = c.in_ok-line.fourth.now;
      first_is = c.in_ok-timestamp.ensures.ok;
      second_is = c.in_ok-sequence.ensures.ok;
      third_is = c.in_ok-line.ensures.ok;
      metadata_is = c.in_ok-metadata.ensures.ok;
      at_is = c.behind_metadata-line.ensures.line;
      rest_is = c.behind_metadata-line.ensures.text;
    } in
    let bad = bad_count c.args.id c.in_ok-timestamp.timestamp c.in_ok-sequence.sequence c.behind_metadata-line.result.0 c.args.bytes.now c.in_ok-metadata.metadata c.behind_metadata-line.result.1.now c.in_err-count.field-0.0 begun c.in_err-count.ensures.bad in
    search (rules, bad)

pub returns-in_err-files-clause-bad : goal.returns-in_err-files-clause-bad
returns-in_err-files-clause-bad c =
    let begun : IsBegun c.args.bytes.now c.in_ok-timestamp.timestamp c.in_ok-sequence.sequence c.in_ok-metadata.metadata c.behind_metadata-line.result.0 c.behind_metadata-line.result.1.now = record {
      second = c.in_ok-timestamp.second.now;
      third = c.in_ok-sequence.third.now;
      line = c.in_ok-line.line.now;
      fourth = c.in_ok-line.fourth.now;
      first_is = c.in_ok-timestamp.ensures.ok;
      second_is = c.in_ok-sequence.ensures.ok;
      third_is = c.in_ok-line.ensures.ok;
      metadata_is = c.in_ok-metadata.ensures.ok;
      at_is = c.behind_metadata-line.ensures.line;
      rest_is = c.behind_metadata-line.ensures.text;
    } in
    let bad = bad_files c.args.id c.in_ok-timestamp.timestamp c.in_ok-sequence.sequence c.behind_metadata-line.result.0 c.in_ok-count.count c.args.bytes.now c.in_ok-metadata.metadata c.behind_metadata-line.result.1.now c.in_ok-count.rest.now c.in_err-files.field-0.0 begun
    c.in_ok-count.ensures.ok c.in_err-files.ensures.bad in
    search (rules, bad)

pub returns-in_err-check_end-clause-bad : goal.returns-in_err-check_end-clause-bad
returns-in_err-check_end-clause-bad c =
    let begun : IsBegun c.args.bytes.now c.in_ok-timestamp.timestamp c.in_ok-sequence.sequence c.in_ok-metadata.metadata c.behind_metadata-line.result.0 c.behind_metadata-line.result.1.now = record {
      second = c.in_ok-timestamp.second.now;
      third = c.in_ok-sequence.third.now;
      line = c.in_ok-line.line.now;
      fourth = c.in_ok-line.fourth.now;
      first_is = c.in_ok-timestamp.ensures.ok;
      second_is = c.in_ok-sequence.ensures.ok;
      third_is = c.in_ok-line.ensures.ok;
      metadata_is = c.in_ok-metadata.ensures.ok;
      at_is = c.behind_metadata-line.ensures.line;
      rest_is = c.behind_metadata-line.ensures.text;
    } in
    let bad = bad_end c.args.id c.in_ok-timestamp.timestamp c.in_ok-sequence.sequence c.behind_metadata-line.result.0 c.in_ok-count.count c.args.bytes.now c.in_ok-metadata.metadata c.behind_metadata-line.result.1.now c.in_ok-count.rest.now c.in_ok-files.rest.now c.in_ok-files.files c.in_err-check_end.field-0.0 begun
    c.in_ok-count.ensures.ok c.in_ok-files.ensures.ok (subst (λ (fs : List MetaFile). IsBad (ends_at c.args.id (c.behind_metadata-line.result.0 + c.in_ok-count.count) fs c.in_ok-files.rest.now) c.in_err-check_end.field-0.0) c.as_slice.ensures c.in_err-check_end.ensures.bad) in
    search (rules, bad)

pub returns-clause-ok : goal.returns-clause-ok
returns-clause-ok c =
    let begun : IsBegun c.args.bytes.now c.in_ok-timestamp.timestamp c.in_ok-sequence.sequence c.in_ok-metadata.metadata c.behind_metadata-line.result.0 c.behind_metadata-line.result.1.now = record {
      second = c.in_ok-timestamp.second.now;
      third = c.in_ok-sequence.third.now;
      line = c.in_ok-line.line.now;
      fourth = c.in_ok-line.fourth.now;
      first_is = c.in_ok-timestamp.ensures.ok;
      second_is = c.in_ok-sequence.ensures.ok;
      third_is = c.in_ok-line.ensures.ok;
      metadata_is = c.in_ok-metadata.ensures.ok;
      at_is = c.behind_metadata-line.ensures.line;
      rest_is = c.behind_metadata-line.ensures.text;
    } in
    whole_meta c.args.id c.in_ok-timestamp.timestamp c.in_ok-sequence.sequence c.behind_metadata-line.result.0 c.in_ok-count.count c.args.bytes.now c.in_ok-metadata.metadata c.behind_metadata-line.result.1.now c.in_ok-count.rest.now c.in_ok-files.rest.now c.in_ok-files.files begun
    c.in_ok-count.ensures.ok c.in_ok-files.ensures.ok (ap (λ (fs : List MetaFile). ends_at c.args.id (c.behind_metadata-line.result.0 + c.in_ok-count.count) fs c.in_ok-files.rest.now) (sym c.as_slice.ensures) ∙ c.in_ok-check_end.ensures.ok)
