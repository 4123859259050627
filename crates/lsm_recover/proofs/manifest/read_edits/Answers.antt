-- Each exit, by where the reader stands.
use Rattle.std.proofs.Common.{List, ◌≡◌, ◌∙◌, ℕ, Ok, sym, subst}
use Rattle.std.proofs.lemmas.Result.{err_from_is_err_and}
use Rattle.lsm_frame.proofs.Going.{stays_trans}
use Rattle.lsm_folder.specs.Manifests.{edits_said}
use Rattle.lsm_folder.proofs.RecordLemmas.{EditsRead, next_ended, next_torn, next_record, next_given, still_tells}
use Rattle.lsm_recover.specs.declared.errors.FolderError.{FolderError}
use Rattle.lsm_recover.specs.Answers.{IsRefusedBy}
use Rattle.lsm_recover.specs.Stated.{said_so_far}
use Rattle.lsm_recover.proofs.ManifestLemmas.{reads_begun, record_more, record_refused, end_answer, frame_refused}
use Rattle.lsm_recover.proofs.manifest.read_edits.Goals as goal

pub loop-text-init : goal.loop-text-init
loop-text-init g c = reads_begun c.args.name c.args.reader.now c.requires

pub loop-text-preserved : goal.loop-text-preserved
loop-text-preserved g c =
    let start = c.args.reader.now in
    let before = c.loop-text.invariant in
    let given = c.loop-text.reader.given in
    let read = c.in_ok-read_edit-in-Ok-Record.ensures.ok before.edits before.are in
    let said : said_so_far c.args.name c.next.new.self.place c.in-Ok-Record.text before.edits ≡ Ok read.0 =
    (λ i. said_so_far c.args.name (sym c.place-place.ensures i) (sym (c.as_slice.ensures ∙ c.in-Ok-Record.text-is) i) before.edits) ∙ read.1 in
    record {
      stays = stays_trans start.viewed c.loop-text.reader.viewed c.next.new.self.viewed before.stays c.in-Ok-Record.ensures.view;
      edits = read.0;
      are = read.2;
      read = λ text tells.
          let here = still_tells text start.viewed c.loop-text.reader.viewed tells before.stays in
          let stands = next_record text given c.in-Ok-Record.field-0 c.next.new.self.place c.in-Ok-Record.text c.in-Ok-Record.field-0-is (c.in-Ok-Record.ensures.record text here) in
          let count = next_given text given c.in-Ok-Record.field-0 c.next.new.self.given c.in-Ok-Record.text c.in-Ok-Record.field-0-is c.in-Ok-Record.ensures.given in
          subst (λ (n : ℕ). EditsRead c.args.name text n read.0) (sym count)
          (record_more c.args.name text given before.edits c.next.new.self.place c.in-Ok-Record.text (before.read text tells) stands read.0 said);
      sound = c.in_ok-read_edit-in-Ok-Record.ensures.sound;
    }

pub returns-in_err-read_edit-in-Ok-Record-clause-answer : goal.returns-in_err-read_edit-in-Ok-Record-clause-answer
returns-in_err-read_edit-in-Ok-Record-clause-answer g c =
    let before = c.loop-text.invariant in
    let given = c.loop-text.reader.given in
    let error = c.in_err-read_edit-in-Ok-Record.field-0.0 in
    let refused : IsRefusedBy (said_so_far c.args.name c.next.new.self.place c.in-Ok-Record.text before.edits) error =
    subst (λ (place : ℕ). IsRefusedBy (said_so_far c.args.name place c.in-Ok-Record.text before.edits) error) c.place-place.ensures
    (subst (λ (payload : List ℕ). IsRefusedBy (said_so_far c.args.name c.place-place.result payload before.edits) error) (c.as_slice.ensures ∙ c.in-Ok-Record.text-is)
    (c.in_err-read_edit-in-Ok-Record.ensures.refused before.edits before.are)) in
    let p = err_from_is_err_and c.from_residual.result c.from_residual.ensures.1 in
    rw (p.1, p.2) (λ text tells.
    let here = still_tells text c.args.reader.now.viewed c.loop-text.reader.viewed tells before.stays in
    let stands = next_record text given c.in-Ok-Record.field-0 c.next.new.self.place c.in-Ok-Record.text c.in-Ok-Record.field-0-is (c.in-Ok-Record.ensures.record text here) in
    record_refused c.args.name text given before.edits c.next.new.self.place c.in-Ok-Record.text (before.read text tells) stands error refused)

pub returns-in-Ok-End-clause-answer : goal.returns-in-Ok-End-clause-answer
returns-in-Ok-End-clause-answer g c = λ text tells.
    let before = c.loop-text.invariant in
    let here = still_tells text c.args.reader.now.viewed c.loop-text.reader.viewed tells before.stays in
    end_answer c.args.name text c.loop-text.reader.given before.edits c.loop-text.stated before.are (before.read text tells)
    (next_ended c.args.name text c.loop-text.reader.given before.edits c.in-Ok-End.field-0 c.in-Ok-End.field-0-is (c.in-Ok-End.ensures.end text here)) c.some_stated.result c.some_stated.ensures.stated c.some_stated.ensures.refused

pub returns-in-Ok-Torn-clause-answer : goal.returns-in-Ok-Torn-clause-answer
returns-in-Ok-Torn-clause-answer g c = λ text tells.
    let before = c.loop-text.invariant in
    let here = still_tells text c.args.reader.now.viewed c.loop-text.reader.viewed tells before.stays in
    end_answer c.args.name text c.loop-text.reader.given before.edits c.loop-text.stated before.are (before.read text tells)
    (next_torn c.args.name text c.loop-text.reader.given before.edits c.in-Ok-Torn.field-0 _ c.in-Ok-Torn.field-0-is (c.in-Ok-Torn.ensures.end text here)) c.some_stated-in-Ok-Torn.result c.some_stated-in-Ok-Torn.ensures.stated c.some_stated-in-Ok-Torn.ensures.refused

pub returns-in-Err-clause-answer : goal.returns-in-Err-clause-answer
returns-in-Err-clause-answer g c = λ text tells.
    let before = c.loop-text.invariant in
    let here = still_tells text c.args.reader.now.viewed c.loop-text.reader.viewed tells before.stays in
    subst (λ (e : FolderError). IsRefusedBy (edits_said c.args.name text) e) (sym c.error_of.ensures)
    (frame_refused c.args.name text c.loop-text.reader.given before.edits c.in-Err.error (before.read text tells) (c.in-Err.ensures.end text here))
