use Rattle.ldb_script.proofs.Answered.{made_text, found_answers, unshown_answers}
use Rattle.lsm_recover.specs.Shown.{shown}
use Rattle.ldb_script.specs.Printed.{folder_text}
use Rattle.ldb_script.proofs.showing.answer_show.Goals as goal

pub returns-in-Ok-clause-done : goal.returns-in-Ok-clause-done
returns-in-Ok-clause-done g c start outcome was =
    found_answers start c.args.store.now c.show.new.self outcome c.args.name.now (c.in-Ok.ensures.stands start outcome was) c.in-Ok.found c.made.result (c.in-Ok.ensures.shown start outcome was)
    (made_text (folder_text (shown c.in-Ok.found)) c.folder_text.result c.made.result c.folder_text.ensures c.made.ensures)

pub returns-in-Err-clause-done : goal.returns-in-Err-clause-done
returns-in-Err-clause-done g c start outcome was =
    unshown_answers start c.args.store.now c.show.new.self outcome c.args.name.now (c.in-Err.ensures.stands start outcome was) c.in-Err.why c.unshown.result (c.in-Err.ensures.shown start outcome was) c.in-Err.ensures.cause.counted c.unshown.ensures
