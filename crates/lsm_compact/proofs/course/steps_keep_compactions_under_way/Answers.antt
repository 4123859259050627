use Rattle.lsm_compact.proofs.Courses.{course_goes_on}
use Rattle.lsm_compact.proofs.course.steps_keep_compactions_under_way.Goals as goal

pub returns : goal.returns
returns g c = λ start before now tables choice old new fault count under_way kept moved sound.
    course_goes_on g.P.TablePort.went g.P.TablePort.told start before now tables choice old new fault count kept.rows under_way
    moved sound
