use Rattle.lsm_compact.proofs.Courses.{course_ends}
use Rattle.lsm_compact.proofs.course.ended_compactions_have_made_their_edit.Goals as goal

pub returns : goal.returns
returns g c =
    λ start before now tables rows choice old new edit count told order listed closed course kept ended sound.
    course_ends g.P.TablePort.went g.P.TablePort.told start before now tables rows choice old new edit count told kept.rows
    order listed closed course ended sound
