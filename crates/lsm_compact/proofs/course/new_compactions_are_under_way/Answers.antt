use Rattle.lsm_compact.proofs.Courses.{course_begins}
use Rattle.lsm_compact.proofs.course.new_compactions_are_under_way.Goals as goal

pub returns : goal.returns
returns g c = course_begins g.P.TablePort.went g.P.TablePort.told g.P.TablePort.stays
