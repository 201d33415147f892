use Rattle.criteria.proofs.laws.sums_take_each_course_once.Goals as goal
use Rattle.criteria.proofs.Courses.{each_course_once, only_courses, sums_add}

pub returns : goal.returns
returns c = record { once = each_course_once; only = only_courses; sums = sums_add }
