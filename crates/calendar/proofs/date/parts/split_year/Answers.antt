use Rattle.std.proofs.Common.{arith}
use Rattle.calendar.proofs.Parts.{in_year}
use Rattle.calendar.proofs.date.parts.split_year.Goals as goal

pub overflow_sub-result : goal.overflow_sub-result
overflow_sub-result c = (in_year _ _ _ c.args.date.within (omega arith) c.first_day.ensures.value).begun

pub returns-clause-year : goal.returns-clause-year
returns-clause-year c = (in_year _ _ _ c.args.date.within (omega arith) c.first_day.ensures.value).year

pub returns-clause-days : goal.returns-clause-days
returns-clause-days c = (in_year _ _ _ c.args.date.within (omega arith) c.first_day.ensures.value).days

pub returns-clause-within : goal.returns-clause-within
returns-clause-within c = (in_year _ _ _ c.args.date.within (omega arith) c.first_day.ensures.value).within
