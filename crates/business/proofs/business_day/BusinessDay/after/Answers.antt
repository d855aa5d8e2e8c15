use Rattle.std.proofs.Common.{arith}
use Rattle.std.proofs.lemmas.Bool.Decides.{nat_tests}
use Rattle.business.specs.TargetDays.{next_business}
use Rattle.business.proofs.Following.{next_first}
use Rattle.business.proofs.business_day.BusinessDay.after.Goals as goal

pub returns-clause-plain : goal.returns-clause-plain
unfolding next_business
returns-clause-plain c = next_first _ _ c.args.date.within (grind (arith, nat_tests))
