use Rattle.std.proofs.Common.{arith}
use Rattle.std.proofs.lemmas.Bool.Decides.{nat_tests}
use Rattle.calendar.proofs.Parts.{number_below}
use Rattle.calendar.proofs.date.Date.new.Goals as goal

pub invariant_of-result : goal.invariant_of-result
invariant_of-result c = omega (arith, number_below c.in_ok-year.year.number c.args.month c.args.day (grind (arith, nat_tests)))
