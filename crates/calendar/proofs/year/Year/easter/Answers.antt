use Rattle.std.proofs.Common.{arith}
use Rattle.calendar.proofs.EasterRule.{easter_below, rule_is}
use Rattle.calendar.proofs.year.Year.easter.Goals as goal

pub invariant_of-result : goal.invariant_of-result
invariant_of-result c =
    let y = c.args.self in
    omega (arith, rule_is y.number y.first y.last, easter_below y.number y.first y.last)

pub returns : goal.returns
returns c = omega (arith, rule_is c.args.self.number c.args.self.first c.args.self.last)
