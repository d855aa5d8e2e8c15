use Rattle.std.proofs.Common.{arith}
use Rattle.std.proofs.lemmas.Grind.{common_steps}
use Rattle.amounts.proofs.Units.{some_units}
use Rattle.amounts.proofs.amount.Amount.within_one_percent.Goals as goal

pub returns-then-self-other : goal.returns-then-self-other
returns-then-self-other c =
    let p = some_units c.args.self.now in
    let q = some_units c.args.other.now in
    grind (arith, common_steps)

pub returns-then-within : goal.returns-then-within
returns-then-within c =
    let p = some_units c.args.self.now in
    let q = some_units c.args.other.now in
    grind (arith, common_steps)
