use Rattle.std.proofs.Common.{arith, rules}
use Rattle.std.specs.Option.{option_map}
use Rattle.std.specs.Result.{result_ok}
use Rattle.amounts.specs.Rates.{rate_worth}
use Rattle.amounts.proofs.Spelling.{reads_as}
use Rattle.amounts.proofs.amount.rate.ExchangeRate.read.Goals as goal

pub returns-in_err-amount-clause-plain : goal.returns-in_err-amount-clause-plain
returns-in_err-amount-clause-plain c =
    reads_as 10 c.args.text.now (option_map rate_worth (result_ok c.from_residual.result)) (search rules) (omega arith)
