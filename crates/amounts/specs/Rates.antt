-- What an `ExchangeRate` is worth, in units.
use Rattle.std.specs.Prelude.{ℤ}
use Rattle.amounts.specs.declared.amount.rate.ExchangeRate.{ExchangeRate}
use Rattle.amounts.specs.Amounts.{worth}

abbrev pub rate_worth : ExchangeRate → ℤ
rate_worth r = worth r.amount
