-- Laws of amounts and of the checks on them.
use Rattle.std.specs.Prelude.{◌≡◌, ℤ, Some, Decides}
use Rattle.amounts.specs.declared.amount.Amount.{Amount}
use Rattle.amounts.specs.declared.amount.rate.ExchangeRate.{ExchangeRate}
use Rattle.amounts.specs.Amounts.{worth}
use Rattle.amounts.specs.Checks.{same, within_one_percent, same_whole}
use Rattle.amounts.specs.Decimal.{amount_of}
use Rattle.amounts.specs.Rates.{rate_worth}
use Rattle.amounts.specs.Shortest.{shortest}

pub record AmountLaws : Type 0 where
  -- amounts of one worth are one, and so are exchange rates
  pub one_form : (a b : Amount) → worth a ≡ worth b → a ≡ b
  pub rate_form : (r s : ExchangeRate) → rate_worth r ≡ rate_worth s → r ≡ s
  -- the test of equality is equality
  pub equality : (x y : ℤ) → Decides (same x y) (x ≡ y)
  -- which side comes first makes no difference
  pub equality_exchanged : (x y : ℤ) → same x y ≡ same y x
  pub one_percent_exchanged : (x y : ℤ) → within_one_percent x y ≡ within_one_percent y x
  pub whole_exchanged : (x y : ℤ) → same_whole x y ≡ same_whole y x
  -- the shortest text of an exchange rate keeps to ten digits, and reads back
  pub rate_reads_back : (r : ExchangeRate) → amount_of 10 (shortest r.amount) ≡ Some (rate_worth r)
