-- Worked examples of the checks and of the reader, each from text to answer.
use Rattle.std.specs.Prelude.{◌≡◌, ℕ, ◌*◌, Bool, true, false, List, ℤ, pos, Some, None, codes, Option}
use Rattle.amounts.specs.Checks.{within_one_percent, same_whole}
use Rattle.amounts.specs.Decimal.{amount_of}
use Rattle.amounts.specs.Units.{units_per_one}

-- the check's answer on two amounts, or nothing where a text is none
abbrev pub checked : (ℤ → ℤ → Bool) → Option ℤ → Option ℤ → Option Bool
checked check (Some x) (Some y) = Some (check x y)
checked check (Some x) None = None
checked check None y = None

abbrev pub price_check : List ℕ → List ℕ → Option Bool
price_check s t = checked within_one_percent (amount_of 20 s) (amount_of 20 t)

abbrev pub notional_check : List ℕ → List ℕ → Option Bool
notional_check s t = checked same_whole (amount_of 20 s) (amount_of 20 t)

pub record WorkedExamples : Type 0 where
  -- tolerance check 1
  pub a_hundredth : price_check (codes "100") (codes "101") ≡ Some true
  pub above_a_hundredth : price_check (codes "100") (codes "101.02") ≡ Some false
  pub below_zero : price_check (codes "-100") (codes "-99") ≡ Some true
  pub across_zero : price_check (codes "-5") (codes "5") ≡ Some false
  pub from_zero : price_check (codes "0") (codes "0.01") ≡ Some false
  -- tolerance check 2
  pub cut_not_rounded : notional_check (codes "1999.99") (codes "2000") ≡ Some false
  pub cut_toward_zero : notional_check (codes "-0.5") (codes "0.5") ≡ Some true
  -- twenty digits, zeros counted, are an amount
  pub padded_hundred : amount_of 20 (codes "00000000000000000100") ≡ Some (pos (100 * units_per_one))
