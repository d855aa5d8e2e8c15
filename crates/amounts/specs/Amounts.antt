-- What an `Amount` is worth, in units.
use Rattle.std.specs.Prelude.{ℕ, ◌-◌, ◌*◌, ◌/◌, ◌^◌, ℤ}
use Rattle.amounts.specs.declared.amount.Amount.{Amount}
use Rattle.amounts.specs.Units.{signed}

abbrev pub magnitude : Amount → ℕ
magnitude a = a.digits * 10 ^ (19 - a.places)

abbrev pub worth : Amount → ℤ
worth a = signed a.negative (magnitude a)

-- the part before the dot
abbrev pub whole_of : Amount → ℕ
whole_of a = a.digits / 10 ^ a.places
