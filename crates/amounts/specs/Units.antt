-- Amounts have at most 19 digits behind the dot, so 10^19 times an amount is a whole number.
-- Every definition speaks of that number: an amount counted in units of 10^-19.
use Rattle.std.specs.Prelude.{ℕ, ◌^◌, Bool, cond, ℤ, pos, neg_ℤ}

-- how many units make one
abbrev pub units_per_one : ℕ
units_per_one = 10 ^ 19

-- a sign and a magnitude; minus zero is zero
abbrev pub signed : Bool → ℕ → ℤ
signed negative n = cond negative (neg_ℤ (pos n)) (pos n)
