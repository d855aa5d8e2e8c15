-- The tolerance checks on two amounts, both counted in the same units.
use Rattle.std.specs.Prelude.{ℕ, ◌*◌, max, Bool, ℤ, pos, ◌-ℤ◌, ◌==◌, int_div, nat_le, unsigned_abs}
use Rattle.amounts.specs.Units.{units_per_one}

abbrev pub distance : ℤ → ℤ → ℕ
distance x y = unsigned_abs (x -ℤ y)

abbrev pub same : ℤ → ℤ → Bool
same x y = distance x y == 0

-- tolerance check 1: the distance is at most one percent of the greater magnitude
abbrev pub within_one_percent : ℤ → ℤ → Bool
within_one_percent x y = nat_le (distance x y * 100) (max (unsigned_abs x) (unsigned_abs y))

-- the whole number that is left when the fraction is cut off, toward zero
abbrev pub cut : ℤ → ℤ
cut x = int_div x (pos units_per_one)

-- tolerance check 2: one whole number is left of both
abbrev pub same_whole : ℤ → ℤ → Bool
same_whole x y = same (cut x) (cut y)
