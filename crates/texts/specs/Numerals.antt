-- Decimal digits as text: which bytes are digits, how many a number has, and how it is written in a given width.
use Rattle.std.specs.Prelude.{◌≡◌, ℕ, zero, suc, ◌+◌, ◌/◌, ◌%◌, ◌^◌, max, true, List, [], ◌∷◌, length}
use Rattle.std.specs.Char.{is_ascii_digit}
use Rattle.std.specs.Int.Digits.{digits_of}
use Rattle.std.specs.List.{AllByRecursion}

-- every byte is one of '0' to '9'
abbrev pub AllDigits : List ℕ → Type 0
AllDigits text = AllByRecursion (λ b. is_ascii_digit b ≡ true) text

-- the last k digits of n, the highest first: zeros stand in front where n has fewer
abbrev pub padded : ℕ → ℕ → List ℕ
padded zero n = []
padded (suc k) n = (48 + n / 10 ^ k % 10) ∷ padded k n

-- how many digits n has; 0 has one
abbrev pub width : ℕ → ℕ
width n = max 1 (length (digits_of 10 n))

-- a number with all its digits and no zero in front
abbrev pub numeral : ℕ → List ℕ
numeral n = padded (width n) n
