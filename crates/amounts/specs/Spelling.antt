-- Which texts are amounts, in plain terms.
use Rattle.std.specs.Prelude.{◌≡◌, ℕ, ◌+◌, ◌-◌, ◌*◌, ◌^◌, ◌<◌, ◌≤◌, Bool, true, false, List, [], ◌∷◌, ◌++◌, length, ℤ, Some, Option}
use Rattle.std.specs.Str.Parse.{digits_value}
use Rattle.texts.specs.Numerals.{AllDigits}
use Rattle.amounts.specs.Units.{signed}

-- '-' where the amount is negative
abbrev pub sign_text : Bool → List ℕ
sign_text true = 45 ∷ []
sign_text false = []

-- '.' and the digits behind it, where there are any
abbrev pub dot_text : List ℕ → List ℕ
dot_text [] = []
dot_text (d ∷ ds) = 46 ∷ (d ∷ ds)

-- the text is a sign, at least one digit, and a dot and more digits if any, at most `most` digits in all
pub record Spelled (most : ℕ) (text : List ℕ) (negative : Bool) (whole fraction : List ℕ) : Type 0 where
  pub spelt : text ≡ sign_text negative ++ (whole ++ dot_text fraction)
  pub whole_digits : AllDigits whole
  pub fraction_digits : AllDigits fraction
  pub some : 0 < length whole
  pub few : length whole + length fraction ≤ most

-- the units of such a text: all its digits as one number, shifted by the places that stand behind the dot
abbrev pub spelled_units : Bool → List ℕ → List ℕ → ℤ
spelled_units negative whole fraction = signed negative (digits_value 10 (whole ++ fraction) * 10 ^ (19 - length fraction))

-- the text spells an amount of z units
abbrev pub Spells : ℕ → List ℕ → ℤ → Type 0
Spells most text z = (negative : Bool) × (whole : List ℕ) × (fraction : List ℕ) × Spelled most text negative whole fraction × (spelled_units negative whole fraction ≡ z)

-- o is what the text spells: z exactly if the text spells z, and nothing exactly if it spells no amount
abbrev pub Reads : ℕ → List ℕ → Option ℤ → Type 0
Reads most text o = (z : ℤ) → (Spells most text z → o ≡ Some z) × (o ≡ Some z → Spells most text z)
