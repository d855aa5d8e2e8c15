-- The shortest text of an amount.
use Rattle.std.specs.Prelude.{ℕ, ◌/◌, cond, List, [], ◌∷◌, ◌++◌, ℤ, pos, ◌==◌, int_lt, unsigned_abs}
use Rattle.texts.specs.Numerals.{numeral, padded}
use Rattle.amounts.specs.declared.amount.Amount.{Amount}
use Rattle.amounts.specs.Amounts.{worth}
use Rattle.amounts.specs.Spelling.{sign_text, dot_text}
use Rattle.amounts.specs.Units.{units_per_one}

-- the digits without the zeros at their end
abbrev pub before_kept : ℕ → List ℕ → List ℕ
before_kept d [] = cond (d == 48) [] (d ∷ [])
before_kept d (e ∷ es) = d ∷ e ∷ es

abbrev pub without_end_zeros : List ℕ → List ℕ
without_end_zeros [] = []
without_end_zeros (d ∷ ds) = before_kept d (without_end_zeros ds)

-- the shortest text of an amount of z units: a minus if it is below zero, the whole part with no needless zero,
-- and a dot and the places with no zero at their end, if any are left
unfoldable pub shortest_text : ℤ → List ℕ
shortest_text z = sign_text (int_lt z (pos 0)) ++ (numeral (unsigned_abs z / units_per_one) ++ dot_text (without_end_zeros (padded 19 (unsigned_abs z))))

abbrev pub shortest : Amount → List ℕ
shortest a = shortest_text (worth a)
