-- Fields of one letter.
use Rattle.std.specs.Prelude.{ℕ, cond, List, [], ◌∷◌, Some, None, Option}
use Rattle.codes.specs.Alphabets.{one_of}

-- a byte where it is one of the letters
abbrev pub letter_among : List ℕ → ℕ → Option ℕ
letter_among letters b = cond (one_of letters b) (Some b) None

-- the letter that is read from a text: its one byte, where that is one of the letters
abbrev pub letter_in : List ℕ → List ℕ → Option ℕ
letter_in letters [] = None
letter_in letters (b ∷ []) = letter_among letters b
letter_in letters (b ∷ (c ∷ rest)) = None
