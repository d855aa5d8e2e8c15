-- Words that are numbers.
use Rattle.std.specs.Prelude.{ℕ, List, [], ◌∷◌, Some, None, Option}
use Rattle.desk.specs.Numbers.{number_spelled}

-- how many places for notices a close is given; 4,096 where no word names them
abbrev pub places_given : List (List ℕ) → Option ℕ
places_given [] = Some 4096
places_given (word ∷ []) = number_spelled word
places_given words = None
