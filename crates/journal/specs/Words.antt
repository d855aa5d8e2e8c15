-- The words of a line, and what they stand for.
use Rattle.std.specs.Prelude.{ℕ, zero, suc, cond, List, [], ◌∷◌, length, Some, None, Option, ◌==◌}
use Rattle.journal.specs.Escapes.{decoded}
use Rattle.journal.specs.Lines.{first_word, after_word}

-- the first `most` words of a line, as they are written
abbrev pub words_within : ℕ → List ℕ → List (List ℕ)
words_within zero line = []
words_within (suc most) line = cond (length (first_word line) == 0) [] (first_word line ∷ words_within most (after_word line))

-- all words of a line, since each takes a byte or more
abbrev pub words_of : List ℕ → List (List ℕ)
words_of line = words_within (length line) line

abbrev pub before_all : Option (List ℕ) → Option (List (List ℕ)) → Option (List (List ℕ))
before_all (Some w) (Some ws) = Some (w ∷ ws)
before_all (Some w) None = None
before_all None ws = None

-- what the words stand for, or nothing where an escape in one of them is bad
abbrev pub decoded_all : List (List ℕ) → Option (List (List ℕ))
decoded_all [] = Some []
decoded_all (w ∷ ws) = before_all (decoded w) (decoded_all ws)
