-- What a lent buffer holds after a text was written to its front.
use Rattle.std.specs.Prelude.{ℕ, cond, List, ◌++◌, length, drop, Some, None, Option, nat_le}

-- a buffer that has room holds the text and, behind it, what stood there; one that has none stays as it was
abbrev pub filled : List ℕ → List ℕ → List ℕ
filled text buffer = cond (nat_le (length text) (length buffer)) (text ++ drop (length text) buffer) buffer

-- the length that was written, or nothing where there is no room
abbrev pub answered : List ℕ → List ℕ → Option ℕ
answered text buffer = cond (nat_le (length text) (length buffer)) (Some (length text)) None
