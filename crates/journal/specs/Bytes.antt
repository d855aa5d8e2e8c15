-- The bytes that part a journal into lines, and a line into words.
use Rattle.std.specs.Prelude.{ℕ, Bool, not, ◌||◌, ◌==◌}

-- a blank or a tab
abbrev pub blank : ℕ → Bool
blank b = b == 32 || b == 9

-- any byte but a blank or a tab
abbrev pub in_word : ℕ → Bool
in_word b = not (blank b)

-- any byte but a line feed
abbrev pub in_line : ℕ → Bool
in_line b = not (b == 10)
