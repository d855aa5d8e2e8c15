-- Alphabets of coded texts.
use Rattle.std.specs.Prelude.{◌≡◌, ℕ, Bool, false, ◌||◌, List, [], ◌∷◌, ◌==◌}
use Rattle.std.specs.Char.{is_ascii_digit, is_ascii_uppercase, is_ascii_lowercase}

-- the byte is one of these
abbrev pub one_of : List ℕ → ℕ → Bool
one_of [] b = false
one_of (x ∷ xs) b = b == x || one_of xs b

abbrev pub letter_or_digit : ℕ → Bool
letter_or_digit b = is_ascii_uppercase b || (is_ascii_lowercase b || is_ascii_digit b)

-- the bytes of an alphabet, and those that may stand at either end of a text
pub record Letters : Type 0 where
  pub has : ℕ → Bool
  pub ends : ℕ → Bool
  -- zeros fill the places behind a text
  pub no_zero : has 0 ≡ false
