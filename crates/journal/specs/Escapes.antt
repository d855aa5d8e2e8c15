-- Escapes: a percent sign and two hexadecimal digits in a word name a byte.
use Rattle.std.specs.Prelude.{◌≡◌, ℕ, ◌+◌, ◌-◌, ◌*◌, ◌/◌, ◌%◌, ◌<◌, Bool, true, cond, not, ◌&&◌, List, [], ◌∷◌, ◌++◌, Some, None, Option, ◌==◌, nat_lt}
use Rattle.std.specs.Int.{is_in_range}
use Rattle.std.specs.List.{AllByRecursion}

-- the value of a hexadecimal digit, in capitals or not
abbrev pub hex_value : ℕ → Option ℕ
hex_value b = cond (is_in_range 48 57 b) (Some (b - 48)) (cond (is_in_range 65 70 b) (Some (b - 55)) (cond (is_in_range 97 102 b) (Some (b - 87)) None))

-- the byte of two hexadecimal digits
abbrev pub pair_value : Option ℕ → Option ℕ → Option ℕ
pair_value (Some h) (Some l) = Some (h * 16 + l)
pair_value (Some h) None = None
pair_value None l = None

-- a byte before what the rest stands for
abbrev pub before : Option ℕ → Option (List ℕ) → Option (List ℕ)
before (Some b) (Some bs) = Some (b ∷ bs)
before (Some b) None = None
before None bs = None

-- the bytes that a word stands for, or nothing where an escape in it is bad
abbrev pub decoded : List ℕ → Option (List ℕ)
decoded [] = Some []
decoded (b ∷ []) = cond (b == 37) None (Some (b ∷ []))
decoded (b ∷ c ∷ []) = cond (b == 37) None (before (Some b) (decoded (c ∷ [])))
decoded (b ∷ c ∷ d ∷ rest) = cond (b == 37) (before (pair_value (hex_value c) (hex_value d)) (decoded rest)) (before (Some b) (decoded (c ∷ d ∷ rest)))

-- a byte that stands for itself in an answer
abbrev pub plain : ℕ → Bool
plain b = is_in_range 33 126 b && not (b == 37)

-- a hexadecimal digit, in capitals
abbrev pub hex_digit : ℕ → ℕ
hex_digit d = cond (nat_lt d 10) (48 + d) (55 + d)

abbrev pub escaped_byte : ℕ → List ℕ
escaped_byte b = cond (plain b) (b ∷ []) (37 ∷ (hex_digit (b / 16) ∷ (hex_digit (b % 16) ∷ [])))

-- bytes as an answer prints them
abbrev pub escaped : List ℕ → List ℕ
escaped [] = []
escaped (b ∷ bs) = escaped_byte b ++ escaped bs

-- whatever bytes are printed, every byte of that text is one that a word may hold, and it stands for the same bytes
pub record EscapesAreSafe : Type 0 where
  pub unbroken : (bytes : List ℕ) → AllByRecursion (λ b. b < 256) bytes → AllByRecursion (λ b. is_in_range 33 126 b ≡ true) (escaped bytes)
  pub read_back : (bytes : List ℕ) → AllByRecursion (λ b. b < 256) bytes → decoded (escaped bytes) ≡ Some bytes
