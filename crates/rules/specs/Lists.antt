-- The lists that a close is given, as texts.
use Rattle.std.specs.Prelude.{ℕ, Bool, true, ◌&&◌, List, [], ◌∷◌, length, nat_le}
use Rattle.std.specs.List.{list_any}
use Rattle.std.specs.Ordering.{is_lt}
use Rattle.std.specs.Str.{bytes_eq}
use Rattle.codes.specs.Codes.{text_order}

abbrev pub has : List (List ℕ) → List ℕ → Bool
has texts text = list_any (λ t. bytes_eq t text) texts

abbrev pub ascends_from : List ℕ → List (List ℕ) → Bool
ascends_from text [] = true
ascends_from text (next ∷ texts) = is_lt (text_order text next) && ascends_from next texts

-- each text comes before the one behind it
abbrev pub ascends : List (List ℕ) → Bool
ascends [] = true
ascends (text ∷ texts) = ascends_from text texts

-- a list may be used that ascends strictly and has at most 65,536 texts
unfoldable pub in_order : List (List ℕ) → Bool
in_order texts = ascends texts && nat_le (length texts) 65536
