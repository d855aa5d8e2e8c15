-- Three numbers as text: the first with a given count of digits, the others with two, and a mark between them.
-- Dates (2020-04-09) and times (10:30:00) are written so.
use Rattle.std.specs.Prelude.{ℕ, ◌+◌, Bool, cond, ◌&&◌, List, ◌∷◌, ◌++◌, length, take, drop, Some, None, Option, ◌==◌, slice_index}
use Rattle.std.specs.Str.Parse.{digits_value}
use Rattle.std.specs.Str.{all_ascii_digits}
use Rattle.texts.specs.Numerals.{padded}

abbrev pub three_text : ℕ → ℕ → ℕ → ℕ → ℕ → List ℕ
three_text digits mark a b c = padded digits a ++ (mark ∷ (padded 2 b ++ (mark ∷ padded 2 c)))

-- digits and marks stand in their places, and nothing follows
abbrev pub is_three : ℕ → ℕ → List ℕ → Bool
is_three digits mark text =
    (length text == digits + 6)
    && ((slice_index text digits == mark && slice_index text (digits + 3) == mark)
    && (all_ascii_digits (take digits text) && (all_ascii_digits (take 2 (drop (digits + 1) text)) && all_ascii_digits (take 2 (drop (digits + 4) text)))))

-- the three numbers that a text spells
unfoldable pub three_of : ℕ → ℕ → List ℕ → Option (ℕ × ℕ × ℕ)
three_of digits mark text =
    cond (is_three digits mark text) (Some (digits_value 10 (take digits text), digits_value 10 (take 2 (drop (digits + 1) text)), digits_value 10 (take 2 (drop (digits + 4) text)))) None
