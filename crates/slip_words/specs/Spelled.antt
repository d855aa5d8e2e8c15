-- The slip that words spell: its bytes in hexadecimal digits, or its fields one by one.
use Rattle.std.specs.Prelude.{ℕ, ◌+◌, Bool, ◌&&◌, ◌==◌, nat_le, nat_lt, if◌then◌else◌, List, [], ◌∷◌, length, Some, None, Option}
use Rattle.std.specs.List.{after_first, before_first, list_any}
use Rattle.std.specs.Option.{option_map}
use Rattle.std.specs.Result.{result_ok}
use Rattle.std.specs.Str.{all_ascii_digits}
use Rattle.std.specs.Str.Parse.{digits_value}
use Rattle.hex.specs.Hex.{decode_of}
use Rattle.slip.specs.Writing.{TaggedText, bytes_of_texts}

abbrev pub equals_sign : ℕ → Bool
equals_sign b = b == 61

-- the tag that decimal digits make, if it fits a byte; any number of zeros may stand in front
abbrev pub tag_spelled : List ℕ → Option ℕ
tag_spelled digits =
    if nat_lt 0 (length digits) && (all_ascii_digits digits && nat_le (digits_value 10 digits) 255)
    then Some (digits_value 10 digits)
    else None

-- a tag before the first equals sign of a word, and as its text all that stands behind that sign
abbrev pub field_spelled : List ℕ → Option TaggedText
field_spelled word =
    if list_any equals_sign word
    then option_map (λ tag. record { tag = tag; text = after_first equals_sign word }) (tag_spelled (before_first equals_sign word))
    else None

abbrev pub before_all : Option TaggedText → Option (List TaggedText) → Option (List TaggedText)
before_all (Some field) (Some fields) = Some (field ∷ fields)
before_all (Some field) None = None
before_all None fields = None

-- what the words spell if each of them spells a field
abbrev pub fields_spelled : List (List ℕ) → Option (List TaggedText)
fields_spelled [] = Some []
fields_spelled (word ∷ words) = before_all (field_spelled word) (fields_spelled words)

-- how many bytes texts have together
abbrev pub text_size : List TaggedText → ℕ
text_size [] = 0
text_size (t ∷ texts) = length t.text + text_size texts

-- the bytes of fields in the order given, if one byte can count them and two bytes their text
abbrev pub laid_within : Option (List TaggedText) → Option (List ℕ)
laid_within None = None
laid_within (Some fields) = if nat_le (length fields) 255 && nat_le (text_size fields) 65535 then Some (bytes_of_texts fields) else None

-- the bytes of the slip that words spell: a single word with no equals sign is hexadecimal, and other words are fields
abbrev pub slip_spelled : List (List ℕ) → Option (List ℕ)
slip_spelled [] = None
slip_spelled (word ∷ []) = if list_any equals_sign word then laid_within (fields_spelled (word ∷ [])) else result_ok (decode_of word)
slip_spelled words = laid_within (fields_spelled words)
