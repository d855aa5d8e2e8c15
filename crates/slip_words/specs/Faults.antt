-- What keeps words from spelling a slip, and the words that tell it.
use Rattle.std.specs.Prelude.{ℕ, List, [], ◌∷◌, ◌++◌, codes, decimal, string_bytes, Some, None, Option, if◌then◌else◌, nat_le, length, is_some}
use Rattle.std.specs.List.{list_any}
use Rattle.journal.specs.Escapes.{escaped}
use Rattle.slip.specs.Writing.{TaggedText}
use Rattle.slip_words.specs.Spelled.{equals_sign, field_spelled, fields_spelled}
use Rattle.slip_words.specs.declared.fault.SlipWordError.{SlipWordError}
use Rattle.slip_words.specs.declared.fault.SlipWordError.TheVariants.{NoWords, BadField, BadHex, TooManyFields, TooLong, OutOfMemory}

abbrev pub error_text : SlipWordError → List ℕ
error_text NoWords = codes "no word for a slip"
error_text (BadField word) = codes "no TAG=TEXT in " ++ string_bytes word
error_text (BadHex word) = codes "bad hexadecimal in " ++ string_bytes word
error_text (TooManyFields given) = codes "255 fields at most, not " ++ decimal given
error_text TooLong = codes "65535 bytes of text at most"
error_text (OutOfMemory error) = codes "out of memory"

-- a fact that holds if the words spell no slip, and not if memory ran out
abbrev pub IfNotSpelled : SlipWordError → Type 0 → Type 0
IfNotSpelled NoWords P = P
IfNotSpelled (BadField word) P = P
IfNotSpelled (BadHex word) P = P
IfNotSpelled (TooManyFields given) P = P
IfNotSpelled TooLong P = P
IfNotSpelled (OutOfMemory error) P = Unit {0}

-- the first word that spells no field
abbrev pub bad_word : List (List ℕ) → Option (List ℕ)
bad_word [] = None
bad_word (word ∷ words) = if is_some (field_spelled word) then bad_word words else Some word

abbrev pub no_field_text : Option (List ℕ) → List ℕ
no_field_text None = []
no_field_text (Some word) = codes "no TAG=TEXT in " ++ escaped word

abbrev pub too_much_text : List TaggedText → List ℕ
too_much_text fields = if nat_le (length fields) 255 then codes "65535 bytes of text at most" else codes "255 fields at most, not " ++ decimal (length fields)

abbrev pub fields_fault : Option (List TaggedText) → List (List ℕ) → List ℕ
fields_fault None words = no_field_text (bad_word words)
fields_fault (Some fields) words = too_much_text fields

-- what is told of words that spell no slip
abbrev pub fault_told : List (List ℕ) → List ℕ
fault_told [] = codes "no word for a slip"
fault_told (word ∷ []) = if list_any equals_sign word then fields_fault (fields_spelled (word ∷ [])) (word ∷ []) else codes "bad hexadecimal in " ++ escaped word
fault_told words = fields_fault (fields_spelled words) words
