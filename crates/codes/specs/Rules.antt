-- The rule of a coded text, and how such a text stands in a place of fixed size.
use Rattle.std.specs.Prelude.{◌≡◌, ℕ, ◌-◌, Bool, cond, not, ◌&&◌, List, ◌++◌, length, take, replicate, Some, None, Option, ◌==◌, nat_le, nat_lt, slice_index}
use Rattle.std.specs.List.{list_all, prefix_len}
use Rattle.codes.specs.Alphabets.{Letters}

-- every byte is of the alphabet
abbrev pub spelled : Letters → List ℕ → Bool
spelled alphabet text = list_all alphabet.has text

-- the text has a first and a last byte, and they may stand there
abbrev pub ends_well : Letters → List ℕ → Bool
ends_well alphabet text = nat_lt 0 (length text) && (alphabet.ends (slice_index text 0) && alphabet.ends (slice_index text (length text - 1)))

-- a text of `least` to `most` bytes of the alphabet
abbrev pub keeps : Letters → ℕ → ℕ → List ℕ → Bool
keeps alphabet least most text = nat_le least (length text) && (nat_le (length text) most && (spelled alphabet text && ends_well alphabet text))

-- the text that is read from a text: itself where it keeps the rule
abbrev pub code_of : Letters → ℕ → ℕ → List ℕ → Option (List ℕ)
code_of alphabet least most text = cond (keeps alphabet least most text) (Some text) None

abbrev pub non_zero : ℕ → Bool
non_zero b = not (b == 0)

-- the text in a place: the bytes before the first zero
abbrev pub text_in : List ℕ → List ℕ
text_in bytes = take (prefix_len non_zero bytes) bytes

-- a place of `most` bytes that is zero behind its text
abbrev pub ZeroFilled : ℕ → List ℕ → Type 0
ZeroFilled most bytes = bytes ≡ text_in bytes ++ replicate (most - length (text_in bytes)) 0
