-- The alphabets by name, and the rule of each value.
use Rattle.std.specs.Prelude.{ℕ, Bool, ◌||◌, List, codes, refl}
use Rattle.std.specs.Int.{is_in_range}
use Rattle.std.specs.Char.{is_ascii_digit, is_ascii_uppercase}
use Rattle.codes.specs.Alphabets.{Letters, letter_or_digit, one_of}
use Rattle.codes.specs.Rules.{keeps}

abbrev pub capitals : Letters
capitals = record { has = is_ascii_uppercase; ends = is_ascii_uppercase; no_zero = refl }

abbrev capital_or_digit : ℕ → Bool
capital_or_digit b = is_ascii_uppercase b || is_ascii_digit b

abbrev pub capitals_and_digits : Letters
capitals_and_digits = record { has = capital_or_digit; ends = capital_or_digit; no_zero = refl }

-- what prints, from the blank to '~'
abbrev pub printable : Letters
printable = record { has = is_in_range 32 126; ends = is_in_range 32 126; no_zero = refl }

-- a Trade ID begins and ends with a letter or a digit, any other text with any byte of its alphabet
abbrev pub trade_id_bytes : Letters
trade_id_bytes = record { has = λ b. letter_or_digit b || one_of (codes ".-_:") b; ends = letter_or_digit; no_zero = refl }

abbrev pub is_trade_id : List ℕ → Bool
is_trade_id = keeps trade_id_bytes 1 52

abbrev pub is_lei : List ℕ → Bool
is_lei = keeps capitals_and_digits 20 20

abbrev pub is_client_code : List ℕ → Bool
is_client_code = keeps capitals_and_digits 1 20

abbrev pub is_country : List ℕ → Bool
is_country = keeps capitals 2 2

abbrev pub is_currency : List ℕ → Bool
is_currency = keeps capitals 3 3

abbrev pub is_venue : List ℕ → Bool
is_venue = keeps capitals_and_digits 4 4

-- product and underlying identifications
abbrev pub is_identification : List ℕ → Bool
is_identification = keeps printable 1 64
