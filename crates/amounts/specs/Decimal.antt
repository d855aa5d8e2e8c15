-- What a text is worth as an amount: a minus if any, a whole part, and a fraction behind a dot if any.
use Rattle.std.specs.Prelude.{ℕ, ◌+◌, ◌-◌, ◌*◌, ◌^◌, Bool, cond, ◌&&◌, ◌||◌, List, length, take, drop, ℤ, Some, None, Option, ◌==◌, nat_le, nat_lt, slice_index}
use Rattle.std.specs.Option.{option_map}
use Rattle.std.specs.Str.Parse.{digits_value}
use Rattle.std.specs.Char.{is_ascii_digit}
use Rattle.std.specs.List.{prefix_len}
use Rattle.amounts.specs.Units.{units_per_one, signed}

-- begins with '-'
abbrev pub minus : List ℕ → Bool
minus text = slice_index text 0 == 45

abbrev pub unsigned : List ℕ → List ℕ
unsigned text = cond (minus text) (drop 1 text) text

-- the digits at the front, and what follows them
abbrev pub front : List ℕ → List ℕ
front bs = take (prefix_len is_ascii_digit bs) bs

abbrev pub behind : List ℕ → List ℕ
behind bs = drop (prefix_len is_ascii_digit bs) bs

-- nothing, or a dot and at least one digit and nothing else
abbrev pub fractional : List ℕ → Bool
fractional bs = length bs == 0 || (slice_index bs 0 == 46 && (nat_lt 1 (length bs) && 1 + prefix_len is_ascii_digit (drop 1 bs) == length bs))

-- an unsigned decimal of at most `most` digits, zeros counted
abbrev pub is_decimal : ℕ → List ℕ → Bool
is_decimal most bs = nat_lt 0 (length (front bs)) && (fractional (behind bs) && nat_le (length (front bs) + length (drop 1 (behind bs))) most)

-- the units that digits behind a dot make
abbrev pub fraction_units : List ℕ → ℕ
fraction_units ds = digits_value 10 ds * 10 ^ (19 - length ds)

-- the units of an unsigned decimal of at most `most` digits, which is at most 20
abbrev pub magnitude_of : ℕ → List ℕ → Option ℕ
magnitude_of most bs = cond (is_decimal most bs) (Some (digits_value 10 (front bs) * units_per_one + fraction_units (drop 1 (behind bs)))) None

-- the units of an amount of at most `most` digits, or nothing where the text is no amount
abbrev pub amount_of : ℕ → List ℕ → Option ℤ
amount_of most text = option_map (signed (minus text)) (magnitude_of most (unsigned text))
