-- What each check means, and what it finds.
use Rattle.std.specs.Prelude.{ℕ, ℤ, Bool, true, false, ◌&&◌, ◌==◌, nat_le, if◌then◌else◌, List, Some, None, Option}
use Rattle.std.specs.Option.{option_map}
use Rattle.std.specs.Str.{bytes_eq}
use Rattle.amounts.specs.Checks.{same, same_whole, within_one_percent}
use Rattle.codes.specs.Codes.{text_of}
use Rattle.fields.specs.Fields.{side_letter}
use Rattle.fields.specs.declared.field.detail.Side.{Side}
use Rattle.fields.specs.declared.field.detail.Side.TheVariants.{Buyer, Seller}
use Rattle.report.specs.declared.details.Details.{Details}
use Rattle.sheets.specs.declared.finding.Finding.{Finding}
use Rattle.sheets.specs.declared.finding.Finding.TheVariants.{Matches, Differs}
use Rattle.timestamps.specs.Checks.{same_date, same_instant, within_an_hour}
use Rattle.checks.specs.Values.{Told, side, letter, text, amount, instant, value_of}
use Rattle.checks.specs.declared.check.Check.{Check}
use Rattle.checks.specs.declared.check.Check.TheVariants.{OnePercent, WholeNumber, WithinAnHour, SameDate, Exact, Opposite}
use Rattle.checks.specs.declared.field.Field.{Field}
use Rattle.checks.specs.declared.field.Field.TheVariants as F

abbrev pub check_number : Check → ℕ
check_number OnePercent = 1
check_number WholeNumber = 2
check_number WithinAnHour = 3
check_number SameDate = 4
check_number Exact = 5
check_number Opposite = 6

abbrev pub is_check : ℕ → Bool
is_check n = nat_le 1 n && nat_le n 6

-- which fields are amounts
abbrev pub is_amount : Field → Bool
is_amount F.Price = true
is_amount F.Notional = true
is_amount F.ExchangeRate1 = true
is_amount _ = false

-- which fields are timestamps
abbrev pub is_timestamp : Field → Bool
is_timestamp F.ExecutionTimestamp = true
is_timestamp F.ClearingTimestamp = true
is_timestamp _ = false

abbrev pub is_side : Field → Bool
is_side F.Side = true
is_side _ = false

-- which checks a field may be given
abbrev pub fits : Check → Field → Bool
fits OnePercent field = is_amount field
fits WholeNumber field = is_amount field
fits WithinAnHour field = is_timestamp field
fits SameDate field = is_timestamp field
fits Exact field = true
fits Opposite field = is_side field

-- the same kind of value, and equal
abbrev pub same_told : Told → Told → Bool
same_told (side x) (side y) = side_letter x == side_letter y
same_told (letter x) (letter y) = x == y
same_told (text s) (text t) = bytes_eq s t
same_told (amount x) (amount y) = same x y
same_told (instant i) (instant j) = same_instant i j
same_told _ _ = false

-- one is the buyer and the other the seller
abbrev pub opposite : Side → Side → Bool
opposite Buyer Seller = true
opposite Seller Buyer = true
opposite Buyer Buyer = false
opposite Seller Seller = false

-- a test of sides, of amounts or of instants: no other values pass it
abbrev pub on_sides : (Side → Side → Bool) → Told → Told → Bool
on_sides test (side x) (side y) = test x y
on_sides test _ _ = false

abbrev pub on_amounts : (ℤ → ℤ → Bool) → Told → Told → Bool
on_amounts test (amount x) (amount y) = test x y
on_amounts test _ _ = false

abbrev pub on_instants : (ℕ → ℕ → Bool) → Told → Told → Bool
on_instants test (instant i) (instant j) = test i j
on_instants test _ _ = false

-- whether two values pass a check, with the venues of their reports
abbrev pub holds : Check → Option (List ℕ) → Option (List ℕ) → Told → Told → Bool
holds OnePercent v w = on_amounts within_one_percent
holds WholeNumber v w = on_amounts same_whole
holds WithinAnHour v w = on_instants (within_an_hour v w)
holds SameDate v w = on_instants same_date
holds Exact v w = same_told
holds Opposite v w = on_sides opposite

-- a value that neither report gives is no difference, and one that a single report gives is; of two the test decides
abbrev pub judged : (Told → Told → Bool) → Option Told → Option Told → Finding
judged test None None = Matches
judged test None (Some y) = Differs
judged test (Some x) None = Differs
judged test (Some x) (Some y) = if test x y then Matches else Differs

-- what a check finds at a field of two reports
abbrev pub found : Check → Field → Details → Details → Finding
found check field a b =
    judged (holds check (option_map text_of a.venue) (option_map text_of b.venue)) (value_of field a) (value_of field b)
