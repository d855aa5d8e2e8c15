-- Worked examples of timestamps and business days, each from text to answer, through the definitions that the code is
-- proved against.
use Rattle.std.specs.Prelude.{◌≡◌, ℕ, Bool, true, false, List, Some, None, codes, Option}
use Rattle.std.specs.Option.{option_map}
use Rattle.business.specs.TargetDays.{second_business}
use Rattle.timestamps.specs.Checks.{within_an_hour}
use Rattle.calendar.specs.Text.{date_of, date_text}
use Rattle.timestamps.specs.Times.{timestamp_of}
use Rattle.codes.specs.Rules.{code_of}
use Rattle.codes.specs.Values.{capitals_and_digits}

-- a venue's text: four capitals or digits
abbrev pub venue_of : List ℕ → Option (List ℕ)
venue_of text = code_of capitals_and_digits 4 4 text

-- the check's answer on two instants, or nothing where a text is none
abbrev pub checked : (ℕ → ℕ → Bool) → Option ℕ → Option ℕ → Option Bool
checked check (Some i) (Some j) = Some (check i j)
checked check (Some i) None = None
checked check None j = None

-- tolerance check 3 on two texts and their venues
abbrev pub time_check : Option (List ℕ) → Option (List ℕ) → List ℕ → List ℕ → Option Bool
time_check v w s t = checked (within_an_hour v w) (timestamp_of s) (timestamp_of t)

abbrev pub second_of : Option ℕ → Option (List ℕ)
second_of None = None
second_of (Some n) = option_map date_text (second_business n)

pub record WorkedExamples : Type 0 where
  -- on one day, with no venue, an hour is the most
  pub an_hour_apart : time_check None None (codes "2020-08-03T10:00:00Z") (codes "2020-08-03T11:00:00Z") ≡ Some true
  pub a_second_more : time_check None None (codes "2020-08-03T10:00:00Z") (codes "2020-08-03T11:00:01Z") ≡ Some false
  -- a second apart, on two days
  pub over_midnight : time_check None None (codes "2020-08-03T23:59:59Z") (codes "2020-08-04T00:00:00Z") ≡ Some false
  -- off exchange only the date counts
  pub off_exchange : time_check (venue_of (codes "XOFF")) (venue_of (codes "XOFF")) (codes "2020-08-03T00:00:01Z") (codes "2020-08-03T23:59:59Z") ≡ Some true
  -- a trade of Maundy Thursday
  pub over_easter : second_of (date_of (codes "2020-04-09")) ≡ Some (codes "2020-04-15")
