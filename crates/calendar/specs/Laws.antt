-- Laws of dates.
use Rattle.std.specs.Prelude.{◌≡◌, ℕ, ◌+◌, ◌<◌, ◌≤◌, true, List, Some, sum}
use Rattle.std.specs.declared.cmp.Ordering.TheVariants.{Less, Equal}
use Rattle.std.specs.Ordering.{ordering_reverse}
use Rattle.calendar.specs.Gregorian.{century, day_at, day_count, day_number, day_order, exists, month_at, weekday_at, year_at}
use Rattle.calendar.specs.declared.date.Date.{Date}
use Rattle.calendar.specs.Dates.{number}
use Rattle.calendar.specs.Easter.{easter_sunday, full_moon}
use Rattle.calendar.specs.Text.{date_of, date_text}

pub record CalendarLaws : Type 0 where
  -- the hundred years have as many days as there are numbers
  pub days_in_all : sum century ≡ day_count
  -- each number is that of one existing day, and each existing day has one number
  pub number_exists : (n : ℕ) → n < day_count → exists (year_at n) (month_at n) (day_at n) ≡ true
  pub number_kept : (n : ℕ) → n < day_count → day_number (year_at n) (month_at n) (day_at n) ≡ n
  pub day_numbered : (y m d : ℕ) → exists y m d ≡ true → day_number y m d < day_count
  pub day_kept : (y m d : ℕ) → exists y m d ≡ true → (year_at (day_number y m d) ≡ y) × (month_at (day_number y m d) ≡ m) × (day_at (day_number y m d) ≡ d)
  -- Easter is a Sunday, the first after the full moon
  pub easter_first : (y : ℕ) → (weekday_at (easter_sunday y) ≡ 6) × (full_moon y < easter_sunday y) × (easter_sunday y ≤ full_moon y + 7)
  -- the order of days is total, and Less exactly for the earlier
  pub order_flipped : (a b : ℕ) → day_order a b ≡ ordering_reverse (day_order b a)
  pub order_less : (a b : ℕ) → (day_order a b ≡ Less → a < b) × (a < b → day_order a b ≡ Less)
  pub order_equal : (a b : ℕ) → (day_order a b ≡ Equal → a ≡ b) × (a ≡ b → day_order a b ≡ Equal)
  -- one number has one date
  pub one_form : (a b : Date) → number a ≡ number b → a ≡ b
  -- reading and writing undo each other
  pub read_back : (n : ℕ) → n < day_count → date_of (date_text n) ≡ Some n
  pub written_back : (text : List ℕ) (n : ℕ) → date_of text ≡ Some n → text ≡ date_text n
