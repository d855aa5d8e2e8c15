-- The TARGET calendar of the years 2000 to 2099: closed days, the business days that follow a day, and due days.
-- Days are the numbers of the crate `calendar`; a day past the last one never comes, and is `None`.
use Rattle.std.specs.Prelude.{◌≡◌, ℕ, zero, suc, ◌+◌, ◌-◌, ◌<◌, max, Bool, true, false, cond, ◌&&◌, ◌||◌, Some, None, Option, ◌==◌, nat_le}
use Rattle.calendar.specs.Easter.{easter_sunday}
use Rattle.calendar.specs.Gregorian.{day_at, day_count, month_at, weekday_at, year_at}

-- Saturday or Sunday
abbrev pub weekend : ℕ → Bool
weekend n = nat_le 5 (weekday_at n)

abbrev pub is_day : ℕ → ℕ → ℕ → ℕ → Bool
is_day month day m d = month == m && day == d

-- 1 January, 1 May, 25 and 26 December
abbrev pub fixed_holiday : ℕ → ℕ → Bool
fixed_holiday month day = is_day month day 1 1 || (is_day month day 5 1 || (is_day month day 12 25 || is_day month day 12 26))

-- Good Friday and Easter Monday
abbrev pub easter_holiday : ℕ → ℕ → Bool
easter_holiday n sunday = n + 2 == sunday || n == sunday + 1

unfoldable pub closed : ℕ → Bool
closed n = weekend n || (fixed_holiday (month_at n) (day_at n) || easter_holiday n (easter_sunday (year_at n)))

-- the first business day from n on, among `left` days
abbrev pub first_from : ℕ → ℕ → Option ℕ
first_from zero n = None
first_from (suc left) n = cond (closed n) (first_from left (suc n)) (Some n)

-- the first business day after n
unfoldable pub next_business : ℕ → Option ℕ
next_business n = first_from (day_count - (n + 1)) (n + 1)

abbrev pub next_of : Option ℕ → Option ℕ
next_of None = None
next_of (Some n) = next_business n

-- the second business day after n
abbrev pub second_business : ℕ → Option ℕ
second_business n = next_of (next_business n)

-- the later of two days; never, if either never comes
abbrev pub later : Option ℕ → Option ℕ → Option ℕ
later None day = None
later (Some a) None = None
later (Some a) (Some b) = Some (max a b)

-- the due day of a report of day T that is entered today: the second business day after T, or the next one from today where that
-- comes last
abbrev pub due_day : ℕ → ℕ → Option ℕ
due_day t today = later (second_business t) (next_business today)

-- in plain terms: o is a business day, later than n, with no business day between, or none is left after n
abbrev pub FirstAfter : ℕ → Option ℕ → Type 0
FirstAfter n None = (k : ℕ) → n < k → k < day_count → closed k ≡ true
FirstAfter n (Some m) = (n < m) × (m < day_count) × (closed m ≡ false) × ((k : ℕ) → n < k → k < m → closed k ≡ true)

-- in plain terms: o is the first business day after f, or none is left where there is no f
abbrev pub AfterFirst : Option ℕ → Option ℕ → Type 0
AfterFirst None o = o ≡ None
AfterFirst (Some f) o = FirstAfter f o

-- in plain terms: o is the first business day after the first after n
abbrev pub SecondAfter : ℕ → Option ℕ → Type 0
SecondAfter n o = (f : Option ℕ) × FirstAfter n f × AfterFirst f o
