-- The Gregorian calendar of the years 2000 to 2099. Days are counted from 2000-01-01, which is day 0.
use Rattle.std.specs.Prelude.{ℕ, zero, suc, ◌+◌, ◌-◌, ◌%◌, Bool, cond, not, ◌&&◌, ◌||◌, List, [], ◌∷◌, take, Some, None, sum, Option, ◌==◌, nat_le, nat_lt, slice_index}
use Rattle.std.specs.declared.cmp.Ordering.{Ordering}
use Rattle.std.specs.Ordering.{nat_cmp}

-- each fourth year, but of the full centuries only each fourth
abbrev pub leap : ℕ → Bool
leap year = year % 4 == 0 && (not (year % 100 == 0) || year % 400 == 0)

-- the lengths of the twelve months
abbrev pub month_lengths : Bool → List ℕ
month_lengths isLeap = 31 ∷ cond isLeap 29 28 ∷ 31 ∷ 30 ∷ 31 ∷ 30 ∷ 31 ∷ 31 ∷ 30 ∷ 31 ∷ 30 ∷ 31 ∷ []

unfoldable pub months_of : ℕ → List ℕ
months_of year = month_lengths (leap year)

-- the lengths of `count` years from a year on
abbrev pub year_lengths : ℕ → ℕ → List ℕ
year_lengths year zero = []
year_lengths year (suc count) = sum (month_lengths (leap year)) ∷ year_lengths (suc year) count

-- the lengths of the hundred years from 2000 to 2099
unfoldable pub century : List ℕ
century = year_lengths 2000 100

-- how many days the hundred years have; 2099-12-31 is day 36,524
abbrev pub day_count : ℕ
day_count = 36525

-- parts of these lengths follow one another: the days before the part with this index
abbrev pub days_before : List ℕ → ℕ → ℕ
days_before lengths index = sum (take index lengths)

abbrev pub next_part : ℕ × ℕ → ℕ × ℕ
next_part p = (suc p.0, p.1)

-- parts of these lengths follow one another: the index of the part that has day n, and the days of that part before day n
abbrev pub part_of : List ℕ → ℕ → ℕ × ℕ
part_of [] n = (0, n)
part_of (l ∷ ls) n = cond (nat_lt n l) (0, n) (next_part (part_of ls (n - l)))

-- whether a year is one of these
abbrev pub in_century : ℕ → Bool
in_century year = nat_le 2000 year && nat_le year 2099

-- the number of a year, if it is one of these
abbrev pub existing_year : ℕ → Option ℕ
existing_year year = cond (in_century year) (Some year) None

-- whether there is such a day in these years
abbrev pub exists : ℕ → ℕ → ℕ → Bool
exists year month day = in_century year && ((nat_le 1 month && nat_le month 12) && (nat_le 1 day && nat_le day (slice_index (months_of year) (month - 1))))

-- its number
abbrev pub day_number : ℕ → ℕ → ℕ → ℕ
day_number year month day = days_before century (year - 2000) + days_before (months_of year) (month - 1) + (day - 1)

-- the number of a day, if it exists
unfoldable pub existing : ℕ → ℕ → ℕ → Option ℕ
existing year month day = cond (exists year month day) (Some (day_number year month day)) None

-- the year of day n
unfoldable pub year_at : ℕ → ℕ
year_at n = 2000 + (part_of century n).0

-- the days of that year before day n
unfoldable pub day_of_year : ℕ → ℕ
day_of_year n = (part_of century n).1

-- its month, from 1
unfoldable pub month_at : ℕ → ℕ
month_at n = 1 + (part_of (months_of (year_at n)) (day_of_year n)).0

-- its day of the month, from 1
unfoldable pub day_at : ℕ → ℕ
day_at n = 1 + (part_of (months_of (year_at n)) (day_of_year n)).1

-- 0 is Monday; 2000-01-01 was a Saturday
abbrev pub weekday_at : ℕ → ℕ
weekday_at n = (n + 5) % 7

-- days by their numbers, the earlier before the later
abbrev pub day_order : ℕ → ℕ → Ordering
day_order = nat_cmp

-- the next day, up to the last
abbrev pub day_after : ℕ → Option ℕ
day_after n = cond (nat_lt (n + 1) day_count) (Some (n + 1)) None
