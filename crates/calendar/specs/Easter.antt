-- Easter in the Gregorian calendar: the first Sunday after the paschal full moon.
use Rattle.std.specs.Prelude.{ℕ, ◌+◌, ◌-◌, ◌%◌, cond, List, [], ◌∷◌, Some, None, Option, slice_index_or}
use Rattle.calendar.specs.Gregorian.{day_number, in_century, weekday_at}

-- month and day of the full moon in each year of the cycle of nineteen, from the first on; the table holds from 1900 to 2199
abbrev pub full_moons : List (ℕ × ℕ)
full_moons = (4, 14) ∷ (4, 3) ∷ (3, 23) ∷ (4, 11) ∷ (3, 31) ∷ (4, 18) ∷ (4, 8) ∷ (3, 28) ∷ (4, 16) ∷ (4, 5) ∷ (3, 25) ∷ (4, 13) ∷ (4, 2) ∷ (3, 22) ∷ (4, 10) ∷ (3, 30) ∷ (4, 17) ∷ (4, 7) ∷ (3, 27) ∷ []

abbrev pub full_moon : ℕ → ℕ
full_moon year = day_number year (slice_index_or full_moons (year % 19) (0, 0)).0 (slice_index_or full_moons (year % 19) (0, 0)).1

-- the first Sunday after day n; a Sunday is day 6 of the week
abbrev pub sunday_after : ℕ → ℕ
sunday_after n = n + (7 - (weekday_at n + 1) % 7)

-- the day of Easter Sunday in a year from 2000 to 2099
unfoldable pub easter_sunday : ℕ → ℕ
easter_sunday year = sunday_after (full_moon year)

abbrev pub easter_in : ℕ → Option ℕ
easter_in year = cond (in_century year) (Some (easter_sunday year)) None
