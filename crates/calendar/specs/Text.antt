-- Dates as text: YYYY-MM-DD.
use Rattle.std.specs.Prelude.{◌≡◌, ℕ, true, List, Some, None, Option}
use Rattle.calendar.specs.Gregorian.{day_at, day_number, existing, exists, month_at, year_at}
use Rattle.texts.specs.ThreeNumbers.{three_of, three_text}

-- a '-' parts year, month and day
abbrev pub date_text : ℕ → List ℕ
date_text n = three_text 4 45 (year_at n) (month_at n) (day_at n)

abbrev pub day_of_three : Option (ℕ × ℕ × ℕ) → Option ℕ
day_of_three None = None
day_of_three (Some p) = existing p.0 p.1 p.2

-- the day that a text names, if it is an existing day from 2000 to 2099
unfoldable pub date_of : List ℕ → Option ℕ
date_of text = day_of_three (three_of 4 45 text)

-- in plain terms: the text spells an existing day with number n
pub record NamesDay (text : List ℕ) (n : ℕ) : Type 0 where
  pub year : ℕ
  pub month : ℕ
  pub day : ℕ
  pub spelt : text ≡ three_text 4 45 year month day
  pub there : exists year month day ≡ true
  pub is : day_number year month day ≡ n

-- o is what the text names: n exactly if the text names day n, and nothing exactly if it names none
abbrev pub ReadsDate : List ℕ → Option ℕ → Type 0
ReadsDate text o = (n : ℕ) → (NamesDay text n → o ≡ Some n) × (o ≡ Some n → NamesDay text n)
