-- Times of the day and timestamps as text. An instant is counted in seconds from 2000-01-01T00:00:00Z.
use Rattle.std.specs.Prelude.{◌≡◌, ℕ, ◌+◌, ◌*◌, ◌/◌, ◌%◌, ◌≤◌, Bool, cond, ◌&&◌, List, [], ◌∷◌, ◌++◌, length, take, drop, Some, None, Option, ◌==◌, nat_le, slice_index}
use Rattle.texts.specs.ThreeNumbers.{three_of, three_text}
use Rattle.calendar.specs.Text.{NamesDay, date_of, date_text}

abbrev pub day_seconds : ℕ
day_seconds = 86400

-- a time of day on a clock of 24 hours, with no leap second
abbrev pub is_time : ℕ → ℕ → ℕ → Bool
is_time hour minute second = nat_le hour 23 && (nat_le minute 59 && nat_le second 59)

abbrev pub second_of_three : Option (ℕ × ℕ × ℕ) → Option ℕ
second_of_three None = None
second_of_three (Some p) = cond (is_time p.0 p.1 p.2) (Some (p.0 * 3600 + p.1 * 60 + p.2)) None

-- the second of the day that a text names as hh:mm:ss
unfoldable pub clock_of : List ℕ → Option ℕ
clock_of text = second_of_three (three_of 2 58 text)

abbrev pub clock_text : ℕ → List ℕ
clock_text second = three_text 2 58 (second / 3600) (second / 60 % 60) (second % 60)

-- a 'T' behind the date and a 'Z' behind the time
abbrev pub timestamp_text : ℕ → List ℕ
timestamp_text instant = date_text (instant / day_seconds) ++ (84 ∷ (clock_text (instant % day_seconds) ++ (90 ∷ [])))

abbrev pub instant_at : Option ℕ → Option ℕ → Option ℕ
instant_at None second = None
instant_at (Some day) None = None
instant_at (Some day) (Some second) = Some (day * day_seconds + second)

abbrev pub has_marks : List ℕ → Bool
has_marks text = length text == 20 && (slice_index text 10 == 84 && slice_index text 19 == 90)

-- the instant that a text names
unfoldable pub timestamp_of : List ℕ → Option ℕ
timestamp_of text = cond (has_marks text) (instant_at (date_of (take 10 text)) (clock_of (take 8 (drop 11 text)))) None

-- in plain terms: the text is an existing day, 'T', a time of that day and 'Z'
pub record NamesInstant (text : List ℕ) (instant : ℕ) : Type 0 where
  pub date : List ℕ
  pub day : ℕ
  pub hour : ℕ
  pub minute : ℕ
  pub second : ℕ
  pub spelt : text ≡ date ++ (84 ∷ (three_text 2 58 hour minute second ++ (90 ∷ [])))
  pub names : NamesDay date day
  pub hours : hour ≤ 23
  pub minutes : minute ≤ 59
  pub seconds : second ≤ 59
  pub is : day * day_seconds + (hour * 3600 + minute * 60 + second) ≡ instant

-- o is what the text names: i exactly if the text names instant i, and nothing exactly if it names none
abbrev pub ReadsTimestamp : List ℕ → Option ℕ → Type 0
ReadsTimestamp text o = (i : ℕ) → (NamesInstant text i → o ≡ Some i) × (o ≡ Some i → NamesInstant text i)
