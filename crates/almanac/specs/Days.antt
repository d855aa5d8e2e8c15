-- What is told of a day: whether it is a business day, and which business days follow.
use Rattle.std.specs.Prelude.{ℕ, Bool, true, false, List, ◌++◌, Some, None, Ok, Err, codes, Option, Result}
use Rattle.std.specs.Option.{option_map}
use Rattle.business.specs.BusinessDays.{day_no}
use Rattle.business.specs.TargetDays.{closed, next_business, second_business}
use Rattle.calendar.specs.Dates.{number}
use Rattle.calendar.specs.Text.{date_text}
use Rattle.refusals.specs.declared.refusal.Refusal.{Refusal}
use Rattle.refusals.specs.Words.{RefusalParts, parts_of, refusal_text}
use Rattle.almanac.specs.declared.day_facts.DayFacts.{DayFacts}

abbrev pub closed_text : Bool → List ℕ
closed_text true = codes " closed"
closed_text false = codes " business"

-- a day past 2099 never comes
abbrev pub day_or_never : Option ℕ → List ℕ
day_or_never None = codes "never"
day_or_never (Some n) = date_text n

abbrev pub known_text : ℕ → Bool → Option ℕ → Option ℕ → List ℕ
known_text n isClosed next second = date_text n ++ (closed_text isClosed ++ (codes " next " ++ (day_or_never next ++ (codes " second " ++ day_or_never second))))

-- a text that names no day is a bad field, named as an eligible date, tag 8
abbrev pub bad_date : RefusalParts
bad_date = record { number = 3; words = codes "bad field"; tag = 8 }

abbrev pub facts_text : Option ℕ → List ℕ
facts_text None = refusal_text bad_date
facts_text (Some n) = known_text n (closed n) (next_business n) (second_business n)

-- the facts of day n, as numbers of days
pub record Facts : Type 0 where
  pub day : ℕ
  pub shut : Bool
  pub next : Option ℕ
  pub second : Option ℕ

abbrev pub facts_parts : DayFacts → Facts
facts_parts f = record { day = number f.date; shut = f.closed; next = option_map day_no f.next; second = option_map day_no f.second }

abbrev pub facts_of : Option ℕ → Result Facts RefusalParts
facts_of None = Err bad_date
facts_of (Some n) = Ok (record { day = n; shut = closed n; next = next_business n; second = second_business n })

-- what each answer tells
abbrev pub told_facts : DayFacts → List ℕ
told_facts f = known_text (number f.date) f.closed (option_map day_no f.next) (option_map day_no f.second)

abbrev pub shown_facts : Result DayFacts Refusal → List ℕ
shown_facts (Ok f) = told_facts f
shown_facts (Err refusal) = refusal_text (parts_of refusal)
