-- What a `BusinessDay` stands for: the number of its day; and what reading an opening day answers.
use Rattle.std.specs.Prelude.{ℕ, cond, List, Some, None, codes, Option}
use Rattle.calendar.specs.Dates.{number}
use Rattle.calendar.specs.Text.{date_of}
use Rattle.refusals.specs.Words.{RefusalParts}
use Rattle.business.specs.TargetDays.{closed}
use Rattle.business.specs.declared.business_day.BusinessDay.{BusinessDay}

abbrev pub day_no : BusinessDay → ℕ
day_no b = number b.date

abbrev pub if_open : Option ℕ → Option ℕ
if_open None = None
if_open (Some n) = cond (closed n) None (Some n)

-- the business day that a text names
abbrev pub opening_of : List ℕ → Option ℕ
opening_of text = if_open (date_of text)

-- how an opening day is refused: no field is named
abbrev pub not_a_business_day : RefusalParts
not_a_business_day = record { number = 13; words = codes "not a business day"; tag = 0 }
