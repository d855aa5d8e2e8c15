-- What a `Date` stands for, the number of its day, and the numbers of years and of the days of the week.
use Rattle.std.specs.Prelude.{ℕ}
use Rattle.calendar.specs.declared.date.Date.{Date}
use Rattle.calendar.specs.declared.date.Weekday.{Weekday}
use Rattle.calendar.specs.declared.year.Year.{Year}
use Rattle.calendar.specs.declared.date.Weekday.TheVariants.{Monday, Tuesday, Wednesday, Thursday, Friday, Saturday, Sunday}

abbrev pub number : Date → ℕ
number d = d.number

abbrev pub year_number : Year → ℕ
year_number y = y.number

abbrev pub weekday_number : Weekday → ℕ
weekday_number Monday = 0
weekday_number Tuesday = 1
weekday_number Wednesday = 2
weekday_number Thursday = 3
weekday_number Friday = 4
weekday_number Saturday = 5
weekday_number Sunday = 6
