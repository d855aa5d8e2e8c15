-- A date is its number.
use Rattle.std.proofs.Common.{◌≡◌, ◌<◌}
use native.Mathlib.Bridge.{le_prop}
use mathlib.Core.HLevel.{is_prop→PathP}
use Rattle.calendar.specs.declared.date.Date.{Date}
use Rattle.calendar.specs.Dates.{number}

-- one number has one date
pub one_form : (a b : Date) → number a ≡ number b → a ≡ b
one_form a b e = λ i. record { number = e i; within = is_prop→PathP (λ j. e j < 36525) (λ j. le_prop) a.within b.within i }
