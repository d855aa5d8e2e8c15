-- A timestamp is its instant.
use Rattle.std.proofs.Common.{◌≡◌, ◌<◌, arith}
use native.Mathlib.Bridge.{le_prop}
use mathlib.Core.HLevel.{is_prop→PathP}
use Rattle.calendar.proofs.Form.{one_form as one_date}
use Rattle.timestamps.specs.Timestamps.{instant, second_of_day}
use Rattle.timestamps.specs.declared.timestamp.Timestamp.{Timestamp}
use Rattle.timestamps.specs.declared.timestamp.clock.TimeOfDay.{TimeOfDay}

one_time : (a b : TimeOfDay) → second_of_day a ≡ second_of_day b → a ≡ b
one_time a b e = λ i. record { second = e i; within = is_prop→PathP (λ j. e j < 86400) (λ j. le_prop) a.within b.within i }

-- one instant has one timestamp
pub one_form : (a b : Timestamp) → instant a ≡ instant b → a ≡ b
one_form a b e =
    let dates = one_date a.date b.date (omega (arith, a.time.within, b.time.within)) in
    let times = one_time a.time b.time (omega (arith, a.time.within, b.time.within)) in
    λ i. record { date = dates i; time = times i }
