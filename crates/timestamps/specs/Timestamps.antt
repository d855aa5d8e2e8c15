-- What a `Timestamp` stands for, an instant, and a `TimeOfDay`, the seconds of its day that have passed.
use Rattle.std.specs.Prelude.{ℕ, ◌+◌, ◌*◌}
use Rattle.timestamps.specs.declared.timestamp.Timestamp.{Timestamp}
use Rattle.timestamps.specs.declared.timestamp.clock.TimeOfDay.{TimeOfDay}
use Rattle.calendar.specs.Dates.{number}
use Rattle.timestamps.specs.Times.{day_seconds}

abbrev pub second_of_day : TimeOfDay → ℕ
second_of_day t = t.second

abbrev pub instant : Timestamp → ℕ
instant t = number t.date * day_seconds + second_of_day t.time
