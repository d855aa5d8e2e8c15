-- The day from which a report counts, and the day on which its row is due.
use Rattle.std.specs.Prelude.{ℕ, Bool, true, false, ◌&&◌, Some, None, Option, is_some, if◌then◌else◌, nat_lt, ◌/◌}
use Rattle.std.specs.Option.{option_map}
use Rattle.business.specs.TargetDays.{due_day}
use Rattle.calendar.specs.Dates.{number}
use Rattle.report.specs.declared.report.Report.{Report}
use Rattle.timestamps.specs.Timestamps.{instant}
use Rattle.timestamps.specs.Times.{day_seconds}
use Rattle.timestamps.specs.declared.timestamp.Timestamp.{Timestamp}
use Rattle.rows.specs.Standings.{enters, is_dated}
use Rattle.report.specs.Needs.{at_trade_level}

abbrev pub date_executed : Option Timestamp → Option ℕ
date_executed executed = option_map (λ t. instant t / day_seconds) executed

-- day T of a report: of N and P at the level of trades the date of execution, of all others the eligible date. It is there
-- for every action that has to give it: N, P, M and R.
abbrev pub day_t : Report → Option ℕ
day_t r =
    if is_some (enters r.action) && at_trade_level r.level then date_executed r.details.executed
    else option_map number r.eligible

abbrev pub is_to_come : ℕ → Option ℕ → Bool
is_to_come today None = false
is_to_come today (Some t) = nat_lt today t

-- whether a report speaks of a day that is still to come
abbrev pub ahead : ℕ → Report → Bool
ahead today r = is_dated r.action && is_to_come today (day_t r)

abbrev pub due_after : ℕ → Option ℕ → Option ℕ
due_after today None = None
due_after today (Some t) = due_day t today

-- the day from which the row of a report looks for its mirror; none where that day never comes
abbrev pub due_on : ℕ → Report → Option ℕ
due_on today r = due_after today (day_t r)

-- whether a row is due only after today; a day that never comes is always later
abbrev pub due_later : ℕ → Option ℕ → Bool
due_later today None = true
due_later today (Some due) = nat_lt today due
