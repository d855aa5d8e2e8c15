use Rattle.std.proofs.Common.{◌≡◌, ◌-◌}
use Rattle.calendar.specs.Dates.{number}
use Rattle.business.specs.TargetDays.{first_from}
use Rattle.business.proofs.business_day.following.first_open.Given as goal

-- no business day was passed over
abbrev pub invariant-loop-open : goal.invariant-loop-open
invariant-loop-open l = first_from (36525 - number l.day) (number l.day) ≡ first_from (36525 - number l.fn.date) (number l.fn.date)

abbrev pub decreases-loop-open : goal.decreases-loop-open
decreases-loop-open l = 36525 - number l.day
