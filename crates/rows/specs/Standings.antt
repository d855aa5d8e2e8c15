-- Which actions a row takes, and how it stands then.
use Rattle.std.specs.Prelude.{Bool, true, false, Some, None, Option, Ok, Err, Result}
use Rattle.fields.specs.declared.field.report.Action.{Action}
use Rattle.fields.specs.declared.field.report.Action.TheVariants.{New, PositionComponent, Modify, Correction, ValuationUpdate, EarlyTermination, Compression, Error}
use Rattle.refusals.specs.declared.refusal.Refusal.{Refusal}
use Rattle.refusals.specs.declared.refusal.Refusal.TheVariants.{AlreadyEntered, StandingForbids}
use Rattle.rows.specs.declared.standing.Standing.{Standing}
use Rattle.rows.specs.declared.standing.Standing.TheVariants.{Active, Ended, Withdrawn}

-- the actions that enter a row, N and P, and how the row stands then
abbrev pub enters : Action → Option Standing
enters New = Some Active
enters PositionComponent = Some Ended
enters Modify = None
enters Correction = None
enters ValuationUpdate = None
enters EarlyTermination = None
enters Compression = None
enters Error = None

-- the actions that a row takes once it is there, and how it stands then
abbrev pub takes : Standing → Action → Option Standing
takes Active New = None
takes Active PositionComponent = None
takes Active Modify = Some Active
takes Active Correction = Some Active
takes Active ValuationUpdate = Some Active
takes Active EarlyTermination = Some Ended
takes Active Compression = Some Ended
takes Active Error = Some Withdrawn
takes Ended New = None
takes Ended PositionComponent = None
takes Ended Modify = None
takes Ended Correction = Some Ended
takes Ended ValuationUpdate = None
takes Ended EarlyTermination = None
takes Ended Compression = None
takes Ended Error = Some Withdrawn
takes Withdrawn action = None

-- what an action comes to at a row that is there: how the row stands then, or the refusal. One that enters rows comes too late
-- at any of them.
abbrev pub taken_by : Option Standing → Option Standing → Result Standing Refusal
taken_by (Some standing) taking = Err AlreadyEntered
taken_by None None = Err StandingForbids
taken_by None (Some standing) = Ok standing

abbrev pub taken : Standing → Action → Result Standing Refusal
taken standing action = taken_by (enters action) (takes standing action)

-- M and R replace what describes the trade, and let the row try again from the start
abbrev pub replaces : Action → Bool
replaces New = false
replaces PositionComponent = false
replaces Modify = true
replaces Correction = true
replaces ValuationUpdate = false
replaces EarlyTermination = false
replaces Compression = false
replaces Error = false

-- N, P, M and R, which describe the trade, may not be dated ahead
abbrev pub is_dated : Action → Bool
is_dated New = true
is_dated PositionComponent = true
is_dated Modify = true
is_dated Correction = true
is_dated ValuationUpdate = false
is_dated EarlyTermination = false
is_dated Compression = false
is_dated Error = false

-- every action but V makes a pair to be compared anew
abbrev pub disturbs : Action → Bool
disturbs New = true
disturbs PositionComponent = true
disturbs Modify = true
disturbs Correction = true
disturbs ValuationUpdate = false
disturbs EarlyTermination = true
disturbs Compression = true
disturbs Error = true
