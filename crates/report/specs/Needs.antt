-- What a report has because its action needs it.
use Rattle.std.specs.Prelude.{Bool, true, false, ◌&&◌, Some, Option, is_some}
use Rattle.amounts.specs.declared.amount.Amount.{Amount}
use Rattle.calendar.specs.declared.date.Date.{Date}
use Rattle.fields.specs.declared.field.report.Action.{Action}
use Rattle.fields.specs.declared.field.report.Action.TheVariants.{New, PositionComponent, Modify, Correction, ValuationUpdate, EarlyTermination, Compression, Error}
use Rattle.fields.specs.declared.field.report.Level.{Level}
use Rattle.fields.specs.declared.field.report.Level.TheVariants.{Trade}
use Rattle.report.specs.declared.details.Details.{Details}

-- what describes a trade or position is there
abbrev pub described : Option Level → Option Date → Details → Bool
described level eligible details = is_some level && (is_some eligible && (is_some details.side && is_some details.executed))

abbrev pub at_trade_level : Option Level → Bool
at_trade_level (Some Trade) = true
at_trade_level level = false

-- a trade that goes into a position is reported at the level of trades
abbrev pub keeps_needs : Action → Option Level → Option Date → Details → Option Amount → Bool
keeps_needs New level eligible details valuation = described level eligible details
keeps_needs PositionComponent level eligible details valuation = described level eligible details && at_trade_level level
keeps_needs Modify level eligible details valuation = described level eligible details
keeps_needs Correction level eligible details valuation = described level eligible details
keeps_needs ValuationUpdate level eligible details valuation = is_some valuation
keeps_needs EarlyTermination level eligible details valuation = true
keeps_needs Compression level eligible details valuation = true
keeps_needs Error level eligible details valuation = true
