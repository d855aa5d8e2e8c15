-- What a row holds, and what a report makes of it.
use Rattle.std.specs.Prelude.{ℕ, Bool, false, not, ◌&&◌, if◌then◌else◌, List, replicate, Option}
use Rattle.std.specs.Option.{option_map}
use Rattle.business.specs.BusinessDays.{day_no}
use Rattle.fields.specs.Parties.{party_parts}
use Rattle.fields.specs.declared.field.report.Action.{Action}
use Rattle.fields.specs.declared.field.report.Action.TheVariants.{New, PositionComponent, Modify, Correction, ValuationUpdate, EarlyTermination, Compression, Error}
use Rattle.report.specs.declared.report.Report.{Report}
use Rattle.sheets.specs.declared.finding.Finding.{Finding}
use Rattle.sheets.specs.declared.finding.Finding.TheVariants.{NotCompared}
use Rattle.rows.specs.Days.{due_on}
use Rattle.rows.specs.Keys.{Key, key_in, key_of}
use Rattle.rows.specs.Standings.{disturbs, replaces}
use Rattle.rows.specs.declared.row.Row.{Row}
use Rattle.rows.specs.declared.row.Tags.{Tags}
use Rattle.rows.specs.declared.standing.Standing.{Standing}
use Rattle.rows.specs.declared.state.State.{State}
use Rattle.rows.specs.declared.state.State.TheVariants.{Wait}

-- a row as the rules see it, from the N or P that enters it to the close that frees it
pub record Entry : Type 0 where
  pub key : Key
  pub tags : Tags
  pub standing : Standing
  -- none where the day never comes
  pub due : Option ℕ
  pub tries : ℕ
  pub state : State
  pub findings : List Finding
  -- paired at the last accepted close, and no action but V accepted since
  pub settled : Bool

-- the findings of a row that has no pair
unfoldable pub uncompared : List Finding
uncompared = replicate 64 NotCompared

-- what a row keeps of the report that enters it
abbrev pub tags_in : Report → Tags
tags_in r = record { other_kind = (party_parts r.parties.other).kind; country = r.parties.country; action = r.action; level = r.level; eligible = r.eligible; details = r.details; valuation = r.valuation }

-- all but the action, the eligible date and the valuation is replaced; what the report leaves out is absent then
abbrev pub replaced : Tags → Report → Tags
replaced old r = record { other_kind = (party_parts r.parties.other).kind; country = r.parties.country; action = old.action; level = r.level; eligible = old.eligible; details = r.details; valuation = old.valuation }

abbrev pub valued : Tags → Report → Tags
valued old r = record { other_kind = old.other_kind; country = old.country; action = old.action; level = old.level; eligible = old.eligible; details = old.details; valuation = r.valuation }

abbrev pub tags_after : Action → Tags → Report → Tags
tags_after New old r = old
tags_after PositionComponent old r = old
tags_after Modify old r = replaced old r
tags_after Correction old r = replaced old r
tags_after ValuationUpdate old r = valued old r
tags_after EarlyTermination old r = old
tags_after Compression old r = old
tags_after Error old r = old

-- the entry that a report makes today
abbrev pub entered : ℕ → Report → Standing → Entry
entered today r standing = record { key = key_in r.parties; tags = tags_in r; standing = standing; due = due_on today r; tries = 0; state = Wait; findings = uncompared; settled = false }

-- what a later report leaves of an entry
abbrev pub amended : Entry → Report → Standing → Entry
amended e r standing = record { key = e.key; tags = tags_after r.action e.tags r; standing = standing; due = e.due; tries = if replaces r.action then 0 else e.tries; state = e.state; findings = e.findings; settled = not (disturbs r.action) && e.settled }

abbrev pub entry_of : Row → Entry
entry_of row = record { key = key_of row.key; tags = row.tags; standing = row.standing; due = option_map day_no row.due; tries = row.tries.count; state = row.state; findings = row.findings; settled = row.settled }
