-- How the values of the code stand for those of the rules.
use Rattle.std.specs.Prelude.{ℕ, List, map, take, Some, None, Option}
use Rattle.codes.specs.Codes.{text_of}
use Rattle.registers.specs.declared.Registers.{Registers}
use Rattle.rows.specs.Entries.{Entry}
use Rattle.rows.specs.Keys.{key_of}
use Rattle.rows.specs.Words.{told}
use Rattle.rows.specs.declared.notice.Notice.{Notice}
use Rattle.rows.specs.declared.row.Fate.{Fate}
use Rattle.rows.specs.declared.row.Fate.TheVariants.{Open, Freed, Stays}
use Rattle.rows.specs.declared.row.Verdict.{Verdict}
use Rattle.rules.specs.Judging as rules
use Rattle.rules.specs.Judging.{Close, gone, early, outside, lapsed, notice_by, ready}
use Rattle.judging.specs.declared.line.Line.{Line}
use Rattle.judging.specs.declared.line.Line.TheVariants.{Gone, Early, Outside, Lapsed, Ready}

abbrev pub line_of : Line → rules.Line
line_of Gone = gone
line_of Early = early
line_of Outside = outside
line_of Lapsed = lapsed
line_of Ready = ready

abbrev pub parties_in : Registers → List (List ℕ)
parties_in r = map text_of (take r.parties.used r.parties.rows.now)

abbrev pub countries_in : Registers → List (List ℕ)
countries_in r = map text_of (take r.countries.used r.countries.rows.now)

-- a close that is given these registers and so many places for notices
abbrev pub close_of : Registers → ℕ → Close
close_of r places = record { parties = parties_in r; countries = countries_in r; places = places }

abbrev pub verdict_of : Verdict → rules.Verdict
verdict_of v = record { state = v.state; findings = v.findings; tries = v.tries.count; paired = v.paired }

-- what was found of a row, if it was judged: a verdict, or none where it is freed
abbrev pub found : Fate → Option (Option rules.Verdict)
found Open = None
found Freed = Some None
found (Stays v) = Some (Some (verdict_of v))

-- the notice that a row gives by what was found of it; none where it was not judged
abbrev pub notice_found : Entry → Option (Option rules.Verdict) → Option rules.Notice
notice_found e None = None
notice_found e (Some v) = notice_by e v

-- a notice as it is told
abbrev pub notice_told : Notice → rules.Notice
notice_told n = record { key = key_of n.key; says = told n.state n.findings }
