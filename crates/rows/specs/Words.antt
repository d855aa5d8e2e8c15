-- The words of states and standings, and what is told of a row.
use Rattle.std.specs.Prelude.{ℕ, List, codes, map}
use Rattle.sheets.specs.Findings.{finding_number}
use Rattle.sheets.specs.declared.finding.Finding.{Finding}
use Rattle.sheets.specs.declared.finding.PairState.{PairState}
use Rattle.sheets.specs.declared.finding.PairState.TheVariants as Pair
use Rattle.rows.specs.declared.standing.Standing.{Standing}
use Rattle.rows.specs.declared.standing.Standing.TheVariants.{Active, Ended, Withdrawn}
use Rattle.rows.specs.declared.state.State.{State}
use Rattle.rows.specs.declared.state.State.TheVariants.{Wait, Outs, Laps, Npar, Mach, Err1, Err2, Gone}

abbrev pub state_of_pair : PairState → State
state_of_pair Pair.Mach = Mach
state_of_pair Pair.Err1 = Err1
state_of_pair Pair.Err2 = Err2

abbrev pub state_text : State → List ℕ
state_text Wait = codes "WAIT"
state_text Outs = codes "OUTS"
state_text Laps = codes "LAPS"
state_text Npar = codes "NPAR"
state_text Mach = codes "MACH"
state_text Err1 = codes "ERR1"
state_text Err2 = codes "ERR2"
state_text Gone = codes "GONE"

abbrev pub standing_text : Standing → List ℕ
standing_text Active = codes "active"
standing_text Ended = codes "ended"
standing_text Withdrawn = codes "withdrawn"

-- what a row shows, as it is told: the word of its state, and the number of each finding
abbrev pub Shown : Type 0
Shown = List ℕ × List ℕ

abbrev pub told : State → List Finding → Shown
told state findings = (state_text state, map finding_number findings)
