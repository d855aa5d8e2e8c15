-- The number or the word of each finding, category and state of a pair: what is promised of them is told through these.
use Rattle.std.specs.Prelude.{ℕ, List, codes, map}
use Rattle.sheets.specs.declared.finding.Category.{Category}
use Rattle.sheets.specs.declared.finding.Category.TheVariants.{First, Second, Third}
use Rattle.sheets.specs.declared.finding.Finding.{Finding}
use Rattle.sheets.specs.declared.finding.Finding.TheVariants.{Matches, Differs, NotCompared}
use Rattle.sheets.specs.declared.finding.PairState.{PairState}
use Rattle.sheets.specs.declared.finding.PairState.TheVariants.{Mach, Err1, Err2}

-- the digit by which answers print a finding, one for each field
abbrev pub finding_number : Finding → ℕ
finding_number Matches = 0
finding_number Differs = 1
finding_number NotCompared = 2

-- the findings of a comparison, by their digits
abbrev pub finding_numbers : List Finding → List ℕ
finding_numbers findings = map finding_number findings

-- the byte by which a client's sheet gives a field its category
abbrev pub category_number : Category → ℕ
category_number First = 1
category_number Second = 2
category_number Third = 3

-- the word that answers and notices print for a state
abbrev pub state_text : PairState → List ℕ
state_text Mach = codes "MACH"
state_text Err1 = codes "ERR1"
state_text Err2 = codes "ERR2"
