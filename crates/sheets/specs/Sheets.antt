-- What a sheet means, and what comparing two reports under it comes to.
use Rattle.std.specs.Prelude.{◌≡◌, ℕ, ◌≤◌, Bool, false, ◌&&◌, ◌||◌, ◌+◌, if◌then◌else◌, List, [], ◌∷◌, map, ◌==◌}
use Rattle.std.specs.List.{range_with_len}
use Rattle.report.specs.declared.details.Details.{Details}
use Rattle.sheets.specs.Findings.{category_number, finding_number}
use Rattle.sheets.specs.declared.finding.Category.{Category}
use Rattle.sheets.specs.declared.finding.Category.TheVariants.{First, Second, Third}
use Rattle.sheets.specs.declared.finding.Finding.{Finding}
use Rattle.sheets.specs.declared.finding.Finding.TheVariants.{NotCompared}
use Rattle.sheets.specs.declared.finding.PairState.{PairState}
use Rattle.sheets.specs.declared.finding.PairState.TheVariants.{Mach, Err1, Err2}

-- the meaning of a sheet, and what holds of every sheet. Its fields are numbered from 0.
pub record Meaning : Type 0 where
  -- how many fields it has
  pub fields : ℕ
  -- the weight of each field
  pub category : ℕ → Category
  -- what it finds at a field of two reports
  pub finding : ℕ → Details → Details → Finding
  pub some : 1 ≤ fields
  pub most : fields ≤ 64
  -- behind its fields it weighs nothing
  pub past : (i : ℕ) → fields ≤ i → category i ≡ Third
  -- what weighs nothing is not compared
  pub uncompared : (i : ℕ) (a b : Details) → category i ≡ Third → finding i a b ≡ NotCompared
  -- which report comes first makes no difference
  pub exchanged : (i : ℕ) (a b : Details) → finding i a b ≡ finding i b a

-- the places of findings, of which there are 64 whatever the sheet
unfoldable pub places : List ℕ
places = range_with_len 0 64

-- the finding at each place
abbrev pub findings_of : Meaning → Details → Details → List Finding
findings_of sheet a b = map (λ i. sheet.finding i a b) places

-- whether one of these findings, which begin at a field, tells that a field of this category differs
abbrev pub some_differ : Meaning → Category → ℕ → List Finding → Bool
some_differ sheet category i [] = false
some_differ sheet category i (finding ∷ findings) =
    (category_number (sheet.category i) == category_number category && finding_number finding == 1)
    || some_differ sheet category (i + 1) findings

-- the state of a pair with these findings
abbrev pub state_by : Meaning → List Finding → PairState
state_by sheet findings =
    if some_differ sheet First 0 findings then Err1
    else if some_differ sheet Second 0 findings then Err2
    else Mach

abbrev pub state_of : Meaning → Details → Details → PairState
state_of sheet a b = state_by sheet (findings_of sheet a b)
