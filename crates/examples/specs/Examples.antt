-- The worked examples: amounts, days and times, and two reports whose prices are four percent apart.
use Rattle.std.specs.Prelude.{◌≡◌, ℕ, ◌*◌, List, pos, Some, codes, if◌then◌else◌}
use Rattle.std.specs.Option.{option_map}
use Rattle.amounts.specs.Amounts.{worth}
use Rattle.amounts.specs.Decimal.{amount_of}
use Rattle.amounts.specs.Units.{units_per_one}
use Rattle.amounts.specs.Worked.{WorkedExamples as AmountExamples}
use Rattle.built_sheets.specs.Kdpw.{kdpw}
use Rattle.report.specs.declared.details.Details.{Details}
use Rattle.sheets.specs.Findings.{finding_number}
use Rattle.sheets.specs.Sheets.{findings_of, some_differ, state_of}
use Rattle.sheets.specs.declared.finding.Category.TheVariants.{First}
use Rattle.sheets.specs.declared.finding.PairState.TheVariants.{Mach, Err1, Err2}
use Rattle.worked.specs.Worked.{WorkedExamples as TimeExamples}

-- a price of twenty digits, and one that is written short
abbrev pub padded : List ℕ
padded = codes "00000000000000000100"

abbrev pub short : List ℕ
short = codes "104"

-- the details have a price, and it is worth what a text says
abbrev pub Priced : List ℕ → Details → Type 0
Priced text d = option_map worth d.price ≡ amount_of 20 text

-- a text of twenty digits was once taken for no price, and such a pair for a match
pub record PaddedPrices : Type 0 where
  pub hundred : amount_of 20 padded ≡ Some (pos (100 * units_per_one))
  pub hundred_and_four : amount_of 20 short ≡ Some (pos (104 * units_per_one))
  -- the published sheet finds that the prices differ, which it counts as field 8
  pub differ : (a b : Details) → Priced padded a → Priced short b → finding_number (kdpw.finding 8 a b) ≡ 1
  -- an error of kind 2, unless a field of the first category differs too
  pub state : (a b : Details) → Priced padded a → Priced short b → state_of kdpw a b ≡ (if some_differ kdpw First 0 (findings_of kdpw a b) then Err1 else Err2)
  pub unmatched : (a b : Details) → Priced padded a → Priced short b → state_of kdpw a b ≡ Mach → ⊥

pub record AllExamples : Type 0 where
  -- tolerance checks 1 and 2, and the padded hundred
  pub amounts : AmountExamples
  -- tolerance check 3, and the second business day
  pub calendar : TimeExamples
  pub prices : PaddedPrices
