-- Laws of comparisons.
use Rattle.std.specs.Prelude.{◌≡◌, ℕ, ◌<◌}
use Rattle.report.specs.declared.details.Details.{Details}
use Rattle.sheets.specs.Sheets.{Meaning, state_of}
use Rattle.sheets.specs.declared.finding.Category.{Category}
use Rattle.sheets.specs.declared.finding.Category.TheVariants.{First, Second}
use Rattle.sheets.specs.declared.finding.Finding.TheVariants.{Differs}
use Rattle.sheets.specs.declared.finding.PairState.TheVariants.{Mach, Err1, Err2}

-- a field of this category differs
abbrev pub DiffersAt : Meaning → Category → Details → Details → Type 0
DiffersAt sheet category a b = (i : ℕ) × ((i < 64) × ((sheet.category i ≡ category) × (sheet.finding i a b ≡ Differs)))

pub record ComparisonLaws : Type 0 where
  -- a pair that is told MACH has no field that differs
  pub mach : (sheet : Meaning) (a b : Details) (i : ℕ) → state_of sheet a b ≡ Mach → i < 64 → sheet.finding i a b ≡ Differs → ⊥
  -- a field of the first category that differs is told as ERR1
  pub err1 : (sheet : Meaning) (a b : Details) (i : ℕ) → i < 64 → sheet.category i ≡ First → sheet.finding i a b ≡ Differs → state_of sheet a b ≡ Err1
  -- and only then
  pub err1_only : (sheet : Meaning) (a b : Details) → state_of sheet a b ≡ Err1 → DiffersAt sheet First a b
  -- where ERR2 is told, one of the second category differs, and none of the first, by `err1`
  pub err2_only : (sheet : Meaning) (a b : Details) → state_of sheet a b ≡ Err2 → DiffersAt sheet Second a b
