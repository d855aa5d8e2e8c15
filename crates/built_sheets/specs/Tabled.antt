-- The sheets that clients fill.
use Rattle.std.specs.Prelude.{◌≡◌, ℕ, zero, suc, ◌≤◌, true, ◌++◌, List, [], ◌∷◌, length, Some, None, Option, slice_get}
use Rattle.std.proofs.Common.{refl, arith}
use Rattle.checks.proofs.Exchanged.{exchanged as found_exchanged}
use Rattle.checks.specs.Checks.{found}
use Rattle.checks.specs.Values.{compared_fields}
use Rattle.checks.specs.declared.check.Check.{Check}
use Rattle.checks.specs.declared.field.Field.{Field}
use Rattle.report.specs.declared.details.Details.{Details}
use Rattle.sheets.specs.Findings.{category_number}
use Rattle.sheets.specs.Sheets.{Meaning}
use Rattle.sheets.specs.declared.finding.Category.{Category}
use Rattle.sheets.specs.declared.finding.Category.TheVariants.{First, Second, Third}
use Rattle.sheets.specs.declared.finding.Finding.{Finding}
use Rattle.sheets.specs.declared.finding.Finding.TheVariants.{NotCompared}
use Rattle.built_sheets.specs.Rows.{categories_of, codes_of}
use Rattle.built_sheets.specs.Rules.{code_of, is_whole}
use Rattle.built_sheets.specs.declared.tabled.row.TabledRow.{TabledRow}
use Rattle.built_sheets.specs.declared.tabled.TabledSheet.{TabledSheet}

-- ---- what a sheet was read from

pub record RowNumbers : Type 0 where
  pub code : ℕ
  pub category : ℕ

-- the code and the category of a row
abbrev pub numbers_of : TabledRow → RowNumbers
numbers_of r = record { code = code_of r.check; category = category_number r.category }

abbrev pub bytes_of : TabledSheet → List ℕ
bytes_of sheet = 15 ∷ (codes_of sheet.rows ++ categories_of sheet.rows)

-- ---- what a sheet means

abbrev pub category_in : Option TabledRow → Category
category_in None = Third
category_in (Some r) = r.category

abbrev pub found_by : Option Check → Option Field → Details → Details → Finding
found_by (Some check) (Some field) a b = found check field a b
found_by check field a b = NotCompared

abbrev pub finding_in : Option TabledRow → Option Field → Details → Details → Finding
finding_in None field a b = NotCompared
finding_in (Some r) field a b = found_by r.check field a b

-- ---- the laws of every sheet

pub none_past : (rows : List TabledRow) (i : ℕ) → length rows ≤ i → category_in (slice_get rows i) ≡ Third
none_past [] i h = refl
none_past (r ∷ rows) zero h = absurd (omega arith)
none_past (r ∷ rows) (suc i) h = none_past rows i (omega arith)

pub checked : (check : Option Check) (category : Category) (field : Option Field) (a b : Details) → is_whole check category ≡ true → category ≡ Third → found_by check field a b ≡ NotCompared
checked None category field a b w e = refl
checked (Some check) First field a b w e = absurd (cc)
checked (Some check) Second field a b w e = absurd (cc)
checked (Some check) Third field a b w e = absurd (cc)

pub uncompared : (r : Option TabledRow) (field : Option Field) (a b : Details) → category_in r ≡ Third → finding_in r field a b ≡ NotCompared
uncompared None field a b e = refl
uncompared (Some r) field a b e = checked r.check r.category field a b r.whole e

pub found_by_exchanged : (check : Option Check) (field : Option Field) (a b : Details) → found_by check field a b ≡ found_by check field b a
found_by_exchanged None field a b = refl
found_by_exchanged (Some check) None a b = refl
found_by_exchanged (Some check) (Some field) a b = found_exchanged check field a b

pub exchanged : (r : Option TabledRow) (field : Option Field) (a b : Details) → finding_in r field a b ≡ finding_in r field b a
exchanged None field a b = refl
exchanged (Some r) field a b = found_by_exchanged r.check field a b

-- what a client's sheet means: at each field, what its row says
abbrev pub tabled : TabledSheet → Meaning
tabled sheet = record {
  fields = 15;
  category = λ i. category_in (slice_get sheet.rows i);
  finding = λ i. finding_in (slice_get sheet.rows i) (slice_get compared_fields i);
  some = omega arith;
  most = omega arith;
  past = λ i h. none_past sheet.rows i (omega (arith, sheet.count));
  uncompared = λ i. uncompared (slice_get sheet.rows i) (slice_get compared_fields i);
  exchanged = λ i. exchanged (slice_get sheet.rows i) (slice_get compared_fields i);
}
