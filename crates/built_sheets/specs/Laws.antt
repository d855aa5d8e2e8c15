-- Laws of the sheets that are built.
use Rattle.std.specs.Prelude.{◌≡◌, true, map}
use Rattle.checks.specs.Checks.{check_number}
use Rattle.checks.specs.Values.{compared_fields}
use Rattle.sheets.specs.Findings.{category_number}
use Rattle.built_sheets.specs.Published.{published}
use Rattle.built_sheets.specs.Rules.{rows_fit}

pub record SheetLaws : Type 0 where
  -- the published rows are in the order of the compared fields
  pub in_order : map (λ r. r.field) published ≡ compared_fields
  -- each published check fits its field
  pub fit : rows_fit (map (λ r. check_number r.check) published) (map (λ r. category_number r.category) published) compared_fields ≡ true
