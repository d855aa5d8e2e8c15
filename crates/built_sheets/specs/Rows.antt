-- The codes and the categories of a client's rows.
use Rattle.std.specs.Prelude.{ℕ, List, map}
use Rattle.sheets.specs.Findings.{category_number}
use Rattle.built_sheets.specs.Rules.{code_of}
use Rattle.built_sheets.specs.declared.tabled.row.TabledRow.{TabledRow}

abbrev pub codes_of : List TabledRow → List ℕ
codes_of rows = map (λ r. code_of r.check) rows

abbrev pub categories_of : List TabledRow → List ℕ
categories_of rows = map (λ r. category_number r.category) rows
