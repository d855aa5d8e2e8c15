use Rattle.std.proofs.Common.{◌≡◌, drop, length, take}
use Rattle.built_sheets.specs.Rules.{rows_fit}
use Rattle.built_sheets.specs.Rows.{categories_of, codes_of}
use Rattle.built_sheets.proofs.tabled.read.read_rows.Given as goal

abbrev pub invariant-loop-place : goal.invariant-loop-place
invariant-loop-place l =
    (length l.rows ≡ length l.fn.rows)
    × ((rows_fit (drop l.place l.codes) (drop l.place l.categories) (drop l.place l.fields) ≡ rows_fit l.codes l.categories l.fields)
    × ((codes_of (take l.place l.rows) ≡ take l.place l.codes) × (categories_of (take l.place l.rows) ≡ take l.place l.categories)))
