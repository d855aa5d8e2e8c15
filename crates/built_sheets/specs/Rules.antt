-- The rule of the sheets that clients fill.
use Rattle.std.specs.Prelude.{ℕ, Bool, true, false, ◌&&◌, ◌||◌, List, [], ◌∷◌, length, take, drop, Some, None, Option, ◌==◌, if◌then◌else◌, Result, Ok, Err}
use Rattle.checks.specs.Checks.{check_number, is_amount, is_side, is_timestamp}
use Rattle.checks.specs.Values.{compared_fields}
use Rattle.checks.specs.declared.check.Check.{Check}
use Rattle.checks.specs.declared.field.Field.{Field}
use Rattle.refusals.specs.Words.{RefusalParts, parts_of}
use Rattle.refusals.specs.declared.refusal.Refusal.TheVariants.{BadSheet}
use Rattle.sheets.specs.declared.finding.Category.{Category}
use Rattle.sheets.specs.declared.finding.Category.TheVariants.{First, Second, Third}

-- which check codes a field may have: checks 1 and 2 on amounts, 3 and 4 on timestamps, 5 for exact on any field, and 6
-- for opposite on the side
abbrev pub code_fits : ℕ → Field → Bool
code_fits code field =
    ((code == 1 || code == 2) && is_amount field)
    || (((code == 3 || code == 4) && is_timestamp field) || (code == 5 || (code == 6 && is_side field)))

-- a field of the third category has code 0, and no other has
abbrev pub row_fits : ℕ → ℕ → Field → Bool
row_fits code category field = (category == 3 && code == 0) || ((category == 1 || category == 2) && code_fits code field)

abbrev pub rows_fit : List ℕ → List ℕ → List Field → Bool
rows_fit [] [] [] = true
rows_fit (code ∷ codes) (category ∷ categories) (field ∷ fields) = row_fits code category field && rows_fit codes categories fields
rows_fit codes categories fields = false

-- 31 bytes: the number of fields, a code for each, and a category for each
abbrev pub is_tabled : List ℕ → Bool
is_tabled [] = false
is_tabled (count ∷ rest) = count == 15 && (length rest == 30 && rows_fit (take 15 rest) (drop 15 rest) compared_fields)

-- what a client's bytes are read as: a sheet with these bytes, or a refusal that names no field
abbrev pub sheet_of : List ℕ → Result (List ℕ) RefusalParts
sheet_of bytes = if is_tabled bytes then Ok bytes else Err (parts_of BadSheet)

-- the code of a check, and 0 for none
abbrev pub code_of : Option Check → ℕ
code_of None = 0
code_of (Some check) = check_number check

-- a row weighs something exactly if it has a check
abbrev pub is_whole : Option Check → Category → Bool
is_whole None Third = true
is_whole (Some check) First = true
is_whole (Some check) Second = true
is_whole check category = false
