-- What is told of a slip.
use Rattle.std.specs.Prelude.{ℕ, List, ◌++◌, length, map, codes, decimal, Some, None, Option}
use Rattle.std.specs.List.{concat}
use Rattle.journal.specs.Escapes.{escaped}
use Rattle.refusals.specs.Words.{RefusalParts, refusal_text}
use Rattle.slip.specs.Layout.{FieldParts}

-- a line feed, two blanks, and what is told of a field
abbrev pub field_line : FieldParts → List ℕ
field_line f = codes "\n  " ++ (decimal f.tag ++ (codes " at " ++ (decimal f.place ++ (codes " " ++ escaped f.text))))

abbrev pub fields_text : List FieldParts → List ℕ
fields_text fields = decimal (length fields) ++ (codes " fields" ++ concat (map field_line fields))

abbrev pub torn : RefusalParts
torn = record { number = 1; words = codes "torn slip"; tag = 0 }

-- how many fields the slip has, and a line for each; bytes that are no slip are torn
abbrev pub slip_text : Option (List FieldParts) → List ℕ
slip_text None = refusal_text torn
slip_text (Some fields) = fields_text fields
