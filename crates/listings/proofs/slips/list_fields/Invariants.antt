use Rattle.std.proofs.Common.{◌≡◌, ◌++◌, map, string_bytes}
use Rattle.std.specs.List.{concat}
use Rattle.slip.specs.Fields.{fields_left, fields_of}
use Rattle.listings.specs.Slips.{field_line, fields_text}
use Rattle.listings.proofs.slips.list_fields.Given as goal

abbrev pub invariant-loop-field : goal.invariant-loop-field
invariant-loop-field l = string_bytes l.out ++ concat (map field_line (fields_left l.field-iterator)) ≡ fields_text (fields_of l.slip)
