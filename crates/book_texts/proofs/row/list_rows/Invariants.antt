use Rattle.std.proofs.Common.{◌≡◌, ◌++◌, drop, map, string_bytes}
use Rattle.std.specs.List.{concat}
use Rattle.rows.specs.Entries.{entry_of}
use Rattle.book_texts.specs.Lines.{row_line, rows_text}
use Rattle.book_texts.proofs.row.list_rows.Given as goal

abbrev pub invariant-loop-row : goal.invariant-loop-row
invariant-loop-row l = string_bytes l.out ++ concat (map row_line (map entry_of (drop l.row-index l.rows))) ≡ rows_text (map entry_of l.rows)
