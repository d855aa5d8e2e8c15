use Rattle.std.proofs.Common.{◌≡◌, ◌++◌, ◌+◌, drop, if◌then◌else◌, string_bytes}
use Rattle.sheets.specs.Findings.{finding_numbers}
use Rattle.book_texts.specs.Positions.{differing_from, differing_text, more_positions, positions_text}
use Rattle.book_texts.proofs.differing.push_differing.Given as goal

abbrev pub invariant-loop-place : goal.invariant-loop-place
invariant-loop-place l = string_bytes l.out ++ (if l.any then more_positions (differing_from (l.place + 1) (finding_numbers (drop l.place l.findings))) else positions_text (differing_from (l.place + 1) (finding_numbers (drop l.place l.findings)))) ≡ string_bytes l.fn.out ++ differing_text (finding_numbers l.findings)
