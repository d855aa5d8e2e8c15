use Rattle.std.proofs.Common.{◌≡◌, drop}
use Rattle.sheets.specs.Sheets.{some_differ}
use Rattle.sheets.proofs.comparing.some_differ.Given as goal

abbrev pub invariant-loop-field : goal.invariant-loop-field
invariant-loop-field g l = some_differ (g.S.Sheet.meaning l.sheet) l.category l.field (drop l.field l.findings) ≡ some_differ (g.S.Sheet.meaning l.sheet) l.category 0 l.findings
