use Rattle.std.proofs.Common.{◌≡◌, ◌∙◌, Bool, cond, false, ap, sym}
use Rattle.sheets.proofs.Named.{same_findings}
use Rattle.sheets.specs.Sheets.{findings_of}
use Rattle.rows.specs.Entries.{entry_of}
use Rattle.rules.specs.Judging.{stays_paired}
use Rattle.judging.proofs.pair.pair_findings.Goals as goal

pub returns : goal.returns
returns g c =
    let row = c.args.row.now in
    let mirror = c.args.mirror.now in
    let sheet = g.S.Sheet.meaning c.args.sheet.now in
    let anew : stays_paired (entry_of row) (entry_of mirror) ≡ false = sym c.is_kept.ensures ∙ c.if-is_kept.false in
    let compared = findings_of sheet row.tags.details mirror.tags.details in
    same_findings c.compare.result.findings compared c.compare.ensures.findings ∙ ap (λ (kept : Bool). cond kept row.findings compared) (sym anew)
