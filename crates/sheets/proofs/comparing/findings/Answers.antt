use Rattle.std.proofs.Common.{◌∙◌, ap, map, refl}
use Rattle.sheets.proofs.Exchanged.{all_places}
use Rattle.sheets.proofs.comparing.findings.Goals as goal

pub returns : goal.returns
returns g c = c.fill.ensures ∙ ap (map (λ i. (g.S.Sheet.meaning c.args.sheet.now).finding i c.args.first.now c.args.second.now)) (all_places _ refl)
