use Rattle.std.proofs.Common.{arith}
use Rattle.sheets.proofs.Filling.{next_down}
use Rattle.sheets.proofs.Named.{one_finding}
use Rattle.sheets.proofs.comparing.fill.Goals as goal

pub loop-place-preserved : goal.loop-place-preserved
loop-place-preserved g c = next_down (λ i. (g.S.Sheet.meaning c.args.sheet.now).finding i c.args.first.now c.args.second.now) c.loop-place.places c.loop-place.place _ c.finding.result c.loop-place.invariant.0 (omega (arith, c.loop-place.invariant.0, c.loop-place-test.true)) c.loop-place.invariant.1 (one_finding _ _ c.finding.ensures)
