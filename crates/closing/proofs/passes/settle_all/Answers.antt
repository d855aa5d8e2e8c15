use Rattle.std.proofs.Common.{arith}
use Rattle.closing.proofs.Settling.{settle_on}
use Rattle.closing.proofs.passes.settle_all.Goals as goal

pub loop-i-preserved : goal.loop-i-preserved
loop-i-preserved c = settle_on c.args.rows.now c.loop-i.rows c.loop-i.i c.index-rows-i.result c.settled.result c.loop-i.invariant (omega (arith, c.loop-i.auto.rows, c.loop-i-test.true, c.requires)) c.settled.ensures
