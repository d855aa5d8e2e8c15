use Rattle.std.proofs.Common.{sym}
use Rattle.slip.proofs.Cutting.{uneven}
use Rattle.slip.proofs.check.fit.Goals as goal

pub returns-then-tags-ends : goal.returns-then-tags-ends
returns-then-tags-ends c = sym (uneven c.args.text.now 0 0 c.args.tags.now c.args.ends.now c.if-tags-ends.true)
