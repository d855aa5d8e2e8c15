use Rattle.slip.proofs.Written.{slip_laid}
use Rattle.slip.proofs.slip.Slip.write.Goals as goal

pub returns-then-out-len-clause-slip : goal.returns-then-out-len-clause-slip
returns-then-out-len-clause-slip c = slip_laid c.args.self.now

pub returns-clause-slip : goal.returns-clause-slip
returns-clause-slip c = slip_laid c.args.self.now
