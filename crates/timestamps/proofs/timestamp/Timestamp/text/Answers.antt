use Rattle.std.proofs.Common.{arith, rules}
use Rattle.timestamps.proofs.Instants.{stamp_back}
use Rattle.timestamps.proofs.timestamp.Timestamp.text.Goals as goal

pub returns-clause-reads_back : goal.returns-clause-reads_back
returns-clause-reads_back c = stamp_back _ _ (omega (arith, c.args.self.time.within, c.args.self.date.within)) (search rules)
