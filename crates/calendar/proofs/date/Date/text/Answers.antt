use Rattle.std.proofs.Common.{rules}
use Rattle.calendar.proofs.Civil.{text_back}
use Rattle.calendar.proofs.date.Date.text.Goals as goal

pub returns-clause-reads_back : goal.returns-clause-reads_back
returns-clause-reads_back c = text_back _ _ c.args.self.within (search rules)
