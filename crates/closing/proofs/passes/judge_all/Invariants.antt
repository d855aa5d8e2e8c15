use Rattle.std.proofs.Common.{length}
use Rattle.business.specs.BusinessDays.{day_no}
use Rattle.closing.specs.Passes.{Passed}
use Rattle.judging.specs.Lines.{close_of}
use Rattle.closing.proofs.passes.judge_all.Given as goal

abbrev pub invariant-loop-i : goal.invariant-loop-i
invariant-loop-i g l = Passed (g.S.Sheet.meaning l.sheet) (close_of l.registers (length l.initial.notices)) (day_no l.today) l.used l.initial.rows l.rows l.initial.notices l.notices l.sent l.pairs l.i
