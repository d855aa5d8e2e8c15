use Rattle.closing.specs.Passes.{Settles}
use Rattle.closing.proofs.passes.settle_all.Given as goal

abbrev pub invariant-loop-i : goal.invariant-loop-i
invariant-loop-i l = Settles l.i l.initial.rows l.rows
