use Rattle.std.proofs.Common.{not}
use Rattle.std.proofs.lemmas.List.Filters.{FiltersInPlace}
use Rattle.table.proofs.closing.close_up.Given as goal

-- of the rows that were looked at, the first `count` places hold those that are kept
abbrev pub invariant-loop-i : goal.invariant-loop-i
invariant-loop-i g l = FiltersInPlace (λ x. not (g.R.Freeable.freed x)) l.initial.rows l.rows l.count l.i
