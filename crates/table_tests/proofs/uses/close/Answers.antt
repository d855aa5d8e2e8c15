use Rattle.std.proofs.Common.{List, rules, subst}
use Rattle.table.specs.Order.{Ascending}
use Rattle.table_tests.specs.Samples.{sample_keys, sample_order}
use Rattle.table_tests.specs.declared.sample.Sample.{Sample}
use Rattle.table_tests.proofs.uses.close.Goals as goal

pub invariant_of-table : goal.invariant_of-table
invariant_of-table c = record { ascends = c.used_ascend.ensures.0 c.if-not-used_ascend.false }

pub returns-clause-ascends : goal.returns-clause-ascends
returns-clause-ascends c = subst (λ (xs : List Sample). Ascending sample_order (sample_keys c.close_up.new.self.used xs)) (search rules) c.close_up.new.self.ascends
