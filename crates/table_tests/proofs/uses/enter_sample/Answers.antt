use Rattle.std.proofs.Common.{List, ℕ, rules, subst}
use Rattle.table.specs.Changes.{used_after}
use Rattle.table.specs.Order.{Ascending}
use Rattle.table_tests.specs.Samples.{sample_keys, sample_order}
use Rattle.table_tests.specs.declared.sample.Sample.{Sample}
use Rattle.table_tests.proofs.uses.enter_sample.Goals as goal

pub invariant_of-table : goal.invariant_of-table
invariant_of-table c = record { ascends = c.used_ascend.ensures.0 c.if-not-used_ascend.false }

pub returns-clause-ascends : goal.returns-clause-ascends
returns-clause-ascends c =
    let up = subst (λ (n : ℕ). Ascending sample_order (sample_keys n c.insert.new.self.rows.now)) c.insert.ensures.count c.insert.new.self.ascends in
    subst (λ (xs : List Sample). Ascending sample_order (sample_keys (used_after c.args.used c.insert.result) xs)) (search rules) up
