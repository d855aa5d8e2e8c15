use Rattle.std.proofs.Common.{List, rules, subst}
use Rattle.table.specs.Order.{Ascending}
use Rattle.table_tests.proofs.Desk.{second}
use Rattle.table_tests.specs.Samples.{sample_keys, sample_order}
use Rattle.table_tests.specs.declared.sample.Sample.{Sample}
use Rattle.table_tests.proofs.uses.receive_two.Goals as goal

pub returns : goal.returns
returns c =
    let table = c.receive-2.new.self.samples.now in
    second c.receive-2.result c.receive.new.self.samples.now.used table.used _ (search rules) c.receive-2.ensures.count
    (subst (λ (xs : List Sample). Ascending sample_order (sample_keys table.used xs)) (search rules) table.ascends)
