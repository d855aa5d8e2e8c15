use Rattle.std.proofs.Common.{rules, List}
use Rattle.table.specs.Changes.{Inserts, Tells, used_after}
use Rattle.table.specs.Order.{Ascending}
use Rattle.table_tests.proofs.Front.{of_front, rest_of}
use Rattle.table_tests.specs.Samples.{sample_keys, sample_order}
use Rattle.table_tests.specs.declared.sample.Sample.{Sample}
use Rattle.table_tests.proofs.uses.enter_front.Goals as goal

pub returns : goal.returns
returns g =
    let xs = g.args.rows.now in
    let used = g.args.used in
    let row = g.args.row in
    let r = g.insert.result in
    let done = g.insert.ensures in
    let front = of_front xs g.insert.new.rows g.args.most g.min-end.result g.min-end.ensures (search rules) in
    record {
      front = front (λ (ws zs : List Sample). Inserts sample_order (λ x. x.key) used ws row zs r) done.rows;
      key = front (λ (ws zs : List Sample). Ascending sample_order (sample_keys used ws) → Tells sample_order (sample_keys used ws) row.key r) done.key;
      ascends = front (λ (ws zs : List Sample). Ascending sample_order (sample_keys used ws) → Ascending sample_order (sample_keys (used_after used r) zs)) done.ascends;
      rest = rest_of xs g.insert.new.rows g.args.most g.min-end.result g.min-end.ensures (search rules);
    }
