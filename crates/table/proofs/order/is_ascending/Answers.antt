use Rattle.std.proofs.Common.{of_calls, rules}
use Rattle.std.proofs.lemmas.Fn.{always_returns_same}
use Rattle.std.specs.Ordering.{is_lt}
use Rattle.table.proofs.Searching.{ascending_tested}
use Rattle.table.proofs.order.is_ascending.Goals as goal

pub returns : goal.returns
returns g c =
    let cmp = g.R.Key.Key.cmp in
    let id = g.R.Keyed.id in
    ascending_tested g.met.R.Key.Key.total id c.args.rows.now c.is_sorted_by.result
    (c.is_sorted_by.ensures.cases (λ x y. is_lt (cmp (id x) (id y))) (always_returns_same _ _ _ (λ a r f called. search (rules, of_calls))))
