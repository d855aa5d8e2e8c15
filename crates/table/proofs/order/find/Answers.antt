use Rattle.std.proofs.Common.{map, of_calls, rules}
use Rattle.std.proofs.lemmas.Fn.{always_returns_same}
use Rattle.table.proofs.Searching.{found, searched, stands}
use Rattle.table.proofs.order.find.Goals as goal

pub returns : goal.returns
returns g c =
    let cmp = g.R.Key.Key.cmp in
    let id = g.R.Keyed.id in
    let total = g.met.R.Key.Key.total in
    let xs = c.args.rows.now in
    let k = c.args.key.now in
    let r = c.binary_search_by.result in
    let search_is = c.binary_search_by.ensures.position (λ x. cmp (id x) k) (always_returns_same _ _ _ (λ a r f called. search (rules, of_calls))) in
    let bound = c.binary_search_by.ensures.bound in
    record { within = bound; stands = stands cmp id xs k r bound search_is; law = λ up. found total (map id xs) k up r (searched total id xs k up r bound search_is) }
