use Rattle.std.proofs.Common.{List, subst}
use Rattle.table.proofs.Searching.{Searched, in_used}
use Rattle.table.proofs.container.Table.find.Goals as goal

pub returns : goal.returns
returns g c =
    let cmp = g.R.Key.Key.cmp in
    let id = g.R.Keyed.id in
    let self = c.args.self.now in
    let f = c.find.ensures in
    let all = in_used cmp id c.as_slice-rows.result.now self.used c.min.result c.args.key.now c.find.result c.min.ensures f.within f.stands f.law in
    let found = subst (λ (ys : List g.row.R.Denot). Searched cmp id self.used ys c.args.key.now c.find.result) c.as_slice-rows.ensures all in
    record { within = found.within; law = found.law self.ascends }
