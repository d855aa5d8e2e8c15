use Rattle.std.proofs.Common.{◌≤◌, arith, subst, sym}
use Rattle.table.specs.Changes.{PutIn}
use Rattle.table.specs.Order.{MissingAt, keys}
use Rattle.table.proofs.Entering.{ascending_entered, put_in}
use Rattle.table.proofs.insertion.insert_at.Goals as goal

pub returns : goal.returns
returns g c =
    let cmp = g.R.Key.Key.cmp in
    let id = g.R.Keyed.id in
    let xs = c.args.rows.now in
    let used = c.args.used in
    let i = c.min-at.result in
    let le : i ≤ used = omega (arith, c.min-at.ensures) in
    let put = put_in xs used i c.args.row le (omega arith) c.copy_within.new.self c.copy_within.ensures.after in
    record {
      rows = subst (PutIn used xs c.args.row _) c.min-at.ensures put;
      ascends = λ up missing. ascending_entered g.met.R.Key.Key.total id xs _ used i c.args.row put up (subst (MissingAt cmp (keys id used xs) (id c.args.row)) (sym c.min-at.ensures) missing);
    }
