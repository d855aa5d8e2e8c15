use Rattle.std.proofs.Common.{Ok, Err, rules, subst, sym}
use Rattle.table.specs.Changes.{PutIn}
use Rattle.table.specs.Order.{MissingAt, keys}
use Rattle.table.proofs.Entering.{entered_told, full, full_ascends, full_told, in_place, known, known_told}
use Rattle.table.proofs.Searching.{Searched, in_used}
use Rattle.table.proofs.insertion.insert.Goals as goal

pub returns-in-Ok : goal.returns-in-Ok
returns-in-Ok g c =
    let cmp = g.R.Key.Key.cmp in
    let id = g.R.Keyed.id in
    let used = c.args.used in
    let xs = c.args.rows.now in
    let x = c.args.row in
    let i = c.in-Ok.at in
    let f = c.in-Ok.ensures in
    let s = subst (λ k. Searched cmp id used xs k (Ok i)) c.key.ensures (in_used cmp id xs used c.min.result c.key.result.now (Ok i) c.min.ensures f.within f.stands f.law) in
    record { rows = known cmp id used xs x i s; key = known_told cmp id used xs x i s; ascends = λ up. up }

pub returns-in_ok-insert_at-in-Err : goal.returns-in_ok-insert_at-in-Err
returns-in_ok-insert_at-in-Err g c =
    let cmp = g.R.Key.Key.cmp in
    let id = g.R.Keyed.id in
    let used = c.args.used in
    let xs = c.args.rows.now in
    let x = c.args.row in
    let i = c.in-Err.at in
    let f = c.in-Err.ensures in
    let s = subst (λ k. Searched cmp id used xs k (Err i)) c.key.ensures (in_used cmp id xs used c.min.result c.key.result.now (Err i) c.min.ensures f.within f.stands f.law) in
    let told = entered_told cmp id used xs x i s in
    let same = in_place cmp id used xs x i s in
    let a = c.in_ok-insert_at-in-Err.ensures in
    record {
      rows = subst (PutIn used xs x c.insert_at.new.rows) same a.rows;
      key = told;
      ascends = λ up. a.ascends up (subst (MissingAt cmp (keys id used xs) (id x)) (sym same) (told up).1);
    }

pub returns-in_err-insert_at-in-Err : goal.returns-in_err-insert_at-in-Err
returns-in_err-insert_at-in-Err g c =
    let cmp = g.R.Key.Key.cmp in
    let id = g.R.Keyed.id in
    let used = c.args.used in
    let xs = c.args.rows.now in
    let x = c.args.row in
    let i = c.in-Err.at in
    let f = c.in-Err.ensures in
    let s = subst (λ k. Searched cmp id used xs k (Err i)) c.key.ensures (in_used cmp id xs used c.min.result c.key.result.now (Err i) c.min.ensures f.within f.stands f.law) in
    let a = c.in_err-insert_at-in-Err.ensures.rows in
    let r = c.from_residual.result in
    record {
      rows = full cmp id used xs x r (search rules) c.insert_at.new.rows a.1 a.2;
      key = full_told cmp id used xs x r (search rules) i s;
      ascends = full_ascends cmp id used xs x r (search rules) c.insert_at.new.rows a.1;
    }
