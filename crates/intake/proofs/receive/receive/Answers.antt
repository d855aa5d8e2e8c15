use Rattle.std.proofs.Common.{rules, ◌≡◌, ℕ, set, sym, subst, Err, Result}
use Rattle.refusals.specs.declared.refusal.Refusal.{Refusal}
use Rattle.intake.specs.Intake.{Receives}
use Rattle.intake.proofs.Answering.{amends, enters_in, refuses}
use Rattle.intake.proofs.receive.receive.Goals as goal

pub returns-in_err-amend-in-Ok : goal.returns-in_err-amend-in-Ok
returns-in_err-amend-in-Ok c =
    let refusal = c.in_err-amend-in-Ok.field-0.0 in
    let e : c.from_residual.result ≡ Err refusal = search rules in
    subst (λ (result : Result ℕ Refusal). Receives c.args.today c.args.used c.args.rows.now c.args.report.now result (set c.args.rows.now c.in-Ok.at c.amend.new.row)) (sym e)
    (refuses c.args.today c.args.used c.args.rows.now c.args.report.now c.of-key.result c.of-key.ensures (search rules) (search rules) c.in-Ok.at c.index-rows-at.result c.amend.new.row c.in-Ok.ensures refusal c.in_err-amend-in-Ok.ensures)

pub returns-in_ok-amend-in-Ok : goal.returns-in_ok-amend-in-Ok
returns-in_ok-amend-in-Ok c = amends c.args.today c.args.used c.args.rows.now c.args.report.now c.of-key.result c.of-key.ensures (search rules) (search rules) c.in-Ok.at c.index-rows-at.result c.amend.new.row c.in-Ok.ensures tt c.in_ok-amend-in-Ok.ensures

pub returns-in-Err : goal.returns-in-Err
returns-in-Err c = enters_in c.args.today c.args.used c.args.rows.now c.args.report.now c.of-key.result c.of-key.ensures (search rules) (search rules) c.in-Err.at c.enter.new.rows c.enter.result c.in-Err.ensures c.enter.ensures
