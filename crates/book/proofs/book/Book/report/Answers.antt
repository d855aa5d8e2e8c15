use Rattle.std.proofs.Common.{rules, ◌≡◌, Ok, Err, refl, subst}
use Rattle.report.specs.Laws.{ReadAs}
use Rattle.book.proofs.Reporting.{refused_row, taken_row, unread}
use Rattle.book.proofs.book.Book.report.Goals as goal

pub returns-in_err-report-clause-call : goal.returns-in_err-report-clause-call
returns-in_err-report-clause-call c =
    let e = c.in_err-report.field-0.0 in
    let is : c.from_residual.result ≡ Err e = search rules in
    let says : ReadAs c.args.slip.now (Err e) = subst (ReadAs c.args.slip.now) (c.in_err-report.was) (c.read.ensures.value, c.read.ensures.refusal) in
    rw is (unread c.args.slip.now c.args.self.now e says)

pub returns-in_err-self-clause-call : goal.returns-in_err-self-clause-call
returns-in_err-self-clause-call c =
    let e = c.in_err-self.field-0.0 in
    let is : c.from_residual-in_err-self.result ≡ Err e = search rules in
    let says : ReadAs c.args.slip.now (Ok c.in_ok-report.report) = subst (ReadAs c.args.slip.now) (c.in_ok-report.was) (c.read.ensures.value, c.read.ensures.refusal) in
    rw is (refused_row c.args.slip.now c.args.self.now _ c.in_ok-report.report c.receive.result says c.receive.ensures refl e (c.in_err-self.was) refl)

pub returns-clause-call : goal.returns-clause-call
returns-clause-call c =
    let says : ReadAs c.args.slip.now (Ok c.in_ok-report.report) = subst (ReadAs c.args.slip.now) (c.in_ok-report.was) (c.read.ensures.value, c.read.ensures.refusal) in
    taken_row c.args.slip.now c.args.self.now _ c.in_ok-report.report c.receive.result says c.receive.ensures refl (c.in_ok-self.was)
