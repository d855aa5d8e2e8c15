use Rattle.std.proofs.Common.{rules, ◌≡◌, Err, length, refl}
use Rattle.closing.specs.Lists.{lists_of}
use Rattle.book.proofs.Closing.{closed_day, refused_close}
use Rattle.book.proofs.book.Book.close.Goals as goal

pub returns-in_err-closed-clause-call : goal.returns-in_err-closed-clause-call
returns-in_err-closed-clause-call g c =
    let e = c.in_err-closed.field-0.0 in
    let is : c.from_residual.result ≡ Err e = search rules in
    rw is (refused_close (g.S.Sheet.meaning c.args.sheet.now) (lists_of c.args.parties.now c.args.countries.now (length c.args.notices.now)) c.args.self.now _ c.args.notices.now c.close_table.new.notices c.close_table.result c.close_table.ensures e c.in_err-closed.was refl refl)

pub returns-clause-call : goal.returns-clause-call
returns-clause-call g c =
    closed_day (g.S.Sheet.meaning c.args.sheet.now) (lists_of c.args.parties.now c.args.countries.now (length c.args.notices.now)) c.args.self.now _ c.args.notices.now c.close_table.new.notices c.close_table.result c.close_table.ensures c.in_ok-closed.closed c.in_ok-closed.was refl refl
