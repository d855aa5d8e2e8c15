use Rattle.std.proofs.Common.{rules, ◌≡◌, Some, Err, slice_index_or, ◌∙◌, ap, sym, subst}
use Rattle.book.proofs.Looking.{bad_key, no_row, row_there}
use Rattle.rows.specs.Entries.{entry_of}
use Rattle.rows.specs.declared.row.Row.{Row}
use Rattle.intake.specs.Places.{Located}
use Rattle.book.proofs.book.Book.lookup.Goals as goal

pub returns-in_err-key : goal.returns-in_err-key
returns-in_err-key c =
    let e = c.in_err-key.field-0.0 in
    let is : c.from_residual.result ≡ Err e = search rules in
    rw is (record { call = bad_key c.args.self.now c.args.trade.now c.args.reporter.now c.args.other.now c.read.result c.read.ensures c.args.findings.now e c.in_err-key.was })

pub returns-in_default : goal.returns-in_default
returns-in_default c =
    let absent = (subst (Located c.args.self.now.used c.args.self.now.rows.now c.in_ok-key.key) c.in_default.is c.locate.ensures).found in
    record { call = no_row c.args.self.now c.args.trade.now c.args.reporter.now c.args.other.now c.read.result c.read.ensures c.args.findings.now c.in_ok-key.key c.in_ok-key.was absent }

pub returns : goal.returns
returns c =
    let there = (subst (Located c.args.self.now.used c.args.self.now.rows.now c.in_ok-key.key) c.in-Ok.is c.locate.ensures).found in
    let row = c.index-rows-at.result in
    let stands : slice_index_or c.args.self.now.rows.now c.in-Ok.at row ≡ row = sym c.index-rows-at.is in
    record { call = row_there c.args.self.now c.args.trade.now c.args.reporter.now c.args.other.now c.read.result c.read.ensures c.args.findings.now c.in_ok-key.key row c.in_ok-key.was (λ o. there o row ∙ ap (λ (r : Row). Some (entry_of r)) stands) }
