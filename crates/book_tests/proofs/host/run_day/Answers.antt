use Rattle.std.proofs.Common.{rules, ◌≡◌, ◌∙◌, List, length, drop, subst}
use Rattle.business.specs.BusinessDays.{day_no}
use Rattle.closing.specs.Lists.{lists_of}
use Rattle.rows.specs.declared.row.Row.{Row}
use Rattle.rules.specs.Books.{Opening}
use Rattle.rules.specs.Judging.{Close}
use Rattle.book_tests.specs.Days.{Goes}
use Rattle.book_tests.specs.declared.host.Answers.{Answers}
use Rattle.book_tests.proofs.Behind.{after_close, after_open, after_report}
use Rattle.book_tests.proofs.Chain.{goes}
use Rattle.book_tests.proofs.host.run_day.Goals as goal

pub returns-clause-goes : goal.returns-clause-goes
returns-clause-goes g c =
    let o : Opening = record { sheet = g.S.Sheet.meaning c.args.sheet.now; day = day_no c.args.day; rows = length c.args.rows.now } in
    let lists : Close = lists_of c.args.lists.parties.now c.args.lists.countries.now (length c.args.notices.now) in
    let a : Answers = record { first = c.report-first.result; second = c.report-second.result; close = c.close-close.result; lookup = c.lookup-lookup.result } in
    let day = goes o c.args.received lists c.open-book.result c.report-first.new.self c.report-second.new.self c.close-close.new.self c.args.notices.now c.close-close.new.notices c.args.findings.now c.lookup-lookup.new.findings a (c.open-book.ensures.history o.sheet) c.report-first.ensures.call c.report-second.ensures.call c.close-close.ensures.call c.lookup-lookup.ensures.call in
    subst (λ (rows : List Row). Goes o c.args.received lists rows c.close-close.new.notices c.lookup-lookup.new.findings a) (search rules) day

pub returns-clause-behind : goal.returns-clause-behind
returns-clause-behind g c =
    let stay : drop 4096 c.close-close.new.self.rows.now ≡ drop 4096 c.args.rows.now =
    after_close c.report-second.new.self c.close-close.new.self c.args.notices.now c.close-close.new.notices c.close-close.result c.close-close.ensures.call.leaves
    ∙ after_report c.report-first.new.self c.report-second.new.self c.report-second.ensures.call.read c.report-second.result c.report-second.ensures.call.leaves
    ∙ after_report c.open-book.result c.report-first.new.self c.report-first.ensures.call.read c.report-first.result c.report-first.ensures.call.leaves
    ∙ after_open c.args.rows.now c.open-book.result.rows.now c.open-book.ensures.rows in
    search (rules, stay)
