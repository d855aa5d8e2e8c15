use Rattle.std.proofs.Common.{◌≡◌, refl, ◌<◌, ◌≤◌, Err, ap, subst, ◌∙◌, length, min, arith}
use Rattle.std.proofs.lemmas.Grind.{common_steps}
use Rattle.std.specs.Option.{option_map}
use Rattle.business.specs.BusinessDays.{day_no}
use Rattle.business.specs.TargetDays.{next_business}
use Rattle.codes.specs.Codes.{text_of}
use Rattle.refusals.specs.declared.refusal.Refusal.TheVariants.{CalendarEnds, NoticeListShort, RegisterDisordered}
use Rattle.report.proofs.Told.{same_refusal}
use Rattle.rules.specs.Judging.{Close}
use Rattle.rules.specs.Slices.{book_of, room}
use Rattle.closing.specs.Lists.{lists_of}
use Rattle.closing.specs.Passes.{Passed}
use Rattle.closing.proofs.Ending.{accepted, day_ends, day_goes, length_entries, may_go, may_not_by_lists, may_not_tell, refused_as, same_lists}
use Rattle.closing.proofs.Listing.{both_in_order, not_both}
use Rattle.closing.proofs.table_close.close_table.Goals as goal

pub returns-in_err-registers : goal.returns-in_err-registers
returns-in_err-registers g c =
    let lists = lists_of c.args.parties.now c.args.countries.now (length c.args.notices.now) in
    let book = book_of c.args.today c.args.used c.args.rows.now in
    let why = c.in_err-registers.ensures.judged in
    let r : c.from_residual.result ≡ Err RegisterDisordered = (grind (arith, common_steps)) ∙ ap Err (same_refusal _ RegisterDisordered why.0) in
    let off = not_both text_of text_of c.args.parties.now c.args.countries.now why.1 in
    refused_as (g.S.Sheet.meaning c.args.sheet.now) lists c.args.today c.args.used c.args.rows.now c.args.notices.now c.from_residual.result RegisterDisordered r (may_not_by_lists book lists off)

pub returns-then-notices-used : goal.returns-then-notices-used
returns-then-notices-used g c =
    let lists = lists_of c.args.parties.now c.args.countries.now (length c.args.notices.now) in
    let book = book_of c.args.today c.args.used c.args.rows.now in
    let up = both_in_order text_of text_of c.args.parties.now c.args.countries.now c.in_ok-registers.ensures.judged in
    let short : lists.places < length book.entries = omega (arith, c.if-notices-used.true, c.min-used.ensures, c.room.ensures, length_entries c.args.used c.args.rows.now) in
    refused_as (g.S.Sheet.meaning c.args.sheet.now) lists c.args.today c.args.used c.args.rows.now c.args.notices.now _ NoticeListShort refl (may_not_tell book lists up short)

pub returns-in_err-next_day : goal.returns-in_err-next_day
returns-in_err-next_day g c =
    let lists = lists_of c.args.parties.now c.args.countries.now (length c.args.notices.now) in
    let book = book_of c.args.today c.args.used c.args.rows.now in
    let up = both_in_order text_of text_of c.args.parties.now c.args.countries.now c.in_ok-registers.ensures.judged in
    let places : length book.entries ≤ lists.places = omega (arith, c.if-notices-used.false, c.min-used.ensures, c.room.ensures, length_entries c.args.used c.args.rows.now) in
    let r : c.from_residual-in_err-next_day.result ≡ Err CalendarEnds = grind (arith, common_steps) in
    let date = c.date.ensures in
    let after = c.after.ensures.value in
    let day : option_map day_no c.after.result ≡ next_business (day_no c.args.today) = cc in
    refused_as (g.S.Sheet.meaning c.args.sheet.now) lists c.args.today c.args.used c.args.rows.now c.args.notices.now _ CalendarEnds r (may_go book lists up places ∙ day_ends (day_no c.args.today) c.after.result c.in_err-next_day.ensures.variant day)

pub returns : goal.returns
returns g c =
    let sheet = g.S.Sheet.meaning c.args.sheet.now in
    let lists = lists_of c.args.parties.now c.args.countries.now (length c.args.notices.now) in
    let book = book_of c.args.today c.args.used c.args.rows.now in
    let up = both_in_order text_of text_of c.args.parties.now c.args.countries.now c.in_ok-registers.ensures.judged in
    let size : c.min-used.result ≡ min c.args.used (room c.args.rows.now) = omega (arith, c.min-used.ensures, c.room.ensures) in
    let places : length book.entries ≤ lists.places = omega (arith, c.if-notices-used.false, size, length_entries c.args.used c.args.rows.now) in
    let date = c.date.ensures in
    let after = c.after.ensures.value in
    let day : option_map day_no c.after.result ≡ next_business (day_no c.args.today) = cc in
    let next = day_goes (day_no c.args.today) c.after.result c.in_ok-next_day.next_day c.in_ok-next_day.ensures.value day in
    let given = same_lists c.in_ok-registers.registers c.args.parties.now c.args.countries.now (length c.args.notices.now) c.in_ok-registers.ensures.parties c.in_ok-registers.ensures.countries in
    let used = c.min-used.result in
    let judged = subst (λ (k : Close). Passed sheet k (day_no c.args.today) used c.args.rows.now c.judge_all-sent.new.rows c.args.notices.now c.judge_all-sent.new.notices c.judge_all-sent.result.0 c.judge_all-sent.result.1 used) given c.judge_all-sent.ensures in
    let fits : used ≤ length c.args.notices.now = omega (arith, c.if-notices-used.false) in
    accepted sheet lists c.args.today c.in_ok-next_day.next_day c.args.used c.args.rows.now c.judge_all-sent.new.rows c.settle_all.new.rows c.close_up-used.new.rows c.args.notices.now c.judge_all-sent.new.notices c.judge_all-sent.result.0 c.judge_all-sent.result.1 c.close_up-used.result c.blank.result used size fits judged c.settle_all.ensures c.close_up-used.ensures.rows c.blank.ensures (may_go book lists up places ∙ next)
