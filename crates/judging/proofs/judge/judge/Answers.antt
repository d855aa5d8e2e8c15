use Rattle.std.proofs.Common.{ap, ◌∙◌, Some}
use Rattle.business.specs.BusinessDays.{day_no}
use Rattle.rows.specs.Entries.{entry_of}
use Rattle.rules.specs.Slices.{entries_of}
use Rattle.judging.specs.Lines.{close_of}
use Rattle.judging.proofs.Judged.{by_line, by_partner, taken_up, tried}
use Rattle.judging.proofs.judge.judge.Goals as goal

pub returns-in-Some-clause-fate : goal.returns-in-Some-clause-fate
returns-in-Some-clause-fate g c places up =
    let a = c.args in
    c.paired.ensures.fate
    ∙ ap Some (by_partner (g.S.Sheet.meaning a.sheet.now) (close_of a.registers.now places) (day_no a.today) (entries_of a.used a.rows.now) (entry_of a.row.now) (Some (entry_of c.in-Some.mirror)) (c.in-Ready.ensures places) (c.in-Some.ensures places up))

pub returns-in-Some-clause-taken_up : goal.returns-in-Some-clause-taken_up
returns-in-Some-clause-taken_up g c places up =
    let a = c.args in
    c.paired.ensures.taken_up
    ∙ taken_up (g.S.Sheet.meaning a.sheet.now) (close_of a.registers.now places) (day_no a.today) (entries_of a.used a.rows.now) (entry_of a.row.now) (Some (entry_of c.in-Some.mirror)) (c.in-Ready.ensures places) (c.in-Some.ensures places up)

pub returns-in-Early-clause-fate : goal.returns-in-Early-clause-fate
returns-in-Early-clause-fate g c places up =
    let a = c.args in
    c.unchanged-fate.ensures
    ∙ ap Some (by_line (g.S.Sheet.meaning a.sheet.now) (close_of a.registers.now places) (day_no a.today) (entries_of a.used a.rows.now) (entry_of a.row.now) _ (c.in-Early.ensures places))

pub returns-in-Outside-clause-fate : goal.returns-in-Outside-clause-fate
returns-in-Outside-clause-fate g c places up =
    let a = c.args in
    c.unpaired-fate.ensures
    ∙ ap Some (by_line (g.S.Sheet.meaning a.sheet.now) (close_of a.registers.now places) (day_no a.today) (entries_of a.used a.rows.now) (entry_of a.row.now) _ (c.in-Outside.ensures places))

pub returns-in-Lapsed-clause-fate : goal.returns-in-Lapsed-clause-fate
returns-in-Lapsed-clause-fate g c places up =
    let a = c.args in
    c.unpaired-fate-in-Lapsed.ensures
    ∙ ap Some (by_line (g.S.Sheet.meaning a.sheet.now) (close_of a.registers.now places) (day_no a.today) (entries_of a.used a.rows.now) (entry_of a.row.now) _ (c.in-Lapsed.ensures places))

pub returns-in-None-clause-fate : goal.returns-in-None-clause-fate
returns-in-None-clause-fate g c places up =
    let a = c.args in
    c.unpaired.ensures
    ∙ ap Some (tried (g.S.Sheet.meaning a.sheet.now) (close_of a.registers.now places) (day_no a.today) (entries_of a.used a.rows.now) (entry_of a.row.now) _ c.one_more.ensures a.row.now.tries.most (c.in-Ready.ensures places) (c.in-None.ensures places up))
