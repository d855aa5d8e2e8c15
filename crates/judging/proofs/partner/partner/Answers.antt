use Rattle.std.proofs.Common.{ap, ◌∙◌}
use Rattle.std.specs.Option.{option_map}
use Rattle.business.specs.BusinessDays.{day_no}
use Rattle.rows.specs.Entries.{entry_of}
use Rattle.rows.specs.Keys.{key_of}
use Rattle.rules.specs.Slices.{entries_of}
use Rattle.judging.specs.Lines.{close_of, line_of}
use Rattle.judging.proofs.Judged.{by_mirror, no_mirror}
use Rattle.judging.proofs.Lined.{other_line}
use Rattle.judging.proofs.partner.partner.Goals as goal

pub returns-in_err-mirror : goal.returns-in_err-mirror
returns-in_err-mirror c places up =
    let a = c.args in
    ap (option_map entry_of) c.from_residual.ensures
    ∙ no_mirror (close_of a.registers.now places) (day_no a.today) (entries_of a.used a.rows.now) (entry_of a.row.now) (key_of c.mirror.result) c.mirror.ensures (c.in_err-mirror.ensures up)

pub returns-in-Ready : goal.returns-in-Ready
returns-in-Ready c places up =
    let a = c.args in
    by_mirror (close_of a.registers.now places) (day_no a.today) (entries_of a.used a.rows.now) (entry_of a.row.now) (key_of c.mirror.result) c.mirror.ensures (entry_of c.in_ok-mirror.mirror) _ (c.in_ok-mirror.ensures up) (c.in-Ready.ensures places)

pub returns-in_default : goal.returns-in_default
returns-in_default c places up =
    let a = c.args in
    let m = entry_of c.in_ok-mirror.mirror in
    other_line c.first_line.result m c.in_default.not-Ready
    ∙ by_mirror (close_of a.registers.now places) (day_no a.today) (entries_of a.used a.rows.now) (entry_of a.row.now) (key_of c.mirror.result) c.mirror.ensures m (line_of c.first_line.result) (c.in_ok-mirror.ensures up) (c.first_line.ensures places)
