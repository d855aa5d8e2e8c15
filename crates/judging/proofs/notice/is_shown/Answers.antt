use Rattle.std.proofs.Common.{sym, ◌∙◌}
use Rattle.judging.proofs.Shown.{shown_alike}
use Rattle.judging.proofs.notice.is_shown.Goals as goal

pub returns-then-eq : goal.returns-then-eq
returns-then-eq c =
    let v = c.args.verdict.now in
    let row = c.args.row.now in
    c.eq-then-eq.ensures ∙ shown_alike v.state row.state v.findings row.findings (sym c.eq.ensures ∙ c.if-eq.true)
