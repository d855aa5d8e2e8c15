use Rattle.judging.proofs.Placed.{found_here, found_nowhere, used_ascend}
use Rattle.judging.proofs.partner.row_at.Goals as goal

pub returns-in-Ok : goal.returns-in-Ok
returns-in-Ok c up =
    let a = c.args in
    found_here a.rows.now a.used c.min.result c.min.ensures a.key.now up c.in-Ok.at c.index-rows-at.result c.in-Ok.ensures.within c.index-rows-at.is (c.in-Ok.ensures.law (used_ascend a.rows.now a.used c.min.result c.min.ensures a.key.now up))

pub returns-in-Err : goal.returns-in-Err
returns-in-Err c up =
    let a = c.args in
    found_nowhere a.rows.now a.used c.min.result c.min.ensures a.key.now up c.in-Err.field-0 (c.in-Err.ensures.law (used_ascend a.rows.now a.used c.min.result c.min.ensures a.key.now up))
