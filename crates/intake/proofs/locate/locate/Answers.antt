use Rattle.std.proofs.Common.{◌∙◌, ap, min}
use Rattle.intake.proofs.Placing.{located}
use Rattle.intake.proofs.locate.locate.Goals as goal

pub returns : goal.returns
returns c =
    let f = c.find.ensures in
    located c.args.used c.min.result c.args.rows.now c.args.key.now (c.min.ensures ∙ ap (min c.args.used) c.room.ensures) c.find.result f.within f.law
