use Rattle.codes.specs.Codes.{text_of}
use Rattle.registers.proofs.Listing.{listed_among}
use Rattle.std.proofs.lemmas.Bool.Decides.{Decides-at}
use Rattle.std.proofs.Common.{is_ok}
use Rattle.registers.proofs.knows.Goals as goal

pub returns : goal.returns
returns g c =
    let table = c.args.register.now in
    Decides-at c.is_ok.result (is_ok c.find.result) c.is_ok.ensures.value
    (listed_among (text_of {A = g.row.A.Denot} {least = g.row.LEAST} {most = g.row.MOST} {m = g.A.Alphabet}) c.args.code.now table.rows.now table.used c.find.result c.find.ensures.law)
