use Rattle.std.proofs.Common.{List, ℕ, subst}
use Rattle.std.specs.Io.{StopsAt, appended_bytes}
use Rattle.recon.proofs.Cutting.{nothing_behind}
use Rattle.recon.proofs.source.read_line.Goals as goal

pub returns-clause-one : goal.returns-clause-one
returns-clause-one g c =
    let new = c.read_until.new.buf.items in
    nothing_behind new (subst (λ (old : List ℕ). StopsAt (appended_bytes old new) 10) c.clear.ensures.items c.in_ok-read_until.ensures.stops)
