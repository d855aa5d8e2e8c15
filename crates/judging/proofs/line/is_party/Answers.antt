use Rattle.judging.proofs.Registered.{known_read}
use Rattle.judging.proofs.line.is_party.Goals as goal

pub returns-in-Ok : goal.returns-in-Ok
returns-in-Ok c = known_read c.in-Ok.lei _ c.bytes.result.now _ c.knows.result c.in-Ok.ensures c.bytes.ensures c.knows.ensures
