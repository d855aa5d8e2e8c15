use Rattle.journal.proofs.Inverse.{safe}
use Rattle.journal.proofs.escapes.escapes_are_safe.Goals as goal

pub returns : goal.returns
returns c = safe
