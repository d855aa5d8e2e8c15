use Rattle.runs.proofs.Stand.{stands}
use Rattle.runs.proofs.laws.book_law.Goals as goal

pub returns : goal.returns
returns c = stands
