-- The law of every book.
use Rattle.runs.specs.Law.{BookLaw}
use Rattle.runs.proofs.Alone.{agree}
use Rattle.runs.proofs.Marks.{old_pairs}
use Rattle.runs.proofs.Pairs.{pairs_hold}
use Rattle.runs.proofs.Said.{no_repeat, shows_newest}
use Rattle.runs.proofs.Steps.{ascend}
use Rattle.runs.proofs.Waits.{waits}

pub stands : BookLaw
stands o h = record {
  trades = agree o h;
  pairs = pairs_hold o h;
  shows_newest = shows_newest o h;
  no_repeat = no_repeat o h;
  ascend = ascend o h;
  waits = waits o h;
  old_pairs = old_pairs o h;
}
