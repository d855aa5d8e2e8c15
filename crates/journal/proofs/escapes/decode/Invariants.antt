use Rattle.std.proofs.Common.{◌≡◌, length, vec_items}
use Rattle.journal.specs.Escapes.{decoded}
use Rattle.journal.proofs.Inverse.{behind}
use Rattle.journal.proofs.escapes.decode.Given as goal

abbrev pub invariant-loop-rest : goal.invariant-loop-rest
invariant-loop-rest l = decoded l.word ≡ behind (vec_items l.bytes) (decoded l.rest)

abbrev pub decreases-loop-rest : goal.decreases-loop-rest
decreases-loop-rest l = length l.rest
