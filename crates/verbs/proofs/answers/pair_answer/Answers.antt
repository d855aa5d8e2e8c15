use Rattle.std.proofs.Common.{arith}
use Rattle.std.proofs.lemmas.Grind.{common_steps}
use Rattle.verbs.proofs.answers.pair_answer.Goals.{in_default-via-then-words-lt2, in_default-via-else-words-lt2+else-words-lt3}
use Rattle.verbs.proofs.answers.pair_answer.Goals as goal

pub returns-in_default-clause-fault : goal.returns-in_default-clause-fault
returns-in_default-clause-fault c = elim c.in_default.branch [ in_default-via-then-words-lt2 w ↦ grind (arith, common_steps) | in_default-via-else-words-lt2+else-words-lt3 w ↦ grind (arith, common_steps) ]
