use Rattle.std.proofs.Common.{arith}
use Rattle.std.proofs.lemmas.Grind.{common_steps}
use Rattle.report.proofs.Missing.{spells}
use Rattle.codes.specs.Rules.{code_of}
use Rattle.codes.specs.Values.{capitals}
use Rattle.report.proofs.parties.Parties.read.Goals as goal

pub returns-in_default-5-clause-refusal : goal.returns-in_default-5-clause-refusal
returns-in_default-5-clause-refusal c = λ there. let country = there.1.1.1.1.0 in absurd (spells (code_of capitals 2 2) _ country (grind (arith, common_steps)))
