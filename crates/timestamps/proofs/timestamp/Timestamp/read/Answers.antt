use Rattle.std.proofs.Common.{arith, sym}
use Rattle.std.proofs.lemmas.Bool.Decides.{nat_tests}
use Rattle.timestamps.specs.Times.{timestamp_of}
use Rattle.timestamps.proofs.Instants.{instant_names, one_stamp, reads_stamp}
use Rattle.timestamps.proofs.timestamp.Timestamp.read.Goals as goal

pub returns-in_err-date-clause-plain : goal.returns-in_err-date-clause-plain
unfolding timestamp_of
returns-in_err-date-clause-plain c = reads_stamp _ _ (grind (arith, nat_tests))

pub returns-in_err-time-clause-plain : goal.returns-in_err-time-clause-plain
unfolding timestamp_of
returns-in_err-time-clause-plain c = reads_stamp _ _ (grind (arith, nat_tests))

pub returns-clause-plain : goal.returns-clause-plain
unfolding timestamp_of
returns-clause-plain c = reads_stamp _ _ (grind (arith, nat_tests))

pub returns-clause-one_text : goal.returns-clause-one_text
unfolding timestamp_of
returns-clause-one_text c = one_stamp _ _ (instant_names _ _ (sym (grind (arith, nat_tests))))
