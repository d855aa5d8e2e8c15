use Rattle.std.proofs.Common.{◌≡◌, false, rules}
use Rattle.recon.proofs.Printing.{at_no_call, is_memory}
use Rattle.verbs.proofs.Saying.{kept}
use Rattle.recon.proofs.run.Run.step.Goals.{in-UnknownVerb-2, in-BadEscape-2, in-BadHex-2, in-BadNumber-2, in-NoSlip+in-BadField-2, in-NoSlip+in-BadHex-2, in-NoSlip+in-NoWords-2, in-NoVerb-2}
use Rattle.recon.proofs.run.Run.step.Goals as goal

pub returns-in_ok-format-in-Err : goal.returns-in_ok-format-in-Err
returns-in_ok-format-in-Err c =
    let calm : is_memory c.in-Err.fault ≡ false = elim c.match-fault-3.branch [ in-UnknownVerb-2 w ↦ search rules | in-BadEscape-2 w ↦ search rules | in-BadHex-2 w ↦ search rules | in-BadNumber-2 w ↦ search rules | in-NoSlip+in-BadField-2 w ↦ search rules | in-NoSlip+in-BadHex-2 w ↦ search rules | in-NoSlip+in-NoWords-2 w ↦ search rules | in-NoVerb-2 w ↦ search rules ] in
    let said = at_no_call c.in-Err.fault calm c.in-Err.ensures.fault in
    let setting = at_no_call c.in-Err.fault calm c.in-Err.ensures.no_choice in
    let same = at_no_call c.in-Err.fault calm c.in-Err.ensures.all_kept in
    search (rules, said, setting, same.0, same.1, kept)
