use Rattle.std.proofs.Common.{sym, ◌∙◌}
use Rattle.texts.proofs.ThreeNumbers.{digits_decided}
use Rattle.texts.proofs.digits.Digits.new.Goals as goal

pub invariant_of-result : goal.invariant_of-result
invariant_of-result c = record { all = (digits_decided c.args.text.now).0 (sym c.is_all_digits.ensures ∙ c.if-not-is_all_digits.false) }
