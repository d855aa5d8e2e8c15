use Rattle.std.proofs.Common.{arith, sym, subst}
use Rattle.texts.specs.Numerals.{AllDigits}
use Rattle.texts.proofs.Decimal.{run_digits}
use Rattle.texts.proofs.digits.Digits.leading.Goals as goal

pub invariant_of-result : goal.invariant_of-result
invariant_of-result c = record { all = subst AllDigits (sym c.split_at.ensures.front) (run_digits c.args.text.now c.leading_digits.result (omega (arith, c.leading_digits.ensures.value))) }
