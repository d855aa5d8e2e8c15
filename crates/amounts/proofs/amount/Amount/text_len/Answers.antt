use Rattle.std.proofs.Common.{ap, arith}
use Rattle.texts.specs.Numerals.{width}
use Rattle.amounts.proofs.Shortest.{text_room}
use Rattle.amounts.proofs.amount.Amount.text_len.Goals as goal

pub overflow_add-result : goal.overflow_add-result
overflow_add-result c = omega (arith, c.from.ensures, c.digit_count.ensures.value, ap width c.whole_part.ensures, text_room c.args.self.now)

pub overflow_add-result-2 : goal.overflow_add-result-2
overflow_add-result-2 c =
    omega (arith, c.from.ensures, c.digit_count.ensures.value, ap width c.whole_part.ensures, c.fraction_len.ensures.value c.args.self.now.digits, text_room c.args.self.now)

pub returns-clause-bound : goal.returns-clause-bound
returns-clause-bound c =
    omega (arith, c.from.ensures, c.digit_count.ensures.value, ap width c.whole_part.ensures, c.fraction_len.ensures.value c.args.self.now.digits, text_room c.args.self.now)
