use Rattle.std.proofs.Common.{◌∙◌, arith}
use Rattle.texts.proofs.ThreeNumbers.{no_first, no_length, no_mark, no_second, no_second_mark, no_third, three_yes}
use Rattle.texts.proofs.numbers.read_three.Goals as goal
use Rattle.texts.proofs.numbers.read_three.Goals.{then-text-digits-via-then-text-digits, then-text-digits-via-else-text-digits+then-text-digits-2, then-text-digits-via-else-text-digits+else-text-digits-2+then-text-digits-3}

pub returns-then-text-digits : goal.returns-then-text-digits
returns-then-text-digits c =
    elim c.then-text-digits.branch [
      | then-text-digits-via-then-text-digits w ↦ no_length c.args.digits c.args.mark c.args.text.now w.if-text-digits.true
      | then-text-digits-via-else-text-digits+then-text-digits-2 w ↦ no_mark c.args.digits c.args.mark c.args.text.now w.if-text-digits-2.true
      | then-text-digits-via-else-text-digits+else-text-digits-2+then-text-digits-3 w ↦
          no_second_mark c.args.digits c.args.mark c.args.text.now w.if-text-digits-3.true
    ]

pub returns-in_err-first : goal.returns-in_err-first
returns-in_err-first c = c.from_residual.ensures ∙ no_first c.args.digits c.args.mark _ c.args.text.now (omega arith) c.in_err-first.ensures.value

pub returns-in_err-second : goal.returns-in_err-second
returns-in_err-second c =
    c.from_residual-in_err-second.ensures ∙ no_second c.args.digits c.args.mark _ c.args.text.now (omega arith) c.in_err-second.ensures.value

pub returns-in_err-third : goal.returns-in_err-third
returns-in_err-third c =
    c.from_residual-in_err-third.ensures ∙ no_third c.args.digits c.args.mark _ c.args.text.now (omega arith) c.in_err-third.ensures.value

pub returns : goal.returns
returns c =
    three_yes c.args.digits c.args.mark _ _ _ c.in_ok-first.first c.in_ok-second.second c.in_ok-third.third c.args.text.now
    (omega arith) (omega arith) (omega arith) c.if-text-digits.false c.if-text-digits-2.false c.if-text-digits-3.false c.in_ok-first.ensures.value c.in_ok-second.ensures.value c.in_ok-third.ensures.value
