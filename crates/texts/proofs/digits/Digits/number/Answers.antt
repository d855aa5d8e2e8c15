use Rattle.std.proofs.Common.{◌≡◌, true, length, get_or, take, ap, ◌∙◌, arith}
use Rattle.std.specs.Str.Parse.{digits_value}
use Rattle.std.specs.Char.{is_ascii_digit}
use Rattle.std.proofs.lemmas.Int.Digits.{digits_value_more}
use Rattle.std.proofs.ByRecursion.{All-get_or}
use Rattle.std.proofs.lemmas.List.{take_all}
use Rattle.texts.proofs.Powers.{ten_le, ten_more}
use Rattle.texts.proofs.Decimal.{digit_range, digit_value_is}
use Rattle.texts.proofs.digits.Digits.number.Goals as goal

pub overflow_mul-n : goal.overflow_mul-n
overflow_mul-n c = omega (arith, c.loop-d.invariant.1, ten_le c.loop-d.d-index 20 (omega arith))

pub overflow_sub-d : goal.overflow_sub-d
overflow_sub-d c = (digit_range _ (All-get_or (λ b. is_ascii_digit b ≡ true) c.args.self.now.bytes.now c.loop-d.d-index 0 (omega arith) c.args.self.now.all)).0

pub overflow_add-n : goal.overflow_add-n
overflow_add-n c =
    let d : is_ascii_digit (get_or c.args.self.now.bytes.now c.loop-d.d-index 0) ≡ true = All-get_or (λ b. is_ascii_digit b ≡ true) c.args.self.now.bytes.now c.loop-d.d-index 0 (omega arith) c.args.self.now.all in
    omega (arith, c.loop-d.invariant.1, ten_le c.loop-d.d-index 20 (omega arith), digit_range (get_or c.args.self.now.bytes.now c.loop-d.d-index 0) d)

pub loop-d-preserved : goal.loop-d-preserved
loop-d-preserved c =
    let d : is_ascii_digit (get_or c.args.self.now.bytes.now c.loop-d.d-index 0) ≡ true = All-get_or (λ b. is_ascii_digit b ≡ true) c.args.self.now.bytes.now c.loop-d.d-index 0 (omega arith) c.args.self.now.all in (
      omega (arith, digits_value_more 10 c.args.self.now.bytes.now c.loop-d.d-index (omega arith), digit_value_is (get_or c.args.self.now.bytes.now c.loop-d.d-index 0) d, c.loop-d.invariant.0),
      omega (arith, digit_range (get_or c.args.self.now.bytes.now c.loop-d.d-index 0) d, ten_more c.loop-d.d-index, c.loop-d.invariant.1),
    )

pub returns : goal.returns
returns c =
    let e : take c.loop-d.d-index c.args.self.now.bytes.now ≡ c.args.self.now.bytes.now = take_all c.loop-d.d-index c.args.self.now.bytes.now (omega arith) in
    let n : c.loop-d.d-index ≡ length c.args.self.now.bytes.now = omega arith in
    record { value = c.loop-d.invariant.0 ∙ ap (digits_value 10) e; bound = rw n at c.loop-d.invariant.1 }
