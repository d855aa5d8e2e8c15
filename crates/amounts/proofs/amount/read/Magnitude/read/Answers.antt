use Rattle.std.proofs.Common.{◌≡◌, ℕ, ◌+◌, ◌-◌, ◌*◌, ◌^◌, ◌≢◌, ◌<◌, ◌≤◌, false, List, ◌++◌, length, get_or, replicate, length-append, Some, None, sym, ap, ◌∙◌, subst, arith, rules}
use Rattle.std.specs.Str.Parse.{digits_value}
use Rattle.std.specs.Char.{is_ascii_digit}
use Rattle.std.specs.List.{prefix_len}
use Rattle.std.specs.Str.{all_ascii_digits}
use Rattle.std.proofs.lemmas.List.{take-append-drop}
use Rattle.texts.proofs.Powers.{ten_le}
use Rattle.amounts.specs.Decimal.{magnitude_of, behind}
use Rattle.amounts.specs.Spelling.{dot_text}
use Rattle.amounts.proofs.Fraction.{joined_last}
use Rattle.amounts.proofs.Reading.{no_digits, read_worth}
use Rattle.amounts.proofs.amount.read.Magnitude.read.Goals as goal

pub returns-in_err-kept : goal.returns-in_err-kept
returns-in_err-kept g c =
    let d : behind c.args.body.now ≡ dot_text c.in_ok-fraction.fraction.now = sym c.leading.ensures.rest ∙ c.in_ok-fraction.ensures in
    let b : all_ascii_digits c.without_zeros.result.now ≡ false = grind (arith, c.new.ensures) in
    let n : magnitude_of g.row.MOST c.args.body.now ≡ None = no_digits g.row.MOST _ c.args.body.now _ _ d c.without_zeros.ensures.zeros b in
    search rules

pub invariant_of-result : goal.invariant_of-result
invariant_of-result g c =
    let kept : List ℕ = c.in_ok-kept.kept.bytes.now in
    let k : kept ≡ c.without_zeros.result.now = grind (arith, c.new.ensures) in
    let last : 0 < length kept → get_or kept (length kept - 1) 0 ≢ 48 = subst (λ (ds : List ℕ). 0 < length ds → get_or ds (length ds - 1) 0 ≢ 48) (sym k) c.without_zeros.ensures.last in
    let few : length c.leading.result.0.bytes.now + length kept ≤ g.row.MOST =
    omega (arith, ap length k, ap length c.without_zeros.ensures.zeros, length-append c.without_zeros.result.now (replicate (length c.in_ok-fraction.fraction.now - length c.without_zeros.result.now) 48), ap length c.bytes-count.ensures.text) in
    record {
      limit = c.requires;
      few_digits = omega (arith, c.joined.ensures.bound, ten_le (length c.leading.result.0.bytes.now + length kept) g.row.MOST few);
      few_places = omega (arith, few, ap length c.bytes.ensures.text, ap length c.bytes-count.ensures.text);
      no_zero_at_end = λ h. let l = joined_last (digits_value 10 c.leading.result.0.bytes.now) kept c.in_ok-kept.kept.all last (omega (arith, ap length c.bytes.ensures.text)) in rw (← c.joined.ensures.value) at l;
    }

pub returns : goal.returns
returns g c =
    let whole : List ℕ = c.leading.result.0.bytes.now in
    let fraction : List ℕ = c.in_ok-fraction.fraction.now in
    let kept : List ℕ = c.in_ok-kept.kept.bytes.now in
    let k : kept ≡ c.without_zeros.result.now = grind (arith, c.new.ensures) in
    let zeros : fraction ≡ kept ++ replicate (length fraction - length kept) 48 = subst (λ (ds : List ℕ). fraction ≡ ds ++ replicate (length fraction - length ds) 48) (sym k) c.without_zeros.ensures.zeros in
    let body : whole ++ dot_text fraction ≡ c.args.body.now =
    ap (λ (t : List ℕ). whole ++ t) (sym c.in_ok-fraction.ensures ∙ c.leading.ensures.rest) ∙ ap (λ (t : List ℕ). t ++ behind c.args.body.now) c.leading.ensures.digits
    ∙ take-append-drop (prefix_len is_ascii_digit c.args.body.now) c.args.body.now in
    ap (λ (ds : List ℕ). Some (c.joined.result * 10 ^ (19 - length ds))) c.bytes.ensures.text
    ∙ read_worth g.row.MOST whole fraction kept c.joined.result c.joined.ensures.value c.requires c.leading.result.0.all c.in_ok-kept.kept.all zeros (omega (arith, ap length c.bytes-count.ensures.text)) (omega (arith, ap length c.bytes-count.ensures.text))
    ∙ ap (magnitude_of g.row.MOST) body
