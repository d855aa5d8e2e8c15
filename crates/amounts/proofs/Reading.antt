-- What an unsigned decimal is worth, by what stands before and behind its dot.
use Rattle.std.proofs.Common.{◌≡◌, ℕ, ◌+◌, ◌-◌, ◌*◌, ◌^◌, ◌<◌, ◌≤◌, true, false, List, ◌++◌, length, drop, replicate, Some, None, sym, ap, ◌∙◌, subst, inl, inr, arith}
use Rattle.std.specs.Str.Parse.{digits_value}
use Rattle.std.proofs.lemmas.List.{length-append, length-replicate}
use Rattle.std.proofs.lemmas.Bool.{cases_Bool, false≢true}
use Rattle.std.specs.Str.{all_ascii_digits}
use Rattle.texts.specs.Numerals.{AllDigits}
use Rattle.texts.proofs.ThreeNumbers.{digits_decided}
use Rattle.amounts.specs.Decimal.{magnitude_of, fractional, behind, fraction_units}
use Rattle.amounts.specs.Spelling.{dot_text}
use Rattle.amounts.proofs.Fraction.{digits_before_zeros, digits_with_zeros, joined_value, zeros_units}
use Rattle.amounts.proofs.Spelling.{after_dot, dot_is, magnitude-spelled}

no_fraction : (most : ℕ) (body : List ℕ) → fractional (behind body) ≡ false → magnitude_of most body ≡ None
no_fraction most body f = grind (arith, f)

-- where what follows the whole part is no dot with some text, no number is read
pub no_dot : (most : ℕ) (body : List ℕ) → ((ds : List ℕ) → behind body ≡ dot_text ds → ⊥) → magnitude_of most body ≡ None
no_dot most body none =
    no_fraction most body
    (elim (cases_Bool (fractional (behind body))) [ inl t ↦ absurd (none _ (dot_is (behind body) t).0) | inr f ↦ f ])

-- nor where that text, without the zeros at its end, is no run of digits
pub no_digits : (most k : ℕ) (body fraction kept : List ℕ) → behind body ≡ dot_text fraction → fraction ≡ kept ++ replicate k 48 → all_ascii_digits kept ≡ false → magnitude_of most body ≡ None
no_digits most k body fraction kept e zeros none =
    let kept_digits : fractional (behind body) ≡ true → AllDigits kept =
    λ t.
    let all : AllDigits fraction = subst AllDigits (ap (drop 1) e ∙ after_dot fraction) (dot_is (behind body) t).1 in
    digits_before_zeros kept k (subst AllDigits zeros all) in
    no_fraction most body
    (elim (cases_Bool (fractional (behind body))) [
      | inl t ↦ absurd (false≢true (sym none ∙ (digits_decided kept).1 (kept_digits t)))
      | inr f ↦ f
    ])

-- the number of the digits that are left, with as many places as are left, is worth what the text says
pub read_worth : (most : ℕ) (whole fraction kept : List ℕ) (j : ℕ) → j ≡ digits_value 10 whole * 10 ^ length kept + digits_value 10 kept → most ≤ 20 → AllDigits whole → AllDigits kept → fraction ≡ kept ++ replicate (length fraction - length kept) 48 → 0 < length whole → length whole + length fraction ≤ most → Some (j * 10 ^ (19 - length kept)) ≡ magnitude_of most (whole ++ dot_text fraction)
read_worth most whole fraction kept j v small dw dk zeros some few =
    let z : ℕ = length fraction - length kept in
    let l : length fraction ≡ length kept + z = ap length zeros ∙ length-append kept (replicate z 48) ∙ ap (λ (x : ℕ). length kept + x) (length-replicate z 48) in
    let df : AllDigits fraction = subst AllDigits (sym zeros) (digits_with_zeros kept z dk) in
    let u : fraction_units fraction ≡ fraction_units kept = ap fraction_units zeros ∙ zeros_units kept z (omega arith) in
    let r : j * 10 ^ (19 - length kept) ≡ digits_value 10 whole * 10 ^ 19 + fraction_units fraction =
    ap (λ (x : ℕ). x * 10 ^ (19 - length kept)) v
    ∙ joined_value (digits_value 10 whole) (digits_value 10 kept) (length kept) (omega arith)
    ∙ ap (λ (x : ℕ). digits_value 10 whole * 10 ^ 19 + x) (sym u) in
    ap Some r ∙ sym (magnitude-spelled most whole fraction dw df some few)
