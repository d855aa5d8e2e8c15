-- Signs, magnitudes and places: what a number of units says of them.
use Rattle.std.proofs.Common.{◌≡◌, ℕ, ◌+◌, ◌-◌, ◌*◌, ◌/◌, ◌%◌, ◌^◌, ◌<◌, ◌≤◌, Bool, true, false, sym, refl, ap, ◌∙◌, mul_assoc, mul-div_cancel, arith}
use native.Mathlib.Decide.{dec_lt}
use Rattle.std.proofs.lemmas.Nat.{mul-le, pow-add}
use Rattle.std.proofs.lemmas.Int.{ints}
use Rattle.texts.proofs.Powers.{ten_pos, ten_more}
use Rattle.amounts.specs.declared.amount.Amount.{Amount}
use Rattle.amounts.specs.Amounts.{magnitude}
use Rattle.amounts.specs.Units.{signed}

pub same_magnitude : (s t : Bool) (m n : ℕ) → signed s m ≡ signed t n → m ≡ n
same_magnitude true true m n e = omega (arith, ints)
same_magnitude true false m n e = omega (arith, ints)
same_magnitude false true m n e = omega (arith, ints)
same_magnitude false false m n e = omega (arith, ints)

-- what is not zero has one sign
pub same_sign : (s t : Bool) (m n : ℕ) → (s ≡ true → 0 < m) → (t ≡ true → 0 < n) → signed s m ≡ signed t n → s ≡ t
same_sign true true m n p q e = refl
same_sign true false m n p q e = let k : 0 < m = p refl in absurd (omega (arith, ints))
same_sign false true m n p q e = let k : 0 < n = q refl in absurd (omega (arith, ints))
same_sign false false m n p q e = refl

pub cancel_right : (a b c : ℕ) → 0 < c → a * c ≡ b * c → a ≡ b
cancel_right a b c h e = sym (mul-div_cancel a h) ∙ ap (λ (x : ℕ). x / c) e ∙ mul-div_cancel b h

-- with more places, the digits end in a zero
more_places : (d e p q : ℕ) → p < q → q ≤ 19 → d * 10 ^ (19 - p) ≡ e * 10 ^ (19 - q) → e % 10 ≡ 0
more_places d e p q h k s =
    let i : 19 - p ≡ (q - p - 1) + 1 + (19 - q) = omega arith in
    let t : 10 ^ (19 - p) ≡ 10 ^ (q - p - 1) * 10 * 10 ^ (19 - q) =
    ap (λ (x : ℕ). 10 ^ x) i ∙ pow-add 10 (q - p - 1 + 1) (19 - q) ∙ ap (λ (x : ℕ). x * 10 ^ (19 - q)) (ten_more (q - p - 1)) in
    let f : d * (10 ^ (q - p - 1) * 10) * 10 ^ (19 - q) ≡ e * 10 ^ (19 - q) =
    mul_assoc d (10 ^ (q - p - 1) * 10) (10 ^ (19 - q)) ∙ ap (λ (x : ℕ). d * x) (sym t) ∙ s in
    let g : d * (10 ^ (q - p - 1) * 10) ≡ e = cancel_right (d * (10 ^ (q - p - 1) * 10)) e (10 ^ (19 - q)) (ten_pos (19 - q)) f in
    omega (arith, mul_assoc d (10 ^ (q - p - 1)) 10)

-- digits that end in no zero tell the fewest places
pub fewest_places : (d e p q : ℕ) → q ≤ 19 → (0 < q → 0 < e % 10) → d * 10 ^ (19 - p) ≡ e * 10 ^ (19 - q) → q ≤ p
fewest_places d e p q k last s =
    elim (dec_lt p q) [ yes h ↦ absurd (omega (arith, more_places d e p q h k s, last (omega arith))) | no h ↦ omega arith ]

-- what is below zero is not worth nothing
pub some_units : (a : Amount) → a.negative ≡ true → 0 < magnitude a
some_units a e = omega (arith, mul-le 1 1 a.digits (10 ^ (19 - a.places)) (a.no_minus_zero e) (omega (arith, ten_pos (19 - a.places))))
