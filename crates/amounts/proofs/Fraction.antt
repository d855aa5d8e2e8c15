-- The digits behind a dot, and the zeros at their end.
use Rattle.std.proofs.Common.{◌≡◌, ℕ, zero, suc, ◌+◌, ◌-◌, ◌*◌, ◌%◌, ◌^◌, ◌<◌, ◌≤◌, true, List, [], ◌∷◌, ◌++◌, length, get_or, take, replicate, sym, refl, ap, ◌∙◌, mul_assoc, add-mul, length-append, arith}
use Rattle.std.specs.Str.Parse.{digits_value}
use Rattle.std.specs.Char.{is_ascii_digit}
use Rattle.std.proofs.lemmas.Int.Digits.{digits_value_more}
use Rattle.std.proofs.ByRecursion.{All-append, All-get_or}
use Rattle.std.proofs.lemmas.List.{length-replicate, take_all}
use Rattle.texts.specs.Numerals.{AllDigits}
use Rattle.texts.proofs.Padded.{value-append}
use Rattle.texts.proofs.Powers.{ten_more}
use Rattle.texts.proofs.Decimal.{digit_range, digit_value_is}
use Rattle.amounts.specs.Decimal.{fraction_units}
use Rattle.amounts.specs.Units.{units_per_one}
use Rattle.amounts.proofs.Parts.{ten_split}

all_zeros : (k : ℕ) → AllDigits (replicate k 48)
all_zeros zero = tt
all_zeros (suc k) = (refl, all_zeros k)

-- zeros are digits
pub digits_with_zeros : (ds : List ℕ) (k : ℕ) → AllDigits ds → AllDigits (ds ++ replicate k 48)
digits_with_zeros ds k h = All-append (λ b. is_ascii_digit b ≡ true) ds (replicate k 48) h (all_zeros k)

-- digits stand before zeros only if they are digits
pub digits_before_zeros : (ds : List ℕ) (k : ℕ) → AllDigits (ds ++ replicate k 48) → AllDigits ds
digits_before_zeros [] k h = tt
digits_before_zeros (d ∷ ds) k h = (h.0, digits_before_zeros ds k h.1)

value_zeros : (k : ℕ) → digits_value 10 (replicate k 48) ≡ 0
value_zeros zero = refl
value_zeros (suc k) = value_zeros k

-- zeros at the end are worth nothing
pub zeros_units : (ds : List ℕ) (k : ℕ) → length ds + k ≤ 19 → fraction_units (ds ++ replicate k 48) ≡ fraction_units ds
zeros_units ds k few =
    let v : digits_value 10 (ds ++ replicate k 48) ≡ digits_value 10 ds * 10 ^ k =
    value-append ds (replicate k 48) ∙ ap (λ (x : ℕ). digits_value 10 ds * 10 ^ x + digits_value 10 (replicate k 48)) (length-replicate k 48)
    ∙ omega (arith, value_zeros k) in
    let l : 19 - length (ds ++ replicate k 48) ≡ 19 - length ds - k = omega (arith, length-append ds (replicate k 48), length-replicate {A = ℕ} k 48) in
    ap (λ (x : ℕ). x * 10 ^ (19 - length (ds ++ replicate k 48))) v
    ∙ ap (λ (x : ℕ). digits_value 10 ds * 10 ^ k * 10 ^ x) l
    ∙ mul_assoc (digits_value 10 ds) (10 ^ k) (10 ^ (19 - length ds - k))
    ∙ ap (λ (x : ℕ). digits_value 10 ds * x) (ten_split k (19 - length ds) (omega arith))

pub joined_value : (w v m : ℕ) → m ≤ 19 → (w * 10 ^ m + v) * 10 ^ (19 - m) ≡ w * 10 ^ 19 + v * 10 ^ (19 - m)
joined_value w v m h =
    add-mul (w * 10 ^ m) v (10 ^ (19 - m))
    ∙ ap (λ (x : ℕ). x + v * 10 ^ (19 - m)) (mul_assoc w (10 ^ m) (10 ^ (19 - m)) ∙ ap (λ (x : ℕ). w * x) (ten_split m 19 h))

-- where the last digit is no zero, the joined number ends in none
pub joined_last : (w : ℕ) (ds : List ℕ) → AllDigits ds → (0 < length ds → get_or ds (length ds - 1) 0 ≡ 48 → ⊥) → 0 < length ds → 0 < (w * 10 ^ length ds + digits_value 10 ds) % 10
joined_last w ds all ne p =
    let m : ℕ = length ds - 1 in
    let i : length ds ≡ m + 1 = omega arith in
    let d : is_ascii_digit (get_or ds m 0) ≡ true = All-get_or (λ b. is_ascii_digit b ≡ true) ds m 0 (omega arith) all in
    let e : w * 10 ^ length ds ≡ w * 10 ^ m * 10 = ap (λ (x : ℕ). w * 10 ^ x) i ∙ ap (λ (x : ℕ). w * x) (ten_more m) ∙ sym (mul_assoc w (10 ^ m) 10) in
    let v : digits_value 10 ds ≡ digits_value 10 (take (m + 1) ds) = ap (digits_value 10) (sym (take_all (m + 1) ds (omega arith))) in
    omega (arith, e, v, digits_value_more 10 ds m (omega arith), digit_value_is (get_or ds m 0) d, digit_range (get_or ds m 0) d, ne p)

-- the digits on both sides of a dot as one number
pub joined_units : (w f : List ℕ) → length f ≤ 19 → digits_value 10 w * units_per_one + fraction_units f ≡ digits_value 10 (w ++ f) * 10 ^ (19 - length f)
joined_units w f h = sym (ap (λ (x : ℕ). x * 10 ^ (19 - length f)) (value-append w f) ∙ joined_value (digits_value 10 w) (digits_value 10 f) (length f) h)
