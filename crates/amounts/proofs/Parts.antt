-- Digits and places: the whole part, the fraction, and how many digits they take.
use Rattle.std.proofs.Common.{◌≡◌, ℕ, ◌+◌, ◌-◌, ◌*◌, ◌/◌, ◌%◌, ◌^◌, ◌<◌, ◌≤◌, sym, ap, ◌∙◌, mul_assoc, add-mul, arith}
use Rattle.std.proofs.lemmas.Nat.{pow-add, div-add-mod', div_below, mod_below, mul-le}
use Rattle.texts.specs.Numerals.{width}
use Rattle.texts.proofs.Padded.{width_le}
use Rattle.texts.proofs.Powers.{ten_pos}

-- a power of ten cut in two
pub ten_split : (p n : ℕ) → p ≤ n → 10 ^ p * 10 ^ (n - p) ≡ 10 ^ n
ten_split p n h =
    let e : p + (n - p) ≡ n = omega arith in
    sym (pow-add 10 p (n - p)) ∙ ap (λ (x : ℕ). 10 ^ x) e

pub split_value : (d p : ℕ) → p ≤ 19 → d / 10 ^ p * 10 ^ 19 + d % 10 ^ p * 10 ^ (19 - p) ≡ d * 10 ^ (19 - p)
split_value d p h =
    ap (λ (x : ℕ). d / 10 ^ p * x + d % 10 ^ p * 10 ^ (19 - p)) (sym (ten_split p 19 h))
    ∙ ap (λ (x : ℕ). x + d % 10 ^ p * 10 ^ (19 - p)) (sym (mul_assoc (d / 10 ^ p) (10 ^ p) (10 ^ (19 - p))))
    ∙ sym (add-mul (d / 10 ^ p * 10 ^ p) (d % 10 ^ p) (10 ^ (19 - p)))
    ∙ ap (λ (x : ℕ). x * 10 ^ (19 - p)) (div-add-mod' d (10 ^ p))

-- a fraction is less than one
pub fraction_below : (f p : ℕ) → p ≤ 19 → f < 10 ^ p → f * 10 ^ (19 - p) < 10 ^ 19
fraction_below f p h b =
    let a = mul-le (f + 1) (10 ^ (19 - p)) (10 ^ p) (10 ^ (19 - p)) (omega arith) (omega arith) in
    omega (arith, a, add-mul f 1 (10 ^ (19 - p)), ten_split p 19 h, ten_pos (19 - p))

pub split_fraction : (d p : ℕ) → p ≤ 19 → d % 10 ^ p * 10 ^ (19 - p) < 10 ^ 19
split_fraction d p h = fraction_below (d % 10 ^ p) p h (mod_below d (10 ^ p) (ten_pos p))

-- digits before and behind a dot, as one number
pub joined_below : (w m f n : ℕ) → w < 10 ^ m → f < 10 ^ n → w * 10 ^ n + f < 10 ^ (m + n)
joined_below w m f n a b =
    let p = mul-le (w + 1) (10 ^ n) (10 ^ m) (10 ^ n) (omega arith) (omega arith) in
    omega (arith, p, add-mul w 1 (10 ^ n), pow-add 10 m n)

-- the digits before the dot and the places behind it are at most as many as all digits may be
pub width_places : (most d p : ℕ) → p < most → d < 10 ^ most → width (d / 10 ^ p) + p ≤ most
width_places most d p h b =
    let e : 10 ^ (most - p) * 10 ^ p ≡ 10 ^ most =
    sym (pow-add 10 (most - p) p) ∙ (let i : most - p + p ≡ most = omega arith in ap (λ (x : ℕ). 10 ^ x) i) in
    let w = width_le (d / 10 ^ p) (most - p) (omega arith) (div_below d (10 ^ p) (10 ^ (most - p)) (ten_pos p) (omega arith)) in
    omega arith
