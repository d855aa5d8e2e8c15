-- Numbers written with a given count of digits.
use Rattle.std.proofs.Common.{◌≡◌, ℕ, zero, suc, ◌+◌, ◌-◌, ◌*◌, ◌/◌, ◌%◌, ◌^◌, ◌<◌, ◌≤◌, true, List, [], ◌∷◌, ◌++◌, length, get_or, replicate, sym, refl, ap, ◌∙◌, mod-eq_of_lt, mul_assoc, add-mul, zero-add, mul-div_cancel, add-one, arith}
use native.Mathlib.Nat.{mul-div-mul_right}
use lib.Arith.{digits_div, digits_mod}
use Rattle.std.specs.Str.Parse.{digits_value, digits_value_after}
use Rattle.std.specs.Char.{is_ascii_digit, digit_value}
use Rattle.std.specs.Int.Digits.{digits_of}
use Rattle.std.proofs.lemmas.Nat.{mod_below, pow-add}
use Rattle.std.proofs.lemmas.Int.Digits.{length-digits_of-le, number_digits_of, number_lt, all_below_base_digits_of}
use Rattle.std.proofs.lemmas.Bool.Decides.{nat_tests}
use Rattle.texts.specs.Numerals.{AllDigits, padded, width}
use Rattle.texts.proofs.Powers.{ten_least, ten_more, ten_le, ten_pos, mod_ten_more}
use Rattle.texts.proofs.Decimal.{digit_range, digit_value_is, value_below}

pub length-padded : (k n : ℕ) → length (padded k n) ≡ k
length-padded zero n = refl
length-padded (suc k) n = ap suc (length-padded k n)

digit_is : (d : ℕ) → d < 10 → is_ascii_digit (48 + d) ≡ true
digit_is d h = grind (arith, nat_tests)

pub all_padded : (k n : ℕ) → AllDigits (padded k n)
all_padded zero n = tt
all_padded (suc k) n = (digit_is (n / 10 ^ k % 10) (mod_below (n / 10 ^ k) 10 (omega arith)), all_padded k n)

-- the digits so far weigh ten times more with each digit that follows
value_after_is : (a : ℕ) (ds : List ℕ) → digits_value_after 10 a ds ≡ a * 10 ^ length ds + digits_value 10 ds
value_after_is a [] = omega arith
value_after_is a (d ∷ ds) =
    let p = value_after_is (a * 10 + digit_value d) ds in
    let q = value_after_is (0 * 10 + digit_value d) ds in
    let w : 10 ^ suc (length ds) ≡ 10 ^ length ds * 10 = rw add-one at (ten_more (length ds)) in
    let e : a * 10 ^ suc (length ds) ≡ a * 10 * 10 ^ length ds =
    ap (λ (x : ℕ). a * x) (w ∙ omega arith) ∙ sym (mul_assoc a 10 (10 ^ length ds)) in
    p ∙ omega (arith, q, e, add-mul (a * 10) (digit_value d) (10 ^ length ds), add-mul (0 * 10) (digit_value d) (10 ^ length ds))

pub value-padded : (k n : ℕ) → digits_value 10 (padded k n) ≡ n % 10 ^ k
value-padded zero n = omega arith
value-padded (suc k) n =
    let d : ℕ = n / 10 ^ k % 10 in
    let small : d < 10 = mod_below (n / 10 ^ k) 10 (omega arith) in
    let v : digit_value (48 + d) ≡ d = digit_value_is (48 + d) (digit_is d small) ∙ omega arith in
    let m : n % 10 ^ suc k ≡ n / 10 ^ k % 10 * 10 ^ k + n % 10 ^ k = rw add-one at (mod_ten_more n k) in
    let z : 0 * 10 + digit_value (48 + d) ≡ d = omega arith in
    value_after_is (0 * 10 + digit_value (48 + d)) (padded k n)
    ∙ ap (λ (x : ℕ). x * 10 ^ length (padded k n) + digits_value 10 (padded k n)) z
    ∙ ap (λ (x : ℕ). d * 10 ^ x + digits_value 10 (padded k n)) (length-padded k n)
    ∙ ap (λ (x : ℕ). d * 10 ^ k + x) (value-padded k n)
    ∙ sym m

-- as many digits as the number has, or more, keep its value
pub value-padded_all : (k n : ℕ) → n < 10 ^ k → digits_value 10 (padded k n) ≡ n
value-padded_all k n h = value-padded k n ∙ mod-eq_of_lt h

pub below_width : (n : ℕ) → n < 10 ^ width n
below_width n =
    let b = number_lt 10 (digits_of 10 n) (all_below_base_digits_of 10 n (omega arith)) in
    let e = number_digits_of 10 n (omega arith) in
    omega (arith, b, e, ten_le (length (digits_of 10 n)) (width n) (omega arith))

pub width_le : (n k : ℕ) → 0 < k → n < 10 ^ k → width n ≤ k
width_le n k some h = omega (arith, length-digits_of-le 10 k n (omega arith) h)

-- a number between a power of ten and the next one
pub width_told : (n k : ℕ) → 10 ^ k ≤ n → n < 10 * 10 ^ k → k + 1 ≡ width n
width_told n k low high =
    omega (arith, width_le n (k + 1) (omega arith) (omega (arith, ten_more k)), ten_least k (width n) n low (below_width n))

pub below_told : (n k : ℕ) → n < 10 * 10 ^ k → n < 10 ^ (k + 1)
below_told n k high = omega (arith, ten_more k)

pub least_told : (n k j : ℕ) → 10 ^ k ≤ n → n < 10 ^ j → k + 1 ≤ j
least_told n k j low h = omega (arith, ten_least k j n low h)

pub width_some : (n : ℕ) → 0 < width n
width_some n = omega arith

-- the digit that stands k places from the end
pub get_or-padded : (k n i : ℕ) → i < k → get_or (padded k n) i 0 ≡ 48 + n / 10 ^ (k - 1 - i) % 10
get_or-padded zero n i h = absurd (omega arith)
get_or-padded (suc k) n zero h = let e : k ≡ suc k - 1 - zero = omega arith in ap (λ (j : ℕ). 48 + n / 10 ^ j % 10) e
get_or-padded (suc k) n (suc i) h =
    let e : k - 1 - i ≡ suc k - 1 - suc i = omega arith in
    get_or-padded k n i (omega arith) ∙ ap (λ (j : ℕ). 48 + n / 10 ^ j % 10) e

value_after_append : (a : ℕ) (xs ys : List ℕ) → digits_value_after 10 a (xs ++ ys) ≡ digits_value_after 10 (digits_value_after 10 a xs) ys
value_after_append a [] ys = refl
value_after_append a (x ∷ xs) ys = value_after_append (a * 10 + digit_value x) xs ys

-- digits before more digits
pub value-append : (xs ys : List ℕ) → digits_value 10 (xs ++ ys) ≡ digits_value 10 xs * 10 ^ length ys + digits_value 10 ys
value-append xs ys = value_after_append 0 xs ys ∙ value_after_is (digits_value 10 xs) ys

-- a number that ends in q zeros ends in them as text
padded_zeros : (j n q : ℕ) → j ≤ q → padded j (n * 10 ^ q) ≡ replicate j 48
padded_zeros zero n q h = refl
padded_zeros (suc j) n q h =
    let i : q ≡ q - suc j + 1 + j = omega arith in
    let e : n * 10 ^ q ≡ n * 10 ^ (q - suc j) * 10 * 10 ^ j =
    ap (λ (x : ℕ). n * 10 ^ x) i ∙ ap (λ (x : ℕ). n * x) (pow-add 10 (q - suc j + 1) j ∙ ap (λ (x : ℕ). x * 10 ^ j) (ten_more (q - suc j)))
    ∙ sym (mul_assoc n (10 ^ (q - suc j) * 10) (10 ^ j)) ∙ ap (λ (x : ℕ). x * 10 ^ j) (sym (mul_assoc n (10 ^ (q - suc j)) 10)) in
    let d : n * 10 ^ q / 10 ^ j ≡ n * 10 ^ (q - suc j) * 10 = ap (λ (x : ℕ). x / 10 ^ j) e ∙ mul-div_cancel (n * 10 ^ (q - suc j) * 10) (ten_pos j) in
    let z : 48 + n * 10 ^ q / 10 ^ j % 10 ≡ 48 = ap (λ (x : ℕ). 48 + x % 10) d ∙ omega arith in
    ap (λ (x : ℕ). x ∷ padded j (n * 10 ^ q)) z ∙ ap (λ (t : List ℕ). 48 ∷ t) (padded_zeros j n q (omega arith))

pub padded_shifted : (p q n : ℕ) → padded (p + q) (n * 10 ^ q) ≡ padded p n ++ replicate q 48
padded_shifted zero q n = ap (λ (k : ℕ). padded k (n * 10 ^ q)) (zero-add q) ∙ padded_zeros q n q (omega arith)
padded_shifted (suc p) q n =
    let i : suc p + q ≡ suc (p + q) = omega arith in
    let d : n * 10 ^ q / 10 ^ (p + q) ≡ n / 10 ^ p =
    ap (λ (x : ℕ). n * 10 ^ q / x) (pow-add 10 p q) ∙ mul-div-mul_right n (10 ^ p) (ten_pos q) in
    ap (λ (k : ℕ). padded k (n * 10 ^ q)) i
    ∙ ap (λ (x : ℕ). (48 + x % 10) ∷ padded (p + q) (n * 10 ^ q)) d
    ∙ ap (λ (t : List ℕ). (48 + n / 10 ^ p % 10) ∷ t) (padded_shifted p q n)

-- digits of one length and one value are the same digits
same_digits : (xs ys : List ℕ) → AllDigits xs → AllDigits ys → length xs ≡ length ys → digits_value 10 xs ≡ digits_value 10 ys → xs ≡ ys
same_digits [] [] dx dy l v = refl
same_digits [] (y ∷ ys) dx dy l v = absurd (omega arith)
same_digits (x ∷ xs) [] dx dy l v = absurd (omega arith)
same_digits (x ∷ xs) (y ∷ ys) dx dy l v =
    let k : ℕ = 10 ^ length xs in
    let tail : length xs ≡ length ys = omega arith in
    let bx : digits_value 10 xs < k = value_below xs dx.1 in
    let by : digits_value 10 ys < k = rw (← tail) at (value_below ys dy.1) in
    let z : (d : ℕ) → 0 * 10 + d ≡ d = λ d. omega arith in
    let vx : digits_value 10 (x ∷ xs) ≡ digit_value x * k + digits_value 10 xs = value_after_is (0 * 10 + digit_value x) xs ∙ ap (λ (d : ℕ). d * k + digits_value 10 xs) (z (digit_value x)) in
    let vy : digits_value 10 (y ∷ ys) ≡ digit_value y * k + digits_value 10 ys =
    value_after_is (0 * 10 + digit_value y) ys ∙ ap (λ (d : ℕ). d * 10 ^ length ys + digits_value 10 ys) (z (digit_value y)) ∙ ap (λ (n : ℕ). digit_value y * 10 ^ n + digits_value 10 ys) (sym tail) in
    let e : digit_value x * k + digits_value 10 xs ≡ digit_value y * k + digits_value 10 ys = sym vx ∙ v ∙ vy in
    let d : digit_value x ≡ digit_value y = sym (digits_div (digit_value x) bx) ∙ ap (λ (n : ℕ). n / k) e ∙ digits_div (digit_value y) by in
    let r : digits_value 10 xs ≡ digits_value 10 ys = sym (digits_mod (digit_value x) bx) ∙ ap (λ (n : ℕ). n % k) e ∙ digits_mod (digit_value y) by in
    let h : x ≡ y = omega (arith, d, digit_value_is x dx.0, digit_value_is y dy.0, digit_range x dx.0, digit_range y dy.0) in
    ap (λ (b : ℕ). b ∷ xs) h ∙ ap (λ (t : List ℕ). y ∷ t) (same_digits xs ys dx.1 dy.1 tail r)

-- digits are the text of their value in as many places
pub padded-value : (ds : List ℕ) → AllDigits ds → padded (length ds) (digits_value 10 ds) ≡ ds
padded-value ds h =
    same_digits (padded (length ds) (digits_value 10 ds)) ds (all_padded (length ds) (digits_value 10 ds)) h (length-padded (length ds) (digits_value 10 ds))
    (value-padded_all (length ds) (digits_value 10 ds) (value_below ds h))
