-- The shortest text reads back, and none is shorter.
use Rattle.std.proofs.Common.{◌≡◌, ℕ, zero, suc, ◌+◌, ◌-◌, ◌*◌, ◌/◌, ◌%◌, ◌^◌, ◌<◌, ◌≤◌, Bool, true, false, eqb, List, [], ◌∷◌, ◌++◌, length, replicate, pos, nat_abs, Some, IsAscii, sym, refl, ap, ◌∙◌, subst, arith}
use Prim.Native.Nat.{◌∣◌}
use native.Mathlib.Nat.{dvd-mul_left, mod-mod_of_dvd}
use lib.Signed.{lt_z}
use Rattle.std.specs.Int.{from_bool}
use Rattle.std.specs.Str.Parse.{digits_value}
use Rattle.std.specs.List.{AllByRecursion}
use Rattle.std.proofs.lemmas.Nat.{div-mul-add}
use Rattle.std.proofs.ByRecursion.{IsAscii-from_all, All-append}
use Rattle.std.proofs.lemmas.List.{length-append}
use Rattle.std.proofs.lemmas.Int.{ints}
use Rattle.std.proofs.lemmas.Bool.Decides.{nat_tests}
use Rattle.texts.specs.Numerals.{numeral, padded, width}
use Rattle.texts.proofs.Padded.{length-padded, all_padded, padded_shifted, value-padded, value-padded_all, below_width, width_le, width_some}
use Rattle.texts.proofs.Powers.{ten_more}
use Rattle.texts.proofs.Decimal.{digits_ascii, value_below}
use Rattle.amounts.specs.declared.amount.Amount.{Amount}
use Rattle.amounts.specs.Amounts.{magnitude, whole_of, worth}
use Rattle.amounts.specs.Decimal.{amount_of, fraction_units}
use Rattle.amounts.specs.Shortest.{before_kept, shortest, shortest_text, without_end_zeros}
use Rattle.amounts.specs.Spelling.{Spelled, sign_text, dot_text, spelled_units}
use Rattle.amounts.specs.Units.{units_per_one, signed}
use Rattle.amounts.proofs.Fraction.{joined_units}
use Rattle.amounts.proofs.Parts.{fraction_below, split_fraction, split_value, width_places}
use Rattle.amounts.proofs.Spelling.{read_spelled, spelled_read}
use Rattle.amounts.proofs.Units.{fewest_places, same_magnitude, some_units}

-- the units' sign and size are those of the amount
nat_abs-signed : (s : Bool) (m : ℕ) → nat_abs (signed s m) ≡ m
nat_abs-signed true m = omega (arith, ints)
nat_abs-signed false m = refl

negative_signed : (s : Bool) (m : ℕ) → (s ≡ true → 0 < m) → lt_z (signed s m) (pos 0) ≡ s
negative_signed true zero h = let k : 0 < zero = h refl in absurd (omega arith)
negative_signed true (suc m) h = refl
negative_signed false m h = grind (arith, ints)

-- zeros at the end fall away
all_zeros : (k : ℕ) → without_end_zeros (replicate k 48) ≡ []
all_zeros zero = refl
all_zeros (suc k) = ap (before_kept 48) (all_zeros k)

end_zeros : (xs : List ℕ) (k : ℕ) → without_end_zeros (xs ++ replicate k 48) ≡ without_end_zeros xs
end_zeros [] k = all_zeros k
end_zeros (x ∷ xs) k = ap (before_kept x) (end_zeros xs k)

no_end_zero : (p n : ℕ) → (0 < p → 0 < n % 10) → without_end_zeros (padded p n) ≡ padded p n
no_end_zero zero n h = refl
no_end_zero (suc zero) n h =
    let e : n / 1 ≡ n = omega arith in
    let ne : eqb (48 + n / 1 % 10) 48 ≡ false = grind (arith, nat_tests, h (omega arith), ap (λ (x : ℕ). x % 10) e) in
    rw ne
no_end_zero (suc (suc p)) n h = ap (before_kept (48 + n / 10 ^ suc p % 10)) (no_end_zero (suc p) n (λ _. h (omega arith)))

places_text : (a : Amount) → without_end_zeros (padded 19 (magnitude a)) ≡ padded a.places a.digits
places_text a =
    let p : ℕ = a.places in
    let i : 19 ≡ p + (19 - p) = omega (arith, a.few_places) in
    ap (λ (k : ℕ). without_end_zeros (padded k (magnitude a))) i
    ∙ ap without_end_zeros (padded_shifted p (19 - p) a.digits)
    ∙ end_zeros (padded p a.digits) (19 - p)
    ∙ no_end_zero p a.digits a.no_zero_at_end

pub whole_units : (a : Amount) → magnitude a / units_per_one ≡ whole_of a
whole_units a =
    ap (λ (m : ℕ). m / units_per_one) (sym (split_value a.digits a.places a.few_places))
    ∙ div-mul-add (whole_of a) units_per_one (a.digits % 10 ^ a.places * 10 ^ (19 - a.places)) (split_fraction a.digits a.places a.few_places)

-- the shortest text, by the parts that an amount keeps
shortest-parts : (a : Amount) → shortest a ≡ sign_text a.negative ++ (padded (width (whole_of a)) (whole_of a) ++ dot_text (padded a.places a.digits))
unfolding shortest_text
shortest-parts a =
    let m : ℕ = magnitude a in
    let abs : nat_abs (worth a) ≡ m = nat_abs-signed a.negative m in
    ap (λ (s : Bool). sign_text s ++ (numeral (nat_abs (worth a) / units_per_one) ++ dot_text (without_end_zeros (padded 19 (nat_abs (worth a)))))) (negative_signed a.negative m (some_units a))
    ∙ ap (λ (x : ℕ). sign_text a.negative ++ (numeral (x / units_per_one) ++ dot_text (without_end_zeros (padded 19 x)))) abs
    ∙ ap (λ (x : ℕ). sign_text a.negative ++ (numeral x ++ dot_text (without_end_zeros (padded 19 m)))) (whole_units a)
    ∙ ap (λ (t : List ℕ). sign_text a.negative ++ (numeral (whole_of a) ++ dot_text t)) (places_text a)

pub parts_shortest : (a : Amount) → sign_text a.negative ++ (numeral (whole_of a) ++ dot_text (padded a.places a.digits)) ≡ shortest a
parts_shortest a = sym (shortest-parts a)

-- the digits behind the dot weigh what the places say
padded_units : (d p : ℕ) → fraction_units (padded p d) ≡ d % 10 ^ p * 10 ^ (19 - p)
padded_units d p = ap (λ (x : ℕ). x * 10 ^ (19 - length (padded p d))) (value-padded p d) ∙ ap (λ (x : ℕ). d % 10 ^ p * 10 ^ (19 - x)) (length-padded p d)

shortest-spelled : (most : ℕ) (a : Amount) → a.digits < 10 ^ most → a.places < most → Spelled most (shortest a) a.negative (padded (width (whole_of a)) (whole_of a)) (padded a.places a.digits)
shortest-spelled most a few places = record {
  spelt = shortest-parts a;
  whole_digits = all_padded (width (whole_of a)) (whole_of a);
  fraction_digits = all_padded a.places a.digits;
  some = omega (arith, width_some (whole_of a), length-padded (width (whole_of a)) (whole_of a));
  few = omega (arith, length-padded (width (whole_of a)) (whole_of a), length-padded a.places a.digits, width_places most a.digits a.places places few);
}

shortest_units : (a : Amount) → spelled_units a.negative (padded (width (whole_of a)) (whole_of a)) (padded a.places a.digits) ≡ worth a
shortest_units a =
    ap (signed a.negative) (sym (joined_units (padded (width (whole_of a)) (whole_of a)) (padded a.places a.digits) (omega (arith, length-padded a.places a.digits, a.few_places))))
    ∙ ap (λ (x : ℕ). signed a.negative (x * units_per_one + fraction_units (padded a.places a.digits))) (value-padded_all (width (whole_of a)) (whole_of a) (below_width (whole_of a)))
    ∙ ap (λ (x : ℕ). signed a.negative (whole_of a * units_per_one + x)) (padded_units a.digits a.places)
    ∙ ap (signed a.negative) (split_value a.digits a.places a.few_places)

-- within as many digits as the amount may have, the shortest text reads back
pub reads_back : (most : ℕ) → most ≤ 20 → (a : Amount) → a.digits < 10 ^ most → a.places < most → amount_of most (shortest a) ≡ Some (worth a)
reads_back most small a few places =
    spelled_read most small (shortest a) a.negative (padded (width (whole_of a)) (whole_of a)) (padded a.places a.digits) (shortest-spelled most a few places)
    ∙ ap Some (shortest_units a)

length-sign : (n : Bool) → length (sign_text n) ≡ from_bool n
length-sign true = refl
length-sign false = refl

-- a minus in all the room that the sign takes
pub sign_fills : (n : Bool) → replicate (from_bool n) 45 ≡ sign_text n
sign_fills true = refl
sign_fills false = refl

sign_short : (n : Bool) → length (sign_text n) ≤ 1
sign_short true = omega arith
sign_short false = omega arith

dot_short : (f : List ℕ) → length (dot_text f) ≤ length f + 1
dot_short [] = omega arith
dot_short (x ∷ xs) = omega arith

-- fewer places take no more text
dot_length_le : (f g : List ℕ) → length f ≤ length g → length (dot_text f) ≤ length (dot_text g)
dot_length_le [] g h = omega arith
dot_length_le (x ∷ xs) [] h = absurd (omega arith)
dot_length_le (x ∷ xs) (y ∷ ys) h = omega arith

length-spelled : (n : Bool) (w t : List ℕ) → length (sign_text n ++ (w ++ t)) ≡ length (sign_text n) + (length w + length t)
length-spelled n w t = length-append (sign_text n) (w ++ t) ∙ ap (λ (x : ℕ). length (sign_text n) + x) (length-append w t)

length-shortest : (a : Amount) → length (shortest a) ≡ length (sign_text a.negative) + (width (whole_of a) + length (dot_text (padded a.places a.digits)))
length-shortest a =
    ap length (shortest-parts a)
    ∙ length-spelled a.negative (padded (width (whole_of a)) (whole_of a)) (dot_text (padded a.places a.digits))
    ∙ ap (λ (x : ℕ). length (sign_text a.negative) + (x + length (dot_text (padded a.places a.digits)))) (length-padded (width (whole_of a)) (whole_of a))

pub length_told : (a : Amount) → length (shortest a) ≡ from_bool a.negative + (width (whole_of a) + length (dot_text (padded a.places a.digits)))
length_told a = omega (arith, length-shortest a, length-sign a.negative)

sign_needed : (s t : Bool) (m n : ℕ) → (s ≡ true → 0 < m) → signed t n ≡ signed s m → length (sign_text s) ≤ length (sign_text t)
sign_needed false t m n h e = omega arith
sign_needed true true m n h e = omega arith
sign_needed true false m n h e = let k : 0 < m = h refl in absurd (omega (arith, ints))

-- the last digit of a fraction is that of the number
last_digit : (d p : ℕ) → 0 < p → d % 10 ^ p % 10 ≡ d % 10
last_digit d p h =
    let i : p ≡ p - 1 + 1 = omega arith in
    let e : 10 ^ (p - 1) * 10 ≡ 10 ^ p = sym (ten_more (p - 1)) ∙ ap (λ (x : ℕ). 10 ^ x) (sym i) in
    mod-mod_of_dvd 10 {b = 10 ^ p} d (subst (λ (x : ℕ). 10 ∣ x) e (dvd-mul_left 10 (10 ^ (p - 1))))

module _ (a : Amount) (text : List ℕ) (n : Bool) (w f : List ℕ) (s : Spelled 20 text n w f) (e : spelled_units n w f ≡ worth a) where
  places_fit : length f ≤ 19
  places_fit = omega (arith, s.some, s.few)

  magnitudes : digits_value 10 w * units_per_one + fraction_units f ≡ magnitude a
  magnitudes = joined_units w f places_fit ∙ same_magnitude n a.negative (digits_value 10 (w ++ f) * 10 ^ (19 - length f)) (magnitude a) e

  small_fraction : fraction_units f < units_per_one
  small_fraction = fraction_below (digits_value 10 f) (length f) places_fit (value_below f s.fraction_digits)

  parts_of_a : whole_of a * units_per_one + a.digits % 10 ^ a.places * 10 ^ (19 - a.places) ≡ magnitude a
  parts_of_a = split_value a.digits a.places a.few_places

  small_own : a.digits % 10 ^ a.places * 10 ^ (19 - a.places) < units_per_one
  small_own = split_fraction a.digits a.places a.few_places

  same_whole_part : digits_value 10 w ≡ whole_of a
  same_whole_part = omega (arith, magnitudes, parts_of_a, small_fraction, small_own)

  same_fraction : digits_value 10 f * 10 ^ (19 - length f) ≡ a.digits % 10 ^ a.places * 10 ^ (19 - a.places)
  same_fraction = omega (arith, magnitudes, parts_of_a, small_fraction, small_own)

  whole_needed : width (whole_of a) ≤ length w
  whole_needed = width_le (whole_of a) (length w) s.some (omega (arith, value_below w s.whole_digits, same_whole_part))

  places_needed : a.places ≤ length f
  places_needed =
      fewest_places (digits_value 10 f) (a.digits % 10 ^ a.places) (length f) a.places a.few_places
      (λ h. omega (arith, a.no_zero_at_end h, last_digit a.digits a.places h)) same_fraction

  as_long : length (shortest a) ≤ length text
  as_long =
      omega (
        arith,
        length-shortest a,
        ap length s.spelt,
        length-spelled n w (dot_text f),
        whole_needed,
        dot_length_le (padded a.places a.digits) f (omega (arith, length-padded a.places a.digits, places_needed)),
        sign_needed a.negative n (magnitude a) (digits_value 10 (w ++ f) * 10 ^ (19 - length f)) (some_units a) e,
      )

-- no text that means the same is shorter
pub none_shorter : (a : Amount) (text : List ℕ) → amount_of 20 text ≡ Some (worth a) → length (shortest a) ≤ length text
none_shorter a text e =
    let s = read_spelled 20 (omega arith) text (worth a) e in
    as_long a text s.0 s.1 s.2 s.3 s.4

-- a minus, twenty digits and a dot
at_most_22 : (a : Amount) → length (shortest a) ≤ 22
at_most_22 a =
    let p : List ℕ = padded a.places a.digits in
    omega (
      arith,
      length-shortest a,
      width_places 20 a.digits a.places (omega (arith, a.few_places)) a.few_digits,
      sign_short a.negative,
      dot_short p,
      length-padded a.places a.digits,
    )

pub text_room : (a : Amount) → from_bool a.negative + (width (whole_of a) + length (dot_text (padded a.places a.digits))) ≤ 22
text_room a = omega (arith, length_told a, at_most_22 a)

-- a dot and places, where there are places
pub dot_length : (p n : ℕ) → 0 < p → length (dot_text (padded p n)) ≡ p + 1
dot_length zero n h = absurd (omega arith)
dot_length (suc p) n h = omega (arith, length-padded p n)

-- a dot, and digits in all the room behind it
pub dot_fills : (p n k : ℕ) → length (dot_text (padded p n)) ≡ k + 1 → 46 ∷ padded k n ≡ dot_text (padded p n)
dot_fills zero n k h = absurd (omega arith)
dot_fills (suc p) n k h = let e : k ≡ suc p = omega (arith, length-padded p n) in ap (λ (j : ℕ). 46 ∷ padded j n) e

pub reads_back_20 : (a : Amount) → amount_of 20 (shortest a) ≡ Some (worth a)
reads_back_20 a = reads_back 20 (omega arith) a a.few_digits (omega (arith, a.few_places))

-- every byte of the text is below 128
sign_ascii : (n : Bool) → AllByRecursion (λ b. b < 128) (sign_text n)
sign_ascii true = (omega arith, tt)
sign_ascii false = tt

dot_ascii : (ds : List ℕ) → AllByRecursion (λ b. b < 128) ds → AllByRecursion (λ b. b < 128) (dot_text ds)
dot_ascii [] h = tt
dot_ascii (d ∷ ds) h = (omega arith, h)

pub shortest_ascii : (a : Amount) → IsAscii (shortest a)
shortest_ascii a =
    let w : List ℕ = padded (width (whole_of a)) (whole_of a) in
    let f : List ℕ = padded a.places a.digits in
    subst IsAscii (sym (shortest-parts a))
    (IsAscii-from_all (sign_text a.negative ++ (w ++ dot_text f))
    (All-append (λ b. b < 128) (sign_text a.negative) (w ++ dot_text f) (sign_ascii a.negative)
    (All-append (λ b. b < 128) w (dot_text f) (digits_ascii w (all_padded (width (whole_of a)) (whole_of a))) (dot_ascii f (digits_ascii f (all_padded a.places a.digits))))))
