-- Runs of digits in text.
use Rattle.std.proofs.Common.{◌≡◌, ℕ, zero, suc, ◌+◌, ◌-◌, ◌^◌, ◌<◌, ◌≤◌, Bool, true, false, cond, List, [], ◌∷◌, length, get_or, take, refl, ap, ◌∙◌, arith}
use Rattle.std.specs.Str.Parse.{digits_value, AllDigits as Digits}
use Rattle.std.specs.Char.{is_ascii_digit, digit_value}
use Rattle.std.specs.List.{prefix_len, AllByRecursion}
use Rattle.std.proofs.lemmas.Int.Digits.{digits_value-lt}
use Rattle.std.proofs.ByRecursion.{All-from_get_or, All-weaker}
use Rattle.std.proofs.lemmas.List.{get_or-take, length-take-le}
use Rattle.std.proofs.lemmas.List.Sums.{prefix_len-le-length}
use Rattle.std.proofs.lemmas.Bool.Decides.{nat_tests}
use Rattle.texts.specs.Numerals.{AllDigits}

pub digit_value_is : (c : ℕ) → is_ascii_digit c ≡ true → digit_value c ≡ c - 48
digit_value_is c h = grind (arith, nat_tests)

pub digit_range : (c : ℕ) → is_ascii_digit c ≡ true → (48 ≤ c) × (c ≤ 57)
digit_range c h = grind (arith, nat_tests)

-- each byte of the run at the front is a digit
leading_at : (p : ℕ → Bool) (xs : List ℕ) (i : ℕ) → i < prefix_len p xs → p (get_or xs i 0) ≡ true
leading_at p [] i h = absurd (omega arith)
leading_at p (x ∷ xs) zero h =
    (elim (p x) as (λ v. zero < cond v (1 + prefix_len p xs) 0 → v ≡ true) [ true ↦ λ _. refl | false ↦ λ k. absurd (omega arith) ]) h
leading_at p (x ∷ xs) (suc i) h =
    (elim (p x) as (λ v. suc i < cond v (1 + prefix_len p xs) 0 → p (get_or xs i 0) ≡ true)
    [ true ↦ λ k. leading_at p xs i (omega arith) | false ↦ λ k. absurd (omega arith) ]) h

-- the bytes of the run at the front, or of any part of it
pub run_digits : (text : List ℕ) (n : ℕ) → n ≤ prefix_len is_ascii_digit text → AllDigits (take n text)
run_digits text n h =
    let l : length (take n text) ≡ n = length-take-le n text (omega (arith, prefix_len-le-length is_ascii_digit text)) in
    All-from_get_or (λ b. is_ascii_digit b ≡ true) (take n text) 0
    (λ i k. ap is_ascii_digit (get_or-take n text i 0 (omega arith)) ∙ leading_at is_ascii_digit text i (omega arith))

-- a text that is one run from end to end
pub all_run : (text : List ℕ) → AllDigits text → prefix_len is_ascii_digit text ≡ length text
all_run [] h = refl
all_run (x ∷ xs) h = simp h.0 (omega (arith, all_run xs h.1))

pub run_all : (text : List ℕ) → prefix_len is_ascii_digit text ≡ length text → AllDigits text
run_all text e = All-from_get_or (λ b. is_ascii_digit b ≡ true) text 0 (λ i k. leading_at is_ascii_digit text i (omega arith))

digits_from : (text : List ℕ) → AllDigits text → Digits 10 text
digits_from [] h = tt
digits_from (x ∷ xs) h = (omega (arith, digit_value_is x h.0, digit_range x h.0), digits_from xs h.1)

-- a number has no more digits than its text
pub value_below : (text : List ℕ) → AllDigits text → digits_value 10 text < 10 ^ length text
value_below text h = digits_value-lt 10 text (digits_from text h)

-- digits are ASCII
pub digits_ascii : (ds : List ℕ) → AllDigits ds → AllByRecursion (λ b. b < 128) ds
digits_ascii ds h = All-weaker (λ b. is_ascii_digit b ≡ true) (λ b. b < 128) (λ b d. omega (arith, digit_range b d)) ds h
