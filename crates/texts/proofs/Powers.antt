-- Powers of ten.
use Rattle.std.proofs.lemmas.Bool.{cases_lt}
use Rattle.std.proofs.Common.{◌≡◌, ℕ, ◌+◌, ◌*◌, ◌/◌, ◌%◌, ◌^◌, ◌<◌, ◌≤◌, sym, ap, ◌∙◌, inl, inr, arith}
use native.Mathlib.Nat.{pow-le-pow_right, div-div-eq-div-mul}
use lib.Arith.{mod-mul}
use Rattle.std.proofs.lemmas.Nat.{pow-add}

pub ten_le : (m n : ℕ) → m ≤ n → 10 ^ m ≤ 10 ^ n
ten_le m n h = pow-le-pow_right {n = 10} (omega arith) {i = m} {j = n} h

pub ten_pos : (n : ℕ) → 0 < 10 ^ n
ten_pos n = omega (arith, ten_le 0 n (omega arith))

pub ten_more : (n : ℕ) → 10 ^ (n + 1) ≡ 10 ^ n * 10
ten_more n = pow-add 10 n 1

-- a power that is at most a number below another power has the lesser exponent
pub ten_least : (k j n : ℕ) → 10 ^ k ≤ n → n < 10 ^ j → k < j
ten_least k j n h g = elim (cases_lt k j) [ inl lt ↦ lt | inr ge ↦ absurd (omega (arith, ten_le j k ge)) ]

-- the digit of 10^k before what is below it
pub mod_ten_more : (n k : ℕ) → n % 10 ^ (k + 1) ≡ n / 10 ^ k % 10 * 10 ^ k + n % 10 ^ k
mod_ten_more n k =
    let e : 10 ^ (k + 1) ≡ 10 * 10 ^ k = ten_more k ∙ omega arith in
    ap (λ (x : ℕ). n % x) e ∙ mod-mul n {m = 10} {c = 10 ^ k} (omega arith) (ten_pos k)

pub div_ten_more : (n k : ℕ) → n / 10 ^ k / 10 ≡ n / 10 ^ (k + 1)
div_ten_more n k = div-div-eq-div-mul n (10 ^ k) 10 ∙ ap (λ (x : ℕ). n / x) (sym (ten_more k))
