-- Days counted by years and months: the closed forms and tables of the code are the sums of the definitions.
use Rattle.std.proofs.Common.{◌≡◌, ℕ, zero, suc, ◌+◌, ◌*◌, ◌/◌, ◌<◌, Bool, true, ◌&&◌, eqb, refl}
use Rattle.std.proofs.lemmas.Bool.Decides.{Decides-below_and, Decides-eqb}
use Rattle.calendar.specs.Gregorian.{century, days_before}

-- the test holds of each number below n
abbrev pub all_below : (ℕ → Bool) → ℕ → Bool
all_below f zero = true
all_below f (suc n) = f n && all_below f n

-- two functions that a test finds equal at each number below n
pub equal_below : (f g : ℕ → ℕ) (n : ℕ) → all_below (λ k. eqb (f k) (g k)) n ≡ true → (k : ℕ) → k < n → f k ≡ g k
equal_below f g n h =
    (Decides-below_and (λ k. eqb (f k) (g k)) (λ k. f k ≡ g k) (all_below (λ k. eqb (f k) (g k))) (λ k. Decides-eqb (f k) (g k)) refl (λ _. refl) n).0 h

pub years_before : (k : ℕ) → k < 101 → k * 365 + (k + 3) / 4 ≡ days_before century k
unfolding century
years_before = equal_below (λ k. k * 365 + (k + 3) / 4) (days_before century) 101 refl
