-- The rule of the code and the table of the definition give one Easter, by computing both for each of the hundred years.
use Rattle.std.proofs.Common.{◌≡◌, ℕ, ◌+◌, ◌-◌, ◌*◌, ◌/◌, ◌%◌, ◌<◌, ◌≤◌, min, refl, subst, arith}
use Rattle.calendar.specs.Easter.{easter_sunday}
use Rattle.calendar.specs.Gregorian.{century, days_before, months_of}
use Rattle.calendar.proofs.Spans.{equal_below}

abbrev moon : ℕ → ℕ
moon y = (19 * (y % 19) + 24) % 30

abbrev sunday : ℕ → ℕ
sunday y = (32 + 2 * ((y - 2000) / 4) - moon y - (y - 2000) % 4) % 7

abbrev pub rule : ℕ → ℕ
rule y = days_before century (y - 2000) + days_before (months_of y) 2 + 21 + moon y + sunday y - 7 * ((y % 19 + 11 * moon y + 22 * sunday y) / 451)

each : (k : ℕ) → k < 100 → rule (2000 + k) ≡ easter_sunday (2000 + k)
unfolding easter_sunday century months_of
each = equal_below (λ k. rule (2000 + k)) (λ k. easter_sunday (2000 + k)) 100 refl

pub rule_is : (y : ℕ) → 2000 ≤ y → y ≤ 2099 → rule y ≡ easter_sunday y
rule_is y low high =
    let e : 2000 + (y - 2000) ≡ y = omega arith in
    subst (λ (x : ℕ). rule x ≡ easter_sunday x) e (each (y - 2000) (omega arith))

within_century : (k : ℕ) → k < 100 → min 36524 (easter_sunday (2000 + k)) ≡ easter_sunday (2000 + k)
unfolding easter_sunday century months_of
within_century = equal_below (λ k. min 36524 (easter_sunday (2000 + k))) (λ k. easter_sunday (2000 + k)) 100 refl

pub easter_below : (y : ℕ) → 2000 ≤ y → y ≤ 2099 → easter_sunday y < 36525
easter_below y low high =
    let e : 2000 + (y - 2000) ≡ y = omega arith in
    subst (λ (x : ℕ). easter_sunday x < 36525) e (omega (arith, within_century (y - 2000) (omega arith)))
