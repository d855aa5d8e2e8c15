use Rattle.std.proofs.Common.{◌≡◌, ℕ, ◌+◌, ◌-◌, ◌/◌, ◌%◌, ◌^◌, ◌<◌, length, get_or}
use Rattle.texts.proofs.digits.write_digits.Given as goal

-- the digits stand from the place `at` on, and the rest has lost them
abbrev pub invariant-loop-at : goal.invariant-loop-at
invariant-loop-at l =
    ((j : ℕ) → j < length l.out - l.at → get_or l.out (length l.out - 1 - j) 0 ≡ 48 + l.n / 10 ^ j % 10)
    × (l.left ≡ l.n / 10 ^ (length l.out - l.at))
