-- What is read up to a line feed is one line.
use Rattle.std.proofs.Common.{◌≡◌, ◌≢◌, ℕ, ◌+◌, ◌-◌, ◌<◌, false, List, [], length, take, get_or, subst, arith}
use native.Mathlib.Decide.{dec_le}
use Rattle.std.specs.Io.{StopsAt}
use Rattle.std.specs.List.{prefix_len, All}
use Rattle.std.proofs.lemmas.List.{drop_all, get_or-take, length-take-le}
use Rattle.std.proofs.lemmas.List.Elements.{All-get_or}
use Rattle.std.proofs.lemmas.List.Sums.{prefix_len_stops}
use Rattle.std.proofs.lemmas.Bool.Decides.{nat_tests}
use Rattle.journal.specs.Bytes.{in_line}
use Rattle.journal.specs.Lines.{after_line}

feed : (b : ℕ) → in_line b ≡ false → b ≡ 10
feed b e = grind (arith, nat_tests)

none_before : (xs : List ℕ) (i : ℕ) → StopsAt xs 10 → i < length xs - 1 → get_or xs i 0 ≢ 10
none_before xs i s h = subst (λ (b : ℕ). b ≢ 10) (get_or-take (length xs - 1) xs i 0 h) (All-get_or (λ x. x ≢ 10) (take (length xs - 1) xs) i 0 (omega (arith, length-take-le (length xs - 1) xs (omega arith))) s)

pub nothing_behind : (xs : List ℕ) → StopsAt xs 10 → after_line xs ≡ []
nothing_behind xs s =
    elim (dec_le (length xs) (prefix_len in_line xs + 1)) [
      | yes h ↦ drop_all (prefix_len in_line xs + 1) xs h
      | no h ↦ absurd (none_before xs (prefix_len in_line xs) s (omega arith) (feed _ (prefix_len_stops in_line xs 0 (omega arith))))
    ]
