-- Findings put down one after the other.
use Rattle.std.proofs.Common.{◌≡◌, ℕ, ◌+◌, ◌<◌, List, [], ◌∷◌, ◌++◌, length, map, take, slice_set, ap, ◌∙◌, sym, arith}
use Rattle.std.specs.List.{range_with_len}
use Rattle.std.proofs.lemmas.List.{length-set, take_all, take_more_set}
use Rattle.std.proofs.lemmas.List.FromFn.{map-range_with_len_more}
use Rattle.sheets.specs.declared.finding.Finding.{Finding}

-- the next one stands behind those before it
pub next_down : (f : ℕ → Finding) (xs : List Finding) (i n : ℕ) (x : Finding) → length xs ≡ n → i < length xs → take i xs ≡ map f (range_with_len 0 i) → x ≡ f i → (length (slice_set xs i x) ≡ n) × (take (i + 1) (slice_set xs i x) ≡ map f (range_with_len 0 (i + 1)))
next_down f xs i n x l k t e = (
  length-set xs i x ∙ l,
  take_more_set xs i x k ∙ ap (λ ys. ys ++ x ∷ []) t ∙ ap (λ y. map f (range_with_len 0 i) ++ y ∷ []) e ∙ sym (map-range_with_len_more f 0 i i (omega arith)),
)

-- and the last one ends them
pub all_down : (f : ℕ → Finding) (xs : List Finding) (i n : ℕ) → length xs ≡ n → i ≡ n → take i xs ≡ map f (range_with_len 0 i) → xs ≡ map f (range_with_len 0 n)
all_down f xs i n l e t = sym (take_all i xs (omega arith)) ∙ t ∙ ap (λ k. map f (range_with_len 0 k)) e
