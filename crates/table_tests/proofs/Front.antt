-- A table in the front of a longer slice.
use Rattle.std.proofs.Common.{◌≡◌, ℕ, min, List, ◌++◌, length, take, drop, ap, sym, ◌∙◌, ⊎_elim, arith, subst}
use Rattle.std.proofs.lemmas.Bool.{cases_lt}
use Rattle.std.proofs.lemmas.List.{drop_at, take_at, drop_all, length-take-le, length-append, length-drop}
use Rattle.table.proofs.Searching.{cut}

-- the rows xs, whose first n were lent and came back as ys
module _ {X : Type 0} (xs ys : List X) (most n : ℕ) (clamped : n ≡ min most (length xs)) (long : length ys ≡ length (take n xs)) where
  size : length ys ≡ n
  size = long ∙ length-take-le n xs (omega (arith, clamped))

  whole : length (ys ++ drop n xs) ≡ length xs
  whole = omega (arith, clamped, size, length-append ys (drop n xs), length-drop n xs)

  front : take most (ys ++ drop n xs) ≡ ys
  front = sym (cut (ys ++ drop n xs) most n (omega (arith, clamped, whole))) ∙ take_at ys (drop n xs) n size

  pub rest_of : drop most (ys ++ drop n xs) ≡ drop most xs
  rest_of =
      ⊎_elim
      (λ lt.
      let m : n ≡ most = omega (arith, clamped) in
      ap (λ k. drop k (ys ++ drop n xs)) (sym m) ∙ drop_at ys (drop n xs) n size ∙ ap (λ k. drop k xs) m)
      (λ ge. drop_all most (ys ++ drop n xs) (omega (arith, whole)) ∙ sym (drop_all most xs (omega arith)))
      (cases_lt most (length xs))

  -- what holds of the lent rows, before and after, holds of the front
  pub of_front : (P : List X → List X → Type 0) → P (take n xs) ys → P (take most xs) (take most (ys ++ drop n xs))
  of_front P h =
      subst (λ ws. P ws (take most (ys ++ drop n xs))) (cut xs most n clamped)
      (subst (λ zs. P (take n xs) zs) (sym front) h)
