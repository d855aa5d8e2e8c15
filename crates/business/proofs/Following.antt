-- The search for the next business day, one day at a time.
use Rattle.std.proofs.Common.{◌≡◌, ℕ, zero, suc, ◌+◌, ◌-◌, ◌<◌, ◌≤◌, true, false, Some, None, Option, sym, ap, ◌∙◌, subst, inl, inr, add-one, arith}
use Rattle.std.proofs.lemmas.Bool.{cases_Bool, cases_order}
use Rattle.business.specs.TargetDays.{FirstAfter, closed, first_from, next_business}

-- the search stops at an open day, and passes a closed one over
pub found_open : (n : ℕ) → n < 36525 → closed n ≡ false → first_from (36525 - n) n ≡ Some n
found_open n h e =
    let s : 36525 - n ≡ suc (36525 - n - 1) = omega arith in
    rw (s, e)

pub passed_closed : (n : ℕ) → n < 36525 → closed n ≡ true → first_from (36525 - n) n ≡ first_from (36525 - (n + 1)) (n + 1)
passed_closed n h e =
    let s : 36525 - n ≡ suc (36525 - (n + 1)) = omega arith in
    rw (s, e, add-one n)

-- past the last day there is none
pub found_none : (n : ℕ) → 36525 ≤ n → first_from (36525 - n) n ≡ None
found_none n h = let s : 36525 - n ≡ zero = omega arith in rw s

-- the first business day on day n or later
FirstFrom : ℕ → Option ℕ → Type 0
FirstFrom n None = (k : ℕ) → n ≤ k → k < 36525 → closed k ≡ true
FirstFrom n (Some m) = (n ≤ m) × (m < 36525) × (closed m ≡ false) × ((k : ℕ) → n ≤ k → k < m → closed k ≡ true)

past : (n : ℕ) (o : Option ℕ) → closed n ≡ true → FirstFrom (suc n) o → FirstFrom n o
unfolding FirstFrom
past n None c f = λ k a b. elim (cases_order n k) [ inl e ↦ ap closed (sym e) ∙ c | inr (inl lt) ↦ f k lt b | inr (inr gt) ↦ absurd (omega arith) ]
past n (Some m) c f = (
  omega (arith, f.0),
  f.1,
  f.2,
  λ k a b. elim (cases_order n k) [ inl e ↦ ap closed (sym e) ∙ c | inr (inl lt) ↦ f.3 k lt b | inr (inr gt) ↦ absurd (omega arith) ],
)

first_from_lem : (left n : ℕ) → n + left ≡ 36525 → FirstFrom n (first_from left n)
unfolding FirstFrom
first_from_lem zero n e = λ k a b. absurd (omega arith)
first_from_lem (suc left) n e =
    elim (cases_Bool (closed n)) [
      | inl c ↦ rw c (past n (first_from left (suc n)) c (first_from_lem left (suc n) (omega arith)))
      | inr o ↦ rw o (omega arith, omega arith, o, λ k a b. absurd (omega arith))
    ]

after_from : (n : ℕ) (o : Option ℕ) → FirstFrom (n + 1) o → FirstAfter n o
unfolding FirstFrom
after_from n None f = λ k a b. f k (omega arith) b
after_from n (Some m) f = (omega (arith, f.0), f.1, f.2, λ k a b. f.3 k (omega arith) b)

-- what the search finds is the first business day after n
pub next_first : (n : ℕ) (o : Option ℕ) → n < 36525 → o ≡ next_business n → FirstAfter n o
unfolding next_business
next_first n o h e = subst (FirstAfter n) (sym e) (after_from n (first_from (36525 - (n + 1)) (n + 1)) (first_from_lem (36525 - (n + 1)) (n + 1) (omega arith)))
