-- Two reports whose prices are four percent apart.
use Rattle.std.proofs.Common.{◌≡◌, ℕ, zero, suc, ◌+◌, ◌*◌, ◌<◌, Bool, true, false, ◌||◌, if◌then◌else◌, List, map, ℤ, pos, Some, None, Option, refl, sym, ◌∙◌, subst, arith}
use Rattle.std.specs.List.{range_with_len}
use Rattle.std.specs.Option.{option_map}
use Rattle.amounts.specs.Amounts.{worth}
use Rattle.amounts.specs.Decimal.{amount_of}
use Rattle.amounts.specs.Units.{units_per_one}
use Rattle.amounts.specs.declared.amount.Amount.{Amount}
use Rattle.built_sheets.specs.Kdpw.{kdpw}
use Rattle.built_sheets.specs.Published.{published}
use Rattle.checks.specs.Checks.{holds, judged}
use Rattle.checks.specs.Values.{amount}
use Rattle.checks.specs.declared.check.Check.TheVariants.{OnePercent}
use Rattle.codes.specs.Codes.{text_of}
use Rattle.report.specs.declared.details.Details.{Details}
use Rattle.sheets.specs.Findings.{category_number, finding_number}
use Rattle.sheets.specs.Sheets.{Meaning, findings_of, places, some_differ, state_of}
use Rattle.sheets.specs.declared.finding.Category.{Category}
use Rattle.sheets.specs.declared.finding.Category.TheVariants.{First, Second}
use Rattle.sheets.specs.declared.finding.Finding.{Finding}
use Rattle.sheets.specs.declared.finding.PairState.TheVariants.{Mach, Err1, Err2}
use Rattle.examples.specs.Examples.{PaddedPrices, Priced, padded, short}

hundred : amount_of 20 padded ≡ Some (pos (100 * units_per_one))
hundred = refl

hundred_and_four : amount_of 20 short ≡ Some (pos (104 * units_per_one))
hundred_and_four = refl

told_price : (p : Option Amount) (z : ℤ) → option_map worth p ≡ Some z → option_map (λ x. amount (worth x)) p ≡ Some (amount z)
told_price None z e = absurd (cc)
told_price (Some x) z e = cc

apart : (v w : Option (List ℕ)) → finding_number (judged (holds OnePercent v w) (Some (amount (pos (100 * units_per_one)))) (Some (amount (pos (104 * units_per_one))))) ≡ 1
apart v w = refl

differ : (a b : Details) → Priced padded a → Priced short b → finding_number (kdpw.finding 8 a b) ≡ 1
unfolding published
differ a b p q =
    let s = told_price a.price _ (p ∙ hundred) in
    let t = told_price b.price _ (q ∙ hundred_and_four) in
    rw (s, t) (apart (option_map text_of a.venue) (option_map text_of b.venue))

-- a finding of some place is among those of all
or_true : (x : Bool) → (x || true) ≡ true
or_true true = refl
or_true false = refl

seen : (sheet : Meaning) (category : Category) (f : ℕ → Finding) (i n k : ℕ) → k < n → category_number (sheet.category (i + k)) ≡ category_number category → finding_number (f (i + k)) ≡ 1 → some_differ sheet category i (map f (range_with_len i n)) ≡ true
seen sheet category f i zero k l c d = absurd (omega arith)
seen sheet category f i (suc n) zero l c d = grind arith
seen sheet category f i (suc n) (suc k) l c d =
    let e : i + suc k ≡ i + 1 + k = omega arith in
    let s = seen sheet category f (i + 1) n k (omega arith) (subst (λ j. category_number (sheet.category j) ≡ category_number category) e c) (subst (λ j. finding_number (f j) ≡ 1) e d) in
    rw s (or_true _)

second_differs : (a b : Details) → Priced padded a → Priced short b → some_differ kdpw Second 0 (findings_of kdpw a b) ≡ true
unfolding published places
second_differs a b p q = seen kdpw Second (λ i. kdpw.finding i a b) 0 64 8 (omega arith) refl (differ a b p q)

state : (a b : Details) → Priced padded a → Priced short b → state_of kdpw a b ≡ (if some_differ kdpw First 0 (findings_of kdpw a b) then Err1 else Err2)
state a b p q = rw (second_differs a b p q) refl

no_match : (first : Bool) → (if first then Err1 else Err2) ≡ Mach → ⊥
no_match true e = absurd (cc)
no_match false e = absurd (cc)

pub prices : PaddedPrices
prices = record {
  hundred = hundred;
  hundred_and_four = hundred_and_four;
  differ = differ;
  state = state;
  unmatched = λ a b p q e. no_match _ (sym (state a b p q) ∙ e);
}
