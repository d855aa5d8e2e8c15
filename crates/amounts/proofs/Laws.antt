-- Proofs of the laws of amounts.
use Rattle.std.proofs.Common.{◌≡◌, ℕ, ◌-◌, ◌*◌, ◌^◌, ◌<◌, ◌≤◌, ◌%◌, true, Bool, ◌&&◌, eqb, ℤ, nat_abs, Decides, sym, refl, ap, ◌∙◌, arith}
use native.Mathlib.Nat.{max_comm}
use native.Mathlib.Bridge.{le_prop}
use mathlib.Core.HLevel.{is_prop→PathP}
use Rattle.std.proofs.lemmas.Int.{ints}
use Rattle.std.specs.Bool.{beq}
use Rattle.std.specs.Cmp.{booleans_Decides}
use Rattle.std.proofs.lemmas.Bool.{eqb-true, eq-eqb, and_from, and_parts}
use Rattle.std.proofs.lemmas.Bool.Decides.{same_from_decides}
use Rattle.texts.proofs.Powers.{ten_pos}
use Rattle.amounts.specs.declared.amount.Amount.{Amount}
use Rattle.amounts.specs.declared.amount.rate.ExchangeRate.{ExchangeRate}
use Rattle.amounts.specs.Rates.{rate_worth}
use Rattle.amounts.specs.Amounts.{magnitude, worth}
use Rattle.amounts.specs.Checks.{cut, distance, same}
use Rattle.amounts.specs.Laws.{AmountLaws}
use Rattle.amounts.specs.Units.{signed}
use Rattle.amounts.proofs.Shortest.{reads_back}
use Rattle.amounts.proofs.Units.{cancel_right, fewest_places, same_magnitude, same_sign, some_units}

same_parts : (a b : Amount) → worth a ≡ worth b → (a.negative ≡ b.negative) × (a.digits ≡ b.digits) × (a.places ≡ b.places)
same_parts a b e =
    let m : magnitude a ≡ magnitude b = same_magnitude a.negative b.negative (magnitude a) (magnitude b) e in
    let p = fewest_places a.digits b.digits a.places b.places b.few_places b.no_zero_at_end m in
    let q = fewest_places b.digits a.digits b.places a.places a.few_places a.no_zero_at_end (sym m) in
    let places : a.places ≡ b.places = omega arith in
    let s : a.digits * 10 ^ (19 - b.places) ≡ b.digits * 10 ^ (19 - b.places) =
    ap (λ (x : ℕ). a.digits * 10 ^ (19 - x)) (sym places) ∙ m in (
      same_sign a.negative b.negative (magnitude a) (magnitude b) (some_units a) (some_units b) e,
      cancel_right a.digits b.digits (10 ^ (19 - b.places)) (ten_pos (19 - b.places)) s,
      places,
    )

-- one worth has one amount
pub one_form : (a b : Amount) → worth a ≡ worth b → a ≡ b
one_form a b e =
    let f = same_parts a b e in
    λ i. record {
      negative = f.0 i;
      digits = f.1 i;
      places = f.2 i;
      few_digits = is_prop→PathP (λ j. f.1 j < 10 ^ 20) (λ j. le_prop) a.few_digits b.few_digits i;
      few_places = is_prop→PathP (λ j. f.2 j ≤ 19) (λ j. le_prop) a.few_places b.few_places i;
      no_zero_at_end = is_prop→PathP (λ j. 0 < f.2 j → 0 < f.1 j % 10) (λ j. hlevel le_prop) a.no_zero_at_end b.no_zero_at_end i;
      no_minus_zero = is_prop→PathP (λ j. f.0 j ≡ true → 0 < f.1 j) (λ j. hlevel le_prop) a.no_minus_zero b.no_minus_zero i;
    }

-- one worth has one exchange rate
pub rate_form : (r s : ExchangeRate) → rate_worth r ≡ rate_worth s → r ≡ s
rate_form r s e =
    let f = one_form r.amount s.amount e in
    λ i. record {
      amount = f i;
      few_digits = is_prop→PathP (λ j. (f j).digits < 10 ^ 10) (λ j. le_prop) r.few_digits s.few_digits i;
      few_places = is_prop→PathP (λ j. (f j).places ≤ 9) (λ j. le_prop) r.few_places s.few_places i;
    }

distance_exchanged : (x y : ℤ) → distance x y ≡ distance y x
distance_exchanged x y = omega (arith, ints)

equality : (x y : ℤ) → Decides (same x y) (x ≡ y)
equality x y = ((λ t. let z : distance x y ≡ 0 = eqb-true (distance x y) 0 t in omega (arith, ints)), λ e. eq-eqb (distance x y) 0 (omega (arith, ints)))

same_exchanged : (x y : ℤ) → same x y ≡ same y x
same_exchanged x y = ap (λ (d : ℕ). eqb d 0) (distance_exchanged x y)

fields_decide : (a b : Amount) → Decides (beq a.negative b.negative && (eqb a.digits b.digits && eqb a.places b.places)) (worth a ≡ worth b)
fields_decide a b = (
  (λ t.
      let p = and_parts _ _ t in
      let q = and_parts _ _ p.1 in
      ap (λ (s : Bool). signed s (magnitude a)) ((booleans_Decides a.negative b.negative).0 p.0)
      ∙ ap (λ (d : ℕ). signed b.negative (d * 10 ^ (19 - a.places))) (eqb-true a.digits b.digits q.0)
      ∙ ap (λ (k : ℕ). signed b.negative (b.digits * 10 ^ (19 - k))) (eqb-true a.places b.places q.1)),
  λ e.
      let f = same_parts a b e in
      and_from _ _ ((booleans_Decides a.negative b.negative).1 f.0) (and_from _ _ (eq-eqb a.digits b.digits f.1) (eq-eqb a.places b.places f.2)),
)

-- the test of equality and that of the fields are one
pub same_fields : (a b : Amount) → same (worth a) (worth b) ≡ (beq a.negative b.negative && (eqb a.digits b.digits && eqb a.places b.places))
same_fields a b = same_from_decides _ _ (equality (worth a) (worth b)) (fields_decide a b)

pub laws : AmountLaws
laws = record {
  one_form = one_form;
  rate_form = rate_form;
  equality = equality;
  equality_exchanged = same_exchanged;
  one_percent_exchanged = λ x y. rw (distance_exchanged x y, max_comm (nat_abs x) (nat_abs y)) refl;
  whole_exchanged = λ x y. same_exchanged (cut x) (cut y);
  rate_reads_back = λ r. reads_back 10 (omega arith) r.amount r.few_digits (omega (arith, r.few_places));
}
