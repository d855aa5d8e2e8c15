-- What a state tells of the fields.
use Rattle.std.proofs.Common.{◌≡◌, ℕ, zero, suc, ◌+◌, ◌<◌, ◌≤◌, Bool, true, false, ◌||◌, ◌&&◌, ◌==◌, if◌then◌else◌, map, refl, ap, sym, ◌∙◌, arith}
use Rattle.std.specs.List.{range_with_len}
use Rattle.report.specs.declared.details.Details.{Details}
use Rattle.sheets.specs.Findings.{category_number, finding_number}
use Rattle.sheets.specs.Laws.{ComparisonLaws, DiffersAt}
use Rattle.sheets.specs.Sheets.{Meaning, findings_of, places, some_differ, state_of}
use Rattle.sheets.specs.declared.finding.Category.{Category}
use Rattle.sheets.specs.declared.finding.Category.TheVariants.{First, Second, Third}
use Rattle.sheets.specs.declared.finding.Finding.{Finding}
use Rattle.sheets.specs.declared.finding.Finding.TheVariants.{Matches, Differs, NotCompared}
use Rattle.sheets.specs.declared.finding.PairState.TheVariants.{Mach, Err1, Err2}

own : (c : Category) → (category_number c == category_number c) ≡ true
own First = refl
own Second = refl
own Third = refl

or_true : (x y : Bool) → y ≡ true → (x || y) ≡ true
or_true true y e = refl
or_true false y e = e

here : (sheet : Meaning) (c : Category) (f : ℕ → Finding) (j n k : ℕ) → j < n → f (k + j) ≡ Differs → sheet.category (k + j) ≡ c → some_differ sheet c k (map f (range_with_len k n)) ≡ true
here sheet c f j zero k h d w = absurd (omega arith)
here sheet c f zero (suc n) k h d w =
    let e : k + 0 ≡ k = omega arith in
    let d2 : f k ≡ Differs = ap f (sym e) ∙ d in
    let w2 : sheet.category k ≡ c = ap sheet.category (sym e) ∙ w in
    rw (d2, w2, own c) refl
here sheet c f (suc j) (suc n) k h d w =
    let e : k + suc j ≡ (k + 1) + j = omega arith in
    or_true _ _ (here sheet c f j n (k + 1) (omega arith) (ap f (sym e) ∙ d) (ap sheet.category (sym e) ∙ w))

some : (sheet : Meaning) (c : Category) (a b : Details) (i : ℕ) → i < 64 → sheet.category i ≡ c → sheet.finding i a b ≡ Differs → some_differ sheet c 0 (findings_of sheet a b) ≡ true
unfolding places
some sheet c a b i h w d =
    let e : 0 + i ≡ i = omega arith in
    here sheet c (λ j. sheet.finding j a b) i 64 0 h (ap (λ j. sheet.finding j a b) e ∙ d) (ap sheet.category e ∙ w)

told : (p q : Bool) → (if p then Err1 else if q then Err2 else Mach) ≡ Mach → (p ≡ false) × (q ≡ false)
told true q e = absurd (cc)
told false true e = absurd (cc)
told false false e = (refl, refl)

never : (sheet : Meaning) (a b : Details) (i : ℕ) (c : Category) → sheet.category i ≡ c → state_of sheet a b ≡ Mach → i < 64 → sheet.finding i a b ≡ Differs → ⊥
never sheet a b i First w s h d = let t = some sheet First a b i h w d in let u = (told _ _ s).0 in absurd (cc)
never sheet a b i Second w s h d = let t = some sheet Second a b i h w d in let u = (told _ _ s).1 in absurd (cc)
never sheet a b i Third w s h d = let t = sheet.uncompared i a b w in absurd (cc)

first : (sheet : Meaning) (a b : Details) (i : ℕ) → i < 64 → sheet.category i ≡ First → sheet.finding i a b ≡ Differs → state_of sheet a b ≡ Err1
first sheet a b i h w d = rw (some sheet First a b i h w d) refl

same_category : (c d : Category) → (category_number c == category_number d) ≡ true → c ≡ d
same_category First First e = refl
same_category Second Second e = refl
same_category Third Third e = refl
same_category First Second e = absurd (cc)
same_category First Third e = absurd (cc)
same_category Second First e = absurd (cc)
same_category Second Third e = absurd (cc)
same_category Third First e = absurd (cc)
same_category Third Second e = absurd (cc)

differs_if : (f : Finding) → (finding_number f == 1) ≡ true → f ≡ Differs
differs_if Matches e = absurd (cc)
differs_if Differs e = refl
differs_if NotCompared e = absurd (cc)

Found : Meaning → Category → (ℕ → Finding) → ℕ → ℕ → Type 0
Found sheet c f k n = (i : ℕ) × ((k ≤ i) × ((i < k + n) × ((sheet.category i ≡ c) × (f i ≡ Differs))))

at_or_behind : (sheet : Meaning) (c : Category) (f : ℕ → Finding) (k n : ℕ) (p q rest : Bool) → (category_number (sheet.category k) == category_number c) ≡ p → (finding_number (f k) == 1) ≡ q → (rest ≡ true → Found sheet c f (k + 1) n) → ((p && q) || rest) ≡ true → Found sheet c f k (suc n)
unfolding Found
at_or_behind sheet c f k n true true rest u v behind e = (k, (omega arith, (omega arith, (same_category (sheet.category k) c u, differs_if (f k) v))))
at_or_behind sheet c f k n true false rest u v behind e = let b = behind e in (b.0, (omega (arith, b.1.0), (omega (arith, b.1.1.0), b.1.1.1)))
at_or_behind sheet c f k n false q rest u v behind e = let b = behind e in (b.0, (omega (arith, b.1.0), (omega (arith, b.1.1.0), b.1.1.1)))

found : (sheet : Meaning) (c : Category) (f : ℕ → Finding) (k n : ℕ) → some_differ sheet c k (map f (range_with_len k n)) ≡ true → Found sheet c f k n
found sheet c f k zero e = absurd (cc)
found sheet c f k (suc n) e = at_or_behind sheet c f k n _ _ (some_differ sheet c (k + 1) (map f (range_with_len (k + 1) n))) refl refl (found sheet c f (k + 1) n) e

some_only : (sheet : Meaning) (c : Category) (a b : Details) → some_differ sheet c 0 (findings_of sheet a b) ≡ true → DiffersAt sheet c a b
unfolding places Found
some_only sheet c a b e = let w = found sheet c (λ j. sheet.finding j a b) 0 64 e in (w.0, (omega (arith, w.1.1.0), w.1.1.1))

first_told : (p q : Bool) → (if p then Err1 else if q then Err2 else Mach) ≡ Err1 → p ≡ true
first_told true q e = refl
first_told false true e = absurd (cc)
first_told false false e = absurd (cc)

second_told : (p q : Bool) → (if p then Err1 else if q then Err2 else Mach) ≡ Err2 → q ≡ true
second_told true q e = absurd (cc)
second_told false true e = refl
second_told false false e = absurd (cc)

pub laws : ComparisonLaws
laws = record {
  mach = λ sheet a b i s h d. never sheet a b i (sheet.category i) refl s h d;
  err1 = first;
  err1_only = λ sheet a b e. some_only sheet First a b (first_told _ _ e);
  err2_only = λ sheet a b e. some_only sheet Second a b (second_told _ _ e);
}
