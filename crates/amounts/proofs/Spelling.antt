-- The reader's definition takes just the texts that are spelled as amounts, each for what its digits say.
use Rattle.std.proofs.Common.{◌≡◌, ℕ, suc, ◌+◌, ◌*◌, ◌<◌, ◌≤◌, Bool, true, false, cond, ◌&&◌, eqb, ltb, leb, List, [], ◌∷◌, ◌++◌, length, drop, ℤ, Some, None, Option, sym, refl, ap, ◌∙◌, subst, inl, inr, one-add, arith}
use Rattle.std.specs.Option.{option_map}
use Rattle.std.specs.Str.Parse.{digits_value}
use Rattle.std.specs.Char.{is_ascii_digit}
use Rattle.std.specs.List.{prefix_len}
use Rattle.std.proofs.lemmas.List.{take_at, drop_at, take-append-drop}
use Rattle.std.proofs.lemmas.Bool.{lt-ltb, le-leb, ltb-true, leb-true, eqb-true, and_from, and_parts, cond-true, cond-false, cases_Bool, false≢true}
use Rattle.std.proofs.lemmas.Bool.Decides.{nat_tests}
use Rattle.texts.specs.Numerals.{AllDigits}
use Rattle.texts.proofs.Decimal.{all_run, run_all, run_digits}
use Rattle.amounts.specs.Decimal.{amount_of, magnitude_of, is_decimal, fractional, front, behind, fraction_units, minus, unsigned}
use Rattle.amounts.specs.Spelling.{Spelled, Spells, Reads, sign_text, dot_text, spelled_units}
use Rattle.amounts.specs.Units.{units_per_one, signed}
use Rattle.amounts.proofs.Fraction.{joined_units}

-- digits before something else are just the run at the front
run_before : (ds rest : List ℕ) → AllDigits ds → prefix_len is_ascii_digit rest ≡ 0 → prefix_len is_ascii_digit (ds ++ rest) ≡ length ds
run_before [] rest h e = e
run_before (d ∷ ds) rest (h, hs) e = rw h (rw one-add (ap suc (run_before ds rest hs e)))

run_dot : (ds : List ℕ) → prefix_len is_ascii_digit (dot_text ds) ≡ 0
run_dot [] = refl
run_dot (d ∷ ds) = refl

pub after_dot : (ds : List ℕ) → drop 1 (dot_text ds) ≡ ds
after_dot [] = refl
after_dot (d ∷ ds) = refl

fractional_dot : (ds : List ℕ) → AllDigits ds → fractional (dot_text ds) ≡ true
fractional_dot [] h = refl
fractional_dot (d ∷ ds) h =
    let e : prefix_len is_ascii_digit (d ∷ ds) ≡ suc (length ds) = all_run (d ∷ ds) h in
    rw (e, one-add) (grind (arith, nat_tests))

unsigned_is : (n : Bool) (w rest : List ℕ) → AllDigits w → 0 < length w → (minus (sign_text n ++ (w ++ rest)) ≡ n) × (unsigned (sign_text n ++ (w ++ rest)) ≡ w ++ rest)
unsigned_is true w rest h l = (refl, refl)
unsigned_is false [] rest h l = absurd (omega arith)
unsigned_is false (d ∷ ds) rest (h, hs) l =
    let ne : eqb d 45 ≡ false = grind (arith, nat_tests) in
    (ne, rw ne)

abbrev parts : ℕ → List ℕ → List ℕ → Option ℕ
parts most w b = cond (ltb 0 (length w) && (fractional b && leb (length w + length (drop 1 b)) most)) (Some (digits_value 10 w * units_per_one + fraction_units (drop 1 b))) None

module _ (most : ℕ) (w f : List ℕ) (hw : AllDigits w) (hf : AllDigits f) (some : 0 < length w) (few : length w + length f ≤ most) where
  run : prefix_len is_ascii_digit (w ++ dot_text f) ≡ length w
  run = run_before w (dot_text f) hw (run_dot f)

  front_is : front (w ++ dot_text f) ≡ w
  front_is = take_at w (dot_text f) (prefix_len is_ascii_digit (w ++ dot_text f)) (sym run)

  behind_is : behind (w ++ dot_text f) ≡ dot_text f
  behind_is = drop_at w (dot_text f) (prefix_len is_ascii_digit (w ++ dot_text f)) (sym run)

  parts_of : magnitude_of most (w ++ dot_text f) ≡ parts most w (dot_text f)
  parts_of = ap (λ (x : List ℕ). parts most x (behind (w ++ dot_text f))) front_is ∙ ap (parts most w) behind_is

  passes : (ltb 0 (length w) && (fractional (dot_text f) && leb (length w + length (drop 1 (dot_text f))) most)) ≡ true
  passes =
      and_from (ltb 0 (length w)) _ (lt-ltb 0 (length w) some)
      (and_from (fractional (dot_text f)) (leb (length w + length (drop 1 (dot_text f))) most) (fractional_dot f hf)
      (ap (λ (x : List ℕ). leb (length w + length x) most) (after_dot f) ∙ le-leb (length w + length f) most few))

  pub magnitude-spelled : magnitude_of most (w ++ dot_text f) ≡ Some (digits_value 10 w * units_per_one + fraction_units f)
  magnitude-spelled =
      parts_of ∙ cond-true _ (Some (digits_value 10 w * units_per_one + fraction_units (drop 1 (dot_text f)))) None passes
      ∙ ap (λ (x : List ℕ). Some (digits_value 10 w * units_per_one + fraction_units x)) (after_dot f)

-- what is spelled is read
pub spelled_read : (most : ℕ) → most ≤ 20 → (text : List ℕ) (negative : Bool) (whole fraction : List ℕ) → Spelled most text negative whole fraction → amount_of most text ≡ Some (spelled_units negative whole fraction)
spelled_read most small text n w f h =
    let u = unsigned_is n w (dot_text f) h.whole_digits h.some in
    let t : List ℕ = sign_text n ++ (w ++ dot_text f) in
    ap (amount_of most) h.spelt
    ∙ ap (λ (b : Bool). option_map (signed b) (magnitude_of most (unsigned t))) u.0
    ∙ ap (λ (x : List ℕ). option_map (signed n) (magnitude_of most x)) u.1
    ∙ ap (option_map (signed n)) (magnitude-spelled most w f h.whole_digits h.fraction_digits h.some h.few)
    ∙ ap (λ (x : ℕ). Some (signed n x)) (joined_units w f (omega (arith, h.some, h.few)))

-- what passes for a fraction is a dot and its digits, or nothing
pub dot_is : (b : List ℕ) → fractional b ≡ true → (b ≡ dot_text (drop 1 b)) × AllDigits (drop 1 b)
dot_is [] h = (refl, tt)
dot_is (x ∷ []) h = absurd (false≢true (and_parts (eqb x 46) false h).1)
dot_is (x ∷ y ∷ ys) h =
    let a : x ≡ 46 = grind (arith, nat_tests) in
    let l : prefix_len is_ascii_digit (y ∷ ys) ≡ length (y ∷ ys) = grind (arith, nat_tests) in
    (ap (λ (k : ℕ). k ∷ y ∷ ys) a, run_all (y ∷ ys) l)

sign_go : (x : ℕ) (xs : List ℕ) (b : Bool) → eqb x 45 ≡ b → (x ∷ xs) ≡ sign_text b ++ cond b xs (x ∷ xs)
sign_go x xs true e = ap (λ (k : ℕ). k ∷ xs) (eqb-true x 45 e)
sign_go x xs false e = refl

sign_is : (t : List ℕ) → t ≡ sign_text (minus t) ++ unsigned t
sign_is [] = refl
sign_is (x ∷ xs) = sign_go x xs (eqb x 45) refl

-- nothing is read where a test fails
unread : (most : ℕ) (text : List ℕ) (z : ℤ) → is_decimal most (unsigned text) ≡ false → amount_of most text ≡ Some z → ⊥
unread most text z f e =
    let n : magnitude_of most (unsigned text) ≡ None = cond-false _ _ None f in
    let m : None ≡ Some z = sym (ap (option_map (signed (minus text))) n) ∙ e in
    let k : ◌≡◌ {A = ℕ} 0 1 = cc in
    omega arith

taken_apart : (most : ℕ) (text : List ℕ) → is_decimal most (unsigned text) ≡ true → Spelled most text (minus text) (front (unsigned text)) (drop 1 (behind (unsigned text)))
taken_apart most text d =
    let u : List ℕ = unsigned text in
    let p = and_parts (ltb 0 (length (front u))) (fractional (behind u) && leb (length (front u) + length (drop 1 (behind u))) most) d in
    let q = and_parts (fractional (behind u)) (leb (length (front u) + length (drop 1 (behind u))) most) p.1 in
    let b = dot_is (behind u) q.0 in
    record {
      spelt =
          sign_is text
          ∙ ap (λ (x : List ℕ). sign_text (minus text) ++ x) (sym (take-append-drop (prefix_len is_ascii_digit u) u) ∙ ap (λ (x : List ℕ). front u ++ x) b.0);
      whole_digits = run_digits u (prefix_len is_ascii_digit u) (omega arith);
      fraction_digits = b.1;
      some = ltb-true 0 (length (front u)) p.0;
      few = leb-true (length (front u) + length (drop 1 (behind u))) most q.1;
    }

some_same : (x z : ℤ) → Some x ≡ Some z → x ≡ z
some_same x z e = cc

-- what is read is spelled
pub read_spelled : (most : ℕ) → most ≤ 20 → (text : List ℕ) (z : ℤ) → amount_of most text ≡ Some z → Spells most text z
read_spelled most small text z e =
    elim (cases_Bool (is_decimal most (unsigned text))) [
      | inl d ↦
          let s = taken_apart most text d in
          (minus text, front (unsigned text), drop 1 (behind (unsigned text)), s, some_same _ z (sym (spelled_read most small text (minus text) (front (unsigned text)) (drop 1 (behind (unsigned text))) s) ∙ e))
      | inr f ↦ absurd (unread most text z f e)
    ]

reads : (most : ℕ) → most ≤ 20 → (text : List ℕ) → Reads most text (amount_of most text)
reads most small text z =
    ((λ s. spelled_read most small text s.0 s.1 s.2 s.3 ∙ ap Some s.4), read_spelled most small text z)

-- what is equal to the reader's answer is what the text spells
pub reads_as : (most : ℕ) (text : List ℕ) (o : Option ℤ) → o ≡ amount_of most text → most ≤ 20 → Reads most text o
reads_as most text o e small = subst (Reads most text) (sym e) (reads most small text)
