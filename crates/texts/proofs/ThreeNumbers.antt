-- Three numbers as text, read and written.
use Rattle.std.proofs.Common.{◌≡◌, ℕ, ◌+◌, ◌^◌, ◌<◌, Bool, true, false, cond, ◌&&◌, eqb, List, ◌∷◌, ◌++◌, length, get_or, take, drop, Some, None, Decides, Option, sym, refl, ap, ◌∙◌, append_assoc, arith}
use Rattle.std.specs.Str.Parse.{digits_value}
use Rattle.std.specs.Char.{is_ascii_digit}
use Rattle.std.specs.Str.{all_ascii_digits}
use Rattle.std.proofs.lemmas.List.{drop_at, drop-drop, drop_more, get_or_at, length-append, length-drop, length-take-le, take_all, take-append-drop, take_at}
use Rattle.std.proofs.lemmas.Bool.{and_left, and_right, and_parts, cond-true, cond-false, eq-eqb, eqb-true}
use Rattle.std.proofs.lemmas.Bool.Decides.{nat_tests}
use Rattle.std.proofs.ByRecursion.{Decides-by_and}
use Rattle.texts.specs.Numerals.{AllDigits, padded}
use Rattle.texts.proofs.Padded.{all_padded, length-padded, padded-value, value-padded_all}
use Rattle.texts.specs.ThreeNumbers.{is_three, three_of, three_text}

pub digits_decided : (ds : List ℕ) → Decides (all_ascii_digits ds) (AllDigits ds)
digits_decided = Decides-by_and is_ascii_digit (λ b. is_ascii_digit b ≡ true) all_ascii_digits (λ b. (λ e. e, λ e. e)) refl (λ _ _. refl)

-- what a reader of digits answers
abbrev pub number_of : List ℕ → Option ℕ
number_of ds = cond (all_ascii_digits ds) (Some (digits_value 10 ds)) None

pub number_no : (b : Bool) (v : ℕ) → None ≡ cond b (Some v) None → b ≡ false
number_no true v e = let z : ◌≡◌ {A = ℕ} 0 1 = cc in absurd (omega arith)
number_no false v e = refl

pub number_yes : (b : Bool) (v n : ℕ) → Some n ≡ cond b (Some v) None → (b ≡ true) × (n ≡ v)
number_yes true v n e = (refl, cc)
number_yes false v n e = let z : ◌≡◌ {A = ℕ} 0 1 = cc in absurd (omega arith)

-- a text that fails one of the tests spells no three numbers
no_three : (w mark : ℕ) (t : List ℕ) → is_three w mark t ≡ false → None ≡ three_of w mark t
unfolding three_of
no_three w mark t h = sym (cond-false (is_three w mark t) _ None h)

pub no_length : (w mark : ℕ) (t : List ℕ) → (length t ≡ w + 6 → ⊥) → None ≡ three_of w mark t
no_length w mark t h = let e : eqb (length t) (w + 6) ≡ false = grind (arith, nat_tests) in no_three w mark t (search and_left)

pub no_mark : (w mark : ℕ) (t : List ℕ) → (get_or t w 0 ≡ mark → ⊥) → None ≡ three_of w mark t
no_mark w mark t h = let e : eqb (get_or t w 0) mark ≡ false = grind (arith, nat_tests) in no_three w mark t (search (and_left, and_right))

pub no_second_mark : (w mark : ℕ) (t : List ℕ) → (get_or t (w + 3) 0 ≡ mark → ⊥) → None ≡ three_of w mark t
no_second_mark w mark t h = let e : eqb (get_or t (w + 3) 0) mark ≡ false = grind (arith, nat_tests) in no_three w mark t (search (and_left, and_right))

pub no_first : (w mark k : ℕ) (t : List ℕ) → k ≡ w → None ≡ number_of (take k t) → None ≡ three_of w mark t
no_first w mark k t e n =
    let f : all_ascii_digits (take w t) ≡ false = ap (λ (x : ℕ). all_ascii_digits (take x t)) (sym e) ∙ number_no _ _ n in no_three w mark t (search (and_left, and_right))

pub no_second : (w mark k : ℕ) (t : List ℕ) → k ≡ 2 → None ≡ number_of (take k (drop (w + 1) t)) → None ≡ three_of w mark t
no_second w mark k t e n =
    let f : all_ascii_digits (take 2 (drop (w + 1) t)) ≡ false = ap (λ (x : ℕ). all_ascii_digits (take x (drop (w + 1) t))) (sym e) ∙ number_no _ _ n in no_three w mark t (search (and_left, and_right))

pub no_third : (w mark k : ℕ) (t : List ℕ) → k ≡ 2 → None ≡ number_of (take k (drop (w + 4) t)) → None ≡ three_of w mark t
no_third w mark k t e n =
    let f : all_ascii_digits (take 2 (drop (w + 4) t)) ≡ false = ap (λ (x : ℕ). all_ascii_digits (take x (drop (w + 4) t))) (sym e) ∙ number_no _ _ n in no_three w mark t (search (and_left, and_right))

-- a text that passes them all
all_three : (w mark : ℕ) (t : List ℕ) → length t ≡ w + 6 → get_or t w 0 ≡ mark → get_or t (w + 3) 0 ≡ mark → all_ascii_digits (take w t) ≡ true → all_ascii_digits (take 2 (drop (w + 1) t)) ≡ true → all_ascii_digits (take 2 (drop (w + 4) t)) ≡ true → is_three w mark t ≡ true
all_three w mark t l m n x y z =
    let el = eq-eqb (length t) (w + 6) l in
    let em = eq-eqb (get_or t w 0) mark m in
    let en = eq-eqb (get_or t (w + 3) 0) mark n in
    simp (el, em, en, x, y, z)

pub three_yes : (w mark j k l a b c : ℕ) (t : List ℕ) → j ≡ w → k ≡ 2 → l ≡ 2 → length t ≡ w + 6 → get_or t w 0 ≡ mark → get_or t (w + 3) 0 ≡ mark → Some a ≡ number_of (take j t) → Some b ≡ number_of (take k (drop (w + 1) t)) → Some c ≡ number_of (take l (drop (w + 4) t)) → Some (a, b, c) ≡ three_of w mark t
unfolding three_of
three_yes w mark j k l a b c t ej ek el len m n ea eb ec =
    let x = number_yes _ _ a (ea ∙ ap (λ (i : ℕ). number_of (take i t)) ej) in
    let y = number_yes _ _ b (eb ∙ ap (λ (i : ℕ). number_of (take i (drop (w + 1) t))) ek) in
    let z = number_yes _ _ c (ec ∙ ap (λ (i : ℕ). number_of (take i (drop (w + 4) t))) el) in
    ap (λ (p : ℕ). Some (p, b, c)) x.1 ∙ ap (λ (p : ℕ). Some (digits_value 10 (take w t), p, c)) y.1
    ∙ ap (λ (p : ℕ). Some (digits_value 10 (take w t), digits_value 10 (take 2 (drop (w + 1) t)), p)) z.1
    ∙ sym (cond-true (is_three w mark t) _ None (all_three w mark t len m n x.0 y.0 z.0))

-- a text of that length in its five parts
split_three : (w : ℕ) (t : List ℕ) → length t ≡ w + 6 → t ≡ take w t ++ (get_or t w 0 ∷ (take 2 (drop (w + 1) t) ++ (get_or t (w + 3) 0 ∷ take 2 (drop (w + 4) t))))
split_three w t len =
    let i : w + 1 + 2 ≡ w + 3 = omega arith in
    let j : w + 3 + 1 ≡ w + 4 = omega arith in
    let last : drop (w + 4) t ≡ take 2 (drop (w + 4) t) = sym (take_all 2 (drop (w + 4) t) (omega (arith, length-drop (w + 4) t))) in
    let d : drop (w + 3) t ≡ get_or t (w + 3) 0 ∷ take 2 (drop (w + 4) t) =
    drop_more t (w + 3) 0 (omega arith) ∙ ap (λ (k : ℕ). get_or t (w + 3) 0 ∷ drop k t) j ∙ ap (λ (u : List ℕ). get_or t (w + 3) 0 ∷ u) last in
    let b : drop (w + 1) t ≡ take 2 (drop (w + 1) t) ++ (get_or t (w + 3) 0 ∷ take 2 (drop (w + 4) t)) =
    sym (take-append-drop 2 (drop (w + 1) t)) ∙ ap (λ (u : List ℕ). take 2 (drop (w + 1) t) ++ u) (drop-drop 2 (w + 1) t ∙ ap (λ (k : ℕ). drop k t) i ∙ d) in
    sym (take-append-drop w t) ∙ ap (λ (u : List ℕ). take w t ++ u) (drop_more t w 0 (omega arith) ∙ ap (λ (u : List ℕ). get_or t w 0 ∷ u) b)

-- digits are the text of the number that they mean
digits_text : (k : ℕ) (ds : List ℕ) → length ds ≡ k → all_ascii_digits ds ≡ true → ds ≡ padded k (digits_value 10 ds)
digits_text k ds len h = sym (padded-value ds ((digits_decided ds).0 h)) ∙ ap (λ (i : ℕ). padded i (digits_value 10 ds)) len

some_three : (b : Bool) (v : ℕ × ℕ × ℕ) (p : ℕ × ℕ × ℕ) → cond b (Some v) None ≡ Some p → (b ≡ true) × (v ≡ p)
some_three true v p e = (refl, cc)
some_three false v p e = let z : ◌≡◌ {A = ℕ} 0 1 = cc in absurd (omega arith)

three_parts : (w mark : ℕ) (t : List ℕ) → is_three w mark t ≡ true → t ≡ three_text w mark (digits_value 10 (take w t)) (digits_value 10 (take 2 (drop (w + 1) t))) (digits_value 10 (take 2 (drop (w + 4) t)))
three_parts w mark t h =
    let p = and_parts (eqb (length t) (w + 6)) _ h in
    let q = and_parts (eqb (get_or t w 0) mark && eqb (get_or t (w + 3) 0) mark) _ p.1 in
    let m = and_parts (eqb (get_or t w 0) mark) (eqb (get_or t (w + 3) 0) mark) q.0 in
    let r = and_parts (all_ascii_digits (take w t)) _ q.1 in
    let s = and_parts (all_ascii_digits (take 2 (drop (w + 1) t))) (all_ascii_digits (take 2 (drop (w + 4) t))) r.1 in
    let len : length t ≡ w + 6 = eqb-true (length t) (w + 6) p.0 in
    let x = digits_text w (take w t) (length-take-le w t (omega arith)) r.0 in
    let y = digits_text 2 (take 2 (drop (w + 1) t)) (length-take-le 2 (drop (w + 1) t) (omega (arith, length-drop (w + 1) t))) s.0 in
    let z = digits_text 2 (take 2 (drop (w + 4) t)) (length-take-le 2 (drop (w + 4) t) (omega (arith, length-drop (w + 4) t))) s.1 in
    split_three w t len
    ∙ ap (λ (u : List ℕ). u ++ (get_or t w 0 ∷ (take 2 (drop (w + 1) t) ++ (get_or t (w + 3) 0 ∷ take 2 (drop (w + 4) t))))) x
    ∙ ap (λ (b : ℕ). padded w (digits_value 10 (take w t)) ++ (b ∷ (take 2 (drop (w + 1) t) ++ (get_or t (w + 3) 0 ∷ take 2 (drop (w + 4) t))))) (eqb-true (get_or t w 0) mark m.0)
    ∙ ap (λ (u : List ℕ). padded w (digits_value 10 (take w t)) ++ (mark ∷ (u ++ (get_or t (w + 3) 0 ∷ take 2 (drop (w + 4) t))))) y
    ∙ ap (λ (b : ℕ). padded w (digits_value 10 (take w t)) ++ (mark ∷ (padded 2 (digits_value 10 (take 2 (drop (w + 1) t))) ++ (b ∷ take 2 (drop (w + 4) t))))) (eqb-true (get_or t (w + 3) 0) mark m.1)
    ∙ ap (λ (u : List ℕ). padded w (digits_value 10 (take w t)) ++ (mark ∷ (padded 2 (digits_value 10 (take 2 (drop (w + 1) t))) ++ (mark ∷ u)))) z

-- a text that is read as three numbers is their text
pub three_back : (w mark : ℕ) (t : List ℕ) (p : ℕ × ℕ × ℕ) → three_of w mark t ≡ Some p → t ≡ three_text w mark p.0 p.1 p.2
unfolding three_of
three_back w mark t p e =
    let s = some_three (is_three w mark t) _ p e in
    three_parts w mark t s.0 ∙ ap (λ (q : ℕ × ℕ × ℕ). three_text w mark q.0 q.1 q.2) s.1

-- the text of three numbers is read as these
pub three_text_lem : (w mark a b c : ℕ) → a < 10 ^ w → b < 100 → c < 100 → three_of w mark (three_text w mark a b c) ≡ Some (a, b, c)
three_text_lem w mark a b c ha hb hc =
    let A : List ℕ = padded w a in
    let B : List ℕ = padded 2 b in
    let C : List ℕ = padded 2 c in
    let t : List ℕ = three_text w mark a b c in
    let la : length A ≡ w = length-padded w a in
    let front : List ℕ = A ++ (mark ∷ B) in
    let lf : length front ≡ w + 3 = length-append A (mark ∷ B) ∙ omega arith in
    let again : t ≡ front ++ (mark ∷ C) = sym (append_assoc A (mark ∷ B) (mark ∷ C)) in
    let len : length t ≡ w + 6 = length-append A (mark ∷ (B ++ (mark ∷ C))) ∙ omega arith in
    let x : take w t ≡ A = take_at A _ w la in
    let y : take 2 (drop (w + 1) t) ≡ B =
    ap (take 2) (sym (drop-drop 1 w t) ∙ ap (drop 1) (drop_at A (mark ∷ (B ++ (mark ∷ C))) w la)) in
    let z : take 2 (drop (w + 4) t) ≡ C =
    let i : w + 4 ≡ w + 3 + 1 = omega arith in
    ap (λ (k : ℕ). take 2 (drop k t)) i
    ∙ ap (take 2) (sym (drop-drop 1 (w + 3) t) ∙ ap (λ (u : List ℕ). drop 1 (drop (w + 3) u)) again ∙ ap (drop 1) (drop_at front (mark ∷ C) (w + 3) lf)) in
    let m : get_or t w 0 ≡ mark = get_or_at A mark _ 0 w la in
    let n : get_or t (w + 3) 0 ≡ mark = ap (λ (u : List ℕ). get_or u (w + 3) 0) again ∙ get_or_at front mark C 0 (w + 3) lf in
    let number : (k v : ℕ) → v < 10 ^ k → Some v ≡ number_of (padded k v) =
    λ k v h. ap Some (sym (value-padded_all k v h)) ∙ sym (cond-true (all_ascii_digits (padded k v)) (Some (digits_value 10 (padded k v))) None ((digits_decided (padded k v)).1 (all_padded k v))) in
    sym (three_yes w mark w 2 2 a b c t refl refl refl len m n
    (number w a ha ∙ ap number_of (sym x)) (number 2 b hb ∙ ap number_of (sym y)) (number 2 c hc ∙ ap number_of (sym z)))
