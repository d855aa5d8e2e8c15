-- A line's words, one after the other.
use Rattle.std.proofs.Common.{◌≡◌, ℕ, zero, suc, ◌-◌, ◌<◌, ◌≤◌, eqb, List, [], ◌∷◌, ◌++◌, length, Some, None, Option, sym, refl, ap, ◌∙◌, arith}
use native.Mathlib.Decide.{dec_lt}
use Rattle.std.specs.List.{prefix_len}
use Rattle.std.proofs.lemmas.List.{length-drop, length-take-le}
use Rattle.std.proofs.lemmas.List.Sums.{prefix_len-le-length}
use Rattle.std.proofs.lemmas.Bool.{cond-true, cond-false, eq-eqb}
use Rattle.std.proofs.lemmas.Bool.Decides.{nat_tests}
use Rattle.journal.specs.Bytes.{blank, in_word}
use Rattle.journal.specs.Lines.{first_word, after_word, without_blanks}
use Rattle.journal.specs.Words.{words_of, words_within}

-- words before what the rest stands for
abbrev pub behind_all : List (List ℕ) → Option (List (List ℕ)) → Option (List (List ℕ))
behind_all xs (Some ys) = Some (xs ++ ys)
behind_all xs None = None

-- a word leaves less of its line
pub after_shorter : (line : List ℕ) → 0 < length (first_word line) → length (after_word line) < length line
after_shorter line h =
    let j : ℕ = prefix_len blank line in
    let rest : List ℕ = without_blanks line in
    let k : ℕ = prefix_len in_word rest in
    omega (arith, length-drop j line, length-drop k rest, length-take-le k rest (prefix_len-le-length in_word rest), prefix_len-le-length in_word rest)

first_shorter : (line : List ℕ) → length (first_word line) ≤ length line
first_shorter line =
    let j : ℕ = prefix_len blank line in
    let rest : List ℕ = without_blanks line in
    let k : ℕ = prefix_len in_word rest in
    omega (arith, length-drop j line, length-take-le k rest (prefix_len-le-length in_word rest), prefix_len-le-length in_word rest)

within_none : (most : ℕ) (line : List ℕ) → length (first_word line) ≡ 0 → words_within most line ≡ []
within_none zero line h = refl
within_none (suc most) line h = cond-true (eqb (length (first_word line)) 0) [] (first_word line ∷ words_within most (after_word line)) (eq-eqb (length (first_word line)) 0 h)

within_more : (most : ℕ) (line : List ℕ) → 0 < length (first_word line) → words_within (suc most) line ≡ first_word line ∷ words_within most (after_word line)
within_more most line h = cond-false (eqb (length (first_word line)) 0) [] (first_word line ∷ words_within most (after_word line)) (grind (arith, nat_tests))

-- more words than the line has bytes change nothing
enough : (m n : ℕ) (line : List ℕ) → length line ≤ m → length line ≤ n → words_within m line ≡ words_within n line
enough zero n line p q = sym (within_none n line (omega (arith, first_shorter line)))
enough (suc m) zero line p q = within_none (suc m) line (omega (arith, first_shorter line))
enough (suc m) (suc n) line p q =
    elim (dec_lt 0 (length (first_word line))) [
      | yes h ↦
          within_more m line h
          ∙ ap (λ (ws : List (List ℕ)). first_word line ∷ ws) (enough m n (after_word line) (omega (arith, after_shorter line h)) (omega (arith, after_shorter line h)))
          ∙ sym (within_more n line h)
      | no h ↦ within_none (suc m) line (omega arith) ∙ sym (within_none (suc n) line (omega arith))
    ]

pub words_more : (line : List ℕ) → 0 < length (first_word line) → words_of line ≡ first_word line ∷ words_of (after_word line)
words_more line h =
    let i : length line ≡ suc (length line - 1) = omega (arith, first_shorter line) in
    ap (λ (m : ℕ). words_within m line) i
    ∙ within_more (length line - 1) line h
    ∙ ap (λ (ws : List (List ℕ)). first_word line ∷ ws) (enough (length line - 1) (length (after_word line)) (after_word line) (omega (arith, after_shorter line h)) (omega arith))
