-- Fields laid out one part after the other.
use Rattle.std.proofs.Common.{◌≡◌, ℕ, ◌+◌, List, [], ◌∷◌, ◌++◌, length, map, refl, ap, ◌∙◌, arith, length-append}
use Rattle.std.specs.Int.{w16, to_be_bytes}
use Rattle.std.specs.List.{concat}
use Rattle.slip.specs.Layout.{ends_of, tags_of, texts_of}
use Rattle.slip.specs.Writing.{TaggedText, bytes_of_texts, set_out}
use Rattle.slip_words.specs.Spelled.{text_size}

tags_set_out : (place : ℕ) (ts : List TaggedText) → tags_of (set_out place ts) ≡ map (λ t. t.tag) ts
tags_set_out place [] = refl
tags_set_out place (t ∷ ts) = ap (λ xs. t.tag ∷ xs) (tags_set_out (place + length t.text) ts)

texts_set_out : (place : ℕ) (ts : List TaggedText) → texts_of (set_out place ts) ≡ concat (map (λ t. t.text) ts)
texts_set_out place [] = refl
texts_set_out place (t ∷ ts) = ap (λ xs. t.text ++ xs) (texts_set_out (place + length t.text) ts)

length_set_out : (place : ℕ) (ts : List TaggedText) → length (set_out place ts) ≡ length ts
length_set_out place [] = refl
length_set_out place (t ∷ ts) = omega (arith, length_set_out (place + length t.text) ts)

size_joined : (ts : List TaggedText) → length (concat (map (λ t. t.text) ts)) ≡ text_size ts
size_joined [] = refl
size_joined (t ∷ ts) = simp length-append (omega (arith, size_joined ts))

size_set_out : (place : ℕ) (ts : List TaggedText) → length (texts_of (set_out place ts)) ≡ text_size ts
size_set_out place ts = ap length (texts_set_out place ts) ∙ size_joined ts

-- the parts of a slip in a row; the first equation is there for `grind`, which finds the lemma by it
pub parts_joined : (ts : List TaggedText) → (set_out 0 ts ≡ set_out 0 ts) × (bytes_of_texts ts ≡ length ts ∷ (to_be_bytes w16 (text_size ts) ++ (map (λ t. t.tag) ts ++ (ends_of (set_out 0 ts) ++ concat (map (λ t. t.text) ts)))))
parts_joined ts = (refl, rw (length_set_out 0 ts, size_set_out 0 ts, tags_set_out 0 ts, texts_set_out 0 ts) refl)
