-- Escapes read back.
use Rattle.std.proofs.Common.{◌≡◌, ℕ, ◌+◌, ◌/◌, ◌%◌, ◌<◌, Bool, true, false, cond, not, eqb, List, [], ◌∷◌, ◌++◌, length, get_or, take, Some, None, Option, sym, refl, ap, ◌∙◌, append_assoc, append-nil, arith}
use Rattle.std.specs.Int.{is_in_range}
use Rattle.std.specs.List.{AllByRecursion}
use Rattle.std.proofs.ByRecursion.{All-append}
use Rattle.std.proofs.lemmas.Bool.{and_parts}
use Rattle.std.proofs.lemmas.Nat.{div-add-mod'}
use Rattle.std.proofs.lemmas.List.{take_more}
use Rattle.std.proofs.lemmas.Bool.Decides.{nat_tests}
use Rattle.journal.specs.Escapes.{EscapesAreSafe, before, decoded, escaped, escaped_byte, hex_digit, hex_value, pair_value, plain}

-- bytes before what the rest stands for
abbrev pub behind : List ℕ → Option (List ℕ) → Option (List ℕ)
behind xs (Some ys) = Some (xs ++ ys)
behind xs None = None

pub behind_one : (xs : List ℕ) (b : ℕ) (o : Option (List ℕ)) → behind xs (before (Some b) o) ≡ behind (xs ++ (b ∷ [])) o
behind_one xs b None = refl
behind_one xs b (Some ys) = ap Some (sym (append_assoc xs (b ∷ []) ys))

-- a byte that is no escape stands for itself
pub decoded-plain : (b : ℕ) (xs : List ℕ) → eqb b 37 ≡ false → decoded (b ∷ xs) ≡ before (Some b) (decoded xs)
decoded-plain b [] e = rw e
decoded-plain b (c ∷ []) e = rw e
decoded-plain b (c ∷ d ∷ rest) e = rw e

hex_back : (d : ℕ) → d < 16 → hex_value (hex_digit d) ≡ Some d
hex_back d h = grind (arith, nat_tests)

byte_back : (b : ℕ) → b < 256 → pair_value (hex_value (hex_digit (b / 16))) (hex_value (hex_digit (b % 16))) ≡ Some b
byte_back b h =
    ap (λ (o : Option ℕ). pair_value o (hex_value (hex_digit (b % 16)))) (hex_back (b / 16) (omega arith))
    ∙ ap (pair_value (Some (b / 16))) (hex_back (b % 16) (omega arith))
    ∙ ap Some (div-add-mod' b 16)

one_back : (b : ℕ) (xs : List ℕ) (p : Bool) → plain b ≡ p → b < 256 → decoded (cond p (b ∷ []) (37 ∷ (hex_digit (b / 16) ∷ (hex_digit (b % 16) ∷ []))) ++ xs) ≡ before (Some b) (decoded xs)
one_back b xs true e h = decoded-plain b xs (grind (arith, nat_tests))
one_back b xs false e h = ap (λ (o : Option ℕ). before o (decoded xs)) (byte_back b h)

escaped_back : (bs : List ℕ) → AllByRecursion (λ b. b < 256) bs → decoded (escaped bs) ≡ Some bs
escaped_back [] h = refl
escaped_back (b ∷ bs) h = one_back b (escaped bs) (plain b) refl h.0 ∙ ap (before (Some b)) (escaped_back bs h.1)

escaped-append : (xs : List ℕ) (b : ℕ) → escaped (xs ++ (b ∷ [])) ≡ escaped xs ++ escaped_byte b
escaped-append [] b = append-nil (escaped_byte b)
escaped-append (x ∷ xs) b = ap (λ (t : List ℕ). escaped_byte x ++ t) (escaped-append xs b) ∙ sym (append_assoc (escaped_byte x) (escaped xs) (escaped_byte b))

-- escapes of one byte more
pub escaped_more : (xs : List ℕ) (i d : ℕ) → i < length xs → escaped (take (i + 1) xs) ≡ escaped (take i xs) ++ escaped_byte (get_or xs i d)
escaped_more xs i d h = ap escaped (take_more xs i d h) ∙ escaped-append (take i xs) (get_or xs i d)

-- three bytes written one behind the other
pub three_pushed : (b x y z e f g : List ℕ) (m n o : ℕ) → x ≡ b ++ e → e ≡ m ∷ [] → y ≡ x ++ f → f ≡ n ∷ [] → z ≡ y ++ g → g ≡ o ∷ [] → z ≡ b ++ (m ∷ n ∷ o ∷ [])
three_pushed b x y z e f g m n o p₁ q₁ p₂ q₂ p₃ q₃ =
    p₃ ∙ ap (λ (t : List ℕ). y ++ t) q₃
    ∙ ap (λ (t : List ℕ). t ++ (o ∷ [])) (p₂ ∙ ap (λ (t : List ℕ). x ++ t) q₂)
    ∙ ap (λ (t : List ℕ). (t ++ (n ∷ [])) ++ (o ∷ [])) (p₁ ∙ ap (λ (t : List ℕ). b ++ t) q₁)
    ∙ simp append_assoc

hex_printable : (d : ℕ) → d < 16 → is_in_range 33 126 (hex_digit d) ≡ true
hex_printable d h = grind (arith, nat_tests)

byte_printable : (b : ℕ) (p : Bool) → plain b ≡ p → b < 256 → AllByRecursion (λ c. is_in_range 33 126 c ≡ true) (cond p (b ∷ []) (37 ∷ (hex_digit (b / 16) ∷ (hex_digit (b % 16) ∷ []))))
byte_printable b true e h = ((and_parts (is_in_range 33 126 b) (not (eqb b 37)) e).0, tt)
byte_printable b false e h = (refl, (hex_printable (b / 16) (omega arith), (hex_printable (b % 16) (omega arith), tt)))

printable : (bs : List ℕ) → AllByRecursion (λ b. b < 256) bs → AllByRecursion (λ c. is_in_range 33 126 c ≡ true) (escaped bs)
printable [] h = tt
printable (b ∷ bs) h = All-append (λ c. is_in_range 33 126 c ≡ true) (escaped_byte b) (escaped bs) (byte_printable b (plain b) refl h.0) (printable bs h.1)

pub safe : EscapesAreSafe
safe = record { unbroken = printable; read_back = escaped_back }
