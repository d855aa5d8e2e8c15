-- Which report comes first makes no difference.
use Rattle.std.proofs.Common.{◌≡◌, ℕ, Bool, ◌&&◌, ◌||◌, ◌==◌, leb, ℤ, List, Some, None, Option, refl, ap, sym, ◌∙◌, arith}
use Rattle.std.proofs.Math.Bool.{and_comm}
use Rattle.std.proofs.lemmas.Bool.Decides.{nat_tests, same_from_decides}
use Rattle.std.proofs.lemmas.Slice.Eq.{bytes_eq-Decides}
use Rattle.std.specs.Option.{option_map}
use Rattle.std.specs.Str.{bytes_eq}
use Rattle.amounts.proofs.Laws.{laws as amount_laws}
use Rattle.amounts.specs.Checks.{same_whole, within_one_percent}
use Rattle.codes.specs.Codes.{text_of}
use Rattle.fields.specs.Fields.{side_letter}
use Rattle.fields.specs.declared.field.detail.Side.{Side}
use Rattle.fields.specs.declared.field.detail.Side.TheVariants.{Buyer, Seller}
use Rattle.report.specs.declared.details.Details.{Details}
use Rattle.timestamps.specs.Checks.{apart, named_off_exchange, same_date, within_an_hour}
use Rattle.checks.specs.Checks.{found, holds, judged, on_amounts, on_instants, on_sides, opposite, same_told}
use Rattle.checks.specs.Laws.{CheckLaws}
use Rattle.checks.specs.Values.{Told, side, letter, text, amount, instant, value_of}
use Rattle.checks.specs.declared.check.Check.{Check}
use Rattle.checks.specs.declared.check.Check.TheVariants.{OnePercent, WholeNumber, WithinAnHour, SameDate, Exact, Opposite}
use Rattle.checks.specs.declared.field.Field.{Field}

numbers : (x y : ℕ) → (x == y) ≡ (y == x)
numbers x y = grind (arith, nat_tests)

texts : (s t : List ℕ) → bytes_eq s t ≡ bytes_eq t s
texts s t =
    let d = bytes_eq-Decides t s in
    same_from_decides _ _ (bytes_eq-Decides s t) ((λ r. sym (d.0 r)), (λ e. d.1 (sym e)))

dates : (i j : ℕ) → same_date i j ≡ same_date j i
dates i j = grind (arith, nat_tests)

hours : (v w : Option (List ℕ)) (i j : ℕ) → within_an_hour v w i j ≡ within_an_hour w v j i
hours v w i j =
    let a : apart i j ≡ apart j i = omega arith in
    ap (λ (b : Bool). b && ((named_off_exchange v && named_off_exchange w) || leb (apart i j) 3600)) (dates i j)
    ∙ ap (λ (b : Bool). same_date j i && (b || leb (apart i j) 3600)) (and_comm (named_off_exchange v) (named_off_exchange w))
    ∙ ap (λ (n : ℕ). same_date j i && ((named_off_exchange w && named_off_exchange v) || leb n 3600)) a

sides : (x y : Side) → opposite x y ≡ opposite y x
sides Buyer Buyer = refl
sides Buyer Seller = refl
sides Seller Buyer = refl
sides Seller Seller = refl

sides_exchanged : (f : Side → Side → Bool) → ((x y : Side) → f x y ≡ f y x) → (s t : Told) → on_sides f s t ≡ on_sides f t s
sides_exchanged f e (side x) (side y) = e x y
sides_exchanged f e (side _) (letter _) = refl
sides_exchanged f e (side _) (text _) = refl
sides_exchanged f e (side _) (amount _) = refl
sides_exchanged f e (side _) (instant _) = refl
sides_exchanged f e (letter _) t = grind arith
sides_exchanged f e (text _) t = grind arith
sides_exchanged f e (amount _) t = grind arith
sides_exchanged f e (instant _) t = grind arith

amounts_exchanged : (f : ℤ → ℤ → Bool) → ((x y : ℤ) → f x y ≡ f y x) → (s t : Told) → on_amounts f s t ≡ on_amounts f t s
amounts_exchanged f e (amount x) (amount y) = e x y
amounts_exchanged f e (amount _) (side _) = refl
amounts_exchanged f e (amount _) (letter _) = refl
amounts_exchanged f e (amount _) (text _) = refl
amounts_exchanged f e (amount _) (instant _) = refl
amounts_exchanged f e (side _) t = grind arith
amounts_exchanged f e (letter _) t = grind arith
amounts_exchanged f e (text _) t = grind arith
amounts_exchanged f e (instant _) t = grind arith

-- the instants' test may be another with the reports exchanged, since it asks for their venues
instants_exchanged : (f g : ℕ → ℕ → Bool) → ((i j : ℕ) → f i j ≡ g j i) → (s t : Told) → on_instants f s t ≡ on_instants g t s
instants_exchanged f g e (instant i) (instant j) = e i j
instants_exchanged f g e (instant _) (side _) = refl
instants_exchanged f g e (instant _) (letter _) = refl
instants_exchanged f g e (instant _) (text _) = refl
instants_exchanged f g e (instant _) (amount _) = refl
instants_exchanged f g e (side _) t = grind arith
instants_exchanged f g e (letter _) t = grind arith
instants_exchanged f g e (text _) t = grind arith
instants_exchanged f g e (amount _) t = grind arith

same_exchanged : (s t : Told) → same_told s t ≡ same_told t s
same_exchanged (side x) (side y) = numbers (side_letter x) (side_letter y)
same_exchanged (letter x) (letter y) = numbers x y
same_exchanged (text x) (text y) = texts x y
same_exchanged (amount x) (amount y) = amount_laws.equality_exchanged x y
same_exchanged (instant i) (instant j) = numbers i j
same_exchanged (side _) (letter _) = refl
same_exchanged (side _) (text _) = refl
same_exchanged (side _) (amount _) = refl
same_exchanged (side _) (instant _) = refl
same_exchanged (letter _) (side _) = refl
same_exchanged (letter _) (text _) = refl
same_exchanged (letter _) (amount _) = refl
same_exchanged (letter _) (instant _) = refl
same_exchanged (text _) (side _) = refl
same_exchanged (text _) (letter _) = refl
same_exchanged (text _) (amount _) = refl
same_exchanged (text _) (instant _) = refl
same_exchanged (amount _) (side _) = refl
same_exchanged (amount _) (letter _) = refl
same_exchanged (amount _) (text _) = refl
same_exchanged (amount _) (instant _) = refl
same_exchanged (instant _) (side _) = refl
same_exchanged (instant _) (letter _) = refl
same_exchanged (instant _) (text _) = refl
same_exchanged (instant _) (amount _) = refl

holds_exchanged : (check : Check) (v w : Option (List ℕ)) (s t : Told) → holds check v w s t ≡ holds check w v t s
holds_exchanged OnePercent v w s t = amounts_exchanged within_one_percent amount_laws.one_percent_exchanged s t
holds_exchanged WholeNumber v w s t = amounts_exchanged same_whole amount_laws.whole_exchanged s t
holds_exchanged WithinAnHour v w s t = instants_exchanged (within_an_hour v w) (within_an_hour w v) (hours v w) s t
holds_exchanged SameDate v w s t = instants_exchanged same_date same_date dates s t
holds_exchanged Exact v w s t = same_exchanged s t
holds_exchanged Opposite v w s t = sides_exchanged opposite sides s t

judged_exchanged : (f g : Told → Told → Bool) → ((s t : Told) → f s t ≡ g t s) → (s t : Option Told) → judged f s t ≡ judged g t s
judged_exchanged f g e None None = refl
judged_exchanged f g e None (Some y) = refl
judged_exchanged f g e (Some x) None = refl
judged_exchanged f g e (Some x) (Some y) = rw (e x y) refl

pub exchanged : (check : Check) (field : Field) (a b : Details) → found check field a b ≡ found check field b a
exchanged check field a b =
    let v = option_map text_of a.venue in
    let w = option_map text_of b.venue in
    judged_exchanged (holds check v w) (holds check w v) (holds_exchanged check v w) (value_of field a) (value_of field b)

pub laws : CheckLaws
laws = record { exchanged = exchanged }
