-- Texts with rising tags, set out as fields, are a slip's, and each is found under its tag.
use Rattle.std.proofs.Common.{◌≡◌, ℕ, ◌+◌, ◌<◌, ◌≤◌, true, false, List, [], ◌∷◌, ◌++◌, length, Some, None, Option, ◌==◌, refl, arith, length-append}
use Rattle.std.specs.Bool.{⊤}
use Rattle.std.specs.Option.{option_map}
use Rattle.std.proofs.lemmas.Bool.Decides.{nat_tests}
use Rattle.refusals.specs.Words.{tag_number}
use Rattle.refusals.specs.declared.tag.Tag.{Tag}
use Rattle.slip.specs.Fields.{field_named}
use Rattle.slip.specs.Layout.{FieldParts, InOrder, texts_of}
use Rattle.slip.specs.Writing.{TaggedText, set_out}
use Rattle.report.specs.Judging.{Texts}
use Rattle.report.specs.Texts.{text_in}
use Rattle.slip_writer.specs.Written.{tagged, with_text}

-- tags rise above the last one, to 25 at most
abbrev pub Rising : ℕ → List Tag → Type 0
Rising last [] = ⊤
Rising last (tag ∷ tags) = (last < tag_number tag) × (tag_number tag ≤ 25) × Rising (tag_number tag) tags

-- each text that is there has a byte or more, and fits its room
abbrev pub Sized : (Tag → ℕ) → Texts → Type 0
Sized room texts = (tag : Tag) (text : List ℕ) → texts tag ≡ Some text → (0 < length text) × (length text ≤ room tag)

lower : (low high : ℕ) (tags : List Tag) → low ≤ high → Rising high tags → Rising low tags
lower low high [] l r = tt
lower low high (tag ∷ tags) l r = (omega (arith, r.0), r.1, r.2)

-- ---- in order

put_in_order : (last place n : ℕ) (o : Option (List ℕ)) (rest : List TaggedText) → last < n → n ≤ 25 → ((text : List ℕ) → o ≡ Some text → 0 < length text) → InOrder last place (set_out place rest) → ((p : ℕ) → InOrder n p (set_out p rest)) → InOrder last place (set_out place (with_text n o rest))
put_in_order last place n None rest l m f without behind = without
put_in_order last place n (Some text) rest l m f without behind = (l, m, refl, f text refl, behind (place + length text))

pub in_order : (room : Tag → ℕ) (texts : Texts) → Sized room texts → (last place : ℕ) (tags : List Tag) → Rising last tags → InOrder last place (set_out place (tagged texts tags))
in_order room texts s last place [] r = tt
in_order room texts s last place (tag ∷ tags) r = put_in_order last place (tag_number tag) (texts tag) (tagged texts tags) r.0 r.1 (λ text e. (s tag text e).0) (in_order room texts s last place tags (lower last (tag_number tag) tags (omega (arith, r.0)) r.2)) (λ p. in_order room texts s (tag_number tag) p tags r.2)

-- ---- their size

abbrev pub all_room : (Tag → ℕ) → List Tag → ℕ
all_room room [] = 0
all_room room (tag ∷ tags) = room tag + all_room room tags

put_size : (place n room more : ℕ) (o : Option (List ℕ)) (rest : List TaggedText) → ((text : List ℕ) → o ≡ Some text → length text ≤ room) → ((p : ℕ) → length (texts_of (set_out p rest)) ≤ more) → length (texts_of (set_out place (with_text n o rest))) ≤ room + more
put_size place n room more None rest f behind = omega (arith, behind place)
put_size place n room more (Some text) rest f behind = simp length-append (omega (arith, f text refl, behind (place + length text)))

pub size : (room : Tag → ℕ) (texts : Texts) → Sized room texts → (place : ℕ) (tags : List Tag) → length (texts_of (set_out place (tagged texts tags))) ≤ all_room room tags
size room texts s place [] = omega arith
size room texts s place (tag ∷ tags) = put_size place (tag_number tag) (room tag) (all_room room tags) (texts tag) (tagged texts tags) (λ text e. (s tag text e).1) (λ p. size room texts s p tags)

-- ---- their number

put_count : (place n most : ℕ) (o : Option (List ℕ)) (rest : List TaggedText) → ((p : ℕ) → length (set_out p rest) ≤ most) → length (set_out place (with_text n o rest)) ≤ most + 1
put_count place n most None rest behind = omega (arith, behind place)
put_count place n most (Some text) rest behind = omega (arith, behind (place + length text))

pub count : (texts : Texts) (place : ℕ) (tags : List Tag) → length (set_out place (tagged texts tags)) ≤ length tags
count texts place [] = omega arith
count texts place (tag ∷ tags) = omega (arith, put_count place (tag_number tag) (length tags) (texts tag) (tagged texts tags) (λ p. count texts p tags))

-- ---- found again

-- the text of the field that is found under a number
abbrev text_under : ℕ → List FieldParts → Option (List ℕ)
text_under m fields = option_map (λ f. f.text) (field_named m fields)

skipped : (m n place : ℕ) (o : Option (List ℕ)) (rest : List TaggedText) (found : Option (List ℕ)) → (n == m) ≡ false → ((p : ℕ) → text_under m (set_out p rest) ≡ found) → text_under m (set_out place (with_text n o rest)) ≡ found
skipped m n place None rest found apart behind = behind place
skipped m n place (Some text) rest found apart behind = rw apart (behind (place + length text))

absent : (texts : Texts) (place n m : ℕ) (tags : List Tag) → Rising n tags → m ≤ n → text_under m (set_out place (tagged texts tags)) ≡ None
absent texts place n m [] r l = refl
absent texts place n m (tag ∷ tags) r l = skipped m (tag_number tag) place (texts tag) (tagged texts tags) None (grind (arith, nat_tests, r.0)) (λ p. absent texts p (tag_number tag) m tags r.2 (omega (arith, r.0)))

first : (n place : ℕ) (o : Option (List ℕ)) (rest : List TaggedText) → ((p : ℕ) → text_under n (set_out p rest) ≡ None) → text_under n (set_out place (with_text n o rest)) ≡ o
first n place None rest behind = behind place
first n place (Some text) rest behind = let t : (n == n) ≡ true = grind (arith, nat_tests) in rw t refl

-- a tag among rising ones is above the last one
above : (last : ℕ) (before : List Tag) (tag : Tag) (after : List Tag) → Rising last (before ++ (tag ∷ after)) → last < tag_number tag
above last [] tag after r = r.0
above last (t ∷ before) tag after r = omega (arith, r.0, above (tag_number t) before tag after r.2)

-- a text is found under its tag
pub found : (texts : Texts) (place last : ℕ) (before : List Tag) (tag : Tag) (after : List Tag) → Rising last (before ++ (tag ∷ after)) → text_in (set_out place (tagged texts (before ++ (tag ∷ after)))) tag ≡ texts tag
found texts place last [] tag after r = first (tag_number tag) place (texts tag) (tagged texts after) (λ p. absent texts p (tag_number tag) (tag_number tag) after r.2 (omega arith))
found texts place last (t ∷ before) tag after r =
    let h = above (tag_number t) before tag after r.2 in
    skipped (tag_number tag) (tag_number t) place (texts t) (tagged texts (before ++ (tag ∷ after))) (texts tag) (grind (arith, nat_tests)) (λ p. found texts p (tag_number t) before tag after r.2)
