-- Putting a field behind the fields of a draft.
use Rattle.std.proofs.Common.{true, ◌≡◌, ℕ, ◌+◌, ◌-◌, ◌<◌, ◌≤◌, List, [], ◌∷◌, ◌++◌, length, take, drop, get_or, Some, refl, ap, sym, ◌∙◌, arith, length-append, length-drop, subst}
use Rattle.std.specs.Int.{w16, from_be_bytes, to_be_bytes}
use Rattle.std.proofs.lemmas.Bool.Decides.{nat_tests}
use Rattle.std.proofs.lemmas.List.{drop-append-le, drop_at, take_all, take-append-le}
use Rattle.std.proofs.lemmas.Nat.{from_be_bytes-to_be_bytes_2}
use Rattle.slip.proofs.Cutting.{Cut, as_many, cut, cut_none, follows, mapped, may, put, taken, there}
use Rattle.slip.specs.declared.draft.Draft.{Draft}
use Rattle.slip.specs.Drafts.{fields_drafted, last_tag, may_be_put, with_field}
use Rattle.slip.specs.Layout.{FieldParts, InOrder, end_of, field_at, fields_from, may_follow, tags_of, texts_of}

-- a draft's fields are cut by its tags and ends
draft_cut : (d : Draft) → Cut d.text.items 0 0 d.tags.items d.ends.items (fields_drafted d)
draft_cut d = cut d.text.items 0 0 d.tags.items d.ends.items (fields_drafted d) (there _ d.whole)

-- as many as its tags
many : (d : Draft) → length (fields_drafted d) ≡ length d.tags.items
many d = as_many d.text.items 0 0 d.tags.items d.ends.items d.whole

-- their texts are the draft's
pub texts_drafted : (d : Draft) → texts_of (fields_drafted d) ≡ d.text.items
texts_drafted d = (draft_cut d).texts_back

-- the last of a list behind a number
last_behind : (xs : List ℕ) → get_or (0 ∷ xs) (length xs) 0 ≡ get_or xs (length xs - 1) 0
last_behind [] = refl
last_behind (x ∷ xs) = ap (λ k. get_or (x ∷ xs) k 0) (let e : length xs ≡ length (x ∷ xs) - 1 = omega arith in e)

-- the last tag is the last of the draft's tags
pub last_drafted : (d : Draft) → last_tag (fields_drafted d) ≡ get_or d.tags.items (length d.tags.items - 1) 0
last_drafted d = ap (λ n. get_or (tags_of (fields_drafted d)) (n - 1) 0) (many d) ∙ ap (λ xs. get_or xs (length d.tags.items - 1) 0) (draft_cut d).tags_back

-- fields in order are no more than the last of their tags
rising : (last place : ℕ) (fields : List FieldParts) → InOrder last place fields → length fields + last ≤ get_or (last ∷ tags_of fields) (length fields) 0
rising last place [] o = omega arith
rising last place (f ∷ fields) o = omega (arith, rising f.tag (end_of f) fields o.4, o.0)

-- the fields of a text stay where they are when it grows
field_stays : (text more : List ℕ) (place tag end : ℕ) → place < end → end ≤ length text → field_at (text ++ more) place tag end ≡ field_at text place tag end
field_stays text more place tag end a b =
    let d : drop place (text ++ more) ≡ drop place text ++ more = drop-append-le place text more (omega arith) in
    let n : end - place ≤ length (drop place text) = simp length-drop (omega arith) in
    let t : take (end - place) (drop place (text ++ more)) ≡ take (end - place) (drop place text) = rw d (take-append-le (end - place) (drop place text) more n) in
    ap (λ xs. record { tag = tag; place = place; text = xs }) t

-- a field behind none, at the end of their text
first_added : (text more : List ℕ) (last place tag : ℕ) (end : List ℕ) (fields : List FieldParts) → fields_from text last place [] [] ≡ Some fields → last < tag → tag ≤ 25 → 0 < length more → from_be_bytes w16 end ≡ length text + length more → fields_from (text ++ more) last place (tag ∷ []) (end ∷ []) ≡ Some (fields ++ record { tag = tag; place = length text; text = more } ∷ [])
first_added text more last place tag end fields e a t b f =
    let k = cut_none text place fields e in
    let n : ℕ = from_be_bytes w16 end in
    let size : length (text ++ more) ≡ n = length-append text more ∙ sym f in
    let piece : take (n - length text) (drop (length text) (text ++ more)) ≡ more = rw (drop_at text more (length text) refl) (take_all (n - length text) more (omega arith)) in
    let at : field_at (text ++ more) place tag n ≡ record { tag = tag; place = length text; text = more } = rw (k.1) (ap (λ xs. record { tag = tag; place = length text; text = xs }) piece) in
    rw (k.0) (put (text ++ more) [] [] last place n (record { tag = tag; place = length text; text = more }) [] (may (length (text ++ more)) last place tag n a t (omega (arith, k.1)) (omega (arith, size))) at (grind (arith, nat_tests)))

-- a field behind those that were cut
added : (text more : List ℕ) (last place : ℕ) (tags : List ℕ) (ends : List (List ℕ)) (tag : ℕ) (end : List ℕ) (fields : List FieldParts) → fields_from text last place tags ends ≡ Some fields → get_or (last ∷ tags) (length tags) 0 < tag → tag ≤ 25 → 0 < length more → from_be_bytes w16 end ≡ length text + length more → fields_from (text ++ more) last place (tags ++ tag ∷ []) (ends ++ end ∷ []) ≡ Some (fields ++ record { tag = tag; place = length text; text = more } ∷ [])
added text more last place [] [] tag end fields e a t b f = first_added text more last place tag end fields e a t b f
added text more last place [] (two ∷ ends) tag end fields e a t b f = absurd (cc)
added text more last place (g ∷ tags) [] tag end fields e a t b f = absurd (cc)
added text more last place (g ∷ tags) (two ∷ ends) tag end fields e a t b f =
    let n : ℕ = from_be_bytes w16 two in
    let k = taken (may_follow (length text) last place g n) _ fields e in
    let m = mapped _ _ fields k.1 in
    let h = follows _ _ _ _ _ k.0 in
    let more_fields : List FieldParts = m.0 ++ record { tag = tag; place = length text; text = more } ∷ [] in
    let rest = added text more g n tags ends tag end m.0 m.1 a t b f in
    let all = put (text ++ more) (tags ++ tag ∷ []) (ends ++ end ∷ []) last place n (field_at text place g n) more_fields (may (length (text ++ more)) last place g n h.0 h.1 h.2 (omega (arith, h.3, length-append text more))) (field_stays text more place g n h.2 h.3) rest in
    subst (λ xs. fields_from (text ++ more) last place (g ∷ (tags ++ tag ∷ [])) (two ∷ (ends ++ end ∷ [])) ≡ Some (xs ++ record { tag = tag; place = length text; text = more } ∷ [])) m.2 all

-- what it means that a field may be put behind a draft's
pub may_mean : (d : Draft) (tag : ℕ) (more : List ℕ) → may_be_put (fields_drafted d) tag more ≡ true → (last_tag (fields_drafted d) < tag) × (0 < length more) × (length d.text.items + length more ≤ 512)
may_mean d tag more m = grind (arith, nat_tests, texts_drafted d)

-- a draft with a field of a tag below another has fewer than 25
pub room_for_tag : (d : Draft) (tag : ℕ) → tag ≤ 25 → last_tag (fields_drafted d) < tag → length d.tags.items < 25
room_for_tag d tag t a =
    let c = draft_cut d in
    let rise : length d.tags.items + 0 ≤ get_or (0 ∷ d.tags.items) (length d.tags.items) 0 = rw (c.tags_back, many d) at (rising 0 0 (fields_drafted d) c.in_order) in
    omega (arith, last_behind d.tags.items, last_drafted d)

-- a field that may be put behind a draft's stands there
pub field_put : (d : Draft) (tag : ℕ) (more : List ℕ) → tag ≤ 25 → last_tag (fields_drafted d) < tag → 0 < length more → length d.text.items + length more ≤ 512 → fields_from (d.text.items ++ more) 0 0 (d.tags.items ++ tag ∷ []) (d.ends.items ++ to_be_bytes w16 (length (d.text.items ++ more)) ∷ []) ≡ Some (with_field (fields_drafted d) tag more)
field_put d tag more t a b r =
    let size : length (d.text.items ++ more) ≡ length d.text.items + length more = length-append d.text.items more in
    let two : from_be_bytes w16 (to_be_bytes w16 (length (d.text.items ++ more))) ≡ length d.text.items + length more = from_be_bytes-to_be_bytes_2 (length (d.text.items ++ more)) (omega arith) ∙ size in
    let last : get_or (0 ∷ d.tags.items) (length d.tags.items) 0 < tag = omega (arith, last_behind d.tags.items, last_drafted d) in
    let whole = added d.text.items more 0 0 d.tags.items d.ends.items tag (to_be_bytes w16 (length (d.text.items ++ more))) (fields_drafted d) (there _ d.whole) last t b two in
    whole ∙ ap (λ n. Some (fields_drafted d ++ record { tag = tag; place = n; text = more } ∷ [])) (ap length (sym (texts_drafted d)))
