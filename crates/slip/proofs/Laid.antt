-- A slip that was read is laid out as one, and what is laid out as a slip is read.
use Rattle.std.proofs.Common.{◌≡◌, ℕ, zero, suc, ◌+◌, ◌-◌, ◌*◌, ◌^◌, ◌<◌, ◌≤◌, true, if◌then◌else◌, ◌&&◌, ◌==◌, nat_le, List, [], ◌∷◌, ◌++◌, length, map, take, drop, get_or, Some, None, Option, refl, ap, sym, ◌∙◌, arith, length-append, length-drop, take-append-drop, subst}
use Rattle.std.specs.Int.{w16, from_be_bytes, to_be_bytes}
use Rattle.std.specs.List.{concat}
use Rattle.std.specs.Option.{option_map}
use Rattle.std.proofs.lemmas.Bool.Decides.{nat_tests}
use Rattle.std.proofs.lemmas.List.{drop-drop, length-map, drop_at, take_at, nil_from_length, get_or-drop, length-take-le}
use Rattle.std.proofs.lemmas.Nat.{be_bytes_2, from_be_bytes-to_be_bytes_2}
use Rattle.std.proofs.lemmas.Simd.{map-map}
use Rattle.slip.proofs.Cutting.{Cut, cut, may, put, taken}
use Rattle.slip.specs.Layout.{FieldParts, InOrder, IsSlip, Reads, end_of, ends_of, field_at, fields_behind, fields_from, fields_in, laid_out, may_follow, pairs, tags_of, texts_of}

-- each is a byte
abbrev pub Bytes : List ℕ → Type 0
Bytes bytes = (k : ℕ) → get_or bytes k 0 < 256

-- what stands in front of a place in bytes is bytes
bytes_front : (n : ℕ) (bytes : List ℕ) → Bytes bytes → Bytes (take n bytes)
bytes_front zero bytes b k = omega arith
bytes_front (suc n) [] b k = omega arith
bytes_front (suc n) (x ∷ xs) b zero = b 0
bytes_front (suc n) (x ∷ xs) b (suc k) = bytes_front n xs (λ j. b (suc j)) k

-- what stands behind a place in bytes is bytes
bytes_behind : (bytes : List ℕ) (n : ℕ) → Bytes bytes → Bytes (drop n bytes)
bytes_behind bytes n b k = rw get_or-drop (b (n + k))

-- two bytes are those of their number
two_back : (flat : List ℕ) → 2 ≤ length flat → Bytes flat → to_be_bytes w16 (from_be_bytes w16 (take 2 flat)) ≡ take 2 flat
two_back flat l b = be_bytes_2 (take 2 flat) _ (length-take-le 2 flat l) (bytes_front 2 flat b) refl

-- ends of two bytes each are the bytes of their numbers
pub ends_kept : (ends : List (List ℕ)) → ((k : ℕ) → k < length ends → length (get_or ends k []) ≡ 2) → Bytes (concat ends) → concat (map (λ e. to_be_bytes w16 (from_be_bytes w16 e)) ends) ≡ concat ends
ends_kept [] two b = refl
ends_kept (e ∷ ends) two b =
    let l : length e ≡ 2 = two 0 (omega arith) in
    let front : take 2 (e ++ concat ends) ≡ e = take_at e (concat ends) 2 l in
    let here : to_be_bytes w16 (from_be_bytes w16 e) ≡ e = subst (λ xs. to_be_bytes w16 (from_be_bytes w16 xs) ≡ xs) front (two_back (e ++ concat ends) (simp length-append (omega arith)) b) in
    let behind : Bytes (concat ends) = subst Bytes (drop_at e (concat ends) 2 l) (bytes_behind (e ++ concat ends) 2 b) in
    ap (λ xs. xs ++ concat (map (λ e. to_be_bytes w16 (from_be_bytes w16 e)) ends)) here ∙ ap (λ xs. e ++ xs) (ends_kept ends (λ k h. two (suc k) (omega arith)) behind)

-- bytes are those of the numbers of their pairs
pairs_kept : (n : ℕ) (flat : List ℕ) → length flat ≡ 2 * n → Bytes flat → concat (map (λ e. to_be_bytes w16 (from_be_bytes w16 e)) (pairs n flat)) ≡ flat
pairs_kept zero flat l b = sym (nil_from_length flat (omega arith))
pairs_kept (suc n) flat l b =
    let here = two_back flat (omega arith) b in
    let rest = pairs_kept n (drop 2 flat) (simp length-drop (omega arith)) (bytes_behind flat 2 b) in
    ap (λ xs. xs ++ concat (map (λ e. to_be_bytes w16 (from_be_bytes w16 e)) (pairs n (drop 2 flat)))) here ∙ ap (λ xs. take 2 flat ++ xs) rest ∙ take-append-drop 2 flat

-- the ends of fields that were cut are those that they were cut by
pub ends_told : (fields : List FieldParts) (ends : List (List ℕ)) → map end_of fields ≡ map (from_be_bytes w16) ends → ends_of fields ≡ concat (map (λ e. to_be_bytes w16 (from_be_bytes w16 e)) ends)
ends_told fields ends e = ap concat (sym (map-map (to_be_bytes w16) end_of fields) ∙ ap (map (to_be_bytes w16)) e ∙ map-map (to_be_bytes w16) (from_be_bytes w16) ends)

-- tags that rise above the last one to 25 at most are no more than the numbers between
pub few : (last place : ℕ) (fields : List FieldParts) → last ≤ 25 → InOrder last place fields → length fields + last ≤ 25
few last place [] h o = omega arith
few last place (f ∷ fields) h o = omega (arith, few f.tag (end_of f) fields o.1 o.4)

-- a field is the piece that is cut at its place to its end
field_again : (text rest : List ℕ) (f : FieldParts) → f.text ++ rest ≡ drop f.place text → field_at text f.place f.tag (end_of f) ≡ f
field_again text rest f e =
    let n : end_of f - f.place ≡ length f.text = omega arith in
    let t : take (end_of f - f.place) (drop f.place text) ≡ f.text = rw (n, ← e) (take_at f.text rest (length f.text) refl) in
    ap (λ xs. record { tag = f.tag; place = f.place; text = xs }) t

-- the fields that stand in order in a text are cut from it by their tags and their ends
cut_again : (text : List ℕ) (last place : ℕ) (fields : List FieldParts) → InOrder last place fields → place ≤ length text → length text < 2 ^ 16 → texts_of fields ≡ drop place text → fields_from text last place (tags_of fields) (pairs (length fields) (ends_of fields)) ≡ Some fields
cut_again text last place [] o p l e =
    let n : place ≡ length text = omega (arith, length-drop place text, ap length e) in
    rw n (grind (arith, nat_tests))
cut_again text last place (f ∷ fields) o p l e =
    let end : ℕ = end_of f in
    let at : f.text ++ texts_of fields ≡ drop f.place text = e ∙ ap (λ n. drop n text) (sym o.2) in
    let fits : end ≤ length text = omega (arith, length-drop f.place text, simp length-append at (ap length at), o.2) in
    let two : from_be_bytes w16 (to_be_bytes w16 end) ≡ end = from_be_bytes-to_be_bytes_2 end (omega arith) in
    let rest : texts_of fields ≡ drop end text = sym (drop_at f.text (texts_of fields) (length f.text) refl) ∙ ap (drop (length f.text)) at ∙ drop-drop (length f.text) f.place text in
    let again = cut_again text f.tag end fields o.4 fits l rest in
    let ends : List (List ℕ) = pairs (length fields) (ends_of fields) in
    let here : field_at text place f.tag end ≡ f = subst (λ n. field_at text n f.tag end ≡ f) o.2 (field_again text (texts_of fields) f at) in
    subst (λ n. (if may_follow (length text) last place f.tag n then option_map (λ xs. field_at text place f.tag n ∷ xs) (fields_from text f.tag n (tags_of fields) ends) else None) ≡ Some (f ∷ fields)) (sym two)
    (put text (tags_of fields) ends last place end f fields (may _ _ _ _ _ o.0 o.1 (omega (arith, o.2, o.3)) fits) here again)

-- ends are two bytes each
pub length-ends : (fields : List FieldParts) → length (ends_of fields) ≡ 2 * length fields
length-ends [] = refl
length-ends (f ∷ fields) = omega (arith, length-ends fields)

-- what is laid out behind the sizes is read
behind_again : (fields : List FieldParts) → InOrder 0 0 fields → length (texts_of fields) ≤ 512 → fields_behind (length fields) (length (texts_of fields)) (tags_of fields ++ (ends_of fields ++ texts_of fields)) ≡ Some fields
behind_again fields o s =
    let n : ℕ = length fields in
    let tags : List ℕ = tags_of fields in
    let ends : List ℕ = ends_of fields in
    let text : List ℕ = texts_of fields in
    let many : length tags ≡ n = length-map fields (λ f. f.tag) in
    let size : length (tags ++ (ends ++ text)) ≡ 3 * n + length text = simp length-append (omega (arith, many, length-ends fields)) in
    let fit : (nat_le n 25 && (nat_le (length text) 512 && length (tags ++ (ends ++ text)) == 3 * n + length text)) ≡ true = grind (arith, nat_tests, few 0 0 fields (omega arith) o) in
    rw (fit, take_at tags (ends ++ text) n many, drop_at tags (ends ++ text) n many, take_at ends text (2 * n) (length-ends fields), drop_at ends text (2 * n) (length-ends fields))
    (cut_again text 0 0 fields o (omega arith) (omega arith) refl)

-- what is laid out as a slip is read
pub complete : (bytes : List ℕ) (fields : List FieldParts) → IsSlip bytes fields → fields_in bytes ≡ Some fields
complete bytes fields s =
    let size : ℕ = length (texts_of fields) in
    let two : from_be_bytes w16 (to_be_bytes w16 size) ≡ size = from_be_bytes-to_be_bytes_2 size (omega (arith, s.short)) in
    let again = subst (λ t. fields_behind (length fields) t (tags_of fields ++ (ends_of fields ++ texts_of fields)) ≡ Some fields) (sym two) (behind_again fields s.in_order s.short) in
    subst (λ bs. fields_in bs ≡ Some fields) (sym s.laid) again

-- what was read is laid out as a slip
sound : (bytes : List ℕ) (fields : List FieldParts) → Bytes bytes → fields_in bytes ≡ Some fields → IsSlip bytes fields
sound [] fields b e = absurd (cc)
sound (n ∷ []) fields b e = absurd (cc)
sound (n ∷ high ∷ []) fields b e = absurd (cc)
sound (n ∷ high ∷ low ∷ rest) fields b e =
    let t : ℕ = from_be_bytes w16 (high ∷ low ∷ []) in
    let k = taken (nat_le n 25 && (nat_le t 512 && length rest == 3 * n + t)) _ fields e in
    let m : (n ≤ 25) × (t ≤ 512) × (length rest ≡ 3 * n + t) = grind (arith, nat_tests) in
    let tail : List ℕ = drop n rest in
    let tags : List ℕ = take n rest in
    let flat : List ℕ = take (2 * n) tail in
    let text : List ℕ = drop (2 * n) tail in
    let many : length tags ≡ n = length-take-le n rest (omega arith) in
    let b_rest : Bytes rest = λ k. b (suc (suc (suc k))) in
    let b_flat : Bytes flat = bytes_front (2 * n) tail (bytes_behind rest n b_rest) in
    let l_flat : length flat ≡ 2 * n = length-take-le (2 * n) tail (omega (arith, length-drop n rest)) in
    let c : Cut text 0 0 tags (pairs n flat) fields = cut text 0 0 tags (pairs n flat) fields k.1 in
    let ends : ends_of fields ≡ flat = ends_told fields (pairs n flat) c.ends_back ∙ pairs_kept n flat l_flat b_flat in
    let as_many : length fields ≡ n = omega (arith, length-map fields (λ f. f.tag), ap length c.tags_back, many) in
    let size : length (texts_of fields) ≡ t = omega (arith, ap length c.texts_back, length-drop (2 * n) tail, length-drop n rest, m.2) in
    let two : to_be_bytes w16 t ≡ high ∷ low ∷ [] = two_back (high ∷ low ∷ rest) (omega arith) (λ k. b (suc k)) in
    let behind : tags_of fields ++ (ends_of fields ++ texts_of fields) ≡ rest = rw (c.tags_back, ends, c.texts_back, take-append-drop (2 * n) tail) (take-append-drop n rest) in
    let told : List ℕ = tags_of fields ++ (ends_of fields ++ texts_of fields) in
    let sizes : to_be_bytes w16 (length (texts_of fields)) ≡ high ∷ low ∷ [] = ap (to_be_bytes w16) size ∙ two in
    let laid : laid_out fields ≡ n ∷ high ∷ low ∷ rest = ap (λ j. j ∷ (to_be_bytes w16 (length (texts_of fields)) ++ told)) as_many ∙ ap (λ xs. n ∷ (xs ++ told)) sizes ∙ ap (λ xs. n ∷ high ∷ low ∷ xs) behind in
    record { in_order = c.in_order; short = omega (arith, size, m.1); laid = sym laid }

-- what `read` gives, in plain terms
pub reads : (bytes : List ℕ) (r : Option (List FieldParts)) → Bytes bytes → fields_in bytes ≡ r → Reads bytes r
reads bytes None b e = λ fields s. absurd (let h = complete bytes fields s in cc)
reads bytes (Some fields) b e = sound bytes fields b e
