-- Tags and ends that cut a text.
use Rattle.std.proofs.Common.{◌≡◌, ◌≢◌, ℕ, ◌+◌, ◌-◌, ◌<◌, ◌≤◌, Bool, true, false, if◌then◌else◌, ◌==◌, List, [], ◌∷◌, ◌++◌, length, map, take, drop, Some, None, Option, refl, ap, sym, ◌∙◌, arith, length-drop, length-take, take-append-drop, subst}
use Rattle.std.specs.Option.{is_some, option_map}
use Rattle.std.specs.Int.{w16, from_be_bytes}
use Rattle.std.proofs.lemmas.Bool.Decides.{nat_tests}
use Rattle.std.proofs.lemmas.List.{drop-drop, drop_all}
use Rattle.slip.specs.Fields.{all_or_none}
use Rattle.slip.specs.Layout.{FieldParts, InOrder, end_of, field_at, fields_from, may_follow, tags_of, texts_of}

-- tags and ends that are not as many cut nothing
pub uneven : (text : List ℕ) (last place : ℕ) (tags : List ℕ) (ends : List (List ℕ)) → length tags ≢ length ends → is_some (fields_from text last place tags ends) ≡ false
uneven text last place [] [] h = absurd (h refl)
uneven text last place [] (e ∷ ends) h = refl
uneven text last place (t ∷ tags) [] h = refl
uneven text last place (t ∷ tags) (e ∷ ends) h = grind (arith, uneven text t (from_be_bytes w16 e) tags ends)

-- a field for each tag
pub as_many : (text : List ℕ) (last place : ℕ) (tags : List ℕ) (ends : List (List ℕ)) → is_some (fields_from text last place tags ends) ≡ true → length (all_or_none (fields_from text last place tags ends)) ≡ length tags
as_many text last place [] [] h = grind arith
as_many text last place [] (e ∷ ends) h = refl
as_many text last place (t ∷ tags) [] h = grind arith
as_many text last place (t ∷ tags) (e ∷ ends) h = grind (arith, as_many text t (from_be_bytes w16 e) tags ends)

-- an end for each tag
pub even : (text : List ℕ) (last place : ℕ) (tags : List ℕ) (ends : List (List ℕ)) → is_some (fields_from text last place tags ends) ≡ true → length ends ≡ length tags
even text last place [] [] h = refl
even text last place [] (e ∷ ends) h = absurd (cc)
even text last place (t ∷ tags) [] h = absurd (cc)
even text last place (t ∷ tags) (e ∷ ends) h = grind (arith, even text t (from_be_bytes w16 e) tags ends)

-- what stands behind a test stands there if the test holds
pub taken : {A : Type 0} (b : Bool) (o : Option A) (y : A) → (if b then o else None) ≡ Some y → (b ≡ true) × (o ≡ Some y)
taken true o y e = (refl, e)
taken false o y e = absurd (cc)

-- what was mapped was there
pub mapped : {A B : Type 0} (f : A → B) (o : Option A) (y : B) → option_map f o ≡ Some y → (x : A) × (o ≡ Some x) × (f x ≡ y)
mapped f None y e = absurd (cc)
mapped f (Some x) y e = (x, refl, cc)

-- fields that are there
pub there : (o : Option (List FieldParts)) → is_some o ≡ true → o ≡ Some (all_or_none o)
there None h = absurd (cc)
there (Some fields) h = refl

-- what it means that a field may follow
pub follows : (size last place tag end : ℕ) → may_follow size last place tag end ≡ true → (last < tag) × (tag ≤ 25) × (place < end) × (end ≤ size)
follows size last place tag end e = grind (arith, nat_tests)

-- when a field may follow
pub may : (size last place tag end : ℕ) → last < tag → tag ≤ 25 → place < end → end ≤ size → may_follow size last place tag end ≡ true
may size last place tag end a b c d = grind (arith, nat_tests)

-- a field that may follow, in front of the fields that are cut behind it
pub put : (text tags : List ℕ) (ends : List (List ℕ)) (last place end : ℕ) (f : FieldParts) (fields : List FieldParts) → may_follow (length text) last place f.tag end ≡ true → field_at text place f.tag end ≡ f → fields_from text f.tag end tags ends ≡ Some fields → (if may_follow (length text) last place f.tag end then option_map (λ rest. field_at text place f.tag end ∷ rest) (fields_from text f.tag end tags ends) else None) ≡ Some (f ∷ fields)
put text tags ends last place end f fields m a r = rw (m, r) (ap (λ x. Some (x ∷ fields)) a)

-- fields that tags and ends cut from a text stand in order, and give the tags, the ends and the text back
pub record Cut (text : List ℕ) (last place : ℕ) (tags : List ℕ) (ends : List (List ℕ)) (fields : List FieldParts) : Type 0 where
  pub in_order : InOrder last place fields
  pub tags_back : tags_of fields ≡ tags
  pub ends_back : map end_of fields ≡ map (from_be_bytes w16) ends
  pub texts_back : texts_of fields ≡ drop place text

-- a field ends where it was cut
end_back : (text : List ℕ) (place tag end : ℕ) → place < end → end ≤ length text → end_of (field_at text place tag end) ≡ end
end_back text place tag end a b = simp (length-take, length-drop) (omega arith)

-- a text from a place on is its piece up to an end, and the text from there on
piece_back : (text : List ℕ) (place end : ℕ) → place < end → take (end - place) (drop place text) ++ drop end text ≡ drop place text
piece_back text place end a = ap (λ n. take (end - place) (drop place text) ++ drop n text) (let e : end ≡ place + (end - place) = omega arith in e) ∙ ap (λ xs. take (end - place) (drop place text) ++ xs) (sym (drop-drop (end - place) place text)) ∙ take-append-drop (end - place) (drop place text)

-- a field in front of fields that were cut
cut_more : (text : List ℕ) (last place tag : ℕ) (e : List ℕ) (tags : List ℕ) (ends : List (List ℕ)) (rest : List FieldParts) → (last < tag) × (tag ≤ 25) × (place < from_be_bytes w16 e) × (from_be_bytes w16 e ≤ length text) → Cut text tag (from_be_bytes w16 e) tags ends rest → Cut text last place (tag ∷ tags) (e ∷ ends) (field_at text place tag (from_be_bytes w16 e) ∷ rest)
cut_more text last place tag e tags ends rest m c =
    let end : ℕ = from_be_bytes w16 e in
    let back = end_back text place tag end m.2 m.3 in
    record {
      in_order = (m.0, m.1, refl, omega (arith, back), subst (λ n. InOrder tag n rest) (sym back) c.in_order);
      tags_back = ap (λ xs. tag ∷ xs) c.tags_back;
      ends_back = ap (λ n. n ∷ map end_of rest) back ∙ ap (λ ns. end ∷ ns) c.ends_back;
      texts_back = ap (λ xs. take (end - place) (drop place text) ++ xs) c.texts_back ∙ piece_back text place end m.2;
    }

-- no fields are cut only where the text has ended
pub cut_none : (text : List ℕ) (place : ℕ) (fields : List FieldParts) → (if place == length text then Some [] else None) ≡ Some fields → (fields ≡ []) × (place ≡ length text)
cut_none text place fields e =
    let t = taken (place == length text) (Some []) fields e in
    (cc, grind (arith, nat_tests))

-- what tags and ends cut
pub cut : (text : List ℕ) (last place : ℕ) (tags : List ℕ) (ends : List (List ℕ)) (fields : List FieldParts) → fields_from text last place tags ends ≡ Some fields → Cut text last place tags ends fields
cut text last place [] [] fields e =
    let t = cut_none text place fields e in
    subst (Cut text last place [] []) (sym t.0) (record { in_order = tt; tags_back = refl; ends_back = refl; texts_back = sym (drop_all place text (omega (arith, t.1))) })
cut text last place [] (end ∷ ends) fields e = absurd (cc)
cut text last place (tag ∷ tags) [] fields e = absurd (cc)
cut text last place (tag ∷ tags) (two ∷ ends) fields e =
    let end : ℕ = from_be_bytes w16 two in
    let t = taken (may_follow (length text) last place tag end) _ fields e in
    let m = mapped _ _ fields t.1 in
    subst (Cut text last place (tag ∷ tags) (two ∷ ends)) m.2 (cut_more text last place tag two tags ends m.0 (follows _ _ _ _ _ t.0) (cut text tag end tags ends m.0 m.1))
