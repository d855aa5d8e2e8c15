-- What a slip is laid out as.
use Rattle.std.proofs.Common.{◌≡◌, ◌+◌, ◌*◌, ◌≤◌, List, ◌∷◌, ◌++◌, length, map, Some, refl, ap, ◌∙◌, arith, length-append}
use Rattle.std.specs.Int.{w16, from_be_bytes, to_be_bytes}
use Rattle.std.specs.List.{concat}
use Rattle.std.proofs.lemmas.List.{length-map}
use Rattle.slip.proofs.Cutting.{Cut, as_many, cut, there}
use Rattle.slip.proofs.Laid.{complete, ends_told, few, length-ends}
use Rattle.slip.specs.declared.slip.Slip.{Slip}
use Rattle.slip.specs.Fields.{fields_of}
use Rattle.slip.specs.Layout.{FieldParts, IsSlip, ends_of, fields_in, laid_out, tags_of, texts_of}

-- a slip's fields are cut by its tags and ends
slip_cut : (s : Slip) → Cut s.text.now 0 0 s.tags.now s.ends.now (fields_of s)
slip_cut s = cut s.text.now 0 0 s.tags.now s.ends.now (fields_of s) (there _ s.whole)

-- as many as its tags
many : (s : Slip) → length (fields_of s) ≡ length s.tags.now
many s = as_many s.text.now 0 0 s.tags.now s.ends.now s.whole

-- its parts, one behind the other
pub laid_parts : (s : Slip) → laid_out (fields_of s) ≡ length s.tags.now ∷ (to_be_bytes w16 (length s.text.now) ++ (s.tags.now ++ (concat (map (λ e. to_be_bytes w16 (from_be_bytes w16 e)) s.ends.now) ++ s.text.now)))
laid_parts s =
    let fields : List FieldParts = fields_of s in
    let c = slip_cut s in
    ap (λ n. n ∷ (to_be_bytes w16 (length (texts_of fields)) ++ (tags_of fields ++ (ends_of fields ++ texts_of fields)))) (many s)
    ∙ ap (λ xs. length s.tags.now ∷ (to_be_bytes w16 (length xs) ++ (tags_of fields ++ (ends_of fields ++ xs)))) c.texts_back
    ∙ ap (λ xs. length s.tags.now ∷ (to_be_bytes w16 (length s.text.now) ++ (xs ++ (ends_of fields ++ s.text.now)))) c.tags_back
    ∙ ap (λ xs. length s.tags.now ∷ (to_be_bytes w16 (length s.text.now) ++ (s.tags.now ++ (xs ++ s.text.now)))) (ends_told fields s.ends.now c.ends_back)

-- how long that is
pub laid_length : (s : Slip) → length (laid_out (fields_of s)) ≡ 3 + 3 * length s.tags.now + length s.text.now
laid_length s = simp length-append (omega (arith, many s, length-map (fields_of s) (λ f. f.tag), length-ends (fields_of s), ap length (slip_cut s).texts_back))

-- a slip has few fields
pub few_tags : (s : Slip) → length s.tags.now ≤ 25
few_tags s = omega (arith, many s, few 0 0 (fields_of s) (omega arith) (slip_cut s).in_order)

-- what a slip is laid out as is a slip
pub slip_laid : (s : Slip) → IsSlip (laid_out (fields_of s)) (fields_of s)
slip_laid s =
    let c = slip_cut s in
    record { in_order = c.in_order; short = omega (arith, ap length c.texts_back, s.short); laid = refl }

-- and is read as it
pub slip_read : (s : Slip) → fields_in (laid_out (fields_of s)) ≡ Some (fields_of s)
slip_read s = complete _ _ (slip_laid s)
