-- The layout of a slip: its sizes, the tags of its fields, the end of each in the text, and the text.
use Rattle.std.specs.Prelude.{◌≡◌, ℕ, ◌+◌, ◌-◌, ◌*◌, ◌<◌, ◌≤◌, Bool, ◌&&◌, if◌then◌else◌, List, [], ◌∷◌, ◌++◌, length, map, take, drop, Some, None, Option, ⊤, ◌==◌, nat_le, nat_lt}
use Rattle.std.specs.Int.{w16, from_be_bytes, to_be_bytes}
use Rattle.std.specs.Option.{option_map}
use Rattle.std.specs.List.{concat}
use Rattle.std.specs.Simd.{first_chunks}

-- a field as a slip has it: its tag, the place of its first byte in the slip's text, and its text
pub record FieldParts : Type 0 where
  pub tag : ℕ
  pub place : ℕ
  pub text : List ℕ

-- whether a field with this tag, and with its text from a place to this end, may stand next in a text of this size:
-- tags rise to 25 at most, and each field has a byte or more
abbrev pub may_follow : ℕ → ℕ → ℕ → ℕ → ℕ → Bool
may_follow size last place tag end = nat_lt last tag && (nat_le tag 25 && (nat_lt place end && nat_le end size))

abbrev pub field_at : List ℕ → ℕ → ℕ → ℕ → FieldParts
field_at text place tag end = record { tag = tag; place = place; text = take (end - place) (drop place text) }

-- the fields of a text from a place on, by their tags and by their ends, of which the last has to be the text's
abbrev pub fields_from : List ℕ → ℕ → ℕ → List ℕ → List (List ℕ) → Option (List FieldParts)
fields_from text last place [] [] = if place == length text then Some [] else None
fields_from text last place (tag ∷ tags) (end ∷ ends) =
    let e : ℕ = from_be_bytes w16 end in
    if may_follow (length text) last place tag e
    then option_map (λ fields. field_at text place tag e ∷ fields) (fields_from text tag e tags ends)
    else None
fields_from text last place tags ends = None

-- two bytes each, one behind the other
abbrev pub pairs : ℕ → List ℕ → List (List ℕ)
pairs = first_chunks 2

-- the fields of a slip with n tags, whose text has t bytes: behind the sizes stand the tags, the ends and the text
abbrev pub fields_behind : ℕ → ℕ → List ℕ → Option (List FieldParts)
fields_behind n t rest =
    if nat_le n 25 && (nat_le t 512 && length rest == 3 * n + t)
    then fields_from (drop (2 * n) (drop n rest)) 0 0 (take n rest) (pairs n (take (2 * n) (drop n rest)))
    else None

-- the fields that the bytes of a slip tell; none if they are not laid out as one
abbrev pub fields_in : List ℕ → Option (List FieldParts)
fields_in (n ∷ high ∷ low ∷ rest) = fields_behind n (from_be_bytes w16 (high ∷ low ∷ [])) rest
fields_in bytes = None

-- where a field's text ends
abbrev pub end_of : FieldParts → ℕ
end_of f = f.place + length f.text

-- fields one behind the other, from a place on: tags rise above the last one, to 25 at most, and each text has a byte
-- or more and begins where the one before ends
abbrev pub InOrder : ℕ → ℕ → List FieldParts → Type 0
InOrder last place [] = ⊤
InOrder last place (f ∷ fields) = (last < f.tag) × (f.tag ≤ 25) × (f.place ≡ place) × (0 < length f.text) × InOrder f.tag (end_of f) fields

abbrev pub tags_of : List FieldParts → List ℕ
tags_of fields = map (λ f. f.tag) fields

-- each end as two bytes, the high one first
abbrev pub ends_of : List FieldParts → List ℕ
ends_of fields = concat (map (λ f. to_be_bytes w16 (end_of f)) fields)

abbrev pub texts_of : List FieldParts → List ℕ
texts_of fields = concat (map (λ f. f.text) fields)

-- the bytes as which fields are laid out: how many they are, the size of their texts, tags, ends, texts
abbrev pub laid_out : List FieldParts → List ℕ
laid_out fields = length fields ∷ (to_be_bytes w16 (length (texts_of fields)) ++ (tags_of fields ++ (ends_of fields ++ texts_of fields)))

-- in plain terms: bytes are a slip of these fields
pub record IsSlip (bytes : List ℕ) (fields : List FieldParts) : Type 0 where
  pub in_order : InOrder 0 0 fields
  pub short : length (texts_of fields) ≤ 512
  pub laid : bytes ≡ laid_out fields

-- in plain terms: a reader gave these fields exactly if the bytes are a slip of them, and none if they are no slip at all
abbrev pub Reads : List ℕ → Option (List FieldParts) → Type 0
Reads bytes None = (fields : List FieldParts) → IsSlip bytes fields → ⊥
Reads bytes (Some fields) = IsSlip bytes fields
