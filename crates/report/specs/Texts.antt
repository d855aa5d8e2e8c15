-- What a slip says, tag by tag.
use Rattle.std.specs.Prelude.{◌≡◌, ℕ, Bool, false, not, if◌then◌else◌, List, Some, None, Option, is_some}
use Rattle.std.specs.Option.{option_map}
use Rattle.refusals.specs.Words.{tag_number}
use Rattle.refusals.specs.declared.refusal.Refusal.{Refusal}
use Rattle.refusals.specs.declared.refusal.Refusal.TheVariants.{BadField}
use Rattle.refusals.specs.declared.tag.Tag.{Tag}
use Rattle.slip.specs.Fields.{field_named}
use Rattle.slip.specs.Layout.{FieldParts}

-- the text of a field, if the field is there
abbrev pub text_in : List FieldParts → Tag → Option (List ℕ)
text_in fields tag = option_map (λ f. f.text) (field_named (tag_number tag) fields)

-- a field that is there, and whose text spells no value
abbrev pub unreadable : {X : Type 0} → (List ℕ → Option X) → Option (List ℕ) → Bool
unreadable spelled None = false
unreadable spelled (Some text) = not (is_some (spelled text))

-- the value of a field is the one that its text spells; it is absent where the field is
abbrev pub Says : {X Y : Type 0} → (List ℕ → Option Y) → (X → Y) → Option (List ℕ) → Option X → Type 0
Says spelled worth text value = option_map spelled text ≡ option_map (λ x. Some (worth x)) value

-- how a field is refused whose text spells no value
abbrev pub bad_if : Bool → Tag → Option Refusal
bad_if bad tag = if bad then Some (BadField tag) else None
