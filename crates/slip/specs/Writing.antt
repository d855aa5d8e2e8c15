-- Writing a slip: texts with their tags, laid out one behind the other.
use Rattle.std.specs.Prelude.{ℕ, ◌+◌, List, [], ◌∷◌, length}
use Rattle.slip.specs.Layout.{FieldParts, laid_out}

-- a text and the tag that it goes under
pub record TaggedText : Type 0 where
  pub tag : ℕ
  pub text : List ℕ

-- fields with these tags and texts, one behind the other from a place on
abbrev pub set_out : ℕ → List TaggedText → List FieldParts
set_out place [] = []
set_out place (t ∷ texts) = record { tag = t.tag; place = place; text = t.text } ∷ set_out (place + length t.text) texts

-- the bytes as which tagged texts are laid out in this order; they are a slip if the tags rise and the texts are short
abbrev pub bytes_of_texts : List TaggedText → List ℕ
bytes_of_texts texts = laid_out (set_out 0 texts)
