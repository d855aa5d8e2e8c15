-- Slips in the making: the fields that one has, and which may be put behind them.
use Rattle.std.specs.Prelude.{ℕ, ◌+◌, ◌-◌, Bool, ◌&&◌, List, [], ◌∷◌, ◌++◌, length, nat_le, nat_lt, slice_index_or}
use Rattle.slip.specs.declared.draft.Draft.{Draft}
use Rattle.slip.specs.Fields.{all_or_none}
use Rattle.slip.specs.Layout.{FieldParts, fields_from, tags_of, texts_of}

-- the fields of a draft, by rising tags
abbrev pub fields_drafted : Draft → List FieldParts
fields_drafted draft = all_or_none (fields_from draft.text.items 0 0 draft.tags.items draft.ends.items)

-- the tag of the last field, 0 where there is none
abbrev pub last_tag : List FieldParts → ℕ
last_tag fields = slice_index_or (tags_of fields) (length fields - 1) 0

-- whether a field with this tag and text may stand behind others: its tag is above theirs, its text has a byte or more,
-- and all the texts have 512 at most
abbrev pub may_be_put : List FieldParts → ℕ → List ℕ → Bool
may_be_put fields tag text = nat_lt (last_tag fields) tag && (nat_lt 0 (length text) && nat_le (length (texts_of fields) + length text) 512)

-- the fields with another behind them, whose text begins where theirs ends
abbrev pub with_field : List FieldParts → ℕ → List ℕ → List FieldParts
with_field fields tag text = fields ++ record { tag = tag; place = length (texts_of fields); text = text } ∷ []
