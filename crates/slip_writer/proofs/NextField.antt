-- The fields of a slip in the making, and those that are still to be put behind them.
use Rattle.std.proofs.Common.{◌≡◌, ℕ, suc, ◌+◌, ◌-◌, ◌<◌, ◌≤◌, true, List, [], ◌∷◌, ◌++◌, length, drop, get_or, Some, None, Option, ap, sym, ◌∙◌, subst, arith, length-append, append_assoc}
use Rattle.std.proofs.lemmas.Bool.Decides.{nat_tests}
use Rattle.std.proofs.lemmas.List.{at_drop_more}
use Rattle.slip.specs.Drafts.{last_tag, may_be_put, with_field}
use Rattle.slip.specs.Layout.{FieldParts, InOrder, end_of, tags_of, texts_of}
use Rattle.slip.specs.Writing.{TaggedText, set_out}
use Rattle.refusals.specs.Words.{tag_number}
use Rattle.refusals.specs.declared.tag.Tag.{Tag}
use Rattle.report.specs.declared.report.Report.{Report}
use Rattle.slip_writer.proofs.RoundTrip.{is_slip}
use Rattle.slip_writer.specs.Written.{fields_written, tagged, with_text, written_text}

-- fields, and behind them those of texts that are set out where theirs end
abbrev pub followed : List FieldParts → List TaggedText → List FieldParts
followed fields texts = fields ++ set_out (length (texts_of fields)) texts

-- a tag is above the last one of the fields before it
last_below : (low place : ℕ) (fields : List FieldParts) (f : FieldParts) (more : List FieldParts) → InOrder low place (fields ++ (f ∷ more)) → last_tag fields < f.tag
last_below low place [] f more o = omega (arith, o.0)
last_below low place (x ∷ []) f more o = o.4.0
last_below low place (x ∷ (y ∷ fields)) f more o =
    let e : suc (length (y ∷ fields) - 1) ≡ length (x ∷ (y ∷ fields)) - 1 = omega arith in
    subst (λ n. get_or (tags_of (x ∷ (y ∷ fields))) n 0 < f.tag) e (last_below x.tag (end_of x) (y ∷ fields) f more o.4)

-- and its text has a byte or more
not_empty : (low place : ℕ) (fields : List FieldParts) (f : FieldParts) (more : List FieldParts) → InOrder low place (fields ++ (f ∷ more)) → 0 < length f.text
not_empty low place [] f more o = o.3
not_empty low place (x ∷ fields) f more o = not_empty x.tag (end_of x) fields f more o.4

texts_apart : (fields more : List FieldParts) → length (texts_of (fields ++ more)) ≡ length (texts_of fields) + length (texts_of more)
texts_apart [] more = omega arith
texts_apart (f ∷ fields) more = simp length-append (omega (arith, texts_apart fields more))

module _ (fields : List FieldParts) (tag : ℕ) (text : List ℕ) (rest : List TaggedText) where
  abbrev next : FieldParts
  next = record { tag = tag; place = length (texts_of fields); text = text }

  pub may_be_next : InOrder 0 0 (followed fields (with_text tag (Some text) rest)) → length (texts_of (followed fields (with_text tag (Some text) rest))) ≤ 512 → may_be_put fields tag text ≡ true
  may_be_next o s =
      let more : List FieldParts = set_out (length (texts_of fields) + length text) rest in
      let rises = last_below 0 0 fields next more o in
      let some = not_empty 0 0 fields next more o in
      let fits : length (texts_of fields) + length text ≤ 512 = omega (arith, s, texts_apart fields (next ∷ more), length-append text (texts_of more)) in
      grind (arith, nat_tests)

  pub put_next : followed (with_field fields tag text) rest ≡ followed fields (with_text tag (Some text) rest)
  put_next =
      let all : length (texts_of (with_field fields tag text)) ≡ length (texts_of fields) + length text = omega (arith, texts_apart fields (next ∷ []), length-append text []) in
      ap (λ n. with_field fields tag text ++ set_out n rest) all ∙ append_assoc fields (next ∷ []) (set_out (length (texts_of fields) + length text) rest)

-- the same, where the texts are those that a report has for the tags from a place on
module _ (r : Report) (fields : List FieldParts) (tags : List Tag) (i : ℕ) (d : Tag) (more : i < length tags) (whole : followed fields (tagged (written_text r) (drop i tags)) ≡ fields_written r) where
  abbrev rest : List TaggedText
  rest = tagged (written_text r) (drop (i + 1) tags)

  here : (text : Option (List ℕ)) → written_text r (get_or tags i d) ≡ text → followed fields (with_text (tag_number (get_or tags i d)) text rest) ≡ fields_written r
  here text e =
      let w : followed fields (with_text (tag_number (get_or tags i d)) (written_text r (get_or tags i d)) rest) ≡ fields_written r = sym (at_drop_more (λ ts. followed fields (tagged (written_text r) ts)) tags i d more) ∙ whole in
      subst (λ o. followed fields (with_text (tag_number (get_or tags i d)) o rest) ≡ fields_written r) e w

  pub may_be_put_next : (text : List ℕ) → written_text r (get_or tags i d) ≡ Some text → may_be_put fields (tag_number (get_or tags i d)) text ≡ true
  may_be_put_next text e =
      let s = is_slip r in
      let w = here (Some text) e in
      may_be_next fields (tag_number (get_or tags i d)) text rest (subst (InOrder 0 0) (sym w) s.in_order) (subst (λ fs. length (texts_of fs) ≤ 512) (sym w) s.short)

  pub put : (text : List ℕ) → written_text r (get_or tags i d) ≡ Some text → followed (with_field fields (tag_number (get_or tags i d)) text) rest ≡ fields_written r
  put text e = put_next fields (tag_number (get_or tags i d)) text rest ∙ here (Some text) e

  pub passed : written_text r (get_or tags i d) ≡ None → followed fields rest ≡ fields_written r
  passed e = here None e
