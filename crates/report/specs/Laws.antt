-- Laws of reports.
use Rattle.std.specs.Prelude.{◌≡◌, ◌≢◌, ◌<◌, ◌≤◌, List, ℕ, slice_index_or, Some, None, Result, IfOk}
use Rattle.std.specs.Option.{option_map}
use Rattle.std.specs.Result.{result_err}
use Rattle.refusals.specs.Words.{RefusalParts, parts_of, tag_number}
use Rattle.refusals.specs.declared.refusal.Refusal.{Refusal}
use Rattle.refusals.specs.declared.refusal.Refusal.TheVariants.{TornSlip, FieldMissing, BadField}
use Rattle.refusals.specs.declared.tag.Tag.{Tag}
use Rattle.slip.specs.Layout.{FieldParts, IsSlip}
use Rattle.report.specs.Judging.{Texts, fields_told, refusal_of}
use Rattle.report.specs.Named.{Bad, Least, Missing, NoTag, turn}
use Rattle.report.specs.Texts.{text_in}
use Rattle.report.specs.Values.{Tells}
use Rattle.report.specs.declared.report.Report.{Report}

-- what the bytes of a slip say
abbrev pub texts_told : List ℕ → Texts
texts_told bytes = text_in (fields_told bytes)

-- what reading these bytes may answer: a report that their texts say, or just the refusal that they deserve
abbrev pub ReadAs : List ℕ → Result Report Refusal → Type 0
ReadAs bytes answer = IfOk answer (Tells (texts_told bytes)) × (option_map parts_of (result_err answer) ≡ refusal_of bytes)

pub record ReportLaws : Type 0 where
  -- what texts say is one report
  pub one_report : (texts : Texts) (r q : Report) → Tells texts r → Tells texts q → r ≡ q
  -- reading has one answer
  pub one_answer : (bytes : List ℕ) (a b : Result Report Refusal) → ReadAs bytes a → ReadAs bytes b → a ≡ b
  -- of the fields that are missing, refusal 2 names the one with the lowest tag
  pub missing_named : (bytes : List ℕ) (tag : Tag) → refusal_of bytes ≡ Some (parts_of (FieldMissing tag)) → Least tag_number (Missing (texts_told bytes)) tag
  -- refusal 3 names a field only where none is missing; it is the first of the bad ones: the action, or else the one with
  -- the lowest tag
  pub bad_named : (bytes : List ℕ) (tag : Tag) → refusal_of bytes ≡ Some (parts_of (BadField tag)) → Least turn (Bad (texts_told bytes)) tag × NoTag (Missing (texts_told bytes))
  -- bytes are refused with 1, 2 or 3 alone
  pub numbers : (bytes : List ℕ) (told : RefusalParts) → refusal_of bytes ≡ Some told → told.number ≤ 3
  -- a slip is not refused if no field is missing, and none is bad
  pub whole_read : (bytes : List ℕ) (fields : List FieldParts) → IsSlip bytes fields → NoTag (Missing (text_in fields)) → NoTag (Bad (text_in fields)) → refusal_of bytes ≡ None
  -- refusal 1 is for bytes that are no slip whatever their fields, and for those alone
  pub torn : (bytes : List ℕ) → ((place : ℕ) → slice_index_or bytes place 0 < 256) → ((fields : List FieldParts) → IsSlip bytes fields → ⊥) → refusal_of bytes ≡ Some (parts_of TornSlip)
  pub slip_not_torn : (bytes : List ℕ) (fields : List FieldParts) → IsSlip bytes fields → refusal_of bytes ≢ Some (parts_of TornSlip)
