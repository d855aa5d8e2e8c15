-- What is written is a slip, and reading it gives the same report.
use Rattle.std.proofs.Common.{sym, length, ◌+◌, ◌≤◌, ◌≡◌, List, None, Ok, Err, Result, IfOk, refl, ap, ◌∙◌, subst, arith, length-append, ◌*◌}
use mathlib.Core.Path.{fun_ext}
use Rattle.std.specs.Option.{option_map}
use Rattle.std.specs.Result.{result_err}
use Rattle.refusals.specs.Words.{parts_of}
use Rattle.refusals.specs.declared.refusal.Refusal.{Refusal}
use Rattle.refusals.specs.declared.tag.Tag.{Tag}
use Rattle.slip.proofs.Laid.{complete}
use Rattle.slip.specs.Fields.{all_or_none}
use Rattle.std.proofs.lemmas.List.{length-map}
use Rattle.slip.proofs.Laid.{length-ends}
use Rattle.slip.specs.Layout.{FieldParts, laid_out, texts_of, IsSlip}
use Rattle.slip.specs.Writing.{set_out}
use Rattle.slip_writer.proofs.Accepted.{accepted}
use Rattle.report.proofs.OneReport.{one_report}
use Rattle.report.proofs.Tags.{after, before, parted}
use Rattle.slip_writer.proofs.OwnTexts.{room, sized, told}
use Rattle.slip_writer.proofs.SetOut.{Rising, count, found, in_order, size}
use Rattle.report.specs.Judging.{all_tags, detail_tags, fields_told, party_tags, refusal_of, refusal_of_fields, refusal_of_texts}
use Rattle.report.specs.Texts.{text_in}
use Rattle.report.specs.Laws.{ReadAs}
use Rattle.report.specs.Values.{Tells}
use Rattle.slip_writer.specs.Written.{fields_written, slip_of, tagged, written_text}
use Rattle.report.specs.declared.report.Report.{Report}

all_rise : Rising 0 all_tags
unfolding all_tags party_tags detail_tags
all_rise = grind arith

-- the text of each field is found again
text_found : (r : Report) (tag : Tag) → text_in (fields_written r) tag ≡ written_text r tag
text_found r tag = subst (λ tags. Rising 0 tags → text_in (set_out 0 (tagged (written_text r) tags)) tag ≡ written_text r tag) (parted tag) (found (written_text r) 0 0 (before tag) tag (after tag)) all_rise

pub is_slip : (r : Report) → IsSlip (slip_of r) (fields_written r)
unfolding all_tags party_tags detail_tags
is_slip r = record {
  in_order = in_order room (written_text r) (sized r) 0 0 all_tags all_rise;
  short = omega (arith, size room (written_text r) (sized r) 0 all_tags);
  laid = refl;
}

-- the fields are read back from what was written
fields_back : (r : Report) → fields_told (slip_of r) ≡ fields_written r
fields_back r = ap all_or_none (complete (slip_of r) (fields_written r) (is_slip r))

texts_back : (r : Report) → text_in (fields_told (slip_of r)) ≡ written_text r
texts_back r = ap text_in (fields_back r) ∙ fun_ext (text_found r)

refused_for_nothing : (r : Report) → refusal_of (slip_of r) ≡ None
refused_for_nothing r = ap (λ o. option_map parts_of (refusal_of_fields o)) (complete (slip_of r) (fields_written r) (is_slip r)) ∙ ap (λ texts. option_map parts_of (refusal_of_texts texts)) (fun_ext (text_found r)) ∙ ap (option_map parts_of) (accepted r)

same_answer : (r : Report) (answer : Result Report Refusal) → IfOk answer (Tells (written_text r)) → option_map parts_of (result_err answer) ≡ None → answer ≡ Ok r
same_answer r (Ok q) t e = ap Ok (one_report (written_text r) q r t (told r))
same_answer r (Err refusal) t e = absurd (cc)

-- what was written reads as the report
pub reads_as : (r : Report) → ReadAs (slip_of r) (Ok r)
reads_as r = (subst (λ texts. Tells texts r) (sym (texts_back r)) (told r), sym (refused_for_nothing r))

-- reading what was written gives the same report
pub reads_back : (r : Report) (answer : Result Report Refusal) → ReadAs (slip_of r) answer → answer ≡ Ok r
reads_back r answer a = same_answer r answer (subst (λ texts. IfOk answer (Tells texts)) (texts_back r) a.0) (a.1 ∙ refused_for_nothing r)

laid_size : (fields : List FieldParts) → length (laid_out fields) ≡ 3 + 3 * length fields + length (texts_of fields)
laid_size fields = simp length-append (omega (arith, length-map fields (λ f. f.tag), length-ends fields))

-- three bytes of sizes, three for each field, and all the texts
pub short_slip : (r : Report) → length (slip_of r) ≤ 449
unfolding all_tags party_tags detail_tags
short_slip r = omega (arith, laid_size (fields_written r), count (written_text r) 0 all_tags, size room (written_text r) (sized r) 0 all_tags)
