-- What comparing two slips comes to, by what reading them gave.
use Rattle.std.proofs.Common.{◌≡◌, ℕ, List, ◌++◌, codes, Some, None, Ok, Err}
use Rattle.refusals.specs.Words.{parts_of, refusal_text}
use Rattle.refusals.specs.declared.refusal.Refusal.{Refusal}
use Rattle.report.specs.Judging.{fields_told, refusal_of}
use Rattle.report.specs.Texts.{text_in}
use Rattle.report.specs.Values.{Tells}
use Rattle.report.specs.declared.report.Report.{Report}
use Rattle.sheets.specs.Sheets.{Meaning}
use Rattle.listings.specs.Compared.{TellsCompared, compared_text}

module _ (sheet : Meaning) (first second text : List ℕ) where
  pub first_refused : (refusal : Refusal) → Some (parts_of refusal) ≡ refusal_of first → text ≡ refusal_text (parts_of refusal) ++ codes " first" → TellsCompared sheet first second text
  first_refused refusal e t = (Err refusal, ((tt, e), t))

  pub second_refused : (a : Report) (refusal : Refusal) → Tells (text_in (fields_told first)) a → None ≡ refusal_of first → Some (parts_of refusal) ≡ refusal_of second → text ≡ refusal_text (parts_of refusal) ++ codes " second" → TellsCompared sheet first second text
  second_refused a refusal says e f t = (Ok a, ((says, e), (Err refusal, ((tt, f), t))))

  pub both_read : (a b : Report) → Tells (text_in (fields_told first)) a → None ≡ refusal_of first → Tells (text_in (fields_told second)) b → None ≡ refusal_of second → text ≡ compared_text sheet a (Ok b) → TellsCompared sheet first second text
  both_read a b says e also f t = (Ok a, ((says, e), (Ok b, ((also, f), t))))
