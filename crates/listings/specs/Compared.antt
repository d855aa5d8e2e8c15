-- What is told of two slips that are compared.
use Rattle.std.specs.Prelude.{◌≡◌, ℕ, List, ◌++◌, codes, decimal, map, Ok, Err, Result}
use Rattle.std.specs.List.{concat}
use Rattle.refusals.specs.Words.{parts_of, refusal_text}
use Rattle.refusals.specs.declared.refusal.Refusal.{Refusal}
use Rattle.report.specs.Laws.{ReadAs}
use Rattle.report.specs.declared.report.Report.{Report}
use Rattle.sheets.specs.Findings.{finding_numbers, state_text}
use Rattle.sheets.specs.Sheets.{Meaning, findings_of, state_of}
use Rattle.sheets.specs.declared.finding.Finding.{Finding}

-- a digit for each finding
abbrev pub digits_text : List ℕ → List ℕ
digits_text numbers = concat (map decimal numbers)

abbrev pub findings_text : List Finding → List ℕ
findings_text findings = digits_text (finding_numbers findings)

-- the state and the findings of two reports under a sheet, or the refusal of the second
abbrev pub compared_text : Meaning → Report → Result Report Refusal → List ℕ
compared_text sheet a (Err refusal) = refusal_text (parts_of refusal) ++ codes " second"
compared_text sheet a (Ok b) = state_text (state_of sheet a.details b.details) ++ (codes " " ++ findings_text (findings_of sheet a.details b.details))

-- the text is the refusal of the first, or else what its report and the answer to the second slip come to
abbrev pub TellsFirst : Meaning → Result Report Refusal → List ℕ → List ℕ → Type 0
TellsFirst sheet (Err refusal) second text = text ≡ refusal_text (parts_of refusal) ++ codes " first"
TellsFirst sheet (Ok a) second text = (b : Result Report Refusal) × (ReadAs second b × (text ≡ compared_text sheet a b))

-- the text is what comparing two slips comes to, by the answers that reading them gives
abbrev pub TellsCompared : Meaning → List ℕ → List ℕ → List ℕ → Type 0
TellsCompared sheet first second text = (a : Result Report Refusal) × (ReadAs first a × TellsFirst sheet a second text)
