-- A day of a book: two reports, a close, and a lookup.
use Rattle.std.specs.Prelude.{◌≡◌, ℕ, List, [], ◌∷◌, Result}
use Rattle.business.specs.declared.business_day.BusinessDay.{BusinessDay}
use Rattle.intake.specs.Intake.{report_answer}
use Rattle.refusals.specs.declared.refusal.Refusal.{Refusal}
use Rattle.report.specs.Laws.{ReadAs}
use Rattle.report.specs.declared.report.Report.{Report}
use Rattle.rows.specs.Keys.{key_named}
use Rattle.rows.specs.declared.notice.Notice.{Notice}
use Rattle.rows.specs.declared.row.Row.{Row}
use Rattle.rules.specs.Books.{Call, Opening, after, close, lookup, report, told}
use Rattle.rules.specs.Judging.{Close}
use Rattle.rules.specs.Slices.{book_of}
use Rattle.runs.specs.Law.{Stands}
use Rattle.sheets.specs.declared.finding.Finding.{Finding}
use Rattle.book.specs.Calls.{close_answer, look_answer}
use Rattle.book_tests.specs.declared.host.Answers.{Answers}
use Rattle.book_tests.specs.declared.host.Received.{Received}

-- the calls of the day, the newest first, for what reading the two slips answers
abbrev pub calls : Result Report Refusal → Result Report Refusal → Close → Received → List Call
calls first second c r = lookup (key_named r.trade.now r.reporter.now r.other.now) ∷ (close c ∷ (report second ∷ (report first ∷ [])))

-- the calls got these answers, the law stands after them, and the rows are those of the book that they leave
pub record Goes (o : Opening) (r : Received) (c : Close) (rows : List Row) (notices : List Notice) (findings : List Finding) (a : Answers) : Type 0 where
  pub first : Result Report Refusal
  pub second : Result Report Refusal
  pub first_says : ReadAs r.first.now first
  pub second_says : ReadAs r.second.now second
  pub told : told o (calls first second c r) ≡ (lookup (key_named r.trade.now r.reporter.now r.other.now), look_answer a.lookup findings) ∷ ((close c, close_answer a.close notices) ∷ ((report second, report_answer a.second) ∷ ((report first, report_answer a.first) ∷ [])))
  pub stands : Stands o (calls first second c r)
  pub day : BusinessDay
  pub used : ℕ
  pub leaves : after o (calls first second c r) ≡ book_of day used rows
