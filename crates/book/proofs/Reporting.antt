-- What reading a slip and taking its report come to, as one call on a book.
use Rattle.std.proofs.Common.{◌≡◌, ℕ, List, Ok, Err, Result, refl, ap, sym, subst, ◌∙◌}
use Rattle.std.specs.Bool.{⊤}
use Rattle.intake.specs.Intake.{Receives, ReportFrame, report_answer, used_after}
use Rattle.refusals.specs.declared.refusal.Refusal.{Refusal}
use Rattle.report.specs.Laws.{ReadAs}
use Rattle.report.specs.declared.report.Report.{Report}
use Rattle.rules.specs.Books as rules
use Rattle.rules.specs.Books.{Answer, Call, Gives, InOrder, report}
use Rattle.rules.specs.Slices.{book_of}
use Rattle.sheets.specs.Sheets.{Meaning}
use Rattle.book.specs.Calls.{ReportLeaves, Reports, Step, seen}
use Rattle.book.specs.declared.book.Book.{Book}
use Rattle.book.proofs.Runs.{carried, run_on}

module _ (bytes : List ℕ) (old new : Book) (read : Result Report Refusal) (says : ReadAs bytes read) where
  pub reports : (result : Result ⊤ Refusal) → ((sheet : Meaning) → InOrder (seen old).entries → Gives sheet (seen old) (report read) (report_answer result) (seen new)) → ReportLeaves old new read result → Reports bytes old new result
  reports result gives leaves =
      let step : (sheet : Meaning) → Step sheet old (report read) (report_answer result) new = λ sheet. carried sheet old (report read) (report_answer result) new (gives sheet) in
      record { read = read; says = says; step = step; history = λ o h e. run_on o old (report read) (report_answer result) new (step o.sheet) h e; leaves = leaves }

-- bytes that are no report
pub unread : (bytes : List ℕ) (b : Book) (e : Refusal) → ReadAs bytes (Err e) → Reports bytes b b (Err e)
unread bytes b e says = reports bytes b b (Err e) says (Err e) (λ sheet o. record { answers = refl; leaving = refl }) (refl, (refl, refl))

pub moved : {sheet : Meaning} {b left left2 : rules.Book} {c : Call} {a a2 : Answer} → Gives sheet b c a left → a ≡ a2 → left ≡ left2 → Gives sheet b c a2 left2
moved g p q = record { answers = g.answers ∙ p; leaving = g.leaving ∙ q }

-- a report that the rows take or refuse
module _ (bytes : List ℕ) (old new : Book) (r : Report) (res : Result ℕ Refusal) (says : ReadAs bytes (Ok r)) (R : Receives old.day old.used old.rows.now r res new.rows.now) (day : new.day ≡ old.day) where
  pub refused_row : (e : Refusal) → res ≡ Err e → new.used ≡ old.used → Reports bytes old new (Err e)
  refused_row e is used =
      reports bytes old new (Ok r) says (Err e)
      (λ sheet o. moved (R.gives o sheet) (ap report_answer is) (λ i. book_of (sym day i) ((ap (used_after old.used) is ∙ sym used) i) new.rows.now))
      (day, (used, subst (ReportFrame old.day old.used old.rows.now r new.rows.now) is R.frame))

  pub taken_row : res ≡ Ok new.used → Reports bytes old new (Ok tt)
  taken_row is =
      reports bytes old new (Ok r) says (Ok tt)
      (λ sheet o. moved (R.gives o sheet) (ap report_answer is) (λ i. book_of (sym day i) (used_after old.used (is i)) new.rows.now))
      (day, subst (ReportFrame old.day old.used old.rows.now r new.rows.now) is R.frame)
