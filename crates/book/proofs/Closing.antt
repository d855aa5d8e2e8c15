-- A close as a call on a book.
use Rattle.std.proofs.Common.{◌≡◌, ℕ, List, Ok, Err, Result, min, ap, sym, subst, ◌∙◌}
use Rattle.business.specs.declared.business_day.BusinessDay.{BusinessDay}
use Rattle.closing.specs.Closing as table
use Rattle.closing.specs.Closing.{CloseFrame, LeavesRest, day_after, used_after}
use Rattle.closing.specs.declared.table_close.Closed.{Closed}
use Rattle.refusals.specs.declared.refusal.Refusal.{Refusal}
use Rattle.rows.specs.declared.notice.Notice.{Notice}
use Rattle.rules.specs.Books.{Gives, InOrder, close}
use Rattle.rules.specs.Judging.{Close}
use Rattle.rules.specs.Slices.{book_of, room}
use Rattle.sheets.specs.Sheets.{Meaning}
use Rattle.book.specs.Calls.{CloseLeaves, Closes, Step, close_answer, seen}
use Rattle.book.specs.declared.book.Book.{Book}
use Rattle.book.proofs.Reporting.{moved}
use Rattle.book.proofs.Runs.{carried, run_on}

module _ (sheet : Meaning) (c : Close) (old new : Book) (ws zs : List Notice) where
  closes : (result : Result (ℕ × ℕ × BusinessDay) Refusal) → (InOrder (seen old).entries → Gives sheet (seen old) (close c) (close_answer result zs) (seen new)) → CloseLeaves old new ws zs result → Closes sheet c old new ws zs result
  closes result gives leaves =
      let step : Step sheet old (close c) (close_answer result zs) new = carried sheet old (close c) (close_answer result zs) new gives in
      record {
        step = step;
        history = λ o same h e. run_on o old (close c) (close_answer result zs) new (subst (λ s. Step s old (close c) (close_answer result zs) new) (sym same) step) h e;
        leaves = leaves;
      }

  module _ (res : Result Closed Refusal) (C : table.Closes sheet c old.day old.used old.rows.now new.rows.now ws zs res) where
    pub refused_close : (e : Refusal) → res ≡ Err e → new.day ≡ old.day → new.used ≡ old.used → Closes sheet c old new ws zs (Err e)
    refused_close e is day used =
        let frame = subst (CloseFrame old.used old.rows.now new.rows.now ws zs) is C.frame in
        closes (Err e)
        (λ o. moved (C.gives o) (ap (λ r. table.close_answer r zs) is) (λ i. book_of ((ap (day_after old.day) is ∙ sym day) i) ((ap (used_after old.used) is ∙ sym used) i) new.rows.now))
        (day, (used, frame))

    pub closed_day : (d : Closed) → res ≡ Ok d → new.day ≡ d.next_day → new.used ≡ d.used → Closes sheet c old new ws zs (Ok (d.notices, d.pairs, d.next_day))
    closed_day d is day used =
        let frame = subst (CloseFrame old.used old.rows.now new.rows.now ws zs) is C.frame in
        closes (Ok (d.notices, d.pairs, d.next_day))
        (λ o. moved (C.gives o) (ap (λ r. table.close_answer r zs) is) (λ i. book_of ((ap (day_after old.day) is ∙ sym day) i) ((ap (used_after old.used) is ∙ sym used) i) new.rows.now))
        (day, subst (λ n. LeavesRest (min old.used (room old.rows.now)) old.rows.now new.rows.now ws zs (record { used = n; notices = d.notices; pairs = d.pairs; next_day = d.next_day })) (sym used) frame)
