-- The rows behind those that a book may use are never touched.
use Rattle.std.proofs.Common.{◌≡◌, ℕ, suc, ◌-◌, min, List, ◌++◌, take, drop, replicate, Ok, Err, Result, ⊎_elim, ap, sym, ◌∙◌, arith}
use Rattle.std.specs.Bool.{⊤}
use Rattle.std.specs.List.{insert}
use Rattle.std.proofs.lemmas.List.{append_assoc, drop-set-lt, length-append, length-replicate, length-take-le, take-append-drop}
use Rattle.std.proofs.lemmas.List.Edits.{length-insert}
use Rattle.std.proofs.lemmas.Slice.{drop-append-drop}
use Rattle.business.specs.declared.business_day.BusinessDay.{BusinessDay}
use Rattle.intake.specs.Intake.{Changed, Entered}
use Rattle.intake.specs.Places.{used_of}
use Rattle.refusals.specs.declared.refusal.Refusal.{Refusal}
use Rattle.report.specs.declared.report.Report.{Report}
use Rattle.rows.specs.declared.notice.Notice.{Notice}
use Rattle.rows.specs.declared.row.Row.{Row}
use Rattle.rules.specs.Slices.{room}
use Rattle.book.specs.Calls.{Blanks, CloseLeaves, ReportLeaves}
use Rattle.book.specs.declared.book.Book.{Book}

pub after_open : (xs ys : List Row) → Blanks xs ys → drop 4096 ys ≡ drop 4096 xs
after_open xs ys b = ap (drop 4096) b.rows ∙ drop-append-drop (room xs) xs (replicate (room xs) b.blank) 4096 (omega arith) (length-replicate (room xs) b.blank)

changed : (used : ℕ) (xs : List Row) (r : Report) (n : ℕ) (ys : List Row) → Changed used xs r n ys → drop 4096 ys ≡ drop 4096 xs
changed used xs r n ys c = ap (drop 4096) c.rows ∙ drop-set-lt 4096 xs c.at c.row (omega (arith, c.within))

entered : (today : BusinessDay) (used : ℕ) (xs : List Row) (r : Report) (n : ℕ) (ys : List Row) → Entered today used xs r n ys → drop 4096 ys ≡ drop 4096 xs
entered today used xs r n ys e =
    let u = used_of used xs in
    let front = length-take-le u xs (omega arith) in
    let long = length-insert (take u xs) e.at e.row (omega (arith, e.within, front)) in
    ap (drop 4096) e.rows ∙ drop-append-drop (suc u) xs (insert (take u xs) e.at e.row) 4096 (omega (arith, e.count, e.roomy)) (omega (arith, long, front))

pub after_report : (old new : Book) (read : Result Report Refusal) (result : Result ⊤ Refusal) → ReportLeaves old new read result → drop 4096 new.rows.now ≡ drop 4096 old.rows.now
after_report old new read (Err refusal) l = ap (drop 4096) l.1.1
after_report old new (Err bad) (Ok u) l = absurd l
after_report old new (Ok r) (Ok u) l = ⊎_elim (changed old.used old.rows.now r new.used new.rows.now) (entered old.day old.used old.rows.now r new.used new.rows.now) l.1

pub after_close : (old new : Book) (ws zs : List Notice) (result : Result (ℕ × ℕ × BusinessDay) Refusal) → CloseLeaves old new ws zs result → drop 4096 new.rows.now ≡ drop 4096 old.rows.now
after_close old new ws zs (Err refusal) l = ap (drop 4096) l.1.1.0
after_close old new ws zs (Ok c) l =
    let xs = old.rows.now in
    let ys = new.rows.now in
    let used = min old.used (room xs) in
    let stay = take new.used ys in
    let blanks = replicate (used - new.used) l.1.blank in
    let whole : ys ≡ stay ++ blanks ++ drop used xs = sym (take-append-drop new.used ys) ∙ ap (λ (zs : List Row). stay ++ zs) l.1.behind ∙ sym (append_assoc stay blanks (drop used xs)) in
    let long = length-take-le new.used ys (omega (arith, l.1.few, l.1.count)) in
    ap (drop 4096) whole ∙ drop-append-drop used xs (stay ++ blanks) 4096 (omega arith) (omega (arith, long, l.1.few, length-append stay blanks, length-replicate (used - new.used) l.1.blank))
