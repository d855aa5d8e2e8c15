-- What the calls on a book answer and leave.
use Rattle.std.specs.Prelude.{◌≡◌, ℕ, List, ◌++◌, [], map, min, take, drop, replicate, OnErr, Ok, Err, Result, ⊤, ◌⊎◌}
use Rattle.business.specs.BusinessDays.{day_no}
use Rattle.business.specs.declared.business_day.BusinessDay.{BusinessDay}
use Rattle.closing.specs.Closing.{LeavesRest}
use Rattle.intake.specs.Intake.{Changed, Entered, report_answer}
use Rattle.judging.specs.Lines.{notice_told}
use Rattle.refusals.specs.Words.{parts_of}
use Rattle.refusals.specs.declared.refusal.Refusal.{Refusal}
use Rattle.report.specs.Laws.{ReadAs}
use Rattle.report.specs.declared.report.Report.{Report}
use Rattle.rows.specs.Blank.{IsBlank}
use Rattle.rows.specs.Keys.{key_named}
use Rattle.rows.specs.Words.{told}
use Rattle.rows.specs.declared.notice.Notice.{Notice}
use Rattle.rows.specs.declared.row.Row.{Row}
use Rattle.rows.specs.declared.state.State.{State}
use Rattle.rules.specs.Books as rules
use Rattle.rules.specs.Books.{Answer, Call, Gives, InOrder, Opening, after, close, closed, lookup, refused, report, shows}
use Rattle.rules.specs.Judging.{Close}
use Rattle.rules.specs.Slices.{book_of, room}
use Rattle.runs.specs.Law.{Stands, Then}
use Rattle.sheets.specs.Sheets.{Meaning}
use Rattle.sheets.specs.declared.finding.Finding.{Finding}
use Rattle.book.specs.declared.book.Book.{Book}

-- a book as the rules see it
abbrev pub seen : Book → rules.Book
seen b = book_of b.day b.used b.rows.now

-- ---- every call

-- on this book, if its rows are in order, the call answers and leaves what the rules say, and they are in order then
pub record Carried (sheet : Meaning) (old : Book) (c : Call) (a : Answer) (new : Book) : Type 0 where
  pub gives : Gives sheet (seen old) c a (seen new)
  pub in_order : InOrder (seen new).entries

abbrev pub Step : Meaning → Book → Call → Answer → Book → Type 0
Step sheet old c a new = InOrder (seen old).entries → Carried sheet old c a new

-- so it does after every history that leaves this book, and the law stands then; every such book is in order
abbrev pub History : Opening → Book → Call → Answer → Book → Type 0
History o old c a new = (h : List Call) → after o h ≡ seen old → Then o h c a (seen new)

-- ---- opening

-- the rows that a book may use are blank, and those behind them as they were
pub record Blanks (xs ys : List Row) : Type 0 where
  pub blank : Row
  pub is_blank : IsBlank blank
  pub rows : ys ≡ replicate (room xs) blank ++ drop (room xs) xs

-- the book is what the opening leaves, and the law stands
pub record Opens (o : Opening) (b : rules.Book) : Type 0 where
  pub leaving : after o [] ≡ b
  pub stands : Stands o []

-- ---- reports

-- a refused report leaves the book and every row as they were; an accepted one changed one row or entered one
abbrev pub ReportLeaves : Book → Book → Result Report Refusal → Result ⊤ Refusal → Type 0
ReportLeaves old new read (Err refusal) = (new.day ≡ old.day) × ((new.used ≡ old.used) × (new.rows.now ≡ old.rows.now))
ReportLeaves old new (Err bad) (Ok u) = ⊥
ReportLeaves old new (Ok r) (Ok u) = (new.day ≡ old.day) × (Changed old.used old.rows.now r new.used new.rows.now ⊎ Entered old.day old.used old.rows.now r new.used new.rows.now)

-- a report as the bytes of a slip
pub record Reports (bytes : List ℕ) (old new : Book) (result : Result ⊤ Refusal) : Type 0 where
  -- what reading the bytes answers, of which there is one
  pub read : Result Report Refusal
  pub says : ReadAs bytes read
  pub step : (sheet : Meaning) → Step sheet old (report read) (report_answer result) new
  pub history : (o : Opening) → History o old (report read) (report_answer result) new
  pub leaves : ReportLeaves old new read result

-- ---- closes

abbrev pub close_answer : Result (ℕ × ℕ × BusinessDay) Refusal → List Notice → Answer
close_answer (Err refusal) zs = refused (parts_of refusal)
close_answer (Ok c) zs = closed (map notice_told (take c.0 zs)) c.1 (day_no c.2)

-- a refused close leaves the book, every row and every place for notices as they were; after an accepted one come the rows
-- that stay, then blanks
abbrev pub CloseLeaves : Book → Book → List Notice → List Notice → Result (ℕ × ℕ × BusinessDay) Refusal → Type 0
CloseLeaves old new ws zs (Err refusal) = (new.day ≡ old.day) × ((new.used ≡ old.used) × ((new.rows.now ≡ old.rows.now) × (zs ≡ ws)))
CloseLeaves old new ws zs (Ok c) = (new.day ≡ c.2) × LeavesRest (min old.used (room old.rows.now)) old.rows.now new.rows.now ws zs (record { used = new.used; notices = c.0; pairs = c.1; next_day = c.2 })

-- a close under a sheet, with the places ws for notices, where zs stands afterwards
pub record Closes (sheet : Meaning) (c : Close) (old new : Book) (ws zs : List Notice) (result : Result (ℕ × ℕ × BusinessDay) Refusal) : Type 0 where
  pub step : Step sheet old (close c) (close_answer result zs) new
  -- all closes of a run are under one sheet
  pub history : (o : Opening) → o.sheet ≡ sheet → History o old (close c) (close_answer result zs) new
  pub leaves : CloseLeaves old new ws zs result

-- ---- lookups

abbrev pub look_answer : Result State Refusal → List Finding → Answer
look_answer (Err refusal) findings = refused (parts_of refusal)
look_answer (Ok state) findings = shows (told state findings)

-- a lookup of the key that three texts name, with the place f for findings, where g stands afterwards
pub record Looks (b : Book) (trade reporter other : List ℕ) (f g : List Finding) (result : Result State Refusal) : Type 0 where
  pub step : (sheet : Meaning) → Step sheet b (lookup (key_named trade reporter other)) (look_answer result g) b
  pub history : (o : Opening) → History o b (lookup (key_named trade reporter other)) (look_answer result g) b
  pub refused_leaves : OnErr result (g ≡ f)
