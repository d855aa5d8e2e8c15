-- What a report answers and leaves.
use Rattle.std.specs.Prelude.{◌≡◌, ℕ, ◌+◌, ◌<◌, ◌≤◌, min, List, Ok, Err, Result, Some, slice_index_or, slice_set, ◌⊎◌, ⊤, nat_le}
use Rattle.business.specs.BusinessDays.{day_no}
use Rattle.business.specs.declared.business_day.BusinessDay.{BusinessDay}
use Rattle.refusals.specs.Words.{parts_of}
use Rattle.refusals.specs.declared.refusal.Refusal.{Refusal}
use Rattle.report.specs.declared.report.Report.{Report}
use Rattle.sheets.specs.Sheets.{Meaning}
use Rattle.table.specs.Changes.{entered as put_in}
use Rattle.rows.specs.Changes.{IsAmended, IsEntered}
use Rattle.rows.specs.Standings.{enters, taken}
use Rattle.rows.specs.declared.row.Row.{Row}
use Rattle.rows.specs.declared.standing.Standing.{Standing}
use Rattle.rules.specs.Books.{Answer, Gives, InOrder, accepted, at_new_key, refused, report}
use Rattle.rules.specs.Slices.{book_of, room}
use Rattle.intake.specs.Places.{used_of}

-- a later report changes a row to an entry, or is refused and leaves it
abbrev pub AmendsTo : Row → Report → Row → Result ⊤ Refusal → Type 0
AmendsTo old r new (Ok u) = (standing : Standing) × ((taken old.standing r.action ≡ Ok standing) × IsAmended old r standing new)
AmendsTo old r new (Err refusal) = (taken old.standing r.action ≡ Err refusal) × (new ≡ old)

-- the answer to a report
abbrev pub report_answer : {X : Type 0} → Result X Refusal → Answer
report_answer (Err refusal) = refused (parts_of refusal)
report_answer (Ok x) = accepted

abbrev pub used_after : ℕ → Result ℕ Refusal → ℕ
used_after used (Err refusal) = used
used_after used (Ok n) = n

-- one row was changed where it stands
pub record Changed (used : ℕ) (xs : List Row) (r : Report) (n : ℕ) (ys : List Row) : Type 0 where
  pub at : ℕ
  pub row : Row
  pub standing : Standing
  pub within : at < used_of used xs
  pub count : n ≡ used
  pub rows : ys ≡ slice_set xs at row
  pub takes : taken (slice_index_or xs at row).standing r.action ≡ Ok standing
  pub is_amended : IsAmended (slice_index_or xs at row) r standing row

-- one row was entered at its place, and those from there on moved up by one
pub record Entered (today : BusinessDay) (used : ℕ) (xs : List Row) (r : Report) (n : ℕ) (ys : List Row) : Type 0 where
  pub at : ℕ
  pub row : Row
  pub standing : Standing
  pub within : at ≤ used_of used xs
  pub count : n ≡ used_of used xs + 1
  pub roomy : n ≤ room xs
  pub rows : ys ≡ put_in xs (used_of used xs) at row
  pub enters : enters r.action ≡ Some standing
  pub is_entered : IsEntered (day_no today) r standing row

-- a refused report leaves every row as it was
abbrev pub ReportFrame : BusinessDay → ℕ → List Row → Report → List Row → Result ℕ Refusal → Type 0
ReportFrame today used xs r ys (Err refusal) = ys ≡ xs
ReportFrame today used xs r ys (Ok n) = Changed used xs r n ys ⊎ Entered today used xs r n ys

-- a report of a key that the table does not have, for the place where it would have to stand
abbrev pub Enters : BusinessDay → ℕ → List Row → ℕ → Report → Result ℕ Refusal → List Row → Type 0
Enters today used xs at r (Err refusal) ys = (ys ≡ xs) × (at_new_key (nat_le (room xs) (used_of used xs)) (day_no today) r (enters r.action) ≡ Err refusal)
Enters today used xs at r (Ok n) ys = (e : Entered today used xs r n ys) × (e.at ≡ min at (used_of used xs))

-- a report of a table of which so many rows are used, answered and with the rows that it leaves
pub record Receives (today : BusinessDay) (used : ℕ) (xs : List Row) (r : Report) (result : Result ℕ Refusal) (ys : List Row) : Type 0 where
  pub gives : InOrder (book_of today used xs).entries → (sheet : Meaning) → Gives sheet (book_of today used xs) (report (Ok r)) (report_answer result) (book_of today (used_after used result) ys)
  pub frame : ReportFrame today used xs r ys result
