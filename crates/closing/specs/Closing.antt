-- What a close of a table answers and leaves.
use Rattle.std.specs.Prelude.{◌≡◌, ℕ, ◌-◌, ◌≤◌, min, List, ◌++◌, map, length, take, drop, replicate, Ok, Err, Result}
use Rattle.std.specs.List.{AllByRecursion}
use Rattle.business.specs.BusinessDays.{day_no}
use Rattle.business.specs.declared.business_day.BusinessDay.{BusinessDay}
use Rattle.judging.specs.Lines.{notice_told}
use Rattle.refusals.specs.Words.{parts_of}
use Rattle.refusals.specs.declared.refusal.Refusal.{Refusal}
use Rattle.rows.specs.Blank.{IsBlank}
use Rattle.rows.specs.declared.notice.Notice.{Notice}
use Rattle.rows.specs.declared.row.Row.{Row}
use Rattle.rows.specs.declared.row.Fate.TheVariants.{Open}
use Rattle.rules.specs.Books.{Answer, Gives, InOrder, close, closed, refused}
use Rattle.rules.specs.Judging.{Close}
use Rattle.rules.specs.Slices.{book_of, room}
use Rattle.sheets.specs.Sheets.{Meaning}
use Rattle.closing.specs.declared.table_close.Closed.{Closed}

abbrev pub close_answer : Result Closed Refusal → List Notice → Answer
close_answer (Err refusal) zs = refused (parts_of refusal)
close_answer (Ok c) zs = closed (map notice_told (take c.notices zs)) c.pairs (day_no c.next_day)

abbrev pub day_after : BusinessDay → Result Closed Refusal → BusinessDay
day_after today (Err refusal) = today
day_after today (Ok c) = c.next_day

abbrev pub used_after : ℕ → Result Closed Refusal → ℕ
used_after used (Err refusal) = used
used_after used (Ok c) = c.used

-- the rows that stay come first, and none keeps what this close found of it; blanks take the places behind them. The rest of
-- the table and of the places for notices is as it was, and there are no more notices than places.
pub record LeavesRest (used : ℕ) (xs ys : List Row) (ws zs : List Notice) (c : Closed) : Type 0 where
  pub count : length ys ≡ length xs
  pub few : c.used ≤ used
  pub fates : AllByRecursion (λ (row : Row). row.fate ≡ Open) (take c.used ys)
  pub blank : Row
  pub is_blank : IsBlank blank
  pub behind : drop c.used ys ≡ replicate (used - c.used) blank ++ drop used xs
  pub sent : c.notices ≤ length ws
  pub places : length zs ≡ length ws
  pub unused : drop c.notices zs ≡ drop c.notices ws

-- a refused close leaves everything as it was
abbrev pub CloseFrame : ℕ → List Row → List Row → List Notice → List Notice → Result Closed Refusal → Type 0
CloseFrame used xs ys ws zs (Err refusal) = (ys ≡ xs) × (zs ≡ ws)
CloseFrame used xs ys ws zs (Ok c) = LeavesRest (min used (room xs)) xs ys ws zs c

-- a close of the rows xs, of which so many are used, with this register, this list and the places ws for notices
pub record Closes (sheet : Meaning) (c : Close) (today : BusinessDay) (used : ℕ) (xs ys : List Row) (ws zs : List Notice) (result : Result Closed Refusal) : Type 0 where
  pub gives : InOrder (book_of today used xs).entries → Gives sheet (book_of today used xs) (close c) (close_answer result zs) (book_of (day_after today result) (used_after used result) ys)
  pub frame : CloseFrame used xs ys ws zs result
