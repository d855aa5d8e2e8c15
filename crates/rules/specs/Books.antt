-- A book, and what reports, closes and lookups answer and leave.
use Rattle.std.specs.Prelude.{◌≡◌, ℕ, min, Bool, ◌&&◌, if◌then◌else◌, List, [], ◌∷◌, map, length, Some, None, Option, Ok, Err, Result, nat_le}
use Rattle.std.specs.List.{count_by, filter_map, find}
use Rattle.std.specs.Ordering.{match_ordering}
use Rattle.std.specs.Str.{bytes_eq}
use Rattle.business.specs.TargetDays.{next_business}
use Rattle.refusals.specs.Words.{RefusalParts, parts_of}
use Rattle.refusals.specs.declared.refusal.Refusal.{Refusal}
use Rattle.refusals.specs.declared.refusal.Refusal.TheVariants.{BookFull, CalendarEnds, DatedAhead, NoticeListShort, RegisterDisordered, SameParty, UnknownTrade}
use Rattle.report.specs.declared.report.Report.{Report}
use Rattle.sheets.specs.Sheets.{Meaning}
use Rattle.table.specs.Order.{Ascending}
use Rattle.rows.specs.Days.{ahead}
use Rattle.rows.specs.Entries.{Entry, amended, entered}
use Rattle.rows.specs.Keys.{Key, key_in, key_order, same_key}
use Rattle.rows.specs.Standings.{enters, taken}
use Rattle.rows.specs.declared.standing.Standing.{Standing}
use Rattle.rows.specs.Words.{Shown}
use Rattle.rules.specs.Judging.{Close, Notice, entry_after, notice_of, shown, takes_up}
use Rattle.rules.specs.Lists.{in_order}

pub record Book : Type 0 where
  -- the current day
  pub day : ℕ
  -- how many rows it may use
  pub size : ℕ
  -- one for each row in use, by their keys
  pub entries : List Entry

-- ---- entries by their keys

abbrev pub entry_at : Key → List Entry → Option Entry
entry_at k entries = find (λ e. same_key k e.key) entries

-- an entry put at its place, instead of the one that has its key
abbrev pub put : Entry → List Entry → List Entry
put e [] = e ∷ []
put e (x ∷ xs) = match_ordering (key_order e.key x.key) (e ∷ (x ∷ xs)) (e ∷ xs) (x ∷ put e xs)

-- the entries ascend strictly by their keys
abbrev pub InOrder : List Entry → Type 0
InOrder entries = Ascending key_order (map (λ (e : Entry). e.key) entries)

abbrev pub is_full : Book → Bool
is_full b = nat_le b.size (length b.entries)

-- ---- reports

-- what becomes of a report whose key is new
abbrev pub at_new_key : Bool → ℕ → Report → Option Standing → Result Entry Refusal
at_new_key full today r None = Err UnknownTrade
at_new_key full today r (Some standing) = if full then Err BookFull else Ok (entered today r standing)

-- and of one whose key has an entry: by what its action comes to there
abbrev pub at_entry : Entry → Report → Result Standing Refusal → Result Entry Refusal
at_entry e r (Err refusal) = Err refusal
at_entry e r (Ok standing) = Ok (amended e r standing)

abbrev pub at_key : Bool → ℕ → Option Entry → Report → Result Entry Refusal
at_key full today None r = at_new_key full today r (enters r.action)
at_key full today (Some e) r = at_entry e r (taken e.standing r.action)

abbrev pub same_party : Key → Bool
same_party k = bytes_eq k.reporter k.other

-- what an accepted report leaves at its key, or its refusal: by the entry of that key, by the day, and by whether the
-- book is full
abbrev pub judged_report : Bool → ℕ → Option Entry → Report → Result Entry Refusal
judged_report full today old r =
    if same_party (key_in r.parties) then Err SameParty
    else if ahead today r then Err DatedAhead
    else at_key full today old r

-- a slip is what reading it answers: a report, or its refusal
abbrev pub Slip : Type 0
Slip = Result Report Refusal

abbrev pub received : Book → Slip → Result Entry Refusal
received b (Err refusal) = Err refusal
received b (Ok r) = judged_report (is_full b) b.day (entry_at (key_in r.parties) b.entries) r

-- ---- closes

abbrev pub next_or_end : Option ℕ → Result ℕ Refusal
next_or_end None = Err CalendarEnds
next_or_end (Some day) = Ok day

-- the next day of the book, or why it cannot be closed
abbrev pub may_close : Book → Close → Result ℕ Refusal
may_close b c =
    if in_order c.parties && in_order c.countries then
    if nat_le (length b.entries) c.places then next_or_end (next_business b.day)
    else Err NoticeListShort
    else Err RegisterDisordered

-- ---- calls

pub data Call : Type 0 where
  report : Slip → Call
  close : Close → Call
  -- a key, or how the texts that were to name one are refused
  lookup : Result Key RefusalParts → Call

-- answers as they are told: refusals by number, words and tag, states by their words, findings by their numbers
pub data Answer : Type 0 where
  refused : RefusalParts → Answer
  accepted : Answer
  -- the notices, how many pairs were taken up, and the next day
  closed : List Notice → ℕ → ℕ → Answer
  shows : Shown → Answer

abbrev pub report_answer : Result Entry Refusal → Answer
report_answer (Err refusal) = refused (parts_of refusal)
report_answer (Ok e) = accepted

abbrev pub close_answer : Meaning → Book → Close → Result ℕ Refusal → Answer
close_answer sheet b c (Err refusal) = refused (parts_of refusal)
close_answer sheet b c (Ok day) = closed (filter_map (notice_of sheet c b.day b.entries) b.entries) (count_by (takes_up c b.day b.entries) b.entries) day

abbrev pub shown_answer : Option Entry → Answer
shown_answer None = refused (parts_of UnknownTrade)
shown_answer (Some e) = shows (shown e)

abbrev pub lookup_answer : Book → Result Key RefusalParts → Answer
lookup_answer b (Err refusal) = refused refusal
lookup_answer b (Ok k) = shown_answer (entry_at k b.entries)

abbrev pub answer : Meaning → Book → Call → Answer
answer sheet b (report s) = report_answer (received b s)
answer sheet b (close c) = close_answer sheet b c (may_close b c)
answer sheet b (lookup q) = lookup_answer b q

abbrev pub after_report : Book → Result Entry Refusal → Book
after_report b (Err refusal) = b
after_report b (Ok e) = record { day = b.day; size = b.size; entries = put e b.entries }

abbrev pub after_close : Meaning → Book → Close → Result ℕ Refusal → Book
after_close sheet b c (Err refusal) = b
after_close sheet b c (Ok day) = record { day = day; size = b.size; entries = filter_map (entry_after sheet c b.day b.entries) b.entries }

-- the book that a call leaves
abbrev pub leaves : Meaning → Book → Call → Book
leaves sheet b (report s) = after_report b (received b s)
leaves sheet b (close c) = after_close sheet b c (may_close b c)
leaves sheet b (lookup q) = b

-- what a call on a book answers and leaves
pub record Gives (sheet : Meaning) (b : Book) (c : Call) (a : Answer) (left : Book) : Type 0 where
  pub answers : answer sheet b c ≡ a
  pub leaving : leaves sheet b c ≡ left

-- ---- runs

-- how a book begins: the sheet of all its closes, the opening day, and how many rows the host lends
pub record Opening : Type 0 where
  pub sheet : Meaning
  pub day : ℕ
  pub rows : ℕ

abbrev pub opened : Opening → Book
opened o = record { day = o.day; size = min o.rows 4096; entries = [] }

-- the book after a history: the calls since the opening, the newest first
abbrev pub after : Opening → List Call → Book
after o [] = opened o
after o (c ∷ h) = leaves o.sheet (after o h) c

abbrev pub answer_to : Opening → List Call → Call → Answer
answer_to o h c = answer o.sheet (after o h) c

-- the calls of a history with their answers
abbrev pub told : Opening → List Call → List (Call × Answer)
told o [] = []
told o (c ∷ h) = (c, answer_to o h c) ∷ told o h
