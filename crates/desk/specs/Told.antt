-- What is told of the calls on a book, and what they leave.
use Rattle.std.specs.Prelude.{◌≡◌, ℕ, List, ◌++◌, codes, decimal, length, map, Result, ⊤}
use Rattle.std.specs.List.{concat}
use Rattle.calendar.specs.Text.{date_text}
use Rattle.refusals.specs.Words.{refusal_text}
use Rattle.refusals.specs.declared.refusal.Refusal.{Refusal}
use Rattle.rows.specs.declared.notice.Notice.{Notice as Place}
use Rattle.rows.specs.declared.state.State.{State}
use Rattle.rules.specs.Books.{Answer, accepted, closed, refused, shows}
use Rattle.rules.specs.Judging.{Close, Notice}
use Rattle.sheets.specs.Sheets.{Meaning}
use Rattle.sheets.specs.declared.finding.Finding.{Finding}
use Rattle.business.specs.declared.business_day.BusinessDay.{BusinessDay}
use Rattle.intake.specs.Intake.{report_answer}
use Rattle.book.specs.Calls.{Closes, Looks, Reports, close_answer, look_answer, seen}
use Rattle.book.specs.declared.book.Book.{Book}
use Rattle.book_texts.specs.Lines.{rows_text, shown_text, told_line}

-- a line for each notice
abbrev pub lines_text : List Notice → List ℕ
lines_text notices = concat (map (λ n. told_line n.key n.says) notices)

-- what is told of an answer
abbrev pub answer_text : Answer → List ℕ
answer_text (refused told) = refusal_text told
answer_text accepted = codes "accepted"
answer_text (closed notices pairs day) = decimal (length notices) ++ (codes " notices, " ++ (decimal pairs ++ (codes " pairs taken up, next day " ++ (date_text day ++ lines_text notices))))
answer_text (shows s) = shown_text s

-- the report that a slip's bytes are was taken or refused, and that is told
abbrev pub TellsReport : List ℕ → Book → Book → List ℕ → Type 0
TellsReport bytes old new text = (result : Result ⊤ Refusal) × (Reports bytes old new result × (text ≡ answer_text (report_answer result)))

-- the day was closed, or that was refused, and it is told; ws and zs are the places for notices before and after
abbrev pub TellsClose : Meaning → Close → Book → Book → List ℕ → Type 0
TellsClose sheet c old new text = (ws : List Place) × (zs : List Place) × (result : Result (ℕ × ℕ × BusinessDay) Refusal) × (Closes sheet c old new ws zs result × (text ≡ answer_text (close_answer result zs)))

-- a row was looked up by the key that three texts name, and what it shows is told
abbrev pub TellsLookup : Book → List ℕ → List ℕ → List ℕ → List ℕ → Type 0
TellsLookup b trade reporter other text = (f : List Finding) × (g : List Finding) × (result : Result State Refusal) × (Looks b trade reporter other f g result × (text ≡ answer_text (look_answer result g)))

-- how many rows are used, and each of them
abbrev pub used_text : Book → List ℕ
used_text b = rows_text (seen b).entries
