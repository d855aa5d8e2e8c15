-- The book that stands in a host's rows.
use Rattle.std.specs.Prelude.{ℕ, min, List, map, length, take}
use Rattle.business.specs.BusinessDays.{day_no}
use Rattle.business.specs.declared.business_day.BusinessDay.{BusinessDay}
use Rattle.rows.specs.Entries.{Entry, entry_of}
use Rattle.rows.specs.declared.row.Row.{Row}
use Rattle.rules.specs.Books.{Book}

-- how many rows of a table a book uses at most
abbrev pub room : List Row → ℕ
room rows = min (length rows) 4096

-- the entries of the first rows
abbrev pub entries_of : ℕ → List Row → List Entry
entries_of used rows = map entry_of (take used rows)

-- the book of these rows, of which so many are used
abbrev pub book_of : BusinessDay → ℕ → List Row → Book
book_of day used rows = record { day = day_no day; size = room rows; entries = entries_of (min used (room rows)) rows }
