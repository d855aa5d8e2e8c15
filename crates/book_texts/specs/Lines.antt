-- What is told of keys, notices, rows and lookups.
use Rattle.std.specs.Prelude.{◌≡◌, ℕ, List, ◌++◌, codes, decimal, length, map}
use Rattle.std.specs.List.{concat}
use Rattle.almanac.specs.Days.{day_or_never}
use Rattle.journal.specs.Escapes.{escaped}
use Rattle.listings.specs.Compared.{digits_text}
use Rattle.rows.specs.Entries.{Entry}
use Rattle.rows.specs.Keys.{Key, key_of}
use Rattle.rows.specs.Words.{Shown, standing_text, state_text, told}
use Rattle.rows.specs.declared.notice.Notice.{Notice}
use Rattle.book_texts.specs.Positions.{differing_text}

abbrev pub key_text : Key → List ℕ
key_text k = k.trade ++ (codes " " ++ (k.reporter ++ (codes " " ++ k.other)))

-- the texts of a key are printed as they are: nothing in them is to be escaped
abbrev pub Unescaped : Key → Type 0
Unescaped k = (escaped k.trade ≡ k.trade) × ((escaped k.reporter ≡ k.reporter) × (escaped k.other ≡ k.other))

-- the word of a state, and a digit for each finding
abbrev pub shown_text : Shown → List ℕ
shown_text s = s.0 ++ (codes " " ++ digits_text s.1)

-- a line feed, two blanks, and what is told of a key that shows this; the findings that differ are named
abbrev pub told_line : Key → Shown → List ℕ
told_line k s = codes "\n  " ++ (key_text k ++ (codes " " ++ (shown_text s ++ differing_text s.1)))

abbrev pub notice_line : Notice → List ℕ
notice_line n = told_line (key_of n.key) (told n.state n.findings)

abbrev pub notices_text : List Notice → List ℕ
notices_text notices = concat (map notice_line notices)

-- a line feed, two blanks, and what is told of an entry
abbrev pub row_line : Entry → List ℕ
row_line e = codes "\n  " ++ (key_text e.key ++ (codes " " ++ (standing_text e.standing ++ (codes " due " ++ (day_or_never e.due ++ (codes " tries " ++ (decimal e.tries ++ (codes " " ++ state_text e.state))))))))

-- how many entries there are, and a line for each
abbrev pub rows_text : List Entry → List ℕ
rows_text entries = decimal (length entries) ++ concat (map row_line entries)
