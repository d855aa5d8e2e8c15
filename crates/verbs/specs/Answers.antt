-- What each line of a journal is answered.
use Rattle.std.specs.Prelude.{◌≡◌, MatchOption, ℕ, min, Bool, cond, ◌||◌, if◌then◌else◌, List, [], ◌∷◌, ◌++◌, length, Some, None, string_bytes, codes, Option, Result, Ok, Err, String, ◌==◌, slice_index}
use Rattle.std.specs.declared.alloc.Global.{Global}
use Rattle.almanac.specs.Days.{facts_text}
use Rattle.calendar.specs.Text.{date_of}
use Rattle.hex.specs.Hex.{decode_of}
use Rattle.hex.specs.declared.error.FromHexError.{FromHexError}
use Rattle.journal.specs.Lines.{first_word}
use Rattle.journal.specs.Words.{decoded_all, words_of}
use Rattle.built_sheets.specs.Chosen.{chosen}
use Rattle.built_sheets.specs.Rules.{is_tabled}
use Rattle.listings.specs.Compared.{TellsCompared}
use Rattle.refusals.specs.Words.{parts_of, refusal_text}
use Rattle.refusals.specs.declared.refusal.Refusal.TheVariants.{BadSheet}
use Rattle.sheets.specs.Sheets.{Meaning}
use Rattle.std.specs.Str.{bytes_eq}
use Rattle.listings.specs.Rewritten.{rewritten_text}
use Rattle.listings.specs.Slips.{slip_text}
use Rattle.slip.specs.Layout.{fields_in}
use Rattle.slip_words.specs.Spelled.{slip_spelled}
use Rattle.amount_words.specs.Outcomes.{pair_text}
use Rattle.book.specs.declared.book.Book.{Book}
use Rattle.desk.specs.Lists.{countries_read, list_text, parties_read}
use Rattle.desk.specs.Numbers.{number_spelled}
use Rattle.desk.specs.Openings.{opening_read, opening_text}
use Rattle.desk.specs.Told.{TellsClose, TellsLookup, TellsReport, used_text}
use Rattle.rules.specs.Judging.{Close}
use Rattle.verbs.specs.Settings.{Setting}
use Rattle.verbs.specs.Shelves.{IfOpen, SameSheet}
use Rattle.verbs.specs.declared.shelf.Shelf.{Shelf}
use Rattle.verbs.specs.declared.shelf.Shelf.TheVariants.{Empty, Holds}
use Rattle.verbs.specs.Words.{places_given}
use Rattle.verbs.specs.Verbs.{verb_named}
use Rattle.amount_words.specs.declared.comparison.AmountCheck.{AmountCheck}
use Rattle.verbs.specs.declared.verb.Verb.{Verb}
use Rattle.verbs.specs.declared.verb.Verb.TheVariants.{Close as Closing, Compare, CompareSlips, Countries, Day, Lookup, Open, Register, Report, Rows, Sheet, Slip, Write}

-- nothing, a text, what two slips under a sheet come to, what a report, a close or a lookup comes to by the book before and
-- after it, or that the line is no call, whose words are free
pub data Said : Type 0 where
  nothing : Said
  text : List ℕ → Said
  compared : Meaning → List ℕ → List ℕ → Said
  reported : List ℕ → Book → Shelf → Said
  shut : Meaning → Close → Book → Shelf → Said
  looked : Book → List ℕ → List ℕ → List ℕ → Said
  no_call : Said

-- the text is what was to be said
abbrev pub Says : Said → List ℕ → Type 0
Says nothing answer = ⊥
Says (text t) answer = answer ≡ t
Says (compared sheet first second) answer = (told : List ℕ) × ((answer ≡ codes "compare " ++ told) × TellsCompared sheet first second told)
Says (reported bytes old new) answer = IfOpen new (λ b. (told : List ℕ) × ((answer ≡ codes "report " ++ told) × TellsReport bytes old b.book told))
Says (shut sheet c old new) answer = IfOpen new (λ b. (told : List ℕ) × ((answer ≡ codes "close " ++ told) × TellsClose sheet c old b.book told))
Says (looked b trade reporter other) answer = (told : List ℕ) × ((answer ≡ codes "lookup " ++ told) × TellsLookup b trade reporter other told)
Says no_call answer = ⊥

-- so is an answer, or none where a line is passed over
abbrev pub SaysOrPasses : Said → Option (String Global) → Type 0
SaysOrPasses nothing answer = answer ≡ None
SaysOrPasses (text t) answer = MatchOption answer ⊥ (λ s. Says (text t) (string_bytes s))
SaysOrPasses (compared sheet first second) answer = MatchOption answer ⊥ (λ s. Says (compared sheet first second) (string_bytes s))
SaysOrPasses (reported bytes old new) answer = MatchOption answer ⊥ (λ s. Says (reported bytes old new) (string_bytes s))
SaysOrPasses (shut sheet c old new) answer = MatchOption answer ⊥ (λ s. Says (shut sheet c old new) (string_bytes s))
SaysOrPasses (looked b trade reporter other) answer = MatchOption answer ⊥ (λ s. Says (looked b trade reporter other) (string_bytes s))
SaysOrPasses no_call answer = ⊥

-- only reports and closes leave another book, and none another sheet of it
abbrev pub Keeps : Said → Shelf → Shelf → Type 0
Keeps nothing old new = new ≡ old
Keeps (text t) old new = new ≡ old
Keeps (compared sheet first second) old new = new ≡ old
Keeps (reported bytes b c) old new = SameSheet old new
Keeps (shut sheet lists b c) old new = SameSheet old new
Keeps (looked b trade reporter other) old new = new ≡ old
Keeps no_call old new = new ≡ old

-- a blank line, or one whose first word begins with '#'
abbrev pub passed_over : List ℕ → Bool
passed_over word = length word == 0 || slice_index word 0 == 35

-- what is told of the day that a word names
abbrev pub day_text : List ℕ → List ℕ
day_text word = codes "day " ++ facts_text (date_of word)

-- the fields of the slip that a word spells in hexadecimal digits; a word that spells no bytes is no call
abbrev pub slip_said : Result (List ℕ) FromHexError → Said
slip_said (Ok bytes) = text (codes "slip " ++ slip_text (fields_in bytes))
slip_said (Err e) = no_call

-- the report of the slip that words spell, as it is written again; words that spell no slip are no call
abbrev pub write_said : Option (List ℕ) → Said
write_said None = no_call
write_said (Some bytes) = text (codes "write " ++ rewritten_text bytes)

-- what is told of the sheet that bytes are
abbrev pub client_sheet_said : Result (List ℕ) FromHexError → Said
client_sheet_said (Ok bytes) = text (codes "sheet " ++ (if is_tabled bytes then codes "tabled" else refusal_text (parts_of BadSheet)))
client_sheet_said (Err e) = no_call

-- what is told of the sheet that a word names: the published one, or a client's by its bytes
abbrev pub sheet_said : List ℕ → Said
sheet_said word = if bytes_eq word (codes "kdpw") then text (codes "sheet kdpw") else client_sheet_said (decode_of word)

-- what two slips under a sheet come to; words that spell no bytes are no call
abbrev pub slips_said : Meaning → Result (List ℕ) FromHexError → Result (List ℕ) FromHexError → Said
slips_said sheet (Err e) second = no_call
slips_said sheet (Ok a) (Err e) = no_call
slips_said sheet (Ok a) (Ok b) = compared sheet a b

-- the answer to the words behind each verb; a line with too few words or too many is no call
abbrev pub pair_answer : AmountCheck → List (List ℕ) → Said
pair_answer check (a ∷ b ∷ []) = text (pair_text check a b)
pair_answer check words = no_call

abbrev pub day_answer : List (List ℕ) → Said
day_answer (word ∷ []) = text (day_text word)
day_answer words = no_call

abbrev pub slip_answer : List (List ℕ) → Said
slip_answer (word ∷ []) = slip_said (decode_of word)
slip_answer words = no_call

abbrev pub write_answer : List (List ℕ) → Said
write_answer words = write_said (slip_spelled words)

abbrev pub sheet_answer : List (List ℕ) → Said
sheet_answer (word ∷ []) = sheet_said word
sheet_answer words = no_call

abbrev pub compare_answer : Meaning → List (List ℕ) → Said
compare_answer sheet (a ∷ b ∷ []) = slips_said sheet (decode_of a) (decode_of b)
compare_answer sheet words = no_call

-- the answer to words that open a book, empty or add to a list: how many rows the book has is named, or 4,096
abbrev pub sized_said : Option (List ℕ) → List ℕ → Option ℕ → Said
sized_said client day None = no_call
sized_said client day (Some rows) = text (codes "open " ++ opening_text (opening_read client day rows))

abbrev pub open_answer : Option (List ℕ) → List (List ℕ) → Said
open_answer client (day ∷ []) = text (codes "open " ++ opening_text (opening_read client day 4096))
open_answer client (day ∷ rows ∷ []) = sized_said client day (number_spelled rows)
open_answer client words = no_call

abbrev pub register_answer : List (List ℕ) → List (List ℕ) → Said
register_answer now words = text (codes "register " ++ list_text now words (parties_read words))

abbrev pub countries_answer : List (List ℕ) → List (List ℕ) → Said
countries_answer now words = text (codes "countries " ++ list_text now words (countries_read words))

-- the answers to calls on the book; where none is open the line is no call
abbrev pub report_said : Book → Shelf → Option (List ℕ) → Said
report_said old new None = no_call
report_said old new (Some bytes) = reported bytes old new

abbrev pub report_answer : Shelf → Shelf → List (List ℕ) → Said
report_answer Empty new words = no_call
report_answer (Holds old) new words = report_said old.book new (slip_spelled words)

-- the open book is closed under the sheet that it was opened with; it has 4,096 rows at most, so that more places are as
-- good as these
abbrev pub close_said : Meaning → Setting → Book → Shelf → Option ℕ → Said
close_said sheet now old new None = no_call
close_said sheet now old new (Some places) = shut sheet (record { parties = now.parties; countries = now.countries; places = min places 4096 }) old new

abbrev pub close_answer : Setting → Shelf → Shelf → List (List ℕ) → Said
close_answer now Empty new words = no_call
close_answer now (Holds old) new words = close_said (chosen old.sheet) now old.book new (places_given words)

abbrev pub lookup_answer : Shelf → List (List ℕ) → Said
lookup_answer Empty words = no_call
lookup_answer (Holds b) (trade ∷ reporter ∷ other ∷ []) = looked b.book trade reporter other
lookup_answer (Holds b) words = no_call

abbrev pub rows_answer : Shelf → List (List ℕ) → Said
rows_answer Empty words = no_call
rows_answer (Holds b) [] = text (codes "rows " ++ used_text b.book)
rows_answer (Holds b) words = no_call

-- the answer to a verb, under the sheet in force, and by the book before and after the line
unfoldable pub verb_answer : Meaning → Setting → Shelf → Shelf → Verb → List (List ℕ) → Said
verb_answer sheet now old new (Compare check) words = pair_answer check words
verb_answer sheet now old new Day words = day_answer words
verb_answer sheet now old new Slip words = slip_answer words
verb_answer sheet now old new Write words = write_answer words
verb_answer sheet now old new Sheet words = sheet_answer words
verb_answer sheet now old new CompareSlips words = compare_answer sheet words
verb_answer sheet now old new Open words = open_answer now.client words
verb_answer sheet now old new Register words = register_answer now.parties words
verb_answer sheet now old new Countries words = countries_answer now.countries words
verb_answer sheet now old new Report words = report_answer old new words
verb_answer sheet now old new Closing words = close_answer now old new words
verb_answer sheet now old new Lookup words = lookup_answer old words
verb_answer sheet now old new Rows words = rows_answer old words

abbrev pub named_answer : Meaning → Setting → Shelf → Shelf → Option Verb → List (List ℕ) → Said
named_answer sheet now old new None words = no_call
named_answer sheet now old new (Some verb) words = verb_answer sheet now old new verb words

abbrev pub call_answer : Meaning → Setting → Shelf → Shelf → Option (List (List ℕ)) → Said
call_answer sheet now old new None = no_call
call_answer sheet now old new (Some []) = no_call
call_answer sheet now old new (Some (verb ∷ words)) = named_answer sheet now old new (verb_named verb) words

unfoldable pub answer_of : Meaning → Setting → Shelf → Shelf → List ℕ → Said
answer_of sheet now old new line = cond (passed_over (first_word line)) nothing (call_answer sheet now old new (decoded_all (words_of line)))
