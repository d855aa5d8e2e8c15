-- What a line leaves to the lines that follow.
use Rattle.std.specs.Prelude.{ℕ, cond, if◌then◌else◌, List, [], ◌∷◌, Some, None, codes, Option, Result, Ok, Err}
use Rattle.std.specs.Str.{bytes_eq}
use Rattle.built_sheets.specs.Rules.{is_tabled}
use Rattle.desk.specs.Lists.{countries_read, list_after, parties_read}
use Rattle.desk.specs.Numbers.{number_spelled}
use Rattle.desk.specs.Openings.{Opened, opening_read}
use Rattle.hex.specs.Hex.{decode_of}
use Rattle.hex.specs.declared.error.FromHexError.{FromHexError}
use Rattle.journal.specs.Lines.{first_word}
use Rattle.journal.specs.Words.{decoded_all, words_of}
use Rattle.refusals.specs.Words.{RefusalParts}
use Rattle.verbs.specs.Answers.{passed_over}
use Rattle.verbs.specs.Settings.{Setting}
use Rattle.verbs.specs.Verbs.{verb_named}
use Rattle.verbs.specs.declared.verb.Verb.{Verb}
use Rattle.verbs.specs.declared.verb.Verb.TheVariants.{Countries, Open, Register, Sheet}

-- the sheet after the word that names one
abbrev pub after_client : Option (List ℕ) → Result (List ℕ) FromHexError → Option (List ℕ)
after_client now (Ok bytes) = if is_tabled bytes then Some bytes else now
after_client now (Err e) = now

abbrev pub after_word : Option (List ℕ) → List ℕ → Option (List ℕ)
after_word now word = if bytes_eq word (codes "kdpw") then None else after_client now (decode_of word)

abbrev pub sheet_after : Option (List ℕ) → List (List ℕ) → Option (List ℕ)
sheet_after now (word ∷ []) = after_word now word
sheet_after now words = now

-- the book to be opened after the words of an opening, bound to the sheet in force: a refused one asks for none
abbrev pub asked_for : Option Opened → Result Opened RefusalParts → Option Opened
asked_for now (Ok o) = Some o
asked_for now (Err refusal) = now

abbrev pub sized : Option (List ℕ) → Option Opened → List ℕ → Option ℕ → Option Opened
sized client now day None = now
sized client now day (Some rows) = asked_for now (opening_read client day rows)

abbrev pub opening_after : Option (List ℕ) → Option Opened → List (List ℕ) → Option Opened
opening_after client now (day ∷ []) = asked_for now (opening_read client day 4096)
opening_after client now (day ∷ rows ∷ []) = sized client now day (number_spelled rows)
opening_after client now words = now

-- four verbs change what they speak of, and nothing else
unfoldable pub after_verb : Setting → Verb → List (List ℕ) → Setting
after_verb now Sheet words = record now { client = sheet_after now.client words }
after_verb now Register words = record now { parties = list_after now.parties words (parties_read words) }
after_verb now Countries words = record now { countries = list_after now.countries words (countries_read words) }
after_verb now Open words = record now { opening = opening_after now.client now.opening words }
after_verb now verb words = now

abbrev pub after_named : Setting → Option Verb → List (List ℕ) → Setting
after_named now None words = now
after_named now (Some verb) words = after_verb now verb words

abbrev pub after_call : Setting → Option (List (List ℕ)) → Setting
after_call now None = now
after_call now (Some []) = now
after_call now (Some (verb ∷ words)) = after_named now (verb_named verb) words

unfoldable pub after_line : Setting → List ℕ → Setting
after_line now line = cond (passed_over (first_word line)) now (after_call now (decoded_all (words_of line)))
