-- The verbs of a journal: the word of each, and the words that it takes.
use Rattle.std.specs.Prelude.{ℕ, cond, List, Some, None, codes, Option}
use Rattle.std.specs.Str.{bytes_eq}
use Rattle.amount_words.specs.Outcomes.{check_text}
use Rattle.amount_words.specs.declared.comparison.AmountCheck.TheVariants.{Price, Notional}
use Rattle.verbs.specs.declared.verb.Verb.{Verb}
use Rattle.verbs.specs.declared.verb.Verb.TheVariants.{Close, Compare, CompareSlips, Countries, Day, Lookup, Open, Register, Report, Rows, Sheet, Slip, Write}

abbrev pub verb_text : Verb → List ℕ
verb_text (Compare check) = check_text check
verb_text Day = codes "day"
verb_text Slip = codes "slip"
verb_text Write = codes "write"
verb_text Sheet = codes "sheet"
verb_text CompareSlips = codes "compare"
verb_text Open = codes "open"
verb_text Register = codes "register"
verb_text Countries = codes "countries"
verb_text Report = codes "report"
verb_text Close = codes "close"
verb_text Lookup = codes "lookup"
verb_text Rows = codes "rows"

-- the verb that a word names
abbrev pub verb_named : List ℕ → Option Verb
verb_named word =
    cond (bytes_eq word (codes "price")) (Some (Compare Price))
    (cond (bytes_eq word (codes "notional")) (Some (Compare Notional))
    (cond (bytes_eq word (codes "day")) (Some Day)
    (cond (bytes_eq word (codes "slip")) (Some Slip)
    (cond (bytes_eq word (codes "write")) (Some Write)
    (cond (bytes_eq word (codes "sheet")) (Some Sheet)
    (cond (bytes_eq word (codes "compare")) (Some CompareSlips)
    (cond (bytes_eq word (codes "open")) (Some Open)
    (cond (bytes_eq word (codes "register")) (Some Register)
    (cond (bytes_eq word (codes "countries")) (Some Countries)
    (cond (bytes_eq word (codes "report")) (Some Report)
    (cond (bytes_eq word (codes "close")) (Some Close)
    (cond (bytes_eq word (codes "lookup")) (Some Lookup)
    (cond (bytes_eq word (codes "rows")) (Some Rows) None)))))))))))))

-- how many words stand behind a verb, as it is told
abbrev pub taken_text : Verb → List ℕ
taken_text (Compare check) = codes "2 words"
taken_text Day = codes "1 word"
taken_text Slip = codes "1 word"
taken_text Write = codes "the words of a slip"
taken_text Sheet = codes "1 word"
taken_text CompareSlips = codes "2 words"
taken_text Open = codes "1 or 2 words"
taken_text Register = codes "any words"
taken_text Countries = codes "any words"
taken_text Report = codes "the words of a slip"
taken_text Close = codes "1 word at most"
taken_text Lookup = codes "3 words"
taken_text Rows = codes "no word"
