-- The program's own lists, as texts.
use Rattle.std.specs.Prelude.{ℕ, List, [], ◌∷◌, ◌++◌, length, codes, decimal, Ok, Err, Result}
use Rattle.codes.specs.Alphabets.{Letters}
use Rattle.codes.specs.Hosts.{field_of}
use Rattle.codes.specs.Values.{capitals, capitals_and_digits}
use Rattle.refusals.specs.Words.{RefusalParts, refusal_text}
use Rattle.refusals.specs.declared.tag.Tag.{Tag}
use Rattle.refusals.specs.declared.tag.Tag.TheVariants.{ReportingCounterparty, OtherCountry}

abbrev pub before_all : Result (List ℕ) RefusalParts → Result (List (List ℕ)) RefusalParts → Result (List (List ℕ)) RefusalParts
before_all (Err refusal) texts = Err refusal
before_all (Ok text) (Err refusal) = Err refusal
before_all (Ok text) (Ok texts) = Ok (text ∷ texts)

-- words as codes of one rule, or the refusal of the first that breaks it
abbrev pub codes_read : Letters → ℕ → ℕ → Tag → List (List ℕ) → Result (List (List ℕ)) RefusalParts
codes_read alphabet least most tag [] = Ok []
codes_read alphabet least most tag (word ∷ words) = before_all (field_of alphabet least most tag word) (codes_read alphabet least most tag words)

abbrev pub parties_read : List (List ℕ) → Result (List (List ℕ)) RefusalParts
parties_read words = codes_read capitals_and_digits 20 20 ReportingCounterparty words

abbrev pub countries_read : List (List ℕ) → Result (List (List ℕ)) RefusalParts
countries_read words = codes_read capitals 2 2 OtherCountry words

-- a list after words, by what they are read as: none at all empty it, and a bad one keeps all from being added
abbrev pub list_after : List (List ℕ) → List (List ℕ) → Result (List (List ℕ)) RefusalParts → List (List ℕ)
list_after now [] read = []
list_after now (word ∷ words) (Ok texts) = now ++ texts
list_after now (word ∷ words) (Err refusal) = now

-- how many entries there are then, or the refusal
abbrev pub list_text : List (List ℕ) → List (List ℕ) → Result (List (List ℕ)) RefusalParts → List ℕ
list_text now words (Ok texts) = decimal (length (list_after now words (Ok texts))) ++ codes " entries"
list_text now words (Err refusal) = refusal_text refusal
