-- What keeps a line of a journal from being answered, and the words that tell it.
use Rattle.std.specs.Prelude.{ℕ, List, ◌++◌, codes, decimal, string_bytes}
use Rattle.journal.specs.declared.escapes.WordError.{WordError}
use Rattle.journal.specs.declared.escapes.WordError.TheVariants.{BadEscape as BadWord, OutOfMemory as WordOutOfMemory}
use Rattle.slip_words.specs.Faults.{error_text}
use Rattle.slip_words.specs.declared.fault.SlipWordError.{SlipWordError}
use Rattle.slip_words.specs.declared.fault.SlipWordError.TheVariants.{OutOfMemory as WordsOutOfMemory}
use Rattle.verbs.specs.Verbs.{taken_text, verb_text}
use Rattle.verbs.specs.declared.fault.Fault.{Fault}
use Rattle.verbs.specs.declared.fault.Fault.TheVariants.{NoVerb, UnknownVerb, WordCount, BadEscape, BadHex, BadNumber, NoSlip, NoBook, OutOfMemory}

abbrev pub fault_of : WordError → Fault
fault_of (BadWord word) = BadEscape word
fault_of (WordOutOfMemory error) = OutOfMemory error

abbrev pub fault_of_words : SlipWordError → Fault
fault_of_words (WordsOutOfMemory error) = OutOfMemory error
fault_of_words error = NoSlip error

abbrev pub fault_text : Fault → List ℕ
fault_text NoVerb = codes "no verb"
fault_text (UnknownVerb verb) = codes "unknown verb " ++ string_bytes verb
fault_text (WordCount verb given) = verb_text verb ++ (codes " takes " ++ (taken_text verb ++ (codes ", not " ++ decimal given)))
fault_text (BadEscape text) = codes "bad escape in " ++ string_bytes text
fault_text (BadHex text) = codes "bad hexadecimal in " ++ string_bytes text
fault_text (BadNumber text) = codes "bad number in " ++ string_bytes text
fault_text (NoSlip error) = error_text error
fault_text NoBook = codes "no book is open"
fault_text (OutOfMemory error) = codes "out of memory"

-- a fact that holds if the line is no call, and not if memory ran out
abbrev pub IfNoCall : Fault → Type 0 → Type 0
IfNoCall NoVerb P = P
IfNoCall (UnknownVerb verb) P = P
IfNoCall (WordCount verb given) P = P
IfNoCall (BadEscape text) P = P
IfNoCall (BadHex text) P = P
IfNoCall (BadNumber text) P = P
IfNoCall (NoSlip error) P = P
IfNoCall NoBook P = P
IfNoCall (OutOfMemory error) P = Unit {0}
