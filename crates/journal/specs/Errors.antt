-- What keeps a word from being read, and the words that tell it.
use Rattle.std.specs.Prelude.{ℕ, List, ◌++◌, codes, string_bytes}
use Rattle.journal.specs.declared.escapes.WordError.{WordError}
use Rattle.journal.specs.declared.escapes.WordError.TheVariants.{BadEscape, OutOfMemory}
use Rattle.journal.specs.declared.escapes.DecodeError.{DecodeError}
use Rattle.journal.specs.declared.escapes.DecodeError.TheVariants.{BadEscape as NoBytes, OutOfMemory as NoMemory}

-- a fact that holds if an escape is at fault, and not if memory ran out
abbrev pub IfBadEscape : WordError → Type 0 → Type 0
IfBadEscape (BadEscape word) P = P
IfBadEscape (OutOfMemory error) P = Unit {0}

-- the same of one word's bytes
abbrev pub IfNoBytes : DecodeError → Type 0 → Type 0
IfNoBytes NoBytes P = P
IfNoBytes (NoMemory error) P = Unit {0}

abbrev pub error_text : WordError → List ℕ
error_text (BadEscape word) = codes "bad escape in " ++ string_bytes word
error_text (OutOfMemory error) = codes "out of memory"

abbrev pub decode_error_text : DecodeError → List ℕ
decode_error_text NoBytes = codes "bad escape"
decode_error_text (NoMemory error) = codes "out of memory"
