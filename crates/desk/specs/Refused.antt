-- Whether a list was refused, and the words that tell it.
use Rattle.std.specs.Prelude.{ℕ, List, codes}
use Rattle.refusals.specs.Words.{parts_of, refusal_text}
use Rattle.refusals.specs.declared.refusal.Refusal.{Refusal}
use Rattle.desk.specs.declared.lists.ListError.{ListError}
use Rattle.desk.specs.declared.lists.ListError.TheVariants.{OutOfMemory, Refused}

-- a fact about the refusal, if it was not memory that ran out
abbrev pub IfRefused : ListError → (Refusal → Type 0) → Type 0
IfRefused (Refused refusal) P = P refusal
IfRefused (OutOfMemory error) P = Unit {0}

abbrev pub error_text : ListError → List ℕ
error_text (Refused refusal) = refusal_text (parts_of refusal)
error_text (OutOfMemory error) = codes "out of memory"
