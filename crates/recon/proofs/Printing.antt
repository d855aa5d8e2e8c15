-- What is printed of what is to be said.
use Rattle.std.proofs.Common.{◌≡◌, ℕ, Bool, true, false, List, ◌++◌, codes, Some, None, Option, String, string_bytes, refl, ap, ◌∙◌}
use Rattle.std.specs.Prelude.{decimal}
use Rattle.std.specs.declared.alloc.Global.{Global}
use Rattle.verbs.specs.Answers.{Said, SaysOrPasses, nothing, text, compared, reported, shut, looked, no_call}
use Rattle.verbs.specs.Faults.{IfNoCall}
use Rattle.verbs.specs.declared.fault.Fault.{Fault}
use Rattle.verbs.specs.declared.fault.Fault.TheVariants.{NoVerb, UnknownVerb, WordCount, BadEscape, BadHex, BadNumber, NoSlip, NoBook, OutOfMemory}
use Rattle.recon.specs.Runs.{Prints, is_call}

pub prints_none : (n : ℕ) (said : Said) → SaysOrPasses said None → Prints n said None
prints_none n nothing s = refl
prints_none n (text t) s = absurd s
prints_none n (compared sheet first second) s = absurd s
prints_none n (reported bytes old new) s = absurd s
prints_none n (shut sheet c old new) s = absurd s
prints_none n (looked b trade reporter other) s = absurd s
prints_none n no_call s = absurd s

pub prints_some : (n : ℕ) (said : Said) (answer : String Global) (printed : List ℕ) → SaysOrPasses said (Some answer) → printed ≡ decimal n ++ (codes ": " ++ string_bytes answer) → Prints n said (Some printed)
prints_some n nothing answer printed s e = absurd (cc)
prints_some n (text t) answer printed s e = ap Some (e ∙ ap (λ u. decimal n ++ (codes ": " ++ u)) s)
prints_some n (compared sheet first second) answer printed s e = (string_bytes answer, (ap Some e, s))
prints_some n (reported bytes old new) answer printed s e = (string_bytes answer, (ap Some e, s))
prints_some n (shut sheet c old new) answer printed s e = (string_bytes answer, (ap Some e, s))
prints_some n (looked b trade reporter other) answer printed s e = (string_bytes answer, (ap Some e, s))
prints_some n no_call answer printed s e = absurd s

pub is_called : (said : Said) (answer : Option (String Global)) → SaysOrPasses said answer → is_call said ≡ true
is_called nothing answer s = refl
is_called (text t) answer s = refl
is_called (compared sheet first second) answer s = refl
is_called (reported bytes old new) answer s = refl
is_called (shut sheet c old new) answer s = refl
is_called (looked b trade reporter other) answer s = refl
is_called no_call answer s = absurd s

abbrev pub is_memory : Fault → Bool
is_memory NoVerb = false
is_memory (UnknownVerb verb) = false
is_memory (WordCount verb given) = false
is_memory (BadEscape word) = false
is_memory (BadHex word) = false
is_memory (BadNumber word) = false
is_memory (NoSlip error) = false
is_memory NoBook = false
is_memory (OutOfMemory error) = true

-- what holds of a line that is no call
pub at_no_call : (f : Fault) {P : Type 0} → is_memory f ≡ false → IfNoCall f P → P
at_no_call NoVerb e p = p
at_no_call (UnknownVerb verb) e p = p
at_no_call (WordCount verb given) e p = p
at_no_call (BadEscape word) e p = p
at_no_call (BadHex word) e p = p
at_no_call (BadNumber word) e p = p
at_no_call (NoSlip error) e p = p
at_no_call NoBook e p = p
at_no_call (OutOfMemory error) e p = absurd (cc)
