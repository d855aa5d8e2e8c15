-- A run of a journal: which line comes next, and whether every line so far was a call.
use Rattle.std.specs.Prelude.{◌≡◌, ℕ, Bool, true, false, List, ◌++◌, Some, None, codes, decimal, Option}
use Rattle.verbs.specs.Answers.{Said, Says, nothing, text, compared, reported, shut, looked, no_call}

-- a line that is no call spoils the run's status
abbrev pub is_call : Said → Bool
is_call nothing = true
is_call (text t) = true
is_call (compared sheet first second) = true
is_call (reported bytes old new) = true
is_call (shut sheet c old new) = true
is_call (looked b trade reporter other) = true
is_call no_call = false

-- an answer is printed behind the line's number
abbrev pub PrintsAnswer : ℕ → Said → Option (List ℕ) → Type 0
PrintsAnswer n said printed = (t : List ℕ) × ((printed ≡ Some (decimal n ++ (codes ": " ++ t))) × Says said t)

-- what is printed of the line with number n
abbrev pub Prints : ℕ → Said → Option (List ℕ) → Type 0
Prints n nothing printed = printed ≡ None
Prints n (text t) printed = printed ≡ Some (decimal n ++ (codes ": " ++ t))
Prints n (compared sheet first second) printed = PrintsAnswer n (compared sheet first second) printed
Prints n (reported bytes old new) printed = PrintsAnswer n (reported bytes old new) printed
Prints n (shut sheet c old new) printed = PrintsAnswer n (shut sheet c old new) printed
Prints n (looked b trade reporter other) printed = PrintsAnswer n (looked b trade reporter other) printed
Prints n no_call printed = (fault : List ℕ) × (printed ≡ Some (decimal n ++ (codes ": ? " ++ fault)))
