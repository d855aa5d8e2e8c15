-- Which field a refusal names, by tags.
use Rattle.std.specs.Prelude.{◌≡◌, ℕ, ◌≤◌, Bool, true, false, ◌||◌, List, [], ◌∷◌, codes, Some, None, Option, ◌==◌, nat_le}
use Rattle.std.specs.Str.{byte}
use Rattle.codes.specs.Alphabets.{one_of}
use Rattle.refusals.specs.Words.{tag_number}
use Rattle.refusals.specs.declared.tag.Tag.{Tag}
use Rattle.refusals.specs.declared.tag.Tag.TheVariants.{Action, Level, EligibleDate, Side, ExecutionTimestamp, Valuation}
use Rattle.report.specs.Judging.{Texts, bad}

-- of all fields of which this holds, the one with the least number
pub record Least (number : Tag → ℕ) (Holds : Tag → Type 0) (tag : Tag) : Type 0 where
  pub holds : Holds tag
  pub least : (other : Tag) → Holds other → number tag ≤ number other

-- this holds of no field
abbrev pub NoTag : (Tag → Type 0) → Type 0
NoTag Holds = (tag : Tag) → Holds tag → ⊥

-- whether an action needs a field that not every report needs: N, P, M and R what describes a trade or position, V a
-- valuation, and C, Z and E nothing
abbrev pub needs : ℕ → Tag → Bool
needs action Level = one_of (codes "NPMR") action
needs action EligibleDate = one_of (codes "NPMR") action
needs action Side = one_of (codes "NPMR") action
needs action ExecutionTimestamp = one_of (codes "NPMR") action
needs action Valuation = action == byte "V"
needs action tag = false

abbrev pub told_needs : Option (List ℕ) → Tag → Bool
told_needs (Some (action ∷ [])) tag = needs action tag
told_needs text tag = false

-- whether a report needs a field: every one needs those with the tags from 1 to 6
abbrev pub needed : Texts → Tag → Bool
needed texts tag = nat_le (tag_number tag) 6 || told_needs (texts Action) tag

-- a field that is needed, and not there
abbrev pub Missing : Texts → Tag → Type 0
Missing texts tag = (needed texts tag ≡ true) × (texts tag ≡ None)

-- a field that is there with a text that spells no value of it
abbrev pub Bad : Texts → Tag → Type 0
Bad texts tag = bad texts tag ≡ true

-- in which turn a text is judged: the action before the others, since what is needed hangs on it
abbrev pub turn : Tag → ℕ
turn Action = 0
turn tag = tag_number tag
