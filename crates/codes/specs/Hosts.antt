-- What a host's text is read as, or refused with.
use Rattle.std.specs.Prelude.{ℕ, List, Result}
use Rattle.std.specs.Option.{ok_or}
use Rattle.refusals.specs.declared.tag.Tag.{Tag}
use Rattle.refusals.specs.declared.refusal.Refusal.TheVariants.{BadField}
use Rattle.refusals.specs.Words.{RefusalParts, parts_of}
use Rattle.codes.specs.Alphabets.{Letters}
use Rattle.codes.specs.Rules.{code_of}

-- the text where it keeps the rule, and else a refusal that names the field
abbrev pub field_of : Letters → ℕ → ℕ → Tag → List ℕ → Result (List ℕ) RefusalParts
field_of alphabet least most tag text = ok_or (code_of alphabet least most text) (parts_of (BadField tag))
