-- Fields that are there.
use Rattle.std.proofs.Common.{◌≡◌, ℕ, true, List, [], ◌∷◌, Some, None, Option, arith}
use Rattle.std.specs.Option.{is_some, option_map}
use Rattle.refusals.specs.declared.tag.Tag.{Tag}
use Rattle.report.specs.Judging.{AllThere, Texts, missing}

-- where none of these fields is missing, all are there
pub none_missing : (texts : Texts) (tags : List Tag) → missing texts tags ≡ None → AllThere texts tags
none_missing texts [] h = tt
none_missing texts (tag ∷ tags) h = grind (arith, none_missing texts tags)

-- a field that is there spells something or nothing
pub spells : {Y : Type 0} (spelled : List ℕ → Option Y) (text : Option (List ℕ)) → is_some text ≡ true → option_map spelled text ≡ None → ⊥
spells spelled None h s = grind arith
spells spelled (Some text) h s = grind arith
