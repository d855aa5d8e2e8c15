use Rattle.std.proofs.Common.{◌≡◌, ◌++◌, map, drop, vec_items}
use Rattle.slip_words.specs.Tagged.{tagged}
use Rattle.slip_words.proofs.layout.push_tags.Given as goal

abbrev pub invariant-loop-field : goal.invariant-loop-field
invariant-loop-field l = vec_items l.bytes ++ map (λ t. t.tag) (map tagged (drop l.field-index l.fields)) ≡ vec_items l.initial.bytes ++ map (λ t. t.tag) (map tagged l.fields)
