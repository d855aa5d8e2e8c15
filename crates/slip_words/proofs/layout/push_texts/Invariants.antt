use Rattle.std.proofs.Common.{◌≡◌, ◌++◌, map, drop, vec_items}
use Rattle.std.specs.List.{concat}
use Rattle.slip_words.specs.Tagged.{tagged}
use Rattle.slip_words.proofs.layout.push_texts.Given as goal

abbrev pub invariant-loop-field : goal.invariant-loop-field
invariant-loop-field l = vec_items l.bytes ++ concat (map (λ t. t.text) (map tagged (drop l.field-index l.fields))) ≡ vec_items l.initial.bytes ++ concat (map (λ t. t.text) (map tagged l.fields))
