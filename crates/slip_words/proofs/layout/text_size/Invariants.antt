use Rattle.std.proofs.Common.{◌≡◌, ◌≤◌, ◌+◌, map, drop}
use Rattle.slip_words.specs.Spelled.{text_size}
use Rattle.slip_words.specs.Tagged.{tagged}
use Rattle.slip_words.proofs.layout.text_size.Given as goal

abbrev pub invariant-loop-field : goal.invariant-loop-field
invariant-loop-field l = (l.size ≤ 65535) × (l.size + text_size (map tagged (drop l.field-index l.fields)) ≡ text_size (map tagged l.fields))
