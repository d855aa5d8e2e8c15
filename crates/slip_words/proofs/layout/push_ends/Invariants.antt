use Rattle.std.proofs.Common.{◌≡◌, ◌+◌, ◌≤◌, ◌++◌, map, drop, vec_items}
use Rattle.slip.specs.Layout.{ends_of}
use Rattle.slip.specs.Writing.{set_out}
use Rattle.slip_words.specs.Spelled.{text_size}
use Rattle.slip_words.specs.Tagged.{tagged}
use Rattle.slip_words.proofs.layout.push_ends.Given as goal

abbrev pub invariant-loop-field : goal.invariant-loop-field
invariant-loop-field l =
    let left = map tagged (drop l.field-index l.fields) in
    (l.end + text_size left ≤ 65535) × (vec_items l.bytes ++ ends_of (set_out l.end left) ≡ vec_items l.initial.bytes ++ ends_of (set_out 0 (map tagged l.fields)))
