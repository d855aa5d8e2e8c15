use Rattle.std.proofs.Common.{◌≡◌, length, map, take}
use Rattle.std.specs.List.{range_with_len}
use Rattle.sheets.proofs.comparing.fill.Given as goal

abbrev pub invariant-loop-place : goal.invariant-loop-place
invariant-loop-place g l = (length l.places ≡ length l.fn.places) × (take l.place l.places ≡ map (λ i. (g.S.Sheet.meaning l.sheet).finding i l.first l.second) (range_with_len 0 l.place))
