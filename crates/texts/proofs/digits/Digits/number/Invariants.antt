use Rattle.std.proofs.Common.{◌≡◌, ◌^◌, ◌<◌, take}
use Rattle.std.specs.Str.Parse.{digits_value}
use Rattle.texts.proofs.digits.Digits.number.Given as goal

abbrev pub invariant-loop-d : goal.invariant-loop-d
invariant-loop-d l = (l.n ≡ digits_value 10 (take l.d-index l.self.bytes.now)) × (l.n < 10 ^ l.d-index)
