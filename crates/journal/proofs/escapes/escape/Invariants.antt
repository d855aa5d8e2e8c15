use Rattle.std.proofs.Common.{◌≡◌, take, string_bytes}
use Rattle.journal.specs.Escapes.{escaped}
use Rattle.journal.proofs.escapes.escape.Given as goal

abbrev pub invariant-loop-byte : goal.invariant-loop-byte
invariant-loop-byte l = string_bytes l.out ≡ escaped (take l.byte-index l.bytes)
