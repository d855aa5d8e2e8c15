use Rattle.std.proofs.Common.{◌≡◌, [], vec_items}
use Rattle.recon.proofs.source.Files.next_line.Given as goal

-- nothing is read yet
abbrev pub invariant-loop : goal.invariant-loop
invariant-loop l = vec_items l.line ≡ []
