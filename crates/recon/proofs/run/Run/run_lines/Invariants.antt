use Rattle.verbs.specs.Shelves.{Lawful}
use Rattle.recon.proofs.run.Run.run_lines.Given as goal

-- the book runs under its own sheet
abbrev pub invariant-lines : goal.invariant-lines
invariant-lines g l = Lawful l.shelf
