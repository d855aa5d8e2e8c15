use Rattle.std.proofs.Common.{◌≡◌, ◌++◌, drop, string_bytes}
use Rattle.listings.specs.Compared.{findings_text}
use Rattle.listings.proofs.comparing.push_findings.Given as goal

abbrev pub invariant-loop-finding : goal.invariant-loop-finding
invariant-loop-finding l = string_bytes l.out ++ findings_text (drop l.finding-index l.findings) ≡ string_bytes l.fn.out ++ findings_text l.findings
