use Rattle.std.proofs.Common.{arith}
use Rattle.judging.proofs.Lined.{lei_kind}
use Rattle.judging.proofs.Registered.{known}
use Rattle.rules.specs.Judging.{registered}
use Rattle.judging.proofs.line.is_registered.Goals.{then-eq, else-eq, then-is_party, else-is_party}
use Rattle.judging.proofs.line.is_registered.Goals as goal

pub returns-then-is_party-2 : goal.returns-then-is_party-2
unfolding registered
returns-then-is_party-2 c places =
    let kind = lei_kind c.args.row.now.tags.other_kind in
    let country = known _ _ _ c.knows.ensures in
    elim c.if-is_party.branch [
      | then-is_party w ↦ elim c.if-eq.branch [
        | then-eq v ↦ grind (arith, kind, country)
        | else-eq v ↦ absurd (cc)
      ]
      | else-is_party w ↦ absurd (cc)
    ]

pub returns-else-is_party-2 : goal.returns-else-is_party-2
unfolding registered
returns-else-is_party-2 c places =
    let kind = lei_kind c.args.row.now.tags.other_kind in
    elim c.if-is_party.branch [
      | then-is_party w ↦ elim c.if-eq.branch [
        | then-eq v ↦ grind (arith, kind)
        | else-eq v ↦ grind (arith, kind)
      ]
      | else-is_party w ↦ elim c.if-eq.branch [
        | then-eq v ↦ grind (arith, kind)
        | else-eq v ↦ grind (arith, kind)
      ]
    ]
