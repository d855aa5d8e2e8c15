-- Laws of the checks.
use Rattle.std.specs.Prelude.{◌≡◌}
use Rattle.report.specs.declared.details.Details.{Details}
use Rattle.checks.specs.Checks.{found}
use Rattle.checks.specs.declared.check.Check.{Check}
use Rattle.checks.specs.declared.field.Field.{Field}

pub record CheckLaws : Type 0 where
  -- which report comes first makes no difference
  pub exchanged : (check : Check) (field : Field) (a b : Details) → found check field a b ≡ found check field b a
