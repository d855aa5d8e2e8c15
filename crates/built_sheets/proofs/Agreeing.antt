-- Laws of the sheets that are built.
use Rattle.std.proofs.Common.{refl}
use Rattle.built_sheets.specs.Published.{published}
use Rattle.built_sheets.specs.Laws.{SheetLaws}

pub laws : SheetLaws
unfolding published
laws = record { in_order = refl; fit = refl }
