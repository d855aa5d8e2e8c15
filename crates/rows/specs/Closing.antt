-- What a close finds of a row, before it takes effect.
use Rattle.std.specs.Prelude.{Bool, true, false}
use Rattle.rows.specs.declared.row.Fate.{Fate}
use Rattle.rows.specs.declared.row.Fate.TheVariants.{Open, Freed, Stays}

abbrev pub is_freed : Fate → Bool
is_freed Open = false
is_freed Freed = true
is_freed (Stays verdict) = false
