-- Registers: lists of entries that are only read.
use Rattle.std.specs.Prelude.{◌≤◌, List, map, length}
use Rattle.std.specs.declared.cmp.Ordering.{Ordering}
use Rattle.table.specs.Order.{Ascending}

-- at most 65,536 entries, whose keys ascend strictly
pub record IsRegister {X K : Type 0} (cmp : K → K → Ordering) (id : X → K) (entries : List X) : Type 0 where
  pub few : length entries ≤ 65536
  pub ascends : Ascending cmp (map id entries)
