-- Laws of rows.
use Rattle.std.specs.Prelude.{◌≡◌, Some, None, ◌⊎◌, Decides}
use Rattle.std.specs.Cmp.{IsTotalOrder}
use Rattle.fields.specs.declared.field.report.Action.{Action}
use Rattle.fields.specs.declared.field.report.Action.TheVariants.{Correction, Error}
use Rattle.rows.specs.Blank.{IsBlank}
use Rattle.rows.specs.Changes.{Holds}
use Rattle.rows.specs.Entries.{Entry}
use Rattle.rows.specs.Keys.{Key, key_of, key_order, mirror, same_key}
use Rattle.rows.specs.Standings.{enters, takes}
use Rattle.rows.specs.declared.key.TradeKey.{TradeKey}
use Rattle.rows.specs.declared.row.Row.{Row}
use Rattle.rows.specs.declared.standing.Standing.{Standing}
use Rattle.rows.specs.declared.standing.Standing.TheVariants.{Active, Ended, Withdrawn}

-- what holds the same is the same
pub record OneForm : Type 0 where
  pub one_key : (a b : TradeKey) → key_of a ≡ key_of b → a ≡ b
  pub one_row : (a b : Row) (e : Entry) → Holds a e → Holds b e → a ≡ b
  pub one_blank : (a b : Row) → IsBlank a → IsBlank b → a ≡ b

pub record KeyLaws : Type 0 where
  pub total : IsTotalOrder key_order
  -- the order finds the keys that are equal
  pub same : (k l : Key) → Decides (same_key k l) (k ≡ l)
  -- two reports are each other's mirror
  pub both_ways : (k : Key) → mirror (mirror k) ≡ k

pub record StandingLaws : Type 0 where
  -- what enters a row no row takes
  pub entering : (action : Action) (s t : Standing) → enters action ≡ Some s → takes t action ≡ None
  pub withdrawn : (action : Action) → takes Withdrawn action ≡ None
  -- an ended row can only be corrected or withdrawn
  pub ended : (action : Action) (s : Standing) → takes Ended action ≡ Some s → (action ≡ Correction) ⊎ (action ≡ Error)
  -- no row is taken up again
  pub no_return : (action : Action) (s : Standing) → takes s action ≡ Some Active → s ≡ Active

pub record RowLaws : Type 0 where
  pub forms : OneForm
  pub keys : KeyLaws
  pub standings : StandingLaws
