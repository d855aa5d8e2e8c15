-- Where a key stands among the used rows.
use Rattle.std.specs.Prelude.{◌≡◌, ℕ, ◌<◌, ◌≤◌, min, List, map, Some, None, Ok, Err, Result, slice_index_or}
use Rattle.table.specs.Order.{place}
use Rattle.rows.specs.Entries.{Entry, entry_of}
use Rattle.rows.specs.Keys.{Key, key_of, key_order}
use Rattle.rows.specs.declared.key.TradeKey.{TradeKey}
use Rattle.rows.specs.declared.row.Row.{Row}
use Rattle.rules.specs.Books.{InOrder, entry_at}
use Rattle.rules.specs.Slices.{entries_of, room}

abbrev pub used_of : ℕ → List Row → ℕ
used_of used rows = min used (room rows)

abbrev pub entries_in : ℕ → List Row → List Entry
entries_in used rows = entries_of (used_of used rows) rows

-- what the key's entry is, found or not
abbrev pub FoundAt : List Entry → Key → Result ℕ ℕ → List Row → Type 0
FoundAt entries k (Ok i) rows = (d : Row) → entry_at k entries ≡ Some (entry_of (slice_index_or rows i d))
FoundAt entries k (Err i) rows = entry_at k entries ≡ None

-- and where it stands, or would have to
abbrev pub WithinUsed : ℕ → Result ℕ ℕ → Type 0
WithinUsed used (Ok i) = i < used
WithinUsed used (Err i) = i ≤ used

pub record Located (used : ℕ) (rows : List Row) (key : TradeKey) (result : Result ℕ ℕ) : Type 0 where
  pub within : WithinUsed (used_of used rows) result
  pub found : InOrder (entries_in used rows) → FoundAt (entries_in used rows) (key_of key) result rows
  pub stands : InOrder (entries_in used rows) → result ≡ place key_order (map (λ (e : Entry). e.key) (entries_in used rows)) (key_of key)
