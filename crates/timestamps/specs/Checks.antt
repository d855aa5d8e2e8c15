-- The tolerance checks on two timestamps, each given by its instant.
use Rattle.std.specs.Prelude.{ℕ, ◌-◌, ◌/◌, min, max, Bool, false, ◌&&◌, ◌||◌, List, Some, None, Option, ◌==◌, nat_le}
use Rattle.codes.specs.Codes.{off_exchange}
use Rattle.timestamps.specs.Times.{day_seconds}

-- equality
abbrev pub same_instant : ℕ → ℕ → Bool
same_instant i j = i == j

-- tolerance check 4: the same date
abbrev pub same_date : ℕ → ℕ → Bool
same_date i j = i / day_seconds == j / day_seconds

-- the seconds between two instants
abbrev pub apart : ℕ → ℕ → ℕ
apart i j = max i j - min i j

-- a venue is named, and is off exchange
abbrev pub named_off_exchange : Option (List ℕ) → Bool
named_off_exchange None = false
named_off_exchange (Some venue) = off_exchange venue

-- tolerance check 3: one date and, but for two venues off exchange, no more than an hour between
abbrev pub within_an_hour : Option (List ℕ) → Option (List ℕ) → ℕ → ℕ → Bool
within_an_hour v w i j = same_date i j && ((named_off_exchange v && named_off_exchange w) || nat_le (apart i j) 3600)
