-- The rows that reports leave.
use Rattle.std.specs.Prelude.{◌≡◌, ℕ}
use Rattle.report.specs.declared.report.Report.{Report}
use Rattle.rows.specs.Entries.{Entry, amended, entered, entry_of}
use Rattle.rows.specs.declared.row.Fate.TheVariants.{Open}
use Rattle.rows.specs.declared.row.Row.{Row}
use Rattle.rows.specs.declared.standing.Standing.{Standing}

-- between calls a row is what it holds as an entry, and nothing else
pub record Holds (row : Row) (e : Entry) : Type 0 where
  pub entry : entry_of row ≡ e
  pub fate : row.fate ≡ Open

abbrev pub IsEntered : ℕ → Report → Standing → Row → Type 0
IsEntered today report standing row = Holds row (entered today report standing)

abbrev pub IsAmended : Row → Report → Standing → Row → Type 0
IsAmended old report standing row = Holds row (amended (entry_of old) report standing)
