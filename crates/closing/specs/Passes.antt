-- What the passes of a close leave.
use Rattle.std.specs.Prelude.{◌≡◌, ℕ, ◌≤◌, List, map, length, take, drop, Some, None, Option}
use Rattle.std.specs.List.{AllZip, count_by, filter_map}
use Rattle.judging.specs.Lines.{found, notice_told}
use Rattle.rows.specs.Changes.{Holds}
use Rattle.rows.specs.Entries.{entry_of}
use Rattle.rows.specs.declared.notice.Notice.{Notice}
use Rattle.rows.specs.declared.row.Row.{Row}
use Rattle.rules.specs.Judging.{Close, Verdict, judged, notice_of, takes_up, with_verdict}
use Rattle.rules.specs.Slices.{entries_of}
use Rattle.rules.specs.Books.{InOrder}
use Rattle.sheets.specs.Sheets.{Meaning}

-- the first pass has come to the row i: xs are the rows before it and ys those now, ws and zs the places for notices. Rows
-- keep what they hold as entries; what was found of each stands beside it.
pub record Passed (sheet : Meaning) (c : Close) (today used : ℕ) (xs ys : List Row) (ws zs : List Notice) (sent pairs i : ℕ) : Type 0 where
  pub count : length ys ≡ length xs
  pub entries : map entry_of ys ≡ map entry_of xs
  pub ahead : drop i ys ≡ drop i xs
  pub few : sent ≤ i
  pub few_pairs : pairs ≤ i
  pub places : length zs ≡ length ws
  pub behind : drop sent zs ≡ drop sent ws
  pub fates : InOrder (entries_of used xs) → map (λ row. found row.fate) (take i ys) ≡ map (λ e. Some (judged sheet c today (entries_of used xs) e)) (entries_of i xs)
  pub notices : InOrder (entries_of used xs) → map notice_told (take sent zs) ≡ filter_map (notice_of sheet c today (entries_of used xs)) (entries_of i xs)
  pub pairs_counted : InOrder (entries_of used xs) → pairs ≡ count_by (takes_up c today (entries_of used xs)) (entries_of i xs)

-- what the second pass makes of a row: what was found takes effect, and a row that is freed stays until the rows close up
abbrev pub SettledBy : Row → Row → Option (Option Verdict) → Type 0
SettledBy y z None = z ≡ y
SettledBy y z (Some None) = z ≡ y
SettledBy y z (Some (Some v)) = Holds z (with_verdict (entry_of y) v)

abbrev pub Settled : Row → Row → Type 0
Settled y z = SettledBy y z (found y.fate)

pub record Settles (used : ℕ) (ys zs : List Row) : Type 0 where
  pub count : length zs ≡ length ys
  pub rows : AllZip Settled (take used ys) (take used zs)
  pub behind : drop used zs ≡ drop used ys
