-- How a book is opened, and what is told of it.
use Rattle.std.specs.Prelude.{ℕ, min, List, ◌++◌, codes, decimal, Some, None, Option, Ok, Err, Result}
use Rattle.built_sheets.specs.Tabled.{bytes_of}
use Rattle.built_sheets.specs.declared.chosen.ChosenSheet.{ChosenSheet}
use Rattle.built_sheets.specs.declared.chosen.ChosenSheet.TheVariants.{Kdpw, Tabled}
use Rattle.business.specs.BusinessDays.{day_no, not_a_business_day, opening_of}
use Rattle.calendar.specs.Text.{date_text}
use Rattle.refusals.specs.Words.{RefusalParts, refusal_text}
use Rattle.desk.specs.declared.opening.Opening.{Opening}

-- a client's sheet by its bytes; none where it is the published one
abbrev pub client_bytes : ChosenSheet → Option (List ℕ)
client_bytes (Kdpw sheet) = None
client_bytes (Tabled sheet) = Some (bytes_of sheet)

-- the sheet that a book is bound to, the day on which it begins, and how many rows it is given
pub record Opened : Type 0 where
  pub client : Option (List ℕ)
  pub day : ℕ
  pub rows : ℕ

abbrev pub opened_by : Opening → Opened
opened_by o = record { client = client_bytes o.sheet; day = day_no o.day; rows = o.rows }

abbrev pub opened_on : Option (List ℕ) → Option ℕ → ℕ → Result Opened RefusalParts
opened_on client None rows = Err not_a_business_day
opened_on client (Some day) rows = Ok (record { client = client; day = day; rows = rows })

-- how a book is opened under a sheet, on the day that a text names
abbrev pub opening_read : Option (List ℕ) → List ℕ → ℕ → Result Opened RefusalParts
opening_read client text rows = opened_on client (opening_of text) rows

-- the day, and how many rows the book uses: 4,096 at most
abbrev pub opened_text : Opened → List ℕ
opened_text o = date_text o.day ++ (codes " " ++ (decimal (min o.rows 4096) ++ codes " rows"))

abbrev pub opening_text : Result Opened RefusalParts → List ℕ
opening_text (Ok o) = opened_text o
opening_text (Err refusal) = refusal_text refusal
