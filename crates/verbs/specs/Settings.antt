-- What is kept from line to line besides the book, as texts.
use Rattle.std.specs.Prelude.{ℕ, List, map, Option}
use Rattle.std.specs.Option.{option_map}
use Rattle.codes.specs.Codes.{text_of}
use Rattle.desk.specs.Openings.{Opened, client_bytes, opened_by}
use Rattle.verbs.specs.declared.settings.Settings.{Settings}

pub record Setting : Type 0 where
  -- the sheet for slips that are compared and for the next book: a client's by its bytes, none where it is the published one
  pub client : Option (List ℕ)
  pub parties : List (List ℕ)
  pub countries : List (List ℕ)
  -- the book that is to be opened before the next line, if any
  pub opening : Option Opened

abbrev pub setting_of : Settings → Setting
setting_of s = record { client = client_bytes s.sheet; parties = map text_of s.parties.items; countries = map text_of s.countries.items; opening = option_map opened_by s.opening }
