-- Blank rows: all of them are one value, which nobody reads.
use Rattle.std.specs.Prelude.{◌≡◌, false, codes, None}
use Rattle.codes.specs.Codes.{text_of}
use Rattle.fields.specs.declared.field.report.Action.TheVariants.{Error}
use Rattle.fields.specs.declared.field.report.PartyKind.TheVariants.{Client}
use Rattle.report.specs.declared.details.Details.{Details}
use Rattle.rows.specs.Entries.{uncompared}
use Rattle.rows.specs.Keys.{Key, key_of}
use Rattle.rows.specs.declared.row.Fate.TheVariants.{Open}
use Rattle.rows.specs.declared.row.Row.{Row}
use Rattle.rows.specs.declared.row.Tags.{Tags}
use Rattle.rows.specs.declared.standing.Standing.TheVariants.{Withdrawn}
use Rattle.rows.specs.declared.state.State.TheVariants.{Gone}

abbrev pub no_details : Details
no_details = record { side = None; product_id_kind = None; product_id = None; underlying_kind = None; underlying_id = None; notional_currency_1 = None; notional_currency_2 = None; venue = None; compression = None; price = None; price_notation = None; price_currency = None; notional = None; executed = None; cleared = None; exchange_rate_1 = None }

-- a blank row has a key all the same, since every row has one
abbrev pub blank_key : Key
blank_key = record { trade = codes "0"; reporter = codes "0"; other = codes "0" }

pub record NoTags (tags : Tags) : Type 0 where
  pub other_kind : tags.other_kind ≡ Client
  pub country : text_of tags.country ≡ codes "AA"
  pub action : tags.action ≡ Error
  pub level : tags.level ≡ None
  pub eligible : tags.eligible ≡ None
  pub details : tags.details ≡ no_details
  pub valuation : tags.valuation ≡ None

pub record IsBlank (row : Row) : Type 0 where
  pub key : key_of row.key ≡ blank_key
  pub tags : NoTags row.tags
  pub standing : row.standing ≡ Withdrawn
  pub due : row.due ≡ None
  pub tries : row.tries.count ≡ 0
  pub state : row.state ≡ Gone
  pub findings : row.findings ≡ uncompared
  pub settled : row.settled ≡ false
  pub fate : row.fate ≡ Open
