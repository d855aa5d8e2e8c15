-- What a report says.
use Rattle.std.specs.Prelude.{Some}
use Rattle.amounts.specs.Amounts.{worth}
use Rattle.amounts.specs.Decimal.{amount_of}
use Rattle.amounts.specs.Rates.{rate_worth}
use Rattle.calendar.specs.Dates.{number}
use Rattle.calendar.specs.Text.{date_of}
use Rattle.codes.specs.Codes.{text_of}
use Rattle.codes.specs.Rules.{code_of}
use Rattle.codes.specs.Values.{capitals, capitals_and_digits, printable, trade_id_bytes}
use Rattle.fields.specs.Fields.{action_letter, action_letters, compression_letter, compression_letters, level_letter, level_letters, party_kind_letter, party_kind_letters, price_notation_letter, price_notation_letters, product_id_kind_letter, product_id_kind_letters, side_letter, side_letters, underlying_kind_letter, underlying_kind_letters}
use Rattle.fields.specs.Letters.{letter_in}
use Rattle.fields.specs.Parties.{party_in, party_parts}
use Rattle.fields.specs.declared.party.OtherParty.{OtherParty}
use Rattle.timestamps.specs.Timestamps.{instant}
use Rattle.timestamps.specs.Times.{timestamp_of}
use Rattle.refusals.specs.declared.tag.Tag.TheVariants as Tag
use Rattle.report.specs.Texts.{Says}
use Rattle.report.specs.Judging.{Texts}
use Rattle.report.specs.declared.details.Details.{Details}
use Rattle.report.specs.declared.parties.Parties.{Parties}
use Rattle.report.specs.declared.report.Report.{Report}

-- the details are what the texts say, each absent where its field is
pub record TellsDetails (texts : Texts) (d : Details) : Type 0 where
  pub side : Says (letter_in side_letters) side_letter (texts Tag.Side) d.side
  pub product_id_kind : Says (letter_in product_id_kind_letters) product_id_kind_letter (texts Tag.ProductIdKind) d.product_id_kind
  pub product_id : Says (code_of printable 1 64) text_of (texts Tag.ProductId) d.product_id
  pub underlying_kind : Says (letter_in underlying_kind_letters) underlying_kind_letter (texts Tag.UnderlyingKind) d.underlying_kind
  pub underlying_id : Says (code_of printable 1 64) text_of (texts Tag.UnderlyingId) d.underlying_id
  pub notional_currency_1 : Says (code_of capitals 3 3) text_of (texts Tag.NotionalCurrency1) d.notional_currency_1
  pub notional_currency_2 : Says (code_of capitals 3 3) text_of (texts Tag.NotionalCurrency2) d.notional_currency_2
  pub venue : Says (code_of capitals_and_digits 4 4) text_of (texts Tag.Venue) d.venue
  pub compression : Says (letter_in compression_letters) compression_letter (texts Tag.Compression) d.compression
  pub price : Says (amount_of 20) worth (texts Tag.Price) d.price
  pub price_notation : Says (letter_in price_notation_letters) price_notation_letter (texts Tag.PriceNotation) d.price_notation
  pub price_currency : Says (code_of capitals 3 3) text_of (texts Tag.PriceCurrency) d.price_currency
  pub notional : Says (amount_of 20) worth (texts Tag.Notional) d.notional
  pub executed : Says timestamp_of instant (texts Tag.ExecutionTimestamp) d.executed
  pub cleared : Says timestamp_of instant (texts Tag.ClearingTimestamp) d.cleared
  pub exchange_rate_1 : Says (amount_of 10) rate_worth (texts Tag.ExchangeRate1) d.exchange_rate_1

-- the other counterparty is what the texts say
pub record TellsOther (texts : Texts) (other : OtherParty) : Type 0 where
  pub kind : Says (letter_in party_kind_letters) party_kind_letter (texts Tag.OtherKind) (Some (party_parts other).kind)
  pub text : Says (party_in (party_parts other).kind) party_parts (texts Tag.OtherCounterparty) (Some other)

-- the parties are what the texts say
pub record TellsParties (texts : Texts) (p : Parties) : Type 0 where
  pub trade : Says (code_of trade_id_bytes 1 52) text_of (texts Tag.TradeId) (Some p.trade)
  pub reporter : Says (code_of capitals_and_digits 20 20) text_of (texts Tag.ReportingCounterparty) (Some p.reporter)
  pub other : TellsOther texts p.other
  pub country : Says (code_of capitals 2 2) text_of (texts Tag.OtherCountry) (Some p.country)

-- the report is what the texts say
pub record Tells (texts : Texts) (r : Report) : Type 0 where
  pub parties : TellsParties texts r.parties
  pub action : Says (letter_in action_letters) action_letter (texts Tag.Action) (Some r.action)
  pub level : Says (letter_in level_letters) level_letter (texts Tag.Level) r.level
  pub eligible : Says date_of number (texts Tag.EligibleDate) r.eligible
  pub details : TellsDetails texts r.details
  pub valuation : Says (amount_of 20) worth (texts Tag.Valuation) r.valuation
