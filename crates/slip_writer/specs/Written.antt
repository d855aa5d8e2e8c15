-- The slip as which a report is written.
use Rattle.std.specs.Prelude.{ℕ, List, [], ◌∷◌, Some, None, Option, Ok, Err, Result}
use Rattle.std.specs.Option.{option_and_then, option_map}
use Rattle.amounts.specs.Decimal.{amount_of}
use Rattle.amounts.specs.Shortest.{shortest, shortest_text}
use Rattle.calendar.specs.Dates.{number}
use Rattle.calendar.specs.Text.{date_text}
use Rattle.codes.specs.Codes.{text_of}
use Rattle.fields.specs.Fields.{action_letter, compression_letter, level_letter, party_kind_letter, price_notation_letter, product_id_kind_letter, side_letter, underlying_kind_letter}
use Rattle.fields.specs.Parties.{party_parts}
use Rattle.timestamps.specs.Timestamps.{instant}
use Rattle.timestamps.specs.Times.{timestamp_text}
use Rattle.refusals.specs.Words.{RefusalParts, parts_of, tag_number}
use Rattle.refusals.specs.declared.refusal.Refusal.TheVariants.{SlipBufferShort}
use Rattle.refusals.specs.declared.tag.Tag.{Tag}
use Rattle.refusals.specs.declared.tag.Tag.TheVariants.{TradeId, ReportingCounterparty, OtherKind, OtherCounterparty, OtherCountry, Action, Level, EligibleDate, Side, ProductIdKind, ProductId, UnderlyingKind, UnderlyingId, NotionalCurrency1, NotionalCurrency2, Venue, Compression, Price, PriceNotation, PriceCurrency, Notional, ExecutionTimestamp, ClearingTimestamp, ExchangeRate1, Valuation}
use Rattle.slip.specs.Layout.{FieldParts, laid_out}
use Rattle.slip.specs.Writing.{TaggedText, bytes_of_texts, set_out}
use Rattle.report.specs.Judging.{Texts, all_tags}
use Rattle.report.specs.declared.report.Report.{Report}

-- the text that a report has for each tag, if it has that field: codes and letters as they are, amounts as short as
-- they can be
abbrev pub written_text : Report → Texts
written_text r TradeId = Some (text_of r.parties.trade)
written_text r ReportingCounterparty = Some (text_of r.parties.reporter)
written_text r OtherKind = Some (party_kind_letter (party_parts r.parties.other).kind ∷ [])
written_text r OtherCounterparty = Some (party_parts r.parties.other).text
written_text r OtherCountry = Some (text_of r.parties.country)
written_text r Action = Some (action_letter r.action ∷ [])
written_text r Level = option_map (λ x. level_letter x ∷ []) r.level
written_text r EligibleDate = option_map (λ x. date_text (number x)) r.eligible
written_text r Side = option_map (λ x. side_letter x ∷ []) r.details.side
written_text r ProductIdKind = option_map (λ x. product_id_kind_letter x ∷ []) r.details.product_id_kind
written_text r ProductId = option_map text_of r.details.product_id
written_text r UnderlyingKind = option_map (λ x. underlying_kind_letter x ∷ []) r.details.underlying_kind
written_text r UnderlyingId = option_map text_of r.details.underlying_id
written_text r NotionalCurrency1 = option_map text_of r.details.notional_currency_1
written_text r NotionalCurrency2 = option_map text_of r.details.notional_currency_2
written_text r Venue = option_map text_of r.details.venue
written_text r Compression = option_map (λ x. compression_letter x ∷ []) r.details.compression
written_text r Price = option_map shortest r.details.price
written_text r PriceNotation = option_map (λ x. price_notation_letter x ∷ []) r.details.price_notation
written_text r PriceCurrency = option_map text_of r.details.price_currency
written_text r Notional = option_map shortest r.details.notional
written_text r ExecutionTimestamp = option_map (λ x. timestamp_text (instant x)) r.details.executed
written_text r ClearingTimestamp = option_map (λ x. timestamp_text (instant x)) r.details.cleared
written_text r ExchangeRate1 = option_map (λ x. shortest x.amount) r.details.exchange_rate_1
written_text r Valuation = option_map shortest r.valuation

-- a text in front of others, if there is one
abbrev pub with_text : ℕ → Option (List ℕ) → List TaggedText → List TaggedText
with_text tag None texts = texts
with_text tag (Some text) texts = record { tag = tag; text = text } ∷ texts

-- the texts that are there, each with its tag
abbrev pub tagged : Texts → List Tag → List TaggedText
tagged texts [] = []
tagged texts (tag ∷ tags) = with_text (tag_number tag) (texts tag) (tagged texts tags)

-- the fields of a report, by rising tags
abbrev pub fields_written : Report → List FieldParts
fields_written r = set_out 0 (tagged (written_text r) all_tags)

abbrev pub slip_of : Report → List ℕ
slip_of r = laid_out (fields_written r)

-- what the writer answers: a length, or that the buffer is too short
abbrev pub or_short : Option ℕ → Result ℕ RefusalParts
or_short None = Err (parts_of SlipBufferShort)
or_short (Some length) = Ok length

-- the text of an amount, as short as it can be
abbrev pub shortest_of : ℕ → Option (List ℕ) → Option (List ℕ)
shortest_of most text = option_map shortest_text (option_and_then (amount_of most) text)

-- in plain terms: texts as they are written again, amounts as short as they can be and all others as they stand
abbrev pub shortened : Texts → Texts
shortened texts Price = shortest_of 20 (texts Price)
shortened texts Notional = shortest_of 20 (texts Notional)
shortened texts ExchangeRate1 = shortest_of 10 (texts ExchangeRate1)
shortened texts Valuation = shortest_of 20 (texts Valuation)
shortened texts tag = texts tag

-- the slip that has these texts, by rising tags
abbrev pub slip_with : Texts → List ℕ
slip_with texts = bytes_of_texts (tagged texts all_tags)
