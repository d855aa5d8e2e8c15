-- What the fields of a report's details tell.
use Rattle.std.specs.Prelude.{ℕ, ℤ, List, [], ◌∷◌, Option}
use Rattle.std.specs.Option.{option_map}
use Rattle.amounts.specs.Amounts.{worth}
use Rattle.amounts.specs.Rates.{rate_worth}
use Rattle.codes.specs.Codes.{text_of}
use Rattle.fields.specs.Fields.{compression_letter, price_notation_letter, underlying_kind_letter}
use Rattle.fields.specs.declared.field.detail.Side.{Side as SideField}
use Rattle.report.specs.declared.details.Details.{Details}
use Rattle.timestamps.specs.Timestamps.{instant as instant_of}
use Rattle.checks.specs.declared.field.Field.{Field}
use Rattle.checks.specs.declared.field.Field.TheVariants as F
use Rattle.checks.specs.declared.value.Value.{Value}
use Rattle.checks.specs.declared.value.Value.TheVariants.{Side, Letter, Text, Amount, Timestamp}

-- what the value of a field is told by
pub data Told : Type 0 where
  side : SideField → Told
  -- of any other field of one letter
  letter : ℕ → Told
  text : List ℕ → Told
  -- its worth, in units
  amount : ℤ → Told
  instant : ℕ → Told

-- what a value tells
abbrev pub told : Value → Told
told (Side s) = side s
told (Letter b) = letter b
told (Text t) = text t.now
told (Amount a) = amount (worth a)
told (Timestamp t) = instant (instant_of t)

-- what a field tells, if the details have it
abbrev pub value_of : Field → Details → Option Told
value_of F.Side d = option_map (λ x. side x) d.side
value_of F.ProductId d = option_map (λ x. text (text_of x)) d.product_id
value_of F.UnderlyingKind d = option_map (λ x. letter (underlying_kind_letter x)) d.underlying_kind
value_of F.UnderlyingId d = option_map (λ x. text (text_of x)) d.underlying_id
value_of F.NotionalCurrency1 d = option_map (λ x. text (text_of x)) d.notional_currency_1
value_of F.NotionalCurrency2 d = option_map (λ x. text (text_of x)) d.notional_currency_2
value_of F.Venue d = option_map (λ x. text (text_of x)) d.venue
value_of F.Compression d = option_map (λ x. letter (compression_letter x)) d.compression
value_of F.Price d = option_map (λ x. amount (worth x)) d.price
value_of F.PriceNotation d = option_map (λ x. letter (price_notation_letter x)) d.price_notation
value_of F.PriceCurrency d = option_map (λ x. text (text_of x)) d.price_currency
value_of F.Notional d = option_map (λ x. amount (worth x)) d.notional
value_of F.ExecutionTimestamp d = option_map (λ x. instant (instant_of x)) d.executed
value_of F.ClearingTimestamp d = option_map (λ x. instant (instant_of x)) d.cleared
value_of F.ExchangeRate1 d = option_map (λ x. amount (rate_worth x)) d.exchange_rate_1

-- the compared fields, in the order of their positions
abbrev pub compared_fields : List Field
compared_fields =
    F.Side
    ∷ (F.ProductId
    ∷ (F.UnderlyingKind
    ∷ (F.UnderlyingId
    ∷ (F.NotionalCurrency1
    ∷ (F.NotionalCurrency2
    ∷ (F.Venue
    ∷ (F.Compression
    ∷ (F.Price
    ∷ (F.PriceNotation
    ∷ (F.PriceCurrency
    ∷ (F.Notional
    ∷ (F.ExecutionTimestamp
    ∷ (F.ClearingTimestamp
    ∷ (F.ExchangeRate1
    ∷ []))))))))))))))
