-- What the code's fields and slips stand for.
use Rattle.std.specs.Prelude.{ℕ, List, [], Some, None, Option, ◌==◌}
use Rattle.std.specs.List.{find}
use Rattle.slip.specs.Layout.{FieldParts, fields_from}
use Rattle.slip.specs.declared.slip.Fields.{Fields}
use Rattle.slip.specs.declared.slip.Slip.{Slip}
use Rattle.slip.specs.declared.field.Part.{Part}
use Rattle.slip.specs.declared.field.Field.{Field}
use Rattle.slip.specs.declared.field.Field.TheVariants.{TradeId, ReportingCounterparty, OtherKind, OtherCounterparty, OtherCountry, Action, Level, EligibleDate, Side, ProductIdKind, ProductId, UnderlyingKind, UnderlyingId, NotionalCurrency1, NotionalCurrency2, Venue, Compression, Price, PriceNotation, PriceCurrency, Notional, ExecutionTimestamp, ClearingTimestamp, ExchangeRate1, Valuation}

abbrev pub told : ℕ → Part → FieldParts
told tag part = record { tag = tag; place = part.place; text = part.text.now }

abbrev pub field_of : Field → FieldParts
field_of (TradeId part) = told 1 part
field_of (ReportingCounterparty part) = told 2 part
field_of (OtherKind part) = told 3 part
field_of (OtherCounterparty part) = told 4 part
field_of (OtherCountry part) = told 5 part
field_of (Action part) = told 6 part
field_of (Level part) = told 7 part
field_of (EligibleDate part) = told 8 part
field_of (Side part) = told 9 part
field_of (ProductIdKind part) = told 10 part
field_of (ProductId part) = told 11 part
field_of (UnderlyingKind part) = told 12 part
field_of (UnderlyingId part) = told 13 part
field_of (NotionalCurrency1 part) = told 14 part
field_of (NotionalCurrency2 part) = told 15 part
field_of (Venue part) = told 16 part
field_of (Compression part) = told 17 part
field_of (Price part) = told 18 part
field_of (PriceNotation part) = told 19 part
field_of (PriceCurrency part) = told 20 part
field_of (Notional part) = told 21 part
field_of (ExecutionTimestamp part) = told 22 part
field_of (ClearingTimestamp part) = told 23 part
field_of (ExchangeRate1 part) = told 24 part
field_of (Valuation part) = told 25 part

abbrev pub all_or_none : Option (List FieldParts) → List FieldParts
all_or_none None = []
all_or_none (Some fields) = fields

-- the fields of a slip, by rising tags
abbrev pub fields_of : Slip → List FieldParts
fields_of slip = all_or_none (fields_from slip.text.now 0 0 slip.tags.now slip.ends.now)

-- the field with this tag
abbrev pub field_named : ℕ → List FieldParts → Option FieldParts
field_named tag fields = find (λ f. f.tag == tag) fields

-- the fields that are still to come
abbrev pub fields_left : Fields → List FieldParts
fields_left f = all_or_none (fields_from f.text.now f.last f.place f.tags.now f.ends.now)
