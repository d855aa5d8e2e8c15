-- Which slips are reports, and how the others are refused.
use Rattle.std.specs.Prelude.{◌≡◌, ℕ, Bool, true, false, not, ◌&&◌, ◌||◌, if◌then◌else◌, List, [], ◌∷◌, ◌++◌, codes, Some, None, Option, is_some, ◌==◌}
use Rattle.std.specs.List.{AllByRecursion, find}
use Rattle.std.specs.Option.{option_map, option_or}
use Rattle.std.specs.Str.{byte}
use Rattle.amounts.specs.Decimal.{amount_of}
use Rattle.calendar.specs.Text.{date_of}
use Rattle.codes.specs.Alphabets.{one_of}
use Rattle.codes.specs.Rules.{code_of}
use Rattle.codes.specs.Values.{capitals, capitals_and_digits, printable, trade_id_bytes}
use Rattle.fields.specs.Fields.{action_letters, compression_letters, level_letters, party_kind_letters, price_notation_letters, product_id_kind_letters, side_letters, underlying_kind_letters}
use Rattle.fields.specs.Letters.{letter_in}
use Rattle.fields.specs.Parties.{party_in}
use Rattle.fields.specs.declared.field.report.PartyKind.{PartyKind}
use Rattle.fields.specs.declared.field.report.PartyKind.TheVariants.{Lei, Client}
use Rattle.refusals.specs.Words.{RefusalParts, parts_of}
use Rattle.refusals.specs.declared.refusal.Refusal.{Refusal}
use Rattle.refusals.specs.declared.refusal.Refusal.TheVariants.{TornSlip, FieldMissing, BadField}
use Rattle.refusals.specs.declared.tag.Tag.{Tag}
use Rattle.refusals.specs.declared.tag.Tag.TheVariants.{TradeId, ReportingCounterparty, OtherKind, OtherCounterparty, OtherCountry, Action, Level, EligibleDate, Side, ProductIdKind, ProductId, UnderlyingKind, UnderlyingId, NotionalCurrency1, NotionalCurrency2, Venue, Compression, Price, PriceNotation, PriceCurrency, Notional, ExecutionTimestamp, ClearingTimestamp, ExchangeRate1, Valuation}
use Rattle.slip.specs.Fields.{all_or_none}
use Rattle.slip.specs.Layout.{FieldParts, fields_in}
use Rattle.timestamps.specs.Times.{timestamp_of}
use Rattle.report.specs.Texts.{bad_if, text_in, unreadable}

-- what a slip says: for each tag its text, if the field is there
abbrev pub Texts : Type 0
Texts = Tag → Option (List ℕ)

-- ---- which fields a report needs

abbrev pub always_needed : List Tag
always_needed = TradeId ∷ ReportingCounterparty ∷ OtherKind ∷ OtherCounterparty ∷ OtherCountry ∷ Action ∷ []

-- what describes a trade or position: N, P, M and R need it, V needs a valuation, and C, Z and E need nothing more
abbrev pub needed_by_letter : ℕ → List Tag
needed_by_letter action =
    if one_of (codes "NPMR") action then Level ∷ EligibleDate ∷ Side ∷ ExecutionTimestamp ∷ []
    else if action == byte "V" then Valuation ∷ []
    else []

abbrev pub needed_by : Option (List ℕ) → List Tag
needed_by (Some (action ∷ [])) = needed_by_letter action
needed_by text = []

-- the first of these fields that is not there
abbrev pub missing : Texts → List Tag → Option Tag
missing texts tags = find (λ tag. not (is_some (texts tag))) tags

-- these fields are all there
abbrev pub AllThere : Texts → List Tag → Type 0
AllThere texts tags = AllByRecursion (λ tag. is_some (texts tag) ≡ true) tags

-- ---- which texts are bad

abbrev pub is_letter : ℕ → Option (List ℕ) → Bool
is_letter letter (Some (b ∷ [])) = b == letter
is_letter letter text = false

-- the other counterparty's identifier is judged by the type that the same slip gives for it
abbrev pub kind_told : Option (List ℕ) → PartyKind
kind_told text = if is_letter (byte "L") text then Lei else Client

-- a trade that goes into a position is reported at the level of trades
abbrev pub misplaced : Texts → Bool
misplaced texts = is_letter (byte "P") (texts Action) && is_letter (byte "P") (texts Level)

-- whether a field is there with a text that spells no value of it
abbrev pub bad : Texts → Tag → Bool
bad texts TradeId = unreadable (code_of trade_id_bytes 1 52) (texts TradeId)
bad texts ReportingCounterparty = unreadable (code_of capitals_and_digits 20 20) (texts ReportingCounterparty)
bad texts OtherKind = unreadable (letter_in party_kind_letters) (texts OtherKind)
bad texts OtherCounterparty = unreadable (party_in (kind_told (texts OtherKind))) (texts OtherCounterparty)
bad texts OtherCountry = unreadable (code_of capitals 2 2) (texts OtherCountry)
bad texts Action = unreadable (letter_in action_letters) (texts Action)
bad texts Level = unreadable (letter_in level_letters) (texts Level) || misplaced texts
bad texts EligibleDate = unreadable date_of (texts EligibleDate)
bad texts Side = unreadable (letter_in side_letters) (texts Side)
bad texts ProductIdKind = unreadable (letter_in product_id_kind_letters) (texts ProductIdKind)
bad texts ProductId = unreadable (code_of printable 1 64) (texts ProductId)
bad texts UnderlyingKind = unreadable (letter_in underlying_kind_letters) (texts UnderlyingKind)
bad texts UnderlyingId = unreadable (code_of printable 1 64) (texts UnderlyingId)
bad texts NotionalCurrency1 = unreadable (code_of capitals 3 3) (texts NotionalCurrency1)
bad texts NotionalCurrency2 = unreadable (code_of capitals 3 3) (texts NotionalCurrency2)
bad texts Venue = unreadable (code_of capitals_and_digits 4 4) (texts Venue)
bad texts Compression = unreadable (letter_in compression_letters) (texts Compression)
bad texts Price = unreadable (amount_of 20) (texts Price)
bad texts PriceNotation = unreadable (letter_in price_notation_letters) (texts PriceNotation)
bad texts PriceCurrency = unreadable (code_of capitals 3 3) (texts PriceCurrency)
bad texts Notional = unreadable (amount_of 20) (texts Notional)
bad texts ExecutionTimestamp = unreadable timestamp_of (texts ExecutionTimestamp)
bad texts ClearingTimestamp = unreadable timestamp_of (texts ClearingTimestamp)
bad texts ExchangeRate1 = unreadable (amount_of 10) (texts ExchangeRate1)
bad texts Valuation = unreadable (amount_of 20) (texts Valuation)

unfoldable pub party_tags : List Tag
party_tags = TradeId ∷ ReportingCounterparty ∷ OtherKind ∷ OtherCounterparty ∷ OtherCountry ∷ []

unfoldable pub detail_tags : List Tag
detail_tags = Side ∷ ProductIdKind ∷ ProductId ∷ UnderlyingKind ∷ UnderlyingId ∷ NotionalCurrency1 ∷ NotionalCurrency2 ∷ Venue ∷ Compression ∷ Price ∷ PriceNotation ∷ PriceCurrency ∷ Notional ∷ ExecutionTimestamp ∷ ClearingTimestamp ∷ ExchangeRate1 ∷ []

-- all fields, by rising tags
unfoldable pub all_tags : List Tag
all_tags = party_tags ++ (Action ∷ Level ∷ EligibleDate ∷ detail_tags ++ Valuation ∷ [])

-- the first of these fields that is bad
abbrev pub first_bad : Texts → List Tag → Option Tag
first_bad texts tags = find (bad texts) tags

-- ---- how a slip is refused

abbrev pub missing_field : Texts → List Tag → Option Refusal
missing_field texts tags = option_map FieldMissing (missing texts tags)

-- in this order: what every report needs, the action, what the action needs, and every text that is there
abbrev pub refusal_of_texts : Texts → Option Refusal
refusal_of_texts texts =
    option_or (missing_field texts always_needed)
    (option_or (bad_if (bad texts Action) Action)
    (option_or (missing_field texts (needed_by (texts Action)))
    (option_map BadField (first_bad texts all_tags))))

abbrev pub refusal_of_fields : Option (List FieldParts) → Option Refusal
refusal_of_fields None = Some TornSlip
refusal_of_fields (Some fields) = refusal_of_texts (text_in fields)

-- the refusal of bytes that are no report, as its sender sees it; none of those that are one
abbrev pub refusal_of : List ℕ → Option RefusalParts
refusal_of bytes = option_map parts_of (refusal_of_fields (fields_in bytes))

-- the fields that the bytes of a slip tell
abbrev pub fields_told : List ℕ → List FieldParts
fields_told bytes = all_or_none (fields_in bytes)
