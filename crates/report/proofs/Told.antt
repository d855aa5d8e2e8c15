-- A refusal is told by its number, its words and its tag.
use Rattle.std.proofs.Common.{◌≡◌, ℕ, ◌-◌, [], ◌∷◌, Some, None, Option, get_or, refl, sym, ap, ◌∙◌}
use Rattle.std.specs.Option.{option_map}
use Rattle.refusals.specs.Words.{RefusalParts, parts_of, tag_number}
use Rattle.refusals.specs.declared.refusal.Refusal.{Refusal}
use Rattle.refusals.specs.declared.refusal.Refusal.TheVariants.{TornSlip, FieldMissing, BadField, SameParty, DatedAhead, AlreadyEntered, UnknownTrade, StandingForbids, BookFull, NoticeListShort, RegisterDisordered, CalendarEnds, NotABusinessDay, BadSheet, SlipBufferShort}
use Rattle.refusals.specs.declared.tag.Tag.{Tag}
use Rattle.refusals.specs.declared.tag.Tag.TheVariants.{TradeId, ReportingCounterparty, OtherKind, OtherCounterparty, OtherCountry, Action, Level, EligibleDate, Side, ProductIdKind, ProductId, UnderlyingKind, UnderlyingId, NotionalCurrency1, NotionalCurrency2, Venue, Compression, Price, PriceNotation, PriceCurrency, Notional, ExecutionTimestamp, ClearingTimestamp, ExchangeRate1, Valuation}
use Rattle.report.specs.Judging.{all_tags, detail_tags, party_tags}

-- the field that a number names
abbrev tag_of : ℕ → Tag
tag_of number = get_or all_tags (number - 1) TradeId

tag_back : (tag : Tag) → tag_of (tag_number tag) ≡ tag
unfolding all_tags party_tags detail_tags
tag_back TradeId = refl
tag_back ReportingCounterparty = refl
tag_back OtherKind = refl
tag_back OtherCounterparty = refl
tag_back OtherCountry = refl
tag_back Action = refl
tag_back Level = refl
tag_back EligibleDate = refl
tag_back Side = refl
tag_back ProductIdKind = refl
tag_back ProductId = refl
tag_back UnderlyingKind = refl
tag_back UnderlyingId = refl
tag_back NotionalCurrency1 = refl
tag_back NotionalCurrency2 = refl
tag_back Venue = refl
tag_back Compression = refl
tag_back Price = refl
tag_back PriceNotation = refl
tag_back PriceCurrency = refl
tag_back Notional = refl
tag_back ExecutionTimestamp = refl
tag_back ClearingTimestamp = refl
tag_back ExchangeRate1 = refl
tag_back Valuation = refl

-- the refusal with this number and tag
abbrev refusal_with : RefusalParts → Refusal
refusal_with told =
    get_or (TornSlip ∷ FieldMissing (tag_of told.tag) ∷ BadField (tag_of told.tag) ∷ SameParty ∷ DatedAhead ∷ AlreadyEntered ∷ UnknownTrade ∷ StandingForbids ∷ BookFull ∷ NoticeListShort ∷ RegisterDisordered ∷ CalendarEnds ∷ NotABusinessDay ∷ BadSheet ∷ SlipBufferShort ∷ []) (told.number - 1) TornSlip

refusal_back : (refusal : Refusal) → refusal_with (parts_of refusal) ≡ refusal
refusal_back TornSlip = refl
refusal_back (FieldMissing tag) = ap FieldMissing (tag_back tag)
refusal_back (BadField tag) = ap BadField (tag_back tag)
refusal_back SameParty = refl
refusal_back DatedAhead = refl
refusal_back AlreadyEntered = refl
refusal_back UnknownTrade = refl
refusal_back StandingForbids = refl
refusal_back BookFull = refl
refusal_back NoticeListShort = refl
refusal_back RegisterDisordered = refl
refusal_back CalendarEnds = refl
refusal_back NotABusinessDay = refl
refusal_back BadSheet = refl
refusal_back SlipBufferShort = refl

-- two refusals that tell the same are one
pub same_refusal : (a b : Refusal) → parts_of a ≡ parts_of b → a ≡ b
same_refusal a b e = sym (refusal_back a) ∙ ap refusal_with e ∙ refusal_back b

pub same_case : (o : Option Refusal) (refusal : Refusal) → option_map parts_of o ≡ Some (parts_of refusal) → o ≡ Some refusal
same_case None refusal e = absurd (cc)
same_case (Some other) refusal e = let told : parts_of other ≡ parts_of refusal = cc in ap Some (same_refusal other refusal told)
