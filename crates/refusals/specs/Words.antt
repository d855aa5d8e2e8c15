-- What each refusal tells its sender: a number, words, and the tag of the field that it names.
use Rattle.std.specs.Prelude.{ℕ, Bool, ◌&&◌, nat_le, cond, List, [], ◌++◌, codes, decimal, ◌==◌}
use Rattle.refusals.specs.declared.tag.Tag.{Tag}
use Rattle.refusals.specs.declared.tag.Tag.TheVariants.{TradeId, ReportingCounterparty, OtherKind, OtherCounterparty, OtherCountry, Action, Level, EligibleDate, Side, ProductIdKind, ProductId, UnderlyingKind, UnderlyingId, NotionalCurrency1, NotionalCurrency2, Venue, Compression, Price, PriceNotation, PriceCurrency, Notional, ExecutionTimestamp, ClearingTimestamp, ExchangeRate1, Valuation}
use Rattle.refusals.specs.declared.refusal.Refusal.{Refusal}
use Rattle.refusals.specs.declared.refusal.Refusal.TheVariants.{TornSlip, FieldMissing, BadField, SameParty, DatedAhead, AlreadyEntered, UnknownTrade, StandingForbids, BookFull, NoticeListShort, RegisterDisordered, CalendarEnds, NotABusinessDay, BadSheet, SlipBufferShort}

-- the tag of each field
abbrev pub tag_number : Tag → ℕ
tag_number TradeId = 1
tag_number ReportingCounterparty = 2
tag_number OtherKind = 3
tag_number OtherCounterparty = 4
tag_number OtherCountry = 5
tag_number Action = 6
tag_number Level = 7
tag_number EligibleDate = 8
tag_number Side = 9
tag_number ProductIdKind = 10
tag_number ProductId = 11
tag_number UnderlyingKind = 12
tag_number UnderlyingId = 13
tag_number NotionalCurrency1 = 14
tag_number NotionalCurrency2 = 15
tag_number Venue = 16
tag_number Compression = 17
tag_number Price = 18
tag_number PriceNotation = 19
tag_number PriceCurrency = 20
tag_number Notional = 21
tag_number ExecutionTimestamp = 22
tag_number ClearingTimestamp = 23
tag_number ExchangeRate1 = 24
tag_number Valuation = 25

abbrev pub is_tag : ℕ → Bool
is_tag number = nat_le 1 number && nat_le number 25

-- a refusal as its sender sees it
pub record RefusalParts : Type 0 where
  pub number : ℕ
  pub words : List ℕ
  -- 0 where the refusal names no field
  pub tag : ℕ

abbrev pub parts_of : Refusal → RefusalParts
parts_of TornSlip = record { number = 1; words = codes "torn slip"; tag = 0 }
parts_of (FieldMissing tag) = record { number = 2; words = codes "field missing"; tag = tag_number tag }
parts_of (BadField tag) = record { number = 3; words = codes "bad field"; tag = tag_number tag }
parts_of SameParty = record { number = 4; words = codes "same party"; tag = 0 }
parts_of DatedAhead = record { number = 5; words = codes "dated ahead"; tag = 0 }
parts_of AlreadyEntered = record { number = 6; words = codes "already entered"; tag = 0 }
parts_of UnknownTrade = record { number = 7; words = codes "unknown trade"; tag = 0 }
parts_of StandingForbids = record { number = 8; words = codes "standing forbids"; tag = 0 }
parts_of BookFull = record { number = 9; words = codes "book full"; tag = 0 }
parts_of NoticeListShort = record { number = 10; words = codes "notice list short"; tag = 0 }
parts_of RegisterDisordered = record { number = 11; words = codes "register disordered"; tag = 0 }
parts_of CalendarEnds = record { number = 12; words = codes "calendar ends"; tag = 0 }
parts_of NotABusinessDay = record { number = 13; words = codes "not a business day"; tag = 0 }
parts_of BadSheet = record { number = 14; words = codes "bad sheet"; tag = 0 }
parts_of SlipBufferShort = record { number = 15; words = codes "slip buffer short"; tag = 0 }

abbrev pub tag_text : ℕ → List ℕ
tag_text tag = cond (tag == 0) [] (codes " tag " ++ decimal tag)

-- the line that tells it: number, words, and the tag where there is one
abbrev pub refusal_text : RefusalParts → List ℕ
refusal_text t = codes "refused " ++ (decimal t.number ++ (codes " " ++ (t.words ++ tag_text t.tag)))
