-- A report's own texts are of a size that a slip holds, and spell its values.
use Rattle.std.proofs.Common.{◌≡◌, ℕ, ◌+◌, ◌/◌, ◌%◌, ◌<◌, ◌≤◌, Bool, true, false, ℤ, List, [], ◌∷◌, length, Some, None, Option, refl, ap, subst, arith, length-append}
use Rattle.std.specs.Option.{option_map}
use Rattle.texts.proofs.Padded.{length-padded}
use Rattle.amounts.proofs.Laws.{laws as amount_laws}
use Rattle.amounts.proofs.Shortest.{reads_back_20}
use Rattle.amounts.proofs.Spelling.{read_spelled}
use Rattle.amounts.specs.Shortest.{shortest}
use Rattle.amounts.specs.Spelling.{Spells, dot_text, sign_text}
use Rattle.amounts.specs.declared.amount.Amount.{Amount}
use Rattle.amounts.specs.declared.amount.rate.ExchangeRate.{ExchangeRate}
use Rattle.calendar.specs.Gregorian.{day_at, month_at, year_at}
use Rattle.calendar.proofs.Civil.{date_read, text_names}
use Rattle.calendar.specs.Dates.{number}
use Rattle.calendar.specs.Text.{date_of, date_text}
use Rattle.calendar.specs.declared.date.Date.{Date}
use Rattle.codes.proofs.CodeLaws.{forms, laws as code_laws}
use Rattle.codes.specs.Codes.{text_of}
use Rattle.codes.specs.declared.code.Code.{Code}
use Rattle.fields.specs.declared.party.OtherParty.{OtherParty}
use Rattle.fields.specs.declared.party.OtherParty.TheVariants.{Lei as ByLei, Client as ByClient}
use Rattle.fields.specs.Parties.{party_parts}
use Rattle.refusals.specs.declared.tag.Tag.{Tag}
use Rattle.refusals.specs.declared.tag.Tag.TheVariants.{TradeId, ReportingCounterparty, OtherKind, OtherCounterparty, OtherCountry, Action, Level, EligibleDate, Side, ProductIdKind, ProductId, UnderlyingKind, UnderlyingId, NotionalCurrency1, NotionalCurrency2, Venue, Compression, Price, PriceNotation, PriceCurrency, Notional, ExecutionTimestamp, ClearingTimestamp, ExchangeRate1, Valuation}
use Rattle.fields.proofs.PartyLaws.{reads_back as party_back}
use Rattle.fields.specs.Fields.{action_letter, compression_letter, level_letter, party_kind_letter, price_notation_letter, product_id_kind_letter, side_letter, underlying_kind_letter}
use Rattle.timestamps.proofs.Instants.{instant_read, stamp_names}
use Rattle.timestamps.specs.Timestamps.{instant}
use Rattle.timestamps.specs.declared.timestamp.Timestamp.{Timestamp}
use Rattle.timestamps.specs.Times.{timestamp_of, timestamp_text}
use Rattle.report.proofs.Letters.{action_back, compression_back, level_back, party_kind_back, price_notation_back, product_id_kind_back, side_back, underlying_kind_back}
use Rattle.report.proofs.OneReport.{injective}
use Rattle.report.specs.Texts.{Says}
use Rattle.report.specs.Values.{Tells, TellsDetails}
use Rattle.slip_writer.proofs.SetOut.{Sized}
use Rattle.slip_writer.specs.Written.{written_text}
use Rattle.report.specs.declared.report.Report.{Report}

-- the most bytes that the text of a field has
abbrev pub room : Tag → ℕ
room TradeId = 52
room ReportingCounterparty = 20
room OtherKind = 1
room OtherCounterparty = 20
room OtherCountry = 2
room Action = 1
room Level = 1
room EligibleDate = 10
room Side = 1
room ProductIdKind = 1
room ProductId = 64
room UnderlyingKind = 1
room UnderlyingId = 64
room NotionalCurrency1 = 3
room NotionalCurrency2 = 3
room Venue = 4
room Compression = 1
room Price = 22
room PriceNotation = 1
room PriceCurrency = 3
room Notional = 22
room ExecutionTimestamp = 20
room ClearingTimestamp = 20
room ExchangeRate1 = 12
room Valuation = 22

abbrev Fits : ℕ → List ℕ → Type 0
Fits most text = (0 < length text) × (length text ≤ most)

pub code_fits : {A : _} {m : _} {least most : ℕ} (c : Code A least most m) → Fits most (text_of c)
code_fits {A} {m} {least} {most} c = let r = (code_laws.plain m.letters least most (text_of c)).0 c.rule in (r.some, r.short)

letter_fits : (b : ℕ) → Fits 1 (b ∷ [])
letter_fits b = (omega arith, omega arith)

pub party_fits : (p : OtherParty) → Fits 20 (party_parts p).text
party_fits (ByLei lei) = code_fits lei
party_fits (ByClient code) = code_fits code

date_length : (n : ℕ) → length (date_text n) ≡ 10
date_length n = simp length-append (omega (arith, length-padded 4 (year_at n), length-padded 2 (month_at n), length-padded 2 (day_at n)))

date_fits : (n : ℕ) → Fits 10 (date_text n)
date_fits n = (omega (arith, date_length n), omega (arith, date_length n))

timestamp_fits : (i : ℕ) → Fits 20 (timestamp_text i)
timestamp_fits i =
    let s : ℕ = i % 86400 in
    let l : length (timestamp_text i) ≡ 20 = simp length-append (omega (arith, date_length (i / 86400), length-padded 2 (s / 3600), length-padded 2 (s / 60 % 60), length-padded 2 (s % 60))) in
    (omega (arith, l), omega (arith, l))

dot_most : (ds : List ℕ) → length (dot_text ds) ≤ length ds + 1
dot_most [] = omega arith
dot_most (d ∷ ds) = omega arith

sign_most : (n : Bool) → length (sign_text n) ≤ 1
sign_most true = omega arith
sign_most false = omega arith

spelled_fits : (most : ℕ) (text : List ℕ) (z : ℤ) → Spells most text z → Fits (most + 2) text
spelled_fits most text z s =
    let l : length text ≡ length (sign_text s.0) + (length s.1 + length (dot_text s.2)) = simp length-append at (ap length s.3.spelt) in
    (omega (arith, l, s.3.some), omega (arith, l, s.3.few, dot_most s.2, sign_most s.0))

amount_fits : (a : Amount) → Fits 22 (shortest a)
amount_fits a = spelled_fits 20 (shortest a) _ (read_spelled 20 (omega arith) _ _ (reads_back_20 a))

rate_fits : (r : ExchangeRate) → Fits 12 (shortest r.amount)
rate_fits r = spelled_fits 10 (shortest r.amount) _ (read_spelled 10 (omega arith) _ _ (amount_laws.rate_reads_back r))

-- ---- their sizes

there : (most : ℕ) (t text : List ℕ) → Fits most t → Some t ≡ Some text → Fits most text
there most t text f e = subst (Fits most) (injective t text e) f

maybe : {X : Type 0} (most : ℕ) (t : X → List ℕ) → ((x : X) → Fits most (t x)) → (v : Option X) (text : List ℕ) → option_map t v ≡ Some text → Fits most text
maybe most t f None text e = absurd (cc)
maybe most t f (Some x) text e = there most (t x) text (f x) e

pub sized : (r : Report) → Sized room (written_text r)
sized r TradeId text e = there 52 _ text (code_fits r.parties.trade) e
sized r ReportingCounterparty text e = there 20 _ text (code_fits r.parties.reporter) e
sized r OtherKind text e = there 1 _ text (letter_fits (party_kind_letter (party_parts r.parties.other).kind)) e
sized r OtherCounterparty text e = there 20 _ text (party_fits r.parties.other) e
sized r OtherCountry text e = there 2 _ text (code_fits r.parties.country) e
sized r Action text e = there 1 _ text (letter_fits (action_letter r.action)) e
sized r Level text e = maybe 1 _ (λ x. letter_fits (level_letter x)) r.level text e
sized r EligibleDate text e = maybe 10 _ (λ x. date_fits (number x)) r.eligible text e
sized r Side text e = maybe 1 _ (λ x. letter_fits (side_letter x)) r.details.side text e
sized r ProductIdKind text e = maybe 1 _ (λ x. letter_fits (product_id_kind_letter x)) r.details.product_id_kind text e
sized r ProductId text e = maybe 64 _ code_fits r.details.product_id text e
sized r UnderlyingKind text e = maybe 1 _ (λ x. letter_fits (underlying_kind_letter x)) r.details.underlying_kind text e
sized r UnderlyingId text e = maybe 64 _ code_fits r.details.underlying_id text e
sized r NotionalCurrency1 text e = maybe 3 _ code_fits r.details.notional_currency_1 text e
sized r NotionalCurrency2 text e = maybe 3 _ code_fits r.details.notional_currency_2 text e
sized r Venue text e = maybe 4 _ code_fits r.details.venue text e
sized r Compression text e = maybe 1 _ (λ x. letter_fits (compression_letter x)) r.details.compression text e
sized r Price text e = maybe 22 _ amount_fits r.details.price text e
sized r PriceNotation text e = maybe 1 _ (λ x. letter_fits (price_notation_letter x)) r.details.price_notation text e
sized r PriceCurrency text e = maybe 3 _ code_fits r.details.price_currency text e
sized r Notional text e = maybe 22 _ amount_fits r.details.notional text e
sized r ExecutionTimestamp text e = maybe 20 _ (λ x. timestamp_fits (instant x)) r.details.executed text e
sized r ClearingTimestamp text e = maybe 20 _ (λ x. timestamp_fits (instant x)) r.details.cleared text e
sized r ExchangeRate1 text e = maybe 12 _ rate_fits r.details.exchange_rate_1 text e
sized r Valuation text e = maybe 22 _ amount_fits r.valuation text e

-- ---- what they say

says : {X Y : Type 0} (spelled : List ℕ → Option Y) (worth : X → Y) (text : X → List ℕ) → ((x : X) → spelled (text x) ≡ Some (worth x)) → (v : Option X) → Says spelled worth (option_map text v) v
says spelled worth text back None = refl
says spelled worth text back (Some x) = ap Some (back x)

date_back : (d : Date) → date_of (date_text (number d)) ≡ Some (number d)
date_back d = date_read _ _ (text_names (number d) d.within)

timestamp_back : (t : Timestamp) → timestamp_of (timestamp_text (instant t)) ≡ Some (instant t)
timestamp_back t = instant_read _ _ (stamp_names (instant t) (omega (arith, t.time.within, t.date.within)))

details_told : (r : Report) → TellsDetails (written_text r) r.details
details_told r = record {
  side = says _ _ _ side_back r.details.side;
  product_id_kind = says _ _ _ product_id_kind_back r.details.product_id_kind;
  product_id = says _ _ _ (λ c. forms.reads_back c) r.details.product_id;
  underlying_kind = says _ _ _ underlying_kind_back r.details.underlying_kind;
  underlying_id = says _ _ _ (λ c. forms.reads_back c) r.details.underlying_id;
  notional_currency_1 = says _ _ _ (λ c. forms.reads_back c) r.details.notional_currency_1;
  notional_currency_2 = says _ _ _ (λ c. forms.reads_back c) r.details.notional_currency_2;
  venue = says _ _ _ (λ c. forms.reads_back c) r.details.venue;
  compression = says _ _ _ compression_back r.details.compression;
  price = says _ _ _ reads_back_20 r.details.price;
  price_notation = says _ _ _ price_notation_back r.details.price_notation;
  price_currency = says _ _ _ (λ c. forms.reads_back c) r.details.price_currency;
  notional = says _ _ _ reads_back_20 r.details.notional;
  executed = says _ _ _ timestamp_back r.details.executed;
  cleared = says _ _ _ timestamp_back r.details.cleared;
  exchange_rate_1 = says _ _ _ amount_laws.rate_reads_back r.details.exchange_rate_1;
}

-- a report's own texts say the report
pub told : (r : Report) → Tells (written_text r) r
told r = record {
  parties = record {
    trade = ap Some (forms.reads_back r.parties.trade);
    reporter = ap Some (forms.reads_back r.parties.reporter);
    other = record { kind = ap Some (party_kind_back (party_parts r.parties.other).kind); text = ap Some (party_back r.parties.other) };
    country = ap Some (forms.reads_back r.parties.country);
  };
  action = ap Some (action_back r.action);
  level = says _ _ _ level_back r.level;
  eligible = says _ _ _ date_back r.eligible;
  details = details_told r;
  valuation = says _ _ _ reads_back_20 r.valuation;
}
