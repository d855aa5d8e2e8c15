-- A report is written with the texts that it was read from, but for amounts, which are as short as they can be.
use Rattle.std.proofs.Common.{◌≡◌, ℕ, Bool, true, false, cond, List, [], ◌∷◌, Some, None, Option, refl, ap, sym, ◌∙◌, ◌⊎◌, inl, inr}
use mathlib.Core.Path.{fun_ext}
use Rattle.std.specs.Option.{option_map}
use Rattle.amounts.specs.Amounts.{worth}
use Rattle.amounts.specs.Decimal.{amount_of}
use Rattle.amounts.specs.Rates.{rate_worth}
use Rattle.amounts.specs.Shortest.{shortest, shortest_text}
use Rattle.amounts.specs.declared.amount.Amount.{Amount}
use Rattle.amounts.specs.declared.amount.rate.ExchangeRate.{ExchangeRate}
use Rattle.calendar.proofs.Civil.{date_names, one_text}
use Rattle.calendar.specs.Dates.{number}
use Rattle.calendar.specs.Text.{date_of, date_text}
use Rattle.calendar.specs.declared.date.Date.{Date}
use Rattle.codes.specs.Alphabets.{one_of}
use Rattle.codes.specs.Codes.{text_of}
use Rattle.codes.specs.Rules.{code_of, keeps}
use Rattle.codes.specs.Values.{capitals_and_digits}
use Rattle.codes.specs.declared.code.Code.{Code}
use Rattle.fields.specs.Fields.{action_letter, action_letters, compression_letter, compression_letters, level_letter, level_letters, party_kind_letter, party_kind_letters, price_notation_letter, price_notation_letters, product_id_kind_letter, product_id_kind_letters, side_letter, side_letters, underlying_kind_letter, underlying_kind_letters}
use Rattle.fields.specs.Letters.{letter_in}
use Rattle.fields.specs.declared.field.report.PartyKind.{PartyKind}
use Rattle.fields.specs.Parties.{PartyParts, party_in, party_parts}
use Rattle.fields.specs.declared.party.OtherParty.{OtherParty}
use Rattle.fields.specs.declared.party.OtherParty.TheVariants.{Lei as ByLei, Client as ByClient}
use Rattle.refusals.specs.declared.tag.Tag.{Tag}
use Rattle.refusals.specs.declared.tag.Tag.TheVariants.{TradeId, ReportingCounterparty, OtherKind, OtherCounterparty, OtherCountry, Action, Level, EligibleDate, Side, ProductIdKind, ProductId, UnderlyingKind, UnderlyingId, NotionalCurrency1, NotionalCurrency2, Venue, Compression, Price, PriceNotation, PriceCurrency, Notional, ExecutionTimestamp, ClearingTimestamp, ExchangeRate1, Valuation}
use Rattle.timestamps.proofs.Instants.{instant_names, one_stamp}
use Rattle.timestamps.specs.Times.{timestamp_of, timestamp_text}
use Rattle.timestamps.specs.Timestamps.{instant}
use Rattle.timestamps.specs.declared.timestamp.Timestamp.{Timestamp}
use Rattle.report.proofs.OneReport.{injective}
use Rattle.report.specs.Judging.{Texts}
use Rattle.report.specs.Texts.{Says}
use Rattle.report.specs.Values.{Tells}
use Rattle.report.specs.declared.report.Report.{Report}
use Rattle.slip_writer.specs.Written.{shortened, shortest_of, slip_of, slip_with, written_text}

-- where a value is written as the text that spelled it, it is written as it was read
module _ {X Y : Type 0} (spelled : List ℕ → Option Y) (worth : X → Y) (text : X → List ℕ) (back : (t : List ℕ) (x : X) → spelled t ≡ Some (worth x) → text x ≡ t) where
  kept : (t : Option (List ℕ)) (v : Option X) → Says spelled worth t v → option_map text v ≡ t
  kept None None s = refl
  kept None (Some x) s = absurd (cc)
  kept (Some t) None s = absurd (cc)
  kept (Some t) (Some x) s = ap Some (back t x (injective _ _ s))

spelled_itself : (b : Bool) (t u : List ℕ) → cond b (Some t) None ≡ Some u → u ≡ t
spelled_itself true t u e = sym (injective t u e)
spelled_itself false t u e = absurd (cc)

code_kept : {A : _} {m : _} {least most : ℕ} (t : List ℕ) (c : Code A least most m) → code_of m.letters least most t ≡ Some (text_of c) → text_of c ≡ t
code_kept {A} {m} {least} {most} t c e = spelled_itself (keeps m.letters least most t) t (text_of c) e

letter_itself : (b : Bool) (x y : ℕ) → cond b (Some x) None ≡ Some y → y ∷ [] ≡ x ∷ []
letter_itself true x y e = ap (λ n. n ∷ []) (sym (injective x y e))
letter_itself false x y e = absurd (cc)

letter_kept : (letters : List ℕ) (t : List ℕ) (y : ℕ) → letter_in letters t ≡ Some y → y ∷ [] ≡ t
letter_kept letters [] y e = absurd (cc)
letter_kept letters (x ∷ []) y e = letter_itself (one_of letters x) x y e
letter_kept letters (x ∷ (z ∷ t)) y e = absurd (cc)

date_kept : (t : List ℕ) (d : Date) → date_of t ≡ Some (number d) → date_text (number d) ≡ t
date_kept t d e = sym (one_text t (number d) (date_names t (number d) e))

timestamp_kept : (t : List ℕ) (s : Timestamp) → timestamp_of t ≡ Some (instant s) → timestamp_text (instant s) ≡ t
timestamp_kept t s e = sym (one_stamp t (instant s) (instant_names t (instant s) e))

amount_short : (t : Option (List ℕ)) (v : Option Amount) → Says (amount_of 20) worth t v → option_map shortest v ≡ shortest_of 20 t
amount_short None None s = refl
amount_short None (Some a) s = absurd (cc)
amount_short (Some t) None s = absurd (cc)
amount_short (Some t) (Some a) s = ap (option_map shortest_text) (sym (injective _ _ s))

rate_short : (t : Option (List ℕ)) (v : Option ExchangeRate) → Says (amount_of 10) rate_worth t v → option_map (λ x. shortest x.amount) v ≡ shortest_of 10 t
rate_short None None s = refl
rate_short None (Some r) s = absurd (cc)
rate_short (Some t) None s = absurd (cc)
rate_short (Some t) (Some r) s = ap (option_map shortest_text) (sym (injective _ _ s))

abbrev tell : PartyKind → List ℕ → PartyParts
tell kind text = record { kind = kind; text = text }

party_text : {kind : PartyKind} (o : Option (List ℕ)) (t u : List ℕ) → o ≡ code_of capitals_and_digits 20 20 t ⊎ o ≡ code_of capitals_and_digits 1 20 t → option_map (λ (x : List ℕ). tell kind x) o ≡ Some (tell kind u) → u ≡ t
party_text None t u c e = absurd (cc)
party_text (Some x) t u (inl c) e = sym (ap (λ (p : PartyParts). p.text) (injective _ _ e)) ∙ spelled_itself (keeps capitals_and_digits 20 20 t) t x (sym c)
party_text (Some x) t u (inr c) e = sym (ap (λ (p : PartyParts). p.text) (injective _ _ e)) ∙ spelled_itself (keeps capitals_and_digits 1 20 t) t x (sym c)

party_kept : (t : List ℕ) (p : OtherParty) → party_in (party_parts p).kind t ≡ Some (party_parts p) → (party_parts p).text ≡ t
party_kept t (ByLei lei) e = party_text (code_of capitals_and_digits 20 20 t) t (text_of lei) (inl refl) e
party_kept t (ByClient code) e = party_text (code_of capitals_and_digits 1 20 t) t (text_of code) (inr refl) e

party_there : (t : Option (List ℕ)) (p : OtherParty) → Says (party_in (party_parts p).kind) party_parts t (Some p) → Some (party_parts p).text ≡ t
party_there None p s = absurd (cc)
party_there (Some t) p s = ap Some (party_kept t p (injective _ _ s))

module _ (r : Report) (texts : Texts) (p : Tells texts r) where
  each : (tag : Tag) → written_text r tag ≡ shortened texts tag
  each TradeId = kept _ _ _ code_kept _ (Some r.parties.trade) p.parties.trade
  each ReportingCounterparty = kept _ _ _ code_kept _ (Some r.parties.reporter) p.parties.reporter
  each OtherKind = kept _ _ _ (λ t x e. letter_kept party_kind_letters t (party_kind_letter x) e) _ (Some (party_parts r.parties.other).kind) p.parties.other.kind
  each OtherCounterparty = party_there _ r.parties.other p.parties.other.text
  each OtherCountry = kept _ _ _ code_kept _ (Some r.parties.country) p.parties.country
  each Action = kept _ _ _ (λ t x e. letter_kept action_letters t (action_letter x) e) _ (Some r.action) p.action
  each Level = kept _ _ _ (λ t x e. letter_kept level_letters t (level_letter x) e) _ r.level p.level
  each EligibleDate = kept _ _ _ date_kept _ r.eligible p.eligible
  each Side = kept _ _ _ (λ t x e. letter_kept side_letters t (side_letter x) e) _ r.details.side p.details.side
  each ProductIdKind = kept _ _ _ (λ t x e. letter_kept product_id_kind_letters t (product_id_kind_letter x) e) _ r.details.product_id_kind p.details.product_id_kind
  each ProductId = kept _ _ _ code_kept _ r.details.product_id p.details.product_id
  each UnderlyingKind = kept _ _ _ (λ t x e. letter_kept underlying_kind_letters t (underlying_kind_letter x) e) _ r.details.underlying_kind p.details.underlying_kind
  each UnderlyingId = kept _ _ _ code_kept _ r.details.underlying_id p.details.underlying_id
  each NotionalCurrency1 = kept _ _ _ code_kept _ r.details.notional_currency_1 p.details.notional_currency_1
  each NotionalCurrency2 = kept _ _ _ code_kept _ r.details.notional_currency_2 p.details.notional_currency_2
  each Venue = kept _ _ _ code_kept _ r.details.venue p.details.venue
  each Compression = kept _ _ _ (λ t x e. letter_kept compression_letters t (compression_letter x) e) _ r.details.compression p.details.compression
  each Price = amount_short _ r.details.price p.details.price
  each PriceNotation = kept _ _ _ (λ t x e. letter_kept price_notation_letters t (price_notation_letter x) e) _ r.details.price_notation p.details.price_notation
  each PriceCurrency = kept _ _ _ code_kept _ r.details.price_currency p.details.price_currency
  each Notional = amount_short _ r.details.notional p.details.notional
  each ExecutionTimestamp = kept _ _ _ timestamp_kept _ r.details.executed p.details.executed
  each ClearingTimestamp = kept _ _ _ timestamp_kept _ r.details.cleared p.details.cleared
  each ExchangeRate1 = rate_short _ r.details.exchange_rate_1 p.details.exchange_rate_1
  each Valuation = amount_short _ r.valuation p.valuation

-- a report is written as the slip of the texts that say it
pub same_texts : (r : Report) (texts : Texts) → Tells texts r → slip_of r ≡ slip_with (shortened texts)
same_texts r texts p = ap slip_with (fun_ext (each r texts p))
