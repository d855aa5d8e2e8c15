-- A report's own texts are refused for nothing.
use Rattle.std.proofs.Common.{◌≡◌, ℕ, Bool, true, false, ◌&&◌, List, [], ◌∷◌, Some, None, Option, refl, sym, subst}
use Rattle.std.specs.List.{find}
use Rattle.std.specs.Option.{is_some, option_map}
use Rattle.std.specs.Str.{byte}
use Rattle.std.proofs.lemmas.Bool.{and_parts}
use Rattle.fields.specs.Fields.{action_letter, level_letter, party_kind_letter}
use Rattle.fields.specs.Parties.{party_in, party_parts}
use Rattle.fields.specs.declared.field.report.Action.{Action}
use Rattle.fields.specs.declared.field.report.Action.TheVariants as Does
use Rattle.fields.specs.declared.field.report.Level.{Level}
use Rattle.fields.specs.declared.field.report.Level.TheVariants as At
use Rattle.fields.specs.declared.field.report.PartyKind.{PartyKind}
use Rattle.fields.specs.declared.field.report.PartyKind.TheVariants.{Lei, Client}
use Rattle.refusals.specs.declared.tag.Tag.{Tag}
use Rattle.refusals.specs.declared.tag.Tag.TheVariants.{TradeId, ReportingCounterparty, OtherKind, OtherCounterparty, OtherCountry, EligibleDate, Side, ProductIdKind, ProductId, UnderlyingKind, UnderlyingId, NotionalCurrency1, NotionalCurrency2, Venue, Compression, Price, PriceNotation, PriceCurrency, Notional, ExecutionTimestamp, ClearingTimestamp, ExchangeRate1, Valuation}
use Rattle.refusals.specs.declared.tag.Tag.TheVariants.{Action as ActionTag, Level as LevelTag}
use Rattle.report.proofs.OneReport.{injective}
use Rattle.slip_writer.proofs.OwnTexts.{told}
use Rattle.report.specs.Judging.{AllThere, Texts, all_tags, bad, is_letter, kind_told, misplaced, missing_field, needed_by_letter, refusal_of_texts}
use Rattle.report.specs.Needs.{at_trade_level, described, keeps_needs}
use Rattle.report.specs.Texts.{Says, unreadable}
use Rattle.report.specs.Values.{Tells}
use Rattle.slip_writer.specs.Written.{written_text}
use Rattle.report.specs.declared.report.Report.{Report}

-- a text that says a value can be read
readable : {Y : Type 0} (spelled : List ℕ → Option Y) (text : Option (List ℕ)) (y : Y) → option_map spelled text ≡ Some (Some y) → unreadable spelled text ≡ false
readable spelled None y s = absurd (cc)
readable spelled (Some text) y s = let e : spelled text ≡ Some y = injective _ _ s in rw e refl

-- and so can the text of a field that may be left out
readable_if_there : {X Y : Type 0} (spelled : List ℕ → Option Y) (worth : X → Y) (text : Option (List ℕ)) (v : Option X) → Says spelled worth text v → unreadable spelled text ≡ false
readable_if_there spelled worth None v s = refl
readable_if_there spelled worth (Some text) None s = absurd (cc)
readable_if_there spelled worth (Some text) (Some x) s = readable spelled (Some text) (worth x) s

kind_kept : (kind : PartyKind) → kind_told (Some (party_kind_letter kind ∷ [])) ≡ kind
kind_kept Lei = refl
kind_kept Client = refl

at_level : (action : Action) (level : Option Level) (eligible : _) (details : _) (valuation : _) → keeps_needs action level eligible details valuation ≡ true → (is_letter (byte "P") (Some (action_letter action ∷ [])) && is_letter (byte "P") (option_map (λ x. level_letter x ∷ []) level)) ≡ false
at_level Does.New level eligible details valuation n = refl
at_level Does.Modify level eligible details valuation n = refl
at_level Does.Correction level eligible details valuation n = refl
at_level Does.ValuationUpdate level eligible details valuation n = refl
at_level Does.EarlyTermination level eligible details valuation n = refl
at_level Does.Compression level eligible details valuation n = refl
at_level Does.Error level eligible details valuation n = refl
at_level Does.PositionComponent None eligible details valuation n = refl
at_level Does.PositionComponent (Some At.Trade) eligible details valuation n = refl
at_level Does.PositionComponent (Some At.Position) eligible details valuation n = absurd (let p = and_parts (described (Some At.Position) eligible details) false n in cc)

-- none of them is bad
module _ (texts : Texts) (r : Report) (p : Tells texts r) (kind : kind_told (texts OtherKind) ≡ (party_parts r.parties.other).kind) (level : misplaced texts ≡ false) where
  good : (tag : Tag) → bad texts tag ≡ false
  good TradeId = readable _ _ _ p.parties.trade
  good ReportingCounterparty = readable _ _ _ p.parties.reporter
  good OtherKind = readable _ _ _ p.parties.other.kind
  good OtherCounterparty = subst (λ k. unreadable (party_in k) (texts OtherCounterparty) ≡ false) (sym kind) (readable _ _ _ p.parties.other.text)
  good OtherCountry = readable _ _ _ p.parties.country
  good ActionTag = readable _ _ _ p.action
  good LevelTag = rw (readable_if_there _ _ _ _ p.level) level
  good EligibleDate = readable_if_there _ _ _ _ p.eligible
  good Side = readable_if_there _ _ _ _ p.details.side
  good ProductIdKind = readable_if_there _ _ _ _ p.details.product_id_kind
  good ProductId = readable_if_there _ _ _ _ p.details.product_id
  good UnderlyingKind = readable_if_there _ _ _ _ p.details.underlying_kind
  good UnderlyingId = readable_if_there _ _ _ _ p.details.underlying_id
  good NotionalCurrency1 = readable_if_there _ _ _ _ p.details.notional_currency_1
  good NotionalCurrency2 = readable_if_there _ _ _ _ p.details.notional_currency_2
  good Venue = readable_if_there _ _ _ _ p.details.venue
  good Compression = readable_if_there _ _ _ _ p.details.compression
  good Price = readable_if_there _ _ _ _ p.details.price
  good PriceNotation = readable_if_there _ _ _ _ p.details.price_notation
  good PriceCurrency = readable_if_there _ _ _ _ p.details.price_currency
  good Notional = readable_if_there _ _ _ _ p.details.notional
  good ExecutionTimestamp = readable_if_there _ _ _ _ p.details.executed
  good ClearingTimestamp = readable_if_there _ _ _ _ p.details.cleared
  good ExchangeRate1 = readable_if_there _ _ _ _ p.details.exchange_rate_1
  good Valuation = readable_if_there _ _ _ _ p.valuation

none_found : (test : Tag → Bool) → ((tag : Tag) → test tag ≡ false) → (tags : List Tag) → find test tags ≡ None
none_found test f [] = refl
none_found test f (tag ∷ tags) = rw (f tag) (none_found test f tags)

none_lacking : (texts : Texts) (tags : List Tag) → AllThere texts tags → missing_field texts tags ≡ None
none_lacking texts [] a = refl
none_lacking texts (tag ∷ tags) a = rw a.0 (none_lacking texts tags a.1)

kept : {X : Type 0} (t : X → List ℕ) (v : Option X) → is_some v ≡ true → is_some (option_map t v) ≡ true
kept t None e = absurd (cc)
kept t (Some x) e = refl

described_there : (r : Report) → described r.level r.eligible r.details ≡ true → AllThere (written_text r) (LevelTag ∷ EligibleDate ∷ Side ∷ ExecutionTimestamp ∷ [])
described_there r d =
    let one = and_parts (is_some r.level) (is_some r.eligible && (is_some r.details.side && is_some r.details.executed)) d in
    let two = and_parts (is_some r.eligible) (is_some r.details.side && is_some r.details.executed) one.1 in
    let three = and_parts (is_some r.details.side) (is_some r.details.executed) two.1 in
    (kept _ r.level one.0, (kept _ r.eligible two.0, (kept _ r.details.side three.0, (kept _ r.details.executed three.1, tt))))

-- what an action needs is there
needs_there : (r : Report) (action : Action) → keeps_needs action r.level r.eligible r.details r.valuation ≡ true → AllThere (written_text r) (needed_by_letter (action_letter action))
needs_there r Does.New n = described_there r n
needs_there r Does.PositionComponent n = described_there r (and_parts (described r.level r.eligible r.details) (at_trade_level r.level) n).0
needs_there r Does.Modify n = described_there r n
needs_there r Does.Correction n = described_there r n
needs_there r Does.ValuationUpdate n = (kept _ r.valuation n, tt)
needs_there r Does.EarlyTermination n = tt
needs_there r Does.Compression n = tt
needs_there r Does.Error n = tt

-- a report's own texts are refused for nothing
pub accepted : (r : Report) → refusal_of_texts (written_text r) ≡ None
accepted r =
    let fine = good (written_text r) r (told r) (kind_kept (party_parts r.parties.other).kind) (at_level r.action r.level r.eligible r.details r.valuation r.needs) in
    let lacks = none_lacking (written_text r) (needed_by_letter (action_letter r.action)) (needs_there r r.action r.needs) in
    rw (fine ActionTag, lacks, none_found (bad (written_text r)) fine all_tags) refl
