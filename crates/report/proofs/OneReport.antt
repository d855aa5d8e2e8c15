-- What texts say is one report.
use Rattle.std.proofs.Common.{◌≡◌, true, List, ℕ, Some, None, Option, Ok, Err, Result, refl, sym, ap, ◌∙◌, subst}
use Rattle.std.specs.Option.{option_map}
use Rattle.std.specs.Coded.{Coded-set, coded_bool}
use mathlib.Core.HLevel.{is_prop→PathP}
use Rattle.amounts.proofs.Laws.{one_form as one_amount, rate_form as one_rate}
use Rattle.calendar.proofs.Form.{one_form as one_date}
use Rattle.codes.proofs.CodeLaws.{one_form as one_code}
use Rattle.fields.proofs.PartyLaws.{one_form as one_party}
use Rattle.timestamps.proofs.Form.{one_form as one_timestamp}
use Rattle.report.proofs.Letters.{one_action, one_compression, one_level, one_party_kind, one_price_notation, one_product_id_kind, one_side, one_underlying_kind}
use Rattle.report.proofs.Naming.{bad_named, missing_named, numbers, slip_not_torn, torn, whole_read}
use Rattle.report.proofs.Told.{same_refusal}
use Rattle.refusals.specs.Words.{parts_of}
use Rattle.refusals.specs.declared.refusal.Refusal.{Refusal}
use Rattle.report.specs.Judging.{Texts, fields_told}
use Rattle.report.specs.Laws.{ReadAs, ReportLaws}
use Rattle.report.specs.Needs.{keeps_needs}
use Rattle.report.specs.Texts.{Says, text_in}
use Rattle.report.specs.Values.{Tells, TellsDetails, TellsOther, TellsParties}
use Rattle.refusals.specs.declared.tag.Tag.TheVariants as Tag
use Rattle.fields.specs.Fields.{party_kind_letter, party_kind_letters}
use Rattle.fields.specs.Letters.{letter_in}
use Rattle.report.specs.declared.details.Details.{Details}
use Rattle.report.specs.declared.parties.Parties.{Parties}
use Rattle.report.specs.declared.report.Report.{Report}
use Rattle.fields.specs.Parties.{party_in, party_parts}
use Rattle.fields.specs.declared.party.OtherParty.{OtherParty}

pub injective : {X : Type 0} (x y : X) → Some x ≡ Some y → x ≡ y
injective x y e = cc

-- where each value has one form, a text says one value
module _ {X Y : Type 0} (spelled : List ℕ → Option Y) (worth : X → Y) (one : (x y : X) → worth x ≡ worth y → x ≡ y) where
  same_worth : (v w : Option X) → option_map (λ x. Some (worth x)) v ≡ option_map (λ x. Some (worth x)) w → v ≡ w
  same_worth None None e = refl
  same_worth None (Some w) e = absurd (cc)
  same_worth (Some v) None e = absurd (cc)
  same_worth (Some v) (Some w) e = ap Some (one v w (injective _ _ (injective _ _ e)))

  one_value : (text : Option (List ℕ)) (v w : Option X) → Says spelled worth text v → Says spelled worth text w → v ≡ w
  one_value text v w p q = same_worth v w (sym p ∙ q)

  one_there : (text : Option (List ℕ)) (x y : X) → Says spelled worth text (Some x) → Says spelled worth text (Some y) → x ≡ y
  one_there text x y p q = injective x y (one_value text (Some x) (Some y) p q)

one_other : (texts : Texts) (a b : OtherParty) → TellsOther texts a → TellsOther texts b → a ≡ b
one_other texts a b p q =
    let k = one_there (letter_in party_kind_letters) party_kind_letter one_party_kind (texts Tag.OtherKind) _ _ p.kind q.kind in
    let t = subst (λ kind. Says (party_in kind) party_parts (texts Tag.OtherCounterparty) (Some b)) (sym k) q.text in
    one_there (party_in (party_parts a).kind) party_parts one_party (texts Tag.OtherCounterparty) a b p.text t

one_parties : (texts : Texts) (a b : Parties) → TellsParties texts a → TellsParties texts b → a ≡ b
one_parties texts a b p q =
    let trade = one_there _ _ one_code _ _ _ p.trade q.trade in
    let reporter = one_there _ _ one_code _ _ _ p.reporter q.reporter in
    let other = one_other texts _ _ p.other q.other in
    let country = one_there _ _ one_code _ _ _ p.country q.country in
    λ i. record { trade = trade i; reporter = reporter i; other = other i; country = country i }

one_details : (texts : Texts) (a b : Details) → TellsDetails texts a → TellsDetails texts b → a ≡ b
one_details texts a b p q =
    let side = one_value _ _ one_side _ _ _ p.side q.side in
    let product_id_kind = one_value _ _ one_product_id_kind _ _ _ p.product_id_kind q.product_id_kind in
    let product_id = one_value _ _ one_code _ _ _ p.product_id q.product_id in
    let underlying_kind = one_value _ _ one_underlying_kind _ _ _ p.underlying_kind q.underlying_kind in
    let underlying_id = one_value _ _ one_code _ _ _ p.underlying_id q.underlying_id in
    let notional_currency_1 = one_value _ _ one_code _ _ _ p.notional_currency_1 q.notional_currency_1 in
    let notional_currency_2 = one_value _ _ one_code _ _ _ p.notional_currency_2 q.notional_currency_2 in
    let venue = one_value _ _ one_code _ _ _ p.venue q.venue in
    let compression = one_value _ _ one_compression _ _ _ p.compression q.compression in
    let price = one_value _ _ one_amount _ _ _ p.price q.price in
    let price_notation = one_value _ _ one_price_notation _ _ _ p.price_notation q.price_notation in
    let price_currency = one_value _ _ one_code _ _ _ p.price_currency q.price_currency in
    let notional = one_value _ _ one_amount _ _ _ p.notional q.notional in
    let executed = one_value _ _ one_timestamp _ _ _ p.executed q.executed in
    let cleared = one_value _ _ one_timestamp _ _ _ p.cleared q.cleared in
    let exchange_rate_1 = one_value _ _ one_rate _ _ _ p.exchange_rate_1 q.exchange_rate_1 in
    λ i. record {
      side = side i;
      product_id_kind = product_id_kind i;
      product_id = product_id i;
      underlying_kind = underlying_kind i;
      underlying_id = underlying_id i;
      notional_currency_1 = notional_currency_1 i;
      notional_currency_2 = notional_currency_2 i;
      venue = venue i;
      compression = compression i;
      price = price i;
      price_notation = price_notation i;
      price_currency = price_currency i;
      notional = notional i;
      executed = executed i;
      cleared = cleared i;
      exchange_rate_1 = exchange_rate_1 i;
    }

-- what texts say is one report
pub one_report : (texts : Texts) (r q : Report) → Tells texts r → Tells texts q → r ≡ q
one_report texts r q p s =
    let parties = one_parties texts r.parties q.parties p.parties s.parties in
    let action = one_there _ _ one_action _ _ _ p.action s.action in
    let level = one_value _ _ one_level _ _ _ p.level s.level in
    let eligible = one_value _ _ one_date _ _ _ p.eligible s.eligible in
    let details = one_details texts r.details q.details p.details s.details in
    let valuation = one_value _ _ one_amount _ _ _ p.valuation s.valuation in
    λ i. record {
      parties = parties i;
      action = action i;
      level = level i;
      eligible = eligible i;
      details = details i;
      valuation = valuation i;
      needs = is_prop→PathP (λ j. keeps_needs (action j) (level j) (eligible j) (details j) (valuation j) ≡ true) (λ j. hlevel (Coded-set coded_bool)) r.needs q.needs i;
    }

-- reading has one answer
pub one_answer : (bytes : List ℕ) (a b : Result Report Refusal) → ReadAs bytes a → ReadAs bytes b → a ≡ b
one_answer bytes (Ok r) (Ok q) s t = ap Ok (one_report (text_in (fields_told bytes)) r q s.0 t.0)
one_answer bytes (Ok r) (Err f) s t = absurd (cc)
one_answer bytes (Err e) (Ok q) s t = absurd (cc)
one_answer bytes (Err e) (Err f) s t = ap Err (same_refusal e f (injective (parts_of e) (parts_of f) (s.1 ∙ sym t.1)))

pub laws : ReportLaws
laws = record { one_report = one_report; one_answer = one_answer; missing_named = missing_named; bad_named = bad_named; numbers = numbers; torn = torn; whole_read = whole_read; slip_not_torn = slip_not_torn }
