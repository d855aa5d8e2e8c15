-- What a row is found by: the Trade ID and the two counterparties, as texts.
use Rattle.std.specs.Prelude.{ℕ, Bool, List, Ok, Err, Result, Some, None, Option}
use Rattle.std.specs.Ordering.{is_eq, ordering_then}
use Rattle.std.specs.declared.cmp.Ordering.{Ordering}
use Rattle.codes.specs.Codes.{text_of, text_order}
use Rattle.codes.specs.Rules.{code_of}
use Rattle.codes.specs.Values.{capitals_and_digits, trade_id_bytes}
use Rattle.fields.specs.Parties.{party_parts}
use Rattle.refusals.specs.Words.{RefusalParts, parts_of}
use Rattle.refusals.specs.declared.refusal.Refusal.TheVariants.{BadField}
use Rattle.refusals.specs.declared.tag.Tag.{Tag}
use Rattle.refusals.specs.declared.tag.Tag.TheVariants.{TradeId, ReportingCounterparty, OtherCounterparty}
use Rattle.report.specs.declared.parties.Parties.{Parties}
use Rattle.rows.specs.declared.key.TradeKey.{TradeKey}

pub record Key : Type 0 where
  pub trade : List ℕ
  pub reporter : List ℕ
  pub other : List ℕ

-- the key of the counterparty's report of the same trade
abbrev pub mirror : Key → Key
mirror k = record { trade = k.trade; reporter = k.other; other = k.reporter }

-- by the Trade ID, then by the reporting counterparty, then by the other; texts byte by byte
abbrev pub key_order : Key → Key → Ordering
key_order k l = ordering_then (text_order k.trade l.trade) (ordering_then (text_order k.reporter l.reporter) (text_order k.other l.other))

abbrev pub same_key : Key → Key → Bool
same_key k l = is_eq (key_order k l)

abbrev pub key_of : TradeKey → Key
key_of k = record { trade = text_of k.trade; reporter = text_of k.reporter; other = text_of k.other }

-- the key of a report; of what kind the other counterparty is makes no difference
abbrev pub key_in : Parties → Key
key_in p = record { trade = text_of p.trade; reporter = text_of p.reporter; other = (party_parts p.other).text }

abbrev pub or_bad : {X Y : Type 0} → Tag → Option X → (X → Result Y RefusalParts) → Result Y RefusalParts
or_bad tag None next = Err (parts_of (BadField tag))
or_bad tag (Some x) next = next x

-- the key that three texts name; the first bad one is refused, in the order of the tags
abbrev pub key_named : List ℕ → List ℕ → List ℕ → Result Key RefusalParts
key_named trade reporter other =
    or_bad TradeId (code_of trade_id_bytes 1 52 trade) (λ t.
    or_bad ReportingCounterparty (code_of capitals_and_digits 20 20 reporter) (λ r.
    or_bad OtherCounterparty (code_of capitals_and_digits 1 20 other) (λ o.
    Ok (record { trade = t; reporter = r; other = o }))))
