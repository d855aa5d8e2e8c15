-- Rows that hold the same are one.
use Rattle.std.proofs.Common.{◌≡◌, ◌≤◌, false, None, Some, Option, refl, sym, ap, ◌∙◌}
use Rattle.std.specs.Option.{option_map}
use Rattle.std.specs.Coded.{Coded-set, coded_bool}
use native.Mathlib.Bridge.{le_prop}
use mathlib.Core.HLevel.{is_prop→PathP}
use Rattle.business.specs.BusinessDays.{day_no}
use Rattle.business.specs.TargetDays.{closed}
use Rattle.business.specs.declared.business_day.BusinessDay.{BusinessDay}
use Rattle.calendar.proofs.Form.{one_form as one_date}
use Rattle.calendar.specs.Dates.{number}
use Rattle.codes.proofs.CodeLaws.{one_form as one_code}
use Rattle.rows.proofs.KeyLaws.{laws as key_laws, one_key}
use Rattle.rows.proofs.StandingLaws.{laws as standing_laws}
use Rattle.rows.specs.Blank.{IsBlank, NoTags}
use Rattle.rows.specs.Changes.{Holds}
use Rattle.rows.specs.Entries.{Entry, entry_of}
use Rattle.rows.specs.Laws.{RowLaws}
use Rattle.rows.specs.declared.row.Row.{Row}
use Rattle.rows.specs.declared.row.Tags.{Tags}
use Rattle.rows.specs.declared.tries.Tries.{Tries}

pub one_day : (a b : BusinessDay) → day_no a ≡ day_no b → a ≡ b
one_day a b e =
    let date = one_date a.date b.date e in
    λ i. record { date = date i; «open» = is_prop→PathP (λ j. closed (number (date j)) ≡ false) (λ j. hlevel (Coded-set coded_bool)) a.«open» b.«open» i }

pub same_day : (a b : Option BusinessDay) → option_map day_no a ≡ option_map day_no b → a ≡ b
same_day None None e = refl
same_day None (Some b) e = absurd (cc)
same_day (Some a) None e = absurd (cc)
same_day (Some a) (Some b) e = ap Some (one_day a b (cc))

pub one_count : (a b : Tries) → a.count ≡ b.count → a ≡ b
one_count a b e = λ i. record { count = e i; most = is_prop→PathP (λ j. e j ≤ 7) (λ j. le_prop) a.most b.most i }

pub one_row : (a b : Row) (e : Entry) → Holds a e → Holds b e → a ≡ b
one_row a b e p q =
    let same : entry_of a ≡ entry_of b = p.entry ∙ sym q.entry in
    let key = one_key a.key b.key (ap (λ (x : Entry). x.key) same) in
    let tags = ap (λ (x : Entry). x.tags) same in
    let standing = ap (λ (x : Entry). x.standing) same in
    let due = same_day a.due b.due (ap (λ (x : Entry). x.due) same) in
    let tries = one_count a.tries b.tries (ap (λ (x : Entry). x.tries) same) in
    let state = ap (λ (x : Entry). x.state) same in
    let findings = ap (λ (x : Entry). x.findings) same in
    let settled = ap (λ (x : Entry). x.settled) same in
    let fate = p.fate ∙ sym q.fate in
    λ i. record {
      key = key i;
      tags = tags i;
      standing = standing i;
      due = due i;
      tries = tries i;
      state = state i;
      findings = findings i;
      settled = settled i;
      fate = fate i;
    }

no_tags : (a b : Tags) → NoTags a → NoTags b → a ≡ b
no_tags a b p q =
    let other_kind = p.other_kind ∙ sym q.other_kind in
    let country = one_code a.country b.country (p.country ∙ sym q.country) in
    let action = p.action ∙ sym q.action in
    let level = p.level ∙ sym q.level in
    let eligible = p.eligible ∙ sym q.eligible in
    let details = p.details ∙ sym q.details in
    let valuation = p.valuation ∙ sym q.valuation in
    λ i. record { other_kind = other_kind i; country = country i; action = action i; level = level i; eligible = eligible i; details = details i; valuation = valuation i }

pub one_blank : (a b : Row) → IsBlank a → IsBlank b → a ≡ b
one_blank a b p q =
    let key = one_key a.key b.key (p.key ∙ sym q.key) in
    let tags = no_tags a.tags b.tags p.tags q.tags in
    let standing = p.standing ∙ sym q.standing in
    let due = p.due ∙ sym q.due in
    let tries = one_count a.tries b.tries (p.tries ∙ sym q.tries) in
    let state = p.state ∙ sym q.state in
    let findings = p.findings ∙ sym q.findings in
    let settled = p.settled ∙ sym q.settled in
    let fate = p.fate ∙ sym q.fate in
    λ i. record {
      key = key i;
      tags = tags i;
      standing = standing i;
      due = due i;
      tries = tries i;
      state = state i;
      findings = findings i;
      settled = settled i;
      fate = fate i;
    }

pub laws : RowLaws
laws = record { forms = record { one_key = one_key; one_row = one_row; one_blank = one_blank }; keys = key_laws; standings = standing_laws }
