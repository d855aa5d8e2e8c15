-- Proofs of the laws of the other counterparty.
use Rattle.std.proofs.Common.{◌≡◌, Some, ap, sym}
use Rattle.std.specs.Option.{option_map}
use Rattle.codes.proofs.CodeLaws.{forms, one_form as one_code}
use Rattle.fields.specs.Laws.{PartyLaws}
use Rattle.fields.specs.Parties.{PartyParts, party_in, party_parts}
use Rattle.fields.specs.declared.field.report.PartyKind.TheVariants.{Lei, Client}
use Rattle.fields.specs.declared.party.OtherParty.{OtherParty}
use Rattle.fields.specs.declared.party.OtherParty.TheVariants.{Lei as ByLei, Client as ByClient}

apart : Lei ≡ Client → ⊥
apart e = cc

-- one kind and one text have one party
pub one_form : (a b : OtherParty) → party_parts a ≡ party_parts b → a ≡ b
one_form (ByLei a) (ByLei b) e = ap ByLei (one_code a b (ap (λ (p : PartyParts). p.text) e))
one_form (ByLei a) (ByClient b) e = absurd (apart (ap (λ (p : PartyParts). p.kind) e))
one_form (ByClient a) (ByLei b) e = absurd (apart (sym (ap (λ (p : PartyParts). p.kind) e)))
one_form (ByClient a) (ByClient b) e = ap ByClient (one_code a b (ap (λ (p : PartyParts). p.text) e))

-- the text of a party reads back
pub reads_back : (p : OtherParty) → party_in (party_parts p).kind (party_parts p).text ≡ Some (party_parts p)
reads_back (ByLei lei) = ap (option_map (λ t. record { kind = Lei; text = t })) (forms.reads_back lei)
reads_back (ByClient code) = ap (option_map (λ t. record { kind = Client; text = t })) (forms.reads_back code)

pub laws : PartyLaws
laws = record { one_form = one_form; reads_back = reads_back }
