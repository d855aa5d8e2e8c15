-- Laws of the other counterparty.
use Rattle.std.specs.Prelude.{◌≡◌, Some}
use Rattle.fields.specs.declared.party.OtherParty.{OtherParty}
use Rattle.fields.specs.Parties.{party_in, party_parts}

pub record PartyLaws : Type 0 where
  -- one kind and one text have one party
  pub one_form : (a b : OtherParty) → party_parts a ≡ party_parts b → a ≡ b
  -- the text of a party reads back
  pub reads_back : (p : OtherParty) → party_in (party_parts p).kind (party_parts p).text ≡ Some (party_parts p)
