-- The other counterparty, as its kind and its text.
use Rattle.std.specs.Prelude.{ℕ, List, Option}
use Rattle.std.specs.Option.{option_map}
use Rattle.fields.specs.declared.field.report.PartyKind.{PartyKind}
use Rattle.fields.specs.declared.field.report.PartyKind.TheVariants.{Lei, Client}
use Rattle.fields.specs.declared.party.OtherParty.{OtherParty}
use Rattle.fields.specs.declared.party.OtherParty.TheVariants.{Lei as ByLei, Client as ByClient}
use Rattle.codes.specs.Codes.{text_of}
use Rattle.codes.specs.Rules.{code_of}
use Rattle.codes.specs.Values.{capitals_and_digits}

pub record PartyParts : Type 0 where
  pub kind : PartyKind
  pub text : List ℕ

abbrev pub party_parts : OtherParty → PartyParts
party_parts (ByLei lei) = record { kind = Lei; text = text_of lei }
party_parts (ByClient code) = record { kind = Client; text = text_of code }

-- the party that is read from a text: 20 capitals and digits for an LEI, 1 to 20 for a client
abbrev pub party_in : PartyKind → List ℕ → Option PartyParts
party_in Lei text = option_map (λ t. record { kind = Lei; text = t }) (code_of capitals_and_digits 20 20 text)
party_in Client text = option_map (λ t. record { kind = Client; text = t }) (code_of capitals_and_digits 1 20 text)
