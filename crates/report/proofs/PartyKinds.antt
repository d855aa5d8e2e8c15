-- The kind of the other counterparty.
use Rattle.std.proofs.Common.{◌≡◌, ℕ, List, [], ◌∷◌, Some, None, Option, arith}
use Rattle.std.proofs.lemmas.Bool.Decides.{nat_tests}
use Rattle.fields.specs.Fields.{party_kind_letter, party_kind_letters}
use Rattle.fields.specs.Letters.{letter_in}
use Rattle.fields.specs.Parties.{PartyParts, party_in}
use Rattle.fields.specs.declared.field.report.PartyKind.{PartyKind}
use Rattle.fields.specs.declared.field.report.PartyKind.TheVariants.{Lei, Client}
use Rattle.report.specs.Judging.{kind_told}
use Rattle.report.specs.Texts.{Says}

-- the kind that was read is the one that is told
pub kind_read : (text : Option (List ℕ)) (kind : PartyKind) → Says (letter_in party_kind_letters) party_kind_letter text (Some kind) → kind_told text ≡ kind
kind_read None kind h = grind arith
kind_read (Some []) kind h = grind arith
kind_read (Some (b ∷ [])) Lei h = grind (arith, nat_tests)
kind_read (Some (b ∷ [])) Client h = grind (arith, nat_tests)
kind_read (Some (b ∷ (c ∷ rest))) kind h = grind arith

-- a party that was read by its kind is of that kind
pub kind_kept : (kind : PartyKind) (text : List ℕ) (party : PartyParts) → party_in kind text ≡ Some party → party.kind ≡ kind
kind_kept Lei text party h = grind arith
kind_kept Client text party h = grind arith
