-- The texts of keys have plain bytes only.
use Rattle.std.proofs.Common.{◌≡◌, ℕ, ◌<◌, Bool, true, List, [], ◌∷◌, refl, subst, sym, arith}
use Rattle.std.specs.Str.{IsAscii}
use Rattle.std.specs.List.{list_all}
use Rattle.std.proofs.lemmas.Bool.{and_parts}
use Rattle.std.proofs.lemmas.Bool.Decides.{nat_tests}
use Rattle.std.proofs.lemmas.Str.Ascii.{IsAscii-cons, IsAscii-nil}
use Rattle.codes.proofs.Filled.{parts_of_rule}
use Rattle.codes.specs.Rules.{keeps, text_in}
use Rattle.codes.specs.Values.{capitals_and_digits, trade_id_bytes}
use Rattle.journal.specs.Escapes.{escaped, escaped_byte, plain}

below : (b : ℕ) → plain b ≡ true → b < 128
below b e = grind (arith, nat_tests)

all_ascii : (has : ℕ → Bool) → ((b : ℕ) → has b ≡ true → plain b ≡ true) → (text : List ℕ) → list_all has text ≡ true → IsAscii text
all_ascii has h [] e = IsAscii-nil
all_ascii has h (b ∷ bs) e = let parts = and_parts (has b) (list_all has bs) e in IsAscii-cons b bs (below b (h b parts.0)) (all_ascii has h bs parts.1)

itself : (b : ℕ) → plain b ≡ true → escaped_byte b ≡ b ∷ []
itself b e = rw e refl

all_plain : (has : ℕ → Bool) → ((b : ℕ) → has b ≡ true → plain b ≡ true) → (text : List ℕ) → list_all has text ≡ true → escaped text ≡ text
all_plain has h [] e = refl
all_plain has h (b ∷ bs) e = let parts = and_parts (has b) (list_all has bs) e in rw (itself b (h b parts.0), all_plain has h bs parts.1) refl

trade_plain : (b : ℕ) → trade_id_bytes.has b ≡ true → plain b ≡ true
trade_plain b e = grind (arith, nat_tests)

party_plain : (b : ℕ) → capitals_and_digits.has b ≡ true → plain b ≡ true
party_plain b e = grind (arith, nat_tests)

module _ (bytes : List ℕ) where
  trade_spelled : keeps trade_id_bytes 1 52 (text_in bytes) ≡ true → list_all trade_id_bytes.has (text_in bytes) ≡ true
  trade_spelled kept = (parts_of_rule trade_id_bytes 1 52 (text_in bytes) kept).0

  party_spelled : keeps capitals_and_digits 1 20 (text_in bytes) ≡ true → list_all capitals_and_digits.has (text_in bytes) ≡ true
  party_spelled kept = (parts_of_rule capitals_and_digits 1 20 (text_in bytes) kept).0

  pub trade_ascii : (text : List ℕ) → keeps trade_id_bytes 1 52 (text_in bytes) ≡ true → text ≡ text_in bytes → IsAscii text
  trade_ascii text kept e = subst IsAscii (sym e) (all_ascii trade_id_bytes.has trade_plain (text_in bytes) (trade_spelled kept))

  pub party_ascii : (text : List ℕ) → keeps capitals_and_digits 1 20 (text_in bytes) ≡ true → text ≡ text_in bytes → IsAscii text
  party_ascii text kept e = subst IsAscii (sym e) (all_ascii capitals_and_digits.has party_plain (text_in bytes) (party_spelled kept))

  pub trade_as_it_is : keeps trade_id_bytes 1 52 (text_in bytes) ≡ true → escaped (text_in bytes) ≡ text_in bytes
  trade_as_it_is kept = all_plain trade_id_bytes.has trade_plain (text_in bytes) (trade_spelled kept)

  pub party_as_it_is : keeps capitals_and_digits 1 20 (text_in bytes) ≡ true → escaped (text_in bytes) ≡ text_in bytes
  party_as_it_is kept = all_plain capitals_and_digits.has party_plain (text_in bytes) (party_spelled kept)
