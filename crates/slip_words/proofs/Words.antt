-- Words read as fields.
use Rattle.std.proofs.Common.{◌≡◌, ℕ, ◌+◌, ◌^◌, ◌<◌, Bool, true, nat_lt, List, [], ◌∷◌, ◌++◌, length, drop, Some, None, Option, Ok, Err, Result, refl, arith}
use Rattle.std.specs.List.{list_any, position_or_len}
use Rattle.std.specs.Result.{OkIff, result_ok}
use Rattle.std.specs.Str.{all_ascii_digits}
use Rattle.std.specs.Str.Parse.{ParsesUnsigned, digits_value}
use Rattle.std.proofs.lemmas.Str.Parse.{numerals_by_value, parse_digits, tells_all_ascii_digits}
use Rattle.std.proofs.lemmas.List.{drop-drop}
use Rattle.std.proofs.lemmas.Bool.Decides.{nat_tests}
use Rattle.slip.specs.Writing.{TaggedText}
use Rattle.slip_words.specs.Spelled.{tag_spelled}

-- an element that passes stands before the end
pub any_placed : (p : ℕ → Bool) (xs : List ℕ) → list_any p xs ≡ nat_lt (position_or_len p xs) (length xs)
any_placed p [] = refl
any_placed p (x ∷ xs) = grind (arith, nat_tests, any_placed p xs)

tag_from : {E : Type 0} (bs : List ℕ) (r : Result ℕ E) → all_ascii_digits bs ≡ true → OkIff r ((0 < length bs) × (digits_value 10 bs < 2 ^ 8)) (digits_value 10 bs) → result_ok r ≡ tag_spelled bs
tag_from bs (Ok v) d h = grind (arith, nat_tests)
tag_from bs (Err e) d h = grind (arith, nat_tests)

-- what `parse` makes of digits
pub tag_parsed : {E : Type 0} (bs : List ℕ) (r : Result ℕ E) → all_ascii_digits bs ≡ true → ParsesUnsigned 8 10 bs r → result_ok r ≡ tag_spelled bs
tag_parsed bs r d h = tag_from bs r d (parse_digits (numerals_by_value (λ ds. all_ascii_digits ds ≡ true) tells_all_ascii_digits) 8 bs r h d)

-- fields before what the rest spells
abbrev pub behind_all : List TaggedText → Option (List TaggedText) → Option (List TaggedText)
behind_all xs (Some ys) = Some (xs ++ ys)
behind_all xs None = None

-- what stands behind a sign
pub behind_sign : (n : ℕ) (word : List ℕ) → drop 1 (drop n word) ≡ drop (n + 1) word
behind_sign n word = drop-drop 1 n word
