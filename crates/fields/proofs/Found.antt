-- The case of a letter, found among the cases.
use Rattle.std.proofs.Common.{◌≡◌, ℕ, Bool, cond, ◌||◌, List, [], ◌∷◌, map, Some, None, Option, refl, arith}
use Rattle.std.specs.Bool.{◌==◌}
use Rattle.std.specs.List.{find}
use Rattle.std.specs.Option.{option_map}
use Rattle.std.proofs.lemmas.Bool.Decides.{nat_tests}
use Rattle.codes.specs.Alphabets.{one_of}
use Rattle.fields.specs.Letters.{letter_among}

step : {S : Type 0} (told : S → ℕ) (b : ℕ) (x : S) (rest : Option S) (among : Bool) → option_map told rest ≡ cond among (Some b) None → option_map told (cond (told x == b) (Some x) rest) ≡ cond (b == told x || among) (Some b) None
step told b x rest among h = grind (arith, nat_tests)

pub found : {S : Type 0} (told : S → ℕ) (b : ℕ) (cases : List S) → option_map told (find (λ x. told x == b) cases) ≡ letter_among (map told cases) b
found told b [] = refl
found told b (x ∷ cases) = step told b x (find (λ x. told x == b) cases) (one_of (map told cases) b) (found told b cases)
