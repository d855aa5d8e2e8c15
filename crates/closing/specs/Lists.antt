-- What a close is given, as texts.
use Rattle.std.specs.Prelude.{ℕ, List, map}
use Rattle.codes.specs.Codes.{text_of}
use Rattle.codes.specs.declared.code.Code.{Code}
use Rattle.rules.specs.Judging.{Close}

abbrev pub lists_of : {A : _} {least most : _} {m : _} {B : _} {least2 most2 : _} {n : _} → List (Code A least most m) → List (Code B least2 most2 n) → ℕ → Close
lists_of parties countries places = record { parties = map text_of parties; countries = map text_of countries; places = places }
