-- What a register of codes has.
use Rattle.std.specs.Prelude.{ℕ, List, map}
use Rattle.codes.specs.Codes.{text_of, text_order}
use Rattle.codes.specs.declared.code.Code.{Code}
use Rattle.std.specs.List.{ContainsAt as Has}
use Rattle.std.specs.Ordering.{on}
use Rattle.table.specs.Register.{IsRegister}

-- at most 65,536 codes, whose texts ascend strictly
abbrev pub InOrder : {A : _} {least most : _} {m : _} → List (Code A least most m) → Type 0
InOrder codes = IsRegister (on text_of text_order) (λ code. code) codes

-- the text is one of theirs
abbrev pub Lists : {A : _} {least most : _} {m : _} → List (Code A least most m) → List ℕ → Type 0
Lists codes text = Has (map text_of codes) text
