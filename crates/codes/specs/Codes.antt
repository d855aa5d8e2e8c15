-- The text of a code.
use Rattle.std.specs.Prelude.{ℕ, Bool, ◌||◌, List, codes}
use Rattle.std.specs.declared.cmp.Ordering.{Ordering}
use Rattle.std.specs.Str.{bytes_eq}
use Rattle.codes.specs.declared.code.Code.{Code}
use Rattle.codes.specs.Rules.{text_in}
use Rattle.std.specs.Ordering.{nat_cmp}
use Rattle.std.specs.Cmp.Lexicographic.{slice_cmp}

abbrev pub text_of : {A : _} {least most : _} {m : _} → Code A least most m → List ℕ
text_of c = text_in c.bytes

-- texts in order: byte by byte, and a beginning before its continuation
abbrev pub text_order : List ℕ → List ℕ → Ordering
text_order = (slice_cmp nat_cmp)

-- the venues that are no exchange
abbrev pub off_exchange : List ℕ → Bool
off_exchange text = bytes_eq text (codes "XXXX") || bytes_eq text (codes "XOFF")
