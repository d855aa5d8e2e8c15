-- What was written to the front of a buffer.
use Rattle.std.proofs.Common.{◌≡◌, ℕ, Bool, true, false, cond, List, ◌++◌, length, take, drop, nat_le, Some, None}
use Rattle.std.proofs.lemmas.List.{take_at}
use Rattle.texts.specs.Buffers.{answered, filled}
use Rattle.report.proofs.OneReport.{injective}

front : (b : Bool) (text buffer : List ℕ) (n : ℕ) → cond b (Some (length text)) None ≡ Some n → take n (cond b (text ++ drop (length text) buffer) buffer) ≡ text
front true text buffer n e = take_at text (drop (length text) buffer) n (injective _ _ e)
front false text buffer n e = absurd (cc)

-- where a text was written, it stands in front
pub text_in_front : (text buffer : List ℕ) (n : ℕ) → answered text buffer ≡ Some n → take n (filled text buffer) ≡ text
text_in_front text buffer n e = front (nat_le (length text) (length buffer)) text buffer n e
