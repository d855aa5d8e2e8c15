-- A report that was read is written as its texts, with short amounts.
use Rattle.std.proofs.Common.{Bool, false, ◌≡◌, ℕ, ◌≤◌, true, cond, List, length, take, nat_le, Some, None, Option, Ok, Err, Result, IsOk, refl, ap, sym, ◌∙◌, arith}
use Rattle.std.proofs.lemmas.Bool.Decides.{nat_tests}
use Rattle.std.specs.Result.{result_map_both}
use Rattle.hex.specs.Hex.{encode_upper}
use Rattle.listings.specs.Rewritten.{refused_or_written, rewritten_text}
use Rattle.refusals.specs.Words.{parts_of}
use Rattle.refusals.specs.declared.refusal.Refusal.{Refusal}
use Rattle.report.specs.Judging.{fields_told, refusal_of}
use Rattle.report.specs.Texts.{text_in}
use Rattle.report.specs.Values.{Tells}
use Rattle.report.specs.declared.report.Report.{Report}
use Rattle.slip_writer.proofs.Front.{text_in_front}
use Rattle.slip_writer.proofs.SameTexts.{same_texts}
use Rattle.slip_writer.specs.Written.{or_short, slip_of}
use Rattle.texts.specs.Buffers.{answered, filled}

-- a buffer with room is not too short
pub room_is_enough : (text buffer : List ℕ) (r : Result ℕ Refusal) → result_map_both (λ n. n) parts_of r ≡ or_short (answered text buffer) → length text ≤ length buffer → IsOk r
room_is_enough text buffer (Ok n) e l = refl
room_is_enough text buffer (Err refusal) e l =
    let t : nat_le (length text) (length buffer) ≡ true = grind (arith, nat_tests) in
    let k : Err (parts_of refusal) ≡ Ok (length text) = e ∙ ap (λ b. or_short (cond b (Some (length text)) None)) t in
    absurd (cc)

answered_by : (o : Option ℕ) (n : ℕ) → Ok n ≡ or_short o → o ≡ Some n
answered_by None n e = absurd (cc)
answered_by (Some m) n e = let k : Some n ≡ Some m = cc in sym k

-- and the text stands in front
pub front_of : (text buffer new : List ℕ) (n : ℕ) → Ok n ≡ or_short (answered text buffer) → new ≡ filled text buffer → take n new ≡ text
front_of text buffer new n e f = ap (take n) f ∙ text_in_front text buffer n (answered_by (answered text buffer) n e)

-- what was read is written again
pub again : (bytes : List ℕ) (r : Report) → Tells (text_in (fields_told bytes)) r → None ≡ refusal_of bytes → encode_upper (slip_of r) ≡ rewritten_text bytes
again bytes r t e = ap encode_upper (same_texts r (text_in (fields_told bytes)) t) ∙ ap (λ o. refused_or_written o (text_in (fields_told bytes))) e

told_length : (b : Bool) (text : List ℕ) (n : ℕ) → cond b (Some (length text)) None ≡ Some n → n ≡ length text
told_length true text n e = let k : Some n ≡ Some (length text) = sym e in cc
told_length false text n e = absurd (cc)

-- so the front has its length
pub front_length : (text buffer new : List ℕ) (n : ℕ) → Ok n ≡ or_short (answered text buffer) → new ≡ filled text buffer → n ≡ length (take n new)
front_length text buffer new n e f = told_length (nat_le (length text) (length buffer)) text n (answered_by (answered text buffer) n e) ∙ ap length (sym (front_of text buffer new n e f))
