-- A close as it is told.
use Rattle.std.proofs.Common.{◌≡◌, ℕ, List, length, map, min, take, Ok, Err, Result, ap, subst, ◌∙◌}
use Rattle.std.proofs.lemmas.List.{take_min}
use Rattle.book.specs.Calls.{Closes, close_answer}
use Rattle.book.specs.declared.book.Book.{Book}
use Rattle.business.specs.BusinessDays.{day_no}
use Rattle.business.specs.declared.business_day.BusinessDay.{BusinessDay}
use Rattle.judging.specs.Lines.{notice_told}
use Rattle.refusals.specs.Words.{parts_of}
use Rattle.refusals.specs.declared.refusal.Refusal.{Refusal}
use Rattle.rows.specs.declared.notice.Notice.{Notice}
use Rattle.rules.specs.Books.{closed, refused}
use Rattle.rules.specs.Judging.{Close}
use Rattle.sheets.specs.Sheets.{Meaning}
use Rattle.desk.specs.Told.{TellsClose, answer_text}

module _ (sheet : Meaning) (parties countries : List (List ℕ)) (old new : Book) (ws zs : List Notice) (places : ℕ) (many : length ws ≡ places) where
  abbrev pub given : ℕ → Close
  given n = record { parties = parties; countries = countries; places = n }

  tells : (result : Result (ℕ × ℕ × BusinessDay) Refusal) (text : List ℕ) → Closes sheet (given (length ws)) old new ws zs result → text ≡ answer_text (close_answer result zs) → TellsClose sheet (given places) old new text
  tells result text made is = (ws, zs, result, (subst (λ (n : ℕ). Closes sheet (given n) old new ws zs result) many made, is))

  pub tells_refused : (refusal : Refusal) → Closes sheet (given (length ws)) old new ws zs (Err refusal) → (text : List ℕ) → text ≡ answer_text (refused (parts_of refusal)) → TellsClose sheet (given places) old new text
  tells_refused refusal made text is = tells (Err refusal) text made is

  pub tells_closed : (sent pairs : ℕ) (day : BusinessDay) → Closes sheet (given (length ws)) old new ws zs (Ok (sent, pairs, day)) → (told : List Notice) → told ≡ take (min sent (length zs)) zs → (text : List ℕ) → text ≡ answer_text (closed (map notice_told told) pairs (day_no day)) → TellsClose sheet (given places) old new text
  tells_closed sent pairs day made told all text is = tells (Ok (sent, pairs, day)) text made (is ∙ ap (λ ns. answer_text (closed (map notice_told ns) pairs (day_no day))) (all ∙ take_min sent zs))
