use Rattle.std.proofs.Common.{◌≡◌, ◌++◌, drop, string_bytes}
use Rattle.book_texts.specs.Lines.{notices_text}
use Rattle.book_texts.proofs.notice.list_notices.Given as goal

abbrev pub invariant-loop-notice : goal.invariant-loop-notice
invariant-loop-notice l = string_bytes l.out ++ notices_text (drop l.notice-index l.notices) ≡ notices_text l.notices
