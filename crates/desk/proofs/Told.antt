-- Notices as they are told.
use Rattle.std.proofs.Common.{◌≡◌, ℕ, List, length, map, ap}
use Rattle.std.specs.List.{concat}
use Rattle.std.proofs.lemmas.List.{length-map}
use Rattle.std.proofs.lemmas.Simd.{map-map}
use Rattle.book_texts.specs.Lines.{notices_text, told_line}
use Rattle.rules.specs.Judging as rules
use Rattle.judging.specs.Lines.{notice_told}
use Rattle.rows.specs.declared.notice.Notice.{Notice}
use Rattle.desk.specs.Told.{lines_text}

pub count_told : (notices : List Notice) → length (map notice_told notices) ≡ length notices
count_told notices = length-map notices notice_told

abbrev line : rules.Notice → List ℕ
line n = told_line n.key n.says

pub as_told : (notices : List Notice) → lines_text (map notice_told notices) ≡ notices_text notices
as_told notices = ap concat (map-map line notice_told notices)
