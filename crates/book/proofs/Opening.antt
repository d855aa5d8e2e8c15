-- The book of an opening.
use Rattle.std.proofs.Common.{◌≡◌, List, [], ◌++◌, length, drop, replicate, min, ap, sym, ◌∙◌, arith}
use Rattle.std.proofs.lemmas.List.{length-append, length-drop}
use Rattle.rows.specs.Blank.{IsBlank}
use Rattle.rows.specs.declared.row.Row.{Row}
use Rattle.rules.specs.Books.{Opening}
use Rattle.rules.specs.Slices.{book_of, entries_of, room}
use Rattle.runs.proofs.Stand.{stands}
use Rattle.business.specs.BusinessDays.{day_no}
use Rattle.business.specs.declared.business_day.BusinessDay.{BusinessDay}
use Rattle.sheets.specs.Sheets.{Meaning}
use Rattle.book.specs.Calls.{Blanks, Opens}

-- as many rows as before
pub same_length : (xs zs : List Row) → length zs ≡ room xs → length (zs ++ drop (room xs) xs) ≡ length xs
same_length xs zs e = length-append zs (drop (room xs) xs) ∙ omega (arith, e, length-drop (room xs) xs)

pub blanked : (xs zs : List Row) (blank : Row) → IsBlank blank → zs ≡ replicate (room xs) blank → Blanks xs (zs ++ drop (room xs) xs)
blanked xs zs blank is e = record { blank = blank; is_blank = is; rows = ap (λ (ys : List Row). ys ++ drop (room xs) xs) e }

pub opens : (sheet : Meaning) (day : BusinessDay) (xs ys : List Row) → length ys ≡ length xs → Opens (record { sheet = sheet; day = day_no day; rows = length xs }) (book_of day 0 ys)
opens sheet day xs ys e =
    let o : Opening = record { sheet = sheet; day = day_no day; rows = length xs } in
    let none : min 0 (room ys) ≡ 0 = omega arith in
    record { leaving = λ i. record { day = day_no day; size = min (sym e i) 4096; entries = entries_of (sym none i) ys }; stands = stands o [] }
