use Rattle.std.proofs.Common.{rules, of_calls, ◌≡◌, length, replicate, ap, ◌∙◌, arith}
use Rattle.std.proofs.lemmas.List.{length-take-le}
use Rattle.table.proofs.Leaving.{blank_calls}
use Rattle.book.proofs.Opening.{blanked, opens, same_length}
use Rattle.book.proofs.book.Book.open.Goals as goal

pub returns-clause-rows : goal.returns-clause-rows
returns-clause-rows c =
    let blank = c.blank-blank.result in
    let zs = c.fill_with.new.self in
    let blanks : zs ≡ replicate (length zs) blank = blank_calls _ _ blank (λ x f called. search (rules, of_calls)) zs c.fill_with.ensures.ran.0 c.fill_with.ensures.ran.1 in
    let long : length zs ≡ c.room-room.result = c.fill_with.ensures.len ∙ length-take-le c.room-room.result c.args.rows.now (omega (arith, c.room-room.ensures)) in
    let said = c.room-room.ensures in
    rw said (blanked c.args.rows.now zs blank c.blank-blank.ensures (blanks ∙ ap (λ n. replicate n blank) (long ∙ said)))

pub returns-clause-history : goal.returns-clause-history
returns-clause-history c = λ sheet.
    let zs = c.fill_with.new.self in
    let long : length zs ≡ c.room-room.result = c.fill_with.ensures.len ∙ length-take-le c.room-room.result c.args.rows.now (omega (arith, c.room-room.ensures)) in
    let said = c.room-room.ensures in
    opens sheet c.args.day c.args.rows.now _ (rw said (same_length c.args.rows.now zs (long ∙ said)))
