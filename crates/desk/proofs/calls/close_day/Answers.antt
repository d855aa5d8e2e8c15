use Rattle.std.proofs.Common.{◌≡◌, length, map, min, rules, string_bytes, take}
use Rattle.std.proofs.lemmas.Result.{IfOk-weaker}
use Rattle.codes.specs.Codes.{text_of}
use Rattle.desk.proofs.Closes.{tells_closed, tells_refused}
use Rattle.desk.proofs.calls.close_day.Goals as goal

pub returns-in-Ok : goal.returns-in-Ok
returns-in-Ok g c =
    let many : length c.as_mut_slice-notices.result.now ≡ min c.args.places 4096 = search rules in
    let told = take c.min-sent.result c.close.new.notices in
    let all : told ≡ take (min c.in-Ok.sent (length c.close.new.notices)) c.close.new.notices = search rules in
    let tells = tells_closed (g.S.Sheet.meaning c.args.sheet.now) (map text_of c.args.parties.now) (map text_of c.args.countries.now) c.args.book.now c.close.new.self c.as_mut_slice-notices.result.now c.close.new.notices (min c.args.places 4096) many c.in-Ok.sent c.in-Ok.pairs c.in-Ok.next_day c.in-Ok.ensures.call told all in
    IfOk-weaker c.tell_close.result _ _ (λ s is. tells (string_bytes s) is) c.tell_close.ensures

pub returns : goal.returns
returns g c =
    let many : length c.as_mut_slice-notices.result.now ≡ min c.args.places 4096 = search rules in
    let tells = tells_refused (g.S.Sheet.meaning c.args.sheet.now) (map text_of c.args.parties.now) (map text_of c.args.countries.now) c.args.book.now c.close.new.self c.as_mut_slice-notices.result.now c.close.new.notices (min c.args.places 4096) many c.in-Err.refusal c.in-Err.ensures.call in
    IfOk-weaker c.format.result _ _ (λ s is. tells (string_bytes s) is) c.format.ensures.ok
