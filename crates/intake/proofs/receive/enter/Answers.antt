use Rattle.std.proofs.Common.{◌+◌, ◌++◌, ◌∙◌, ap, arith, drop, min, rules}
use Rattle.std.proofs.lemmas.List.{length-take}
use Rattle.table.specs.Changes.{entered}
use Rattle.intake.proofs.Stored.{entered_front}
use Rattle.intake.proofs.receive.enter.Goals as goal

pub returns : goal.returns
returns c =
    let xs = c.args.rows.now in
    let row = c.enter-row.result in
    let room = c.room-room.result in
    let u = c.min-used.result in
    let at = min c.args.at u in
    let put = c.in-Ok.ensures.rows in
    let clamped = c.min-used.ensures ∙ ap (min c.args.used) c.room-room.ensures in (
      record {
        at = at;
        row = row;
        standing = c.in_ok-standing.standing;
        within = omega arith;
        count = ap (λ n. n + 1) clamped;
        roomy = omega (arith, put.room, length-take room xs, c.room-room.ensures);
        rows = ap (λ l. l ++ drop room xs) put.rows ∙ entered_front room u at xs row put.room ∙ ap (λ n. entered xs n at row) clamped;
        enters = search rules;
        is_entered = c.enter-row.ensures;
      },
      ap (min c.args.at) clamped,
    )
