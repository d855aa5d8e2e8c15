use Rattle.std.proofs.Common.{◌≡◌, ℕ, [], length, min, refl, rules, subst, take}
use Rattle.built_sheets.specs.Chosen.{chosen}
use Rattle.business.specs.BusinessDays.{day_no}
use Rattle.book.specs.Calls.{Blanks, Opens, seen}
use Rattle.rules.specs.Books.{Opening}
use Rattle.desk.proofs.opening.Opening.open.Goals as goal

pub returns : goal.returns
returns c =
    let few : length (take c.min-room.result c.args.rows.now) ≡ min c.args.self.rows (length c.args.rows.now) = search rules in
    let room : c.min-room.result ≡ min c.args.self.rows (length c.args.rows.now) = search rules in
    let bound : Opening = record { sheet = chosen c.args.self.sheet; day = day_no c.args.self.day; rows = min c.args.self.rows (length c.args.rows.now) } in
    let opens : Opens bound (seen c.open-book.result) = subst (λ (n : ℕ). Opens (record { sheet = chosen c.args.self.sheet; day = day_no c.args.self.day; rows = n }) (seen c.open-book.result)) few (c.open-book.ensures.history (chosen c.args.self.sheet)) in
    record { bound = search rules; rows = subst (λ (n : ℕ). Blanks (take n c.args.rows.now) c.open-book.result.rows.now) room c.open-book.ensures.rows; history = opens; law = record { opened = bound; calls = []; bound = refl; leaves = opens.leaving; stands = opens.stands } }
