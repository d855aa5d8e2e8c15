use Rattle.std.proofs.Common.{refl, string_bytes, subst}
use Rattle.verbs.specs.Shelves.{Lawful}
use Rattle.verbs.specs.declared.shelf.Shelf.{Shelf}
use Rattle.verbs.proofs.Running.{closes_on}
use Rattle.verbs.proofs.book_answers.close_answer.Goals as goal

pub returns-clause-law : goal.returns-clause-law
returns-clause-law c = λ lawful. closes_on c.in-Holds.held (record { sheet = c.in-Holds.held.sheet; book = c.close_day.new.book }) _ (string_bytes c.in_ok-told.told) c.in_ok-told.ensures refl (subst (λ (s : Shelf). Lawful s) c.in-Holds.is lawful)
