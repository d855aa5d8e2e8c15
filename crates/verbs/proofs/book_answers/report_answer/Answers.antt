use Rattle.std.proofs.Common.{refl, string_bytes, subst}
use Rattle.verbs.specs.Shelves.{Lawful}
use Rattle.verbs.specs.declared.shelf.Shelf.{Shelf}
use Rattle.verbs.proofs.Running.{reports_on}
use Rattle.verbs.proofs.book_answers.report_answer.Goals as goal

pub returns-clause-law : goal.returns-clause-law
returns-clause-law c = λ lawful. reports_on c.in-Holds.field-0 (record { sheet = c.in-Holds.field-0.sheet; book = c.report_slip.new.book }) c.as_slice.result.now (string_bytes c.in_ok-told.told) c.in_ok-told.ensures refl (subst (λ (s : Shelf). Lawful s) c.in-Holds.is lawful)
