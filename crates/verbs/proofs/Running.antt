-- Calls on a book that runs under its sheet.
use Rattle.std.proofs.Common.{◌≡◌, ℕ, ◌∷◌, List, ap, sym, ◌∙◌}
use Rattle.built_sheets.specs.Chosen.{chosen}
use Rattle.rules.specs.Books.{close, report}
use Rattle.rules.specs.Judging.{Close}
use Rattle.desk.specs.Running.{Runs}
use Rattle.desk.specs.Told.{TellsClose, TellsReport}
use Rattle.desk.specs.declared.opening.OpenBook.{OpenBook}

-- a report leaves it running
pub reports_on : (old new : OpenBook) (bytes text : List ℕ) → TellsReport bytes old.book new.book text → new.sheet ≡ old.sheet → Runs old → Runs new
reports_on old new bytes text told same runs =
    let made = told.1.0 in
    let next = made.history runs.opened runs.calls runs.leaves in
    record { opened = runs.opened; calls = report made.read ∷ runs.calls; bound = runs.bound ∙ ap chosen (sym same); leaves = next.leaving; stands = next.stands }

-- so does a close under its sheet
pub closes_on : (old new : OpenBook) (given : Close) (text : List ℕ) → TellsClose (chosen old.sheet) given old.book new.book text → new.sheet ≡ old.sheet → Runs old → Runs new
closes_on old new given text told same runs =
    let made = told.3.0 in
    let next = made.history runs.opened runs.bound runs.calls runs.leaves in
    record { opened = runs.opened; calls = close given ∷ runs.calls; bound = runs.bound ∙ ap chosen (sym same); leaves = next.leaving; stands = next.stands }
