-- A book that runs under the sheet that it was opened with.
use Rattle.std.specs.Prelude.{◌≡◌, List}
use Rattle.book.specs.Calls.{seen}
use Rattle.built_sheets.specs.Chosen.{chosen}
use Rattle.rules.specs.Books.{Call, Opening, after}
use Rattle.runs.specs.Law.{Stands}
use Rattle.desk.specs.declared.opening.OpenBook.{OpenBook}

-- the book is what some calls since an opening under its sheet left, so that all closes among them were under it, and the law
-- stands
pub record Runs (b : OpenBook) : Type 0 where
  pub opened : Opening
  pub calls : List Call
  pub bound : opened.sheet ≡ chosen b.sheet
  pub leaves : after opened calls ≡ seen b.book
  pub stands : Stands opened calls
