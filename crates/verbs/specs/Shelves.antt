-- The open book, if there is one.
use Rattle.std.specs.Prelude.{◌≡◌}
use Rattle.desk.specs.Running.{Runs}
use Rattle.desk.specs.declared.opening.OpenBook.{OpenBook}
use Rattle.verbs.specs.declared.shelf.Shelf.{Shelf}
use Rattle.verbs.specs.declared.shelf.Shelf.TheVariants.{Empty, Holds}

-- a book is open, and this holds of it
abbrev pub IfOpen : Shelf → (OpenBook → Type 0) → Type 0
IfOpen Empty P = ⊥
IfOpen (Holds b) P = P b

-- a book that is open stays open, under its sheet
abbrev pub SameSheet : Shelf → Shelf → Type 0
SameSheet Empty new = new ≡ Empty
SameSheet (Holds old) new = IfOpen new (λ b. b.sheet ≡ old.sheet)

-- a book that is open runs under its sheet, and the law stands
abbrev pub Lawful : Shelf → Type 0
Lawful Empty = Unit {0}
Lawful (Holds b) = Runs b
