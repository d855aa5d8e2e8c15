-- What holds of a call on any book in order holds after every history. A `Book` of the code is `Held` here.
use Rattle.std.proofs.Common.{◌≡◌, List, subst}
use Rattle.rules.specs.Books.{Answer, Book, Call, Gives, InOrder, Opening, after}
use Rattle.runs.specs.Law.{Then}
use Rattle.runs.proofs.Goes.{goes_on}
use Rattle.runs.proofs.Steps.{order_kept}
use Rattle.sheets.specs.Sheets.{Meaning}
use Rattle.book.specs.Calls.{Step, seen}
use Rattle.book.specs.declared.book.Book.{Book as Held}
use Rattle.runs.proofs.Stand.{stands}

in_order : (o : Opening) (h : List Call) (b : Book) → after o h ≡ b → InOrder b.entries
in_order o h b e = subst (λ (x : Book). InOrder x.entries) e (stands o h).ascend

pub run_on : (o : Opening) (old : Held) (c : Call) (a : Answer) (new : Held) → Step o.sheet old c a new → (h : List Call) → after o h ≡ seen old → Then o h c a (seen new)
run_on o old c a new step h e = goes_on o h (seen old) c a (seen new) e (step (in_order o h (seen old) e)).gives

-- what a call gives on a book in order leaves it in order
pub carried : (sheet : Meaning) (old : Held) (c : Call) (a : Answer) (new : Held) → (InOrder (seen old).entries → Gives sheet (seen old) c a (seen new)) → Step sheet old c a new
carried sheet old c a new gives o =
    let g = gives o in
    record { gives = g; in_order = subst (λ (x : Book). InOrder x.entries) g.leaving (order_kept sheet (seen old) c o) }
