-- A call on a book that a history leaves.
use Rattle.std.proofs.Common.{◌≡◌, ap, ◌∙◌, List, ◌∷◌}
use Rattle.rules.specs.Books.{Gives, Answer, Book, Call, Opening, after, answer, leaves}
use Rattle.runs.specs.Law.{Then}
use Rattle.runs.proofs.Stand.{stands}

pub goes_on : (o : Opening) (h : List Call) (b : Book) (c : Call) (a : Answer) (left : Book) → after o h ≡ b → Gives o.sheet b c a left → Then o h c a left
goes_on o h b c a left e gives = record {
  answers = ap (λ (d : Book). answer o.sheet d c) e ∙ gives.answers;
  leaving = ap (λ (d : Book). leaves o.sheet d c) e ∙ gives.leaving;
  stands = stands o (c ∷ h);
}
