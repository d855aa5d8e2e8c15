-- What the contracts of the calls come to, one after the other.
use Rattle.std.proofs.Common.{List, [], ◌∷◌, refl}
use Rattle.rows.specs.declared.notice.Notice.{Notice}
use Rattle.rows.specs.Keys.{key_named}
use Rattle.rules.specs.Books.{Opening, close, lookup, report}
use Rattle.rules.specs.Judging.{Close}
use Rattle.sheets.specs.declared.finding.Finding.{Finding}
use Rattle.book.specs.Calls.{Closes, Looks, Opens, Reports, seen}
use Rattle.book.specs.declared.book.Book.{Book}
use Rattle.book_tests.specs.Days.{Goes}
use Rattle.book_tests.specs.declared.host.Answers.{Answers}
use Rattle.book_tests.specs.declared.host.Received.{Received}

module _ (o : Opening) (r : Received) (c : Close) (opened first second closed : Book) (ws zs : List Notice) (f g : List Finding) (a : Answers) where
  pub goes : Opens o (seen opened) → Reports r.first.now opened first a.first → Reports r.second.now first second a.second → Closes o.sheet c second closed ws zs a.close → Looks closed r.trade.now r.reporter.now r.other.now f g a.lookup → Goes o r c closed.rows.now zs g a
  goes opens one two closes looks =
      let k = key_named r.trade.now r.reporter.now r.other.now in
      let t1 = one.history o [] opens.leaving in
      let t2 = two.history o (report one.read ∷ []) t1.leaving in
      let t3 = closes.history o refl (report two.read ∷ (report one.read ∷ [])) t2.leaving in
      let t4 = looks.history o (close c ∷ (report two.read ∷ (report one.read ∷ []))) t3.leaving in
      record {
        first = one.read;
        second = two.read;
        first_says = one.says;
        second_says = two.says;
        told = λ i. (lookup k, t4.answers i) ∷ ((close c, t3.answers i) ∷ ((report two.read, t2.answers i) ∷ ((report one.read, t1.answers i) ∷ [])));
        stands = t4.stands;
        day = closed.day;
        used = closed.used;
        leaves = t4.leaving;
      }
