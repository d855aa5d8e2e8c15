-- A close that is accepted goes on to a later day.
use Rattle.std.proofs.Common.{◌≡◌, ℕ, zero, suc, ◌<◌, ◌≤◌, Bool, true, false, cond, ◌&&◌, nat_le, length, Option, Some, None, Ok, Err, arith}
use Rattle.std.proofs.lemmas.Bool.{lt-ltb, ltb-true}
use Rattle.business.specs.TargetDays.{closed, first_from, next_business}
use Rattle.refusals.specs.declared.refusal.Refusal.TheVariants.{NoticeListShort, RegisterDisordered}
use Rattle.rows.specs.Days.{due_later}
use Rattle.rules.specs.Books.{Book, may_close, next_or_end}
use Rattle.rules.specs.Judging.{Close}
use Rattle.rules.specs.Lists.{in_order}
use Rattle.rules.proofs.Entries.{none_some, some_inj}

first_behind : (left n m : ℕ) → first_from left n ≡ Some m → n ≤ m
first_behind zero n m e = absurd (none_some e)
first_behind (suc left) n m e = go (closed n) e (first_behind left (suc n) m)
  where
    go : (shut : Bool) → cond shut (first_from left (suc n)) (Some n) ≡ Some m → (first_from left (suc n) ≡ Some m → suc n ≤ m) → n ≤ m
    go true q more = omega (arith, more q)
    go false q more = let same : n ≡ m = some_inj q in omega arith

next_behind : (today next : ℕ) → next_business today ≡ Some next → today < next
unfolding next_business
next_behind today next e = omega (arith, first_behind _ _ next e)

next_is : (b : Book) (c : Close) (next : ℕ) → may_close b c ≡ Ok next → next_business b.day ≡ Some next
next_is b c next = go (in_order c.parties && in_order c.countries) (nat_le (length b.entries) c.places) (next_business b.day)
  where
    go : (u v : Bool) (o : Option ℕ) → cond u (cond v (next_or_end o) (Err NoticeListShort)) (Err RegisterDisordered) ≡ Ok next → o ≡ Some next
    go true true None e = absurd cc
    go true true (Some day) e = cc
    go true false o e = absurd cc
    go false v o e = absurd cc

pub close_later : (b : Book) (c : Close) (next : ℕ) → may_close b c ≡ Ok next → b.day < next
close_later b c next e = next_behind b.day next (next_is b c next e)

-- what is due only after a later day is due only after this one
pub later_before : (today next : ℕ) (due : Option ℕ) → today < next → due_later next due ≡ true → due_later today due ≡ true
later_before today next None h e = e
later_before today next (Some due) h e = lt-ltb today due (omega (arith, ltb-true next due e))
