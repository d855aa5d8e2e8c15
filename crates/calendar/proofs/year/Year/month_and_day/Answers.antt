use Rattle.std.proofs.Common.{ℕ, ◌+◌, ap, arith, rules}
use Rattle.calendar.proofs.Parts.{Begun, month_begun}
use Rattle.calendar.proofs.year.Year.month_and_day.Goals as goal
use Rattle.calendar.proofs.year.Year.month_and_day.Goals.{After-begun-months}

begun_is : (c : After-begun-months) → Begun c.args.self.number c.args.days c.begun-months.result c.month_starts-starts.result
begun_is c = month_begun _ _ _ _ (search rules) c.month_starts-starts.ensures c.requires c.begun-months.ensures

pub overflow_sub-result : goal.overflow_sub-result
overflow_sub-result c = (begun_is c).begun

pub overflow_cast-result-2 : goal.overflow_cast-result-2
overflow_cast-result-2 c = omega (arith, (begun_is c).short)

pub overflow_add-result-2 : goal.overflow_add-result-2
overflow_add-result-2 c = omega (arith, (begun_is c).short)

pub returns : goal.returns
returns c =
    let p = (begun_is c).parts in
    record { month = ap (λ (x : ℕ × ℕ). 1 + x.0) p; day = ap (λ (x : ℕ × ℕ). 1 + x.1) p }
