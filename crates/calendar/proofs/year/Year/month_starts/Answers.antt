use Rattle.std.proofs.Common.{Bool, true, false, get_or, refl, arith, ◌∙◌, ap}
use Rattle.calendar.specs.Gregorian.{days_before, month_lengths, months_of}
use Rattle.calendar.specs.declared.year.days.TheConstants.{COMMON, LEAP}
use Rattle.calendar.proofs.Spans.{equal_below}
use Rattle.calendar.proofs.year.Year.month_starts.Goals as goal

pub returns-then-is_leap : goal.returns-then-is_leap
unfolding months_of
returns-then-is_leap c = λ k h.
    equal_below (λ i. get_or LEAP i 0) (days_before (month_lengths true)) 13 refl k (omega arith)
    ∙ ap (λ (b : Bool). days_before (month_lengths b) k) c.if-is_leap.ensures

pub returns-else-is_leap : goal.returns-else-is_leap
unfolding months_of
returns-else-is_leap c = λ k h.
    equal_below (λ i. get_or COMMON i 0) (days_before (month_lengths false)) 13 refl k (omega arith)
    ∙ ap (λ (b : Bool). days_before (month_lengths b) k) c.if-is_leap.ensures
