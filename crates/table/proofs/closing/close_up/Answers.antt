use Rattle.std.proofs.Common.{◌≡◌, not, sym, ap, arith, of_calls, rules}
use Rattle.std.proofs.lemmas.List.Filters.{FiltersInPlace, FiltersInPlace-more_no, FiltersInPlace-more_set}
use Rattle.table.proofs.Leaving.{blank_calls, closed_ascends, closes, filled}
use Rattle.table.proofs.closing.close_up.Goals as goal

pub loop-i-preserved-then-is_freed : goal.loop-i-preserved-then-is_freed
loop-i-preserved-then-is_freed g c = FiltersInPlace-more_no {x = c.index-rows-i.result} c.loop-i.invariant (omega arith) (ap not (sym c.if-is_freed.ensures)) c.index-rows-i.is

pub loop-i-preserved : goal.loop-i-preserved
loop-i-preserved g c = FiltersInPlace-more_set {x = c.index-rows-i.result} c.loop-i.invariant (omega arith) (ap not (sym c.if-is_freed.ensures)) c.index-rows-i.is

pub returns : goal.returns
returns g c =
    let end = c.min-end.result in
    let n = c.loop-i.count in
    let freed = g.R.Freeable.freed in
    let at_end : c.loop-i.i ≡ end = omega arith in
    let done : FiltersInPlace (λ x. not (freed x)) c.args.rows.now c.loop-i.rows n end = rw (sym at_end) c.loop-i.invariant in
    let blanks = blank_calls _ _ c.args.blank (λ x f called. search (rules, of_calls)) c.fill_with.new.self c.fill_with.ensures.ran.0 c.fill_with.ensures.ran.1 in
    let blanked = filled c.loop-i.rows c.fill_with.new.self n end c.args.blank (omega (arith, done.behind)) (omega arith) c.fill_with.ensures.len blanks in
    record {
      rows = closes freed c.args.blank c.args.rows.now c.loop-i.rows _ c.args.used end n c.min-end.ensures done blanked;
      ascends = closed_ascends freed c.args.blank c.args.rows.now c.loop-i.rows _ c.args.used end n c.min-end.ensures done blanked g.R.Key.Key.cmp g.R.Keyed.id;
    }
