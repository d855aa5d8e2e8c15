use Rattle.std.proofs.Common.{◌≡◌, length}
use Rattle.std.specs.Option.{is_some}
use Rattle.std.specs.Iterator.Adapters.{zip_first, zip_second}
use Rattle.std.specs.Slice.Iter.{iter_rest}
use Rattle.slip.specs.Layout.{fields_from}
use Rattle.slip.proofs.check.fit.Given as goal

abbrev pub invariant-loop-tag : goal.invariant-loop-tag
invariant-loop-tag l =
    let tags = iter_rest (zip_first l.tag-iterator) in
    let ends = iter_rest (zip_second l.tag-iterator) in
    (length tags ≡ length ends) × (is_some (fields_from l.text 0 0 l.tags l.ends) ≡ is_some (fields_from l.text l.last l.place tags ends))
