-- One row settled.
use Rattle.std.proofs.Common.{◌≡◌, ℕ, ◌+◌, ◌<◌, List, [], ◌∷◌, ◌++◌, length, get_or, take, slice_set, ap, ◌∙◌, arith}
use Rattle.std.proofs.lemmas.Grind.{drop_more_same}
use Rattle.std.proofs.lemmas.List.{drop-set-lt, length-set, take_more, take_more_set}
use Rattle.std.proofs.lemmas.List.Elements.{AllZip-push}
use Rattle.rows.specs.declared.row.Row.{Row}
use Rattle.closing.specs.Passes.{Settled, Settles}
use Rattle.closing.proofs.Judging.{row_ahead}

pub settle_on : (ys zs : List Row) (i : ℕ) (x y : Row) → Settles i ys zs → i < length ys → Settled (get_or zs i x) y → Settles (i + 1) ys (slice_set zs i y)
settle_on ys zs i x y p h by =
    let was : get_or ys i x ≡ get_or zs i x = row_ahead ys zs i x p.behind in
    let left : take (i + 1) ys ≡ take i ys ++ get_or zs i x ∷ [] = take_more ys i x h ∙ ap (λ (r : Row). take i ys ++ r ∷ []) was in
    let right : take (i + 1) (slice_set zs i y) ≡ take i zs ++ y ∷ [] = take_more_set zs i y (omega (arith, p.count)) in
    record {
      count = length-set zs i y ∙ p.count;
      rows = rw (left, right) (AllZip-push Settled (take i ys) (take i zs) (get_or zs i x) y p.rows by);
      behind = drop-set-lt (i + 1) zs i y (omega arith) ∙ drop_more_same zs ys i p.behind;
    }
