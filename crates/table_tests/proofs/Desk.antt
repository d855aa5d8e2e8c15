-- A desk's table after a second call.
use Rattle.std.proofs.Common.{◌≡◌, ℕ, suc, List, Ok, Err, Result, IfOk, ap, ◌∙◌, subst}
use Prim.{tt}
use Rattle.table.specs.Changes.{used_after}
use Rattle.table.specs.Order.{Ascending}
use Rattle.table.specs.declared.insertion.NotEntered.{NotEntered}
use Rattle.table_tests.specs.Samples.{sample_keys, sample_order}
use Rattle.table_tests.specs.declared.sample.Sample.{Sample}

pub second : (r : Result ℕ NotEntered) (used n : ℕ) (xs : List Sample) → used ≡ 1 → n ≡ used_after used r → Ascending sample_order (sample_keys n xs) → IfOk r (λ _. Ascending sample_order (sample_keys 2 xs))
second (Ok i) used n xs one count up = subst (λ (m : ℕ). Ascending sample_order (sample_keys m xs)) (count ∙ ap suc one) up
second (Err e) used n xs one count up = tt
