-- The keys of the samples, and the orders of keys.
use Rattle.std.specs.Prelude.{ℕ, List}
use Rattle.codes.specs.Codes.{text_of, text_order}
use Rattle.codes.specs.declared.code.Code.{Code}
use Rattle.std.specs.declared.cmp.Ordering.{Ordering}
use Rattle.std.specs.Ordering.{nat_cmp, on, ordering_then}
use Rattle.table.specs.Order.{keys}
use Rattle.table_tests.specs.declared.sample.Number.{Number}
use Rattle.table_tests.specs.declared.sample.Priority.{Priority}
use Rattle.table_tests.specs.declared.sample.Sample.{Sample}
use Rattle.table_tests.specs.declared.sample.SampleKey.{SampleKey}

-- by the trade's name, then by the party that reports, then by the other
abbrev pub sample_order : SampleKey → SampleKey → Ordering
sample_order x y =
    ordering_then (text_order (text_of x.trade) (text_of y.trade))
    (ordering_then (text_order (text_of x.reporting) (text_of y.reporting)) (text_order (text_of x.other) (text_of y.other)))

-- numbers by their values
abbrev pub number_order : Number → Number → Ordering
number_order x y = nat_cmp x.value y.value

-- the highest level first
abbrev pub highest_first : Priority → Priority → Ordering
highest_first x y = nat_cmp y.level x.level

-- parties and countries by their texts
abbrev pub code_order : {A : _} {least most : _} {m : _} → Code A least most m → Code A least most m → Ordering
code_order = on text_of text_order

-- the keys of the used samples
abbrev pub sample_keys : ℕ → List Sample → List SampleKey
sample_keys used xs = keys (λ x. x.key) used xs
