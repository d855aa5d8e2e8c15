-- The KDPW sheet means the published table.
use Rattle.std.specs.Prelude.{◌≡◌, ℕ, zero, suc, ◌≤◌, not, List, [], ◌∷◌, length, Some, None, Option, slice_get}
use Rattle.std.proofs.Common.{ap, refl, rules, arith}
use Rattle.std.proofs.Math.Bool.{or_comm}
use Rattle.std.specs.List.{AllByRecursion}
use Rattle.checks.proofs.Exchanged.{exchanged as found_exchanged}
use Rattle.checks.specs.declared.field.Field.{Field}
use Rattle.checks.specs.declared.field.Field.TheVariants as F
use Rattle.report.specs.declared.details.Details.{Details}
use Rattle.sheets.specs.Sheets.{Meaning}
use Rattle.sheets.specs.declared.finding.Category.{Category}
use Rattle.sheets.specs.declared.finding.Category.TheVariants.{Third}
use Rattle.sheets.specs.declared.finding.Finding.{Finding}
use Rattle.sheets.specs.declared.finding.Finding.TheVariants.{NotCompared}
use Rattle.built_sheets.specs.declared.row.Row.{Row}
use Rattle.built_sheets.specs.Published.{by_aii_or_basket, by_isin, is_compared, published, row_finding}

-- behind the table there is no row, and nothing is compared
abbrev pub category_in : Option Row → Category
category_in None = Third
category_in (Some r) = r.category

abbrev pub finding_in : Option Row → Details → Details → Finding
finding_in None a b = NotCompared
finding_in (Some r) a b = row_finding r a b

-- ---- the laws of every sheet

pub none_past : (rows : List Row) (i : ℕ) → length rows ≤ i → category_in (slice_get rows i) ≡ Third
none_past [] i h = refl
none_past (r ∷ rows) zero h = absurd (omega arith)
none_past (r ∷ rows) (suc i) h = none_past rows i (omega arith)

pub fifteen : length published ≡ 15
unfolding published
fifteen = refl

pub past : (i : ℕ) → 15 ≤ i → category_in (slice_get published i) ≡ Third
past i h = none_past published i (omega (arith, fifteen))

pub Weighs : Row → Type 0
Weighs r = r.category ≡ Third → ⊥

pub none_unweighed : (rows : List Row) → AllByRecursion Weighs rows → (i : ℕ) (a b : Details) → category_in (slice_get rows i) ≡ Third → finding_in (slice_get rows i) a b ≡ NotCompared
unfolding Weighs
none_unweighed [] w i a b e = refl
none_unweighed (r ∷ rows) w zero a b e = absurd (w.0 e)
none_unweighed (r ∷ rows) w (suc i) a b e = none_unweighed rows w.1 i a b e

pub all_weigh : AllByRecursion Weighs published
unfolding published Weighs
all_weigh = search rules

pub uncompared : (i : ℕ) (a b : Details) → category_in (slice_get published i) ≡ Third → finding_in (slice_get published i) a b ≡ NotCompared
uncompared = none_unweighed published all_weigh

pub compared_exchanged : (field : Field) (a b : Details) → is_compared field a b ≡ is_compared field b a
compared_exchanged F.ProductId a b = or_comm (by_isin a.product_id_kind) (by_isin b.product_id_kind)
compared_exchanged F.UnderlyingId a b = ap not (or_comm (by_aii_or_basket a.underlying_kind) (by_aii_or_basket b.underlying_kind))
compared_exchanged F.Side a b = refl
compared_exchanged F.UnderlyingKind a b = refl
compared_exchanged F.NotionalCurrency1 a b = refl
compared_exchanged F.NotionalCurrency2 a b = refl
compared_exchanged F.Venue a b = refl
compared_exchanged F.Compression a b = refl
compared_exchanged F.Price a b = refl
compared_exchanged F.PriceNotation a b = refl
compared_exchanged F.PriceCurrency a b = refl
compared_exchanged F.Notional a b = refl
compared_exchanged F.ExecutionTimestamp a b = refl
compared_exchanged F.ClearingTimestamp a b = refl
compared_exchanged F.ExchangeRate1 a b = refl

pub row_exchanged : (r : Option Row) (a b : Details) → finding_in r a b ≡ finding_in r b a
row_exchanged None a b = refl
row_exchanged (Some r) a b = rw (compared_exchanged r.field a b, found_exchanged r.check r.field a b) refl

-- what the KDPW sheet means
abbrev pub kdpw : Meaning
kdpw = record {
  fields = 15;
  category = λ i. category_in (slice_get published i);
  finding = λ i. finding_in (slice_get published i);
  some = omega arith;
  most = omega arith;
  past = past;
  uncompared = uncompared;
  exchanged = λ i. row_exchanged (slice_get published i);
}
