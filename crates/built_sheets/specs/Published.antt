-- The published table: KDPW_TR procedure, Appendix 1, with our reading of its rows.
use Rattle.std.specs.Prelude.{Bool, true, false, ◌||◌, not, if◌then◌else◌, List, [], ◌∷◌, Some, Option}
use Rattle.built_sheets.specs.declared.row.Row.{Row}
use Rattle.checks.specs.Checks.{found}
use Rattle.checks.specs.declared.check.Check.{Check}
use Rattle.checks.specs.declared.check.Check.TheVariants.{OnePercent, WholeNumber, WithinAnHour, SameDate, Exact, Opposite}
use Rattle.checks.specs.declared.field.Field.{Field}
use Rattle.checks.specs.declared.field.Field.TheVariants.{Side, ProductId, UnderlyingKind, UnderlyingId, NotionalCurrency1, NotionalCurrency2, Venue, Compression, Price, PriceNotation, PriceCurrency, Notional, ExecutionTimestamp, ClearingTimestamp, ExchangeRate1}
use Rattle.fields.specs.declared.field.detail.ProductIdKind.{ProductIdKind}
use Rattle.fields.specs.declared.field.detail.ProductIdKind.TheVariants.{Isin}
use Rattle.fields.specs.declared.field.detail.UnderlyingKind.{UnderlyingKind as KindOfUnderlying}
use Rattle.fields.specs.declared.field.detail.UnderlyingKind.TheVariants.{Aii, Basket}
use Rattle.report.specs.declared.details.Details.{Details}
use Rattle.sheets.specs.declared.finding.Category.{Category}
use Rattle.sheets.specs.declared.finding.Category.TheVariants.{First, Second}
use Rattle.sheets.specs.declared.finding.Finding.{Finding}
use Rattle.sheets.specs.declared.finding.Finding.TheVariants.{NotCompared}

abbrev pub row : Field → Check → Category → Row
row field check category = record { field = field; check = check; category = category }

-- the fifteen rows, in the order of their positions, by the numbers that the table gives them:
-- side; 2.6; 2.7; 2.8; 2.9; 2.10; 2.15; 2.16; 2.17; 2.18; 2.19; 2.20; 2.25; 2.36; 2.62.
-- The second and the fourth have a condition besides, see `is_compared`.
unfoldable pub published : List Row
published =
    row Side Opposite First
    ∷ row ProductId Exact First
    ∷ row UnderlyingKind Exact First
    ∷ row UnderlyingId Exact First
    ∷ row NotionalCurrency1 Exact First
    ∷ row NotionalCurrency2 Exact Second
    ∷ row Venue Exact Second
    ∷ row Compression Exact Second
    ∷ row Price OnePercent Second
    ∷ row PriceNotation Exact First
    ∷ row PriceCurrency Exact First
    ∷ row Notional WholeNumber First
    ∷ row ExecutionTimestamp WithinAnHour Second
    ∷ row ClearingTimestamp SameDate Second
    ∷ row ExchangeRate1 OnePercent Second
    ∷ []

abbrev pub by_isin : Option ProductIdKind → Bool
by_isin (Some Isin) = true
by_isin kind = false

abbrev pub by_aii_or_basket : Option KindOfUnderlying → Bool
by_aii_or_basket (Some Aii) = true
by_aii_or_basket (Some Basket) = true
by_aii_or_basket kind = false

-- names of products are compared if either is an ISIN, names of underlyings if neither is an alternative instrument
-- identifier or a basket, and all other fields always
abbrev pub is_compared : Field → Details → Details → Bool
is_compared ProductId a b = by_isin a.product_id_kind || by_isin b.product_id_kind
is_compared UnderlyingId a b = not (by_aii_or_basket a.underlying_kind || by_aii_or_basket b.underlying_kind)
is_compared field a b = true

-- what a row finds
abbrev pub row_finding : Row → Details → Details → Finding
row_finding r a b = if is_compared r.field a b then found r.check r.field a b else NotCompared
