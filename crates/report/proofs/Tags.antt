-- All tags, from the lowest on.
use Rattle.std.proofs.Common.{◌≡◌, ℕ, ◌-◌, ◌<◌, ◌≤◌, Bool, true, false, ◌&&◌, List, [], ◌∷◌, ◌++◌, take, drop, Some, None, Option, if◌then◌else◌, refl, sym, subst, arith}
use Rattle.std.specs.Bool.{⊤}
use Rattle.std.specs.List.{filter, find}
use Rattle.refusals.specs.Words.{tag_number}
use Rattle.refusals.specs.declared.tag.Tag.{Tag}
use Rattle.refusals.specs.declared.tag.Tag.TheVariants.{TradeId, ReportingCounterparty, OtherKind, OtherCounterparty, OtherCountry, Action, Level, EligibleDate, Side, ProductIdKind, ProductId, UnderlyingKind, UnderlyingId, NotionalCurrency1, NotionalCurrency2, Venue, Compression, Price, PriceNotation, PriceCurrency, Notional, ExecutionTimestamp, ClearingTimestamp, ExchangeRate1, Valuation}
use Rattle.report.specs.Judging.{all_tags, detail_tags, party_tags}
use Rattle.report.specs.Named.{Least}

-- tags rise above the last one
abbrev pub Rising : ℕ → List Tag → Type 0
Rising last [] = ⊤
Rising last (tag ∷ tags) = (last < tag_number tag) × Rising (tag_number tag) tags

pub all_rise : Rising 0 all_tags
unfolding all_tags party_tags detail_tags
all_rise = grind arith

-- the tags before one, and behind it
abbrev pub before : Tag → List Tag
before tag = take (tag_number tag - 1) all_tags

abbrev pub after : Tag → List Tag
after tag = drop (tag_number tag) all_tags

pub parted : (tag : Tag) → before tag ++ (tag ∷ after tag) ≡ all_tags
unfolding all_tags party_tags detail_tags
parted TradeId = refl
parted ReportingCounterparty = refl
parted OtherKind = refl
parted OtherCounterparty = refl
parted OtherCountry = refl
parted Action = refl
parted Level = refl
parted EligibleDate = refl
parted Side = refl
parted ProductIdKind = refl
parted ProductId = refl
parted UnderlyingKind = refl
parted UnderlyingId = refl
parted NotionalCurrency1 = refl
parted NotionalCurrency2 = refl
parted Venue = refl
parted Compression = refl
parted Price = refl
parted PriceNotation = refl
parted PriceCurrency = refl
parted Notional = refl
parted ExecutionTimestamp = refl
parted ClearingTimestamp = refl
parted ExchangeRate1 = refl
parted Valuation = refl

-- a tag behind others is above the last one
rises : (last : ℕ) (front : List Tag) (tag : Tag) (back : List Tag) → Rising last (front ++ (tag ∷ back)) → last < tag_number tag
rises last [] tag back r = r.0
rises last (x ∷ front) tag back r = let k : tag_number x < tag_number tag = rises (tag_number x) front tag back r.1 in let h : last < tag_number x = r.0 in omega arith

-- a tag that is found at once, or later
settled : (passes : Bool) (x found : Tag) (later : Option Tag) (tag : Tag) → (if passes then Some x else later) ≡ Some found → tag_number x ≤ tag_number tag → (later ≡ Some found → tag_number found ≤ tag_number tag) → tag_number found ≤ tag_number tag
settled true x found later tag e low on = let k : x ≡ found = cc in subst (λ t. tag_number t ≤ tag_number tag) k low
settled false x found later tag e low on = on e

module _ (test : Tag → Bool) where
  -- what is found passes the test
  found_passes : (tags : List Tag) (tag : Tag) → find test tags ≡ Some tag → test tag ≡ true
  found_passes [] tag e = absurd (cc)
  found_passes (x ∷ tags) tag e = grind (arith, found_passes tags tag)

  -- where none is found, each fails it
  none_passes : (front : List Tag) (tag : Tag) (back : List Tag) → find test (front ++ (tag ∷ back)) ≡ None → test tag ≡ false
  none_passes [] tag back e = grind arith
  none_passes (x ∷ front) tag back e = grind (arith, none_passes front tag back)

  -- what is found is the lowest that passes it
  found_lowest : (last : ℕ) (front : List Tag) (tag : Tag) (back : List Tag) (found : Tag) → Rising last (front ++ (tag ∷ back)) → test tag ≡ true → find test (front ++ (tag ∷ back)) ≡ Some found → tag_number found ≤ tag_number tag
  found_lowest last [] tag back found r h e = grind arith
  found_lowest last (x ∷ front) tag back found r h e =
      let below : tag_number x < tag_number tag = rises (tag_number x) front tag back r.1 in
      settled (test x) x found _ tag e (omega arith) (found_lowest (tag_number x) front tag back found r.1 h)

  pub least_found : (tag : Tag) → find test all_tags ≡ Some tag → Least tag_number (λ other. test other ≡ true) tag
  least_found tag e = record {
    holds = found_passes all_tags tag e;
    least = λ other h. found_lowest 0 (before other) other (after other) tag (subst (Rising 0) (sym (parted other)) all_rise) h (subst (λ tags. find test tags ≡ Some tag) (sym (parted other)) e);
  }

  pub none_found : find test all_tags ≡ None → (tag : Tag) → test tag ≡ false
  none_found e tag = none_passes (before tag) tag (after tag) (subst (λ tags. find test tags ≡ None) (sym (parted tag)) e)

-- finding among those that pass one test is finding by both
pub find_filtered : (of test : Tag → Bool) (tags : List Tag) → find test (filter of tags) ≡ find (λ tag. of tag && test tag) tags
find_filtered of test [] = refl
find_filtered of test (x ∷ tags) = grind (arith, find_filtered of test tags)
