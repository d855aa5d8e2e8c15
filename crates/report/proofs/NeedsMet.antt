-- A report has what its action needs.
use Rattle.std.proofs.Common.{◌≡◌, ℕ, Bool, ◌&&◌, ◌||◌, true, false, List, [], ◌∷◌, Some, None, Option, refl, arith}
use Rattle.std.proofs.lemmas.Grind.{common_steps}
use Rattle.std.specs.Option.{is_some, option_map}
use Rattle.amounts.specs.Amounts.{worth}
use Rattle.amounts.specs.Decimal.{amount_of}
use Rattle.amounts.specs.declared.amount.Amount.{Amount}
use Rattle.calendar.specs.Dates.{number}
use Rattle.calendar.specs.Text.{date_of}
use Rattle.calendar.specs.declared.date.Date.{Date}
use Rattle.fields.specs.Fields.{action_letter, level_letter, level_letters, side_letter}
use Rattle.fields.specs.Letters.{letter_in}
use Rattle.fields.specs.declared.field.report.Action.{Action}
use Rattle.fields.specs.declared.field.report.Action.TheVariants.{New, PositionComponent, Modify, Correction, ValuationUpdate, EarlyTermination, Compression, Error}
use Rattle.fields.specs.declared.field.report.Level.{Level}
use Rattle.fields.specs.declared.field.report.Level.TheVariants.{Trade, Position}
use Rattle.refusals.specs.declared.tag.Tag.TheVariants as Tag
use Rattle.timestamps.specs.Timestamps.{instant}
use Rattle.report.specs.Judging.{AllThere, Texts, bad, is_letter, needed_by_letter}
use Rattle.report.specs.Needs.{at_trade_level, described, keeps_needs}
use Rattle.report.specs.Texts.{Says}
use Rattle.report.specs.Values.{TellsDetails}
use Rattle.report.specs.declared.details.Details.{Details}

-- a field that is there has a value
pub valued : {X Y : Type 0} (spelled : List ℕ → Option Y) (worth : X → Y) (text : Option (List ℕ)) (value : Option X) → Says spelled worth text value → is_some text ≡ true → is_some value ≡ true
valued spelled worth text (Some v) s h = refl
valued spelled worth None None s h = grind arith
valued spelled worth (Some t) None s h = grind arith

-- the text that a letter was read from
pub letter_text : (letters : List ℕ) (text : Option (List ℕ)) (l : ℕ) → option_map (letter_in letters) text ≡ Some (Some l) → text ≡ Some (l ∷ [])
letter_text letters None l h = grind arith
letter_text letters (Some []) l h = grind arith
letter_text letters (Some (b ∷ [])) l h = grind (arith, common_steps)
letter_text letters (Some (b ∷ (c ∷ rest))) l h = grind arith

-- what stands at both places
misplaced_there : (action level : Option (List ℕ)) (u : Bool) → action ≡ Some (80 ∷ []) → level ≡ Some (80 ∷ []) → (u || (is_letter 80 action && is_letter 80 level)) ≡ false → ⊥
misplaced_there action level u a l h = grind (arith, common_steps)

-- the level of a trade that goes into a position
pub level_kept : (texts : Texts) (level : Option Level) → Says (letter_in level_letters) level_letter (texts Tag.Level) level → is_some level ≡ true → bad texts Tag.Level ≡ false → texts Tag.Action ≡ Some (action_letter PositionComponent ∷ []) → at_trade_level level ≡ true
level_kept texts (Some Trade) s h b a = refl
level_kept texts (Some Position) s h b a = absurd (misplaced_there (texts Tag.Action) (texts Tag.Level) _ a (letter_text level_letters (texts Tag.Level) (level_letter Position) s) b)
level_kept texts None s h b a = grind arith

both : (a b : Bool) → a ≡ true → b ≡ true → (a && b) ≡ true
both a b ha hb = grind arith

all_four : (a b c d : Bool) → a ≡ true → b ≡ true → c ≡ true → d ≡ true → (a && (b && (c && d))) ≡ true
all_four a b c d ha hb hc hd = grind arith

-- what describes a trade or position is there
pub described_met : (texts : Texts) (level : Option Level) (eligible : Option Date) (details : Details)
    → Says (letter_in level_letters) level_letter (texts Tag.Level) level → Says date_of number (texts Tag.EligibleDate) eligible → TellsDetails texts details
    → AllThere texts (needed_by_letter (action_letter New)) → described level eligible details ≡ true
described_met texts level eligible details l e d there =
    all_four _ _ _ _ (valued _ level_letter _ level l there.0) (valued _ number _ eligible e there.1.0) (valued _ side_letter _ details.side d.side there.1.1.0) (valued _ instant _ details.executed d.executed there.1.1.1.0)

pub needs_met : (texts : Texts) (action : Action) (level : Option Level) (eligible : Option Date) (details : Details) (valuation : Option Amount)
    → Says (letter_in level_letters) level_letter (texts Tag.Level) level → Says date_of number (texts Tag.EligibleDate) eligible
    → TellsDetails texts details → Says (amount_of 20) worth (texts Tag.Valuation) valuation
    → texts Tag.Action ≡ Some (action_letter action ∷ []) → bad texts Tag.Level ≡ false → AllThere texts (needed_by_letter (action_letter action))
    → keeps_needs action level eligible details valuation ≡ true
needs_met texts New level eligible details valuation l e d v a b there = described_met texts level eligible details l e d there
needs_met texts PositionComponent level eligible details valuation l e d v a b there =
    both _ _ (described_met texts level eligible details l e d there) (level_kept texts level l (valued _ level_letter _ level l there.0) b a)
needs_met texts Modify level eligible details valuation l e d v a b there = described_met texts level eligible details l e d there
needs_met texts Correction level eligible details valuation l e d v a b there = described_met texts level eligible details l e d there
needs_met texts ValuationUpdate level eligible details valuation l e d v a b there = valued (amount_of 20) worth (texts Tag.Valuation) valuation v there.0
needs_met texts EarlyTermination level eligible details valuation l e d v a b there = refl
needs_met texts Compression level eligible details valuation l e d v a b there = refl
needs_met texts Error level eligible details valuation l e d v a b there = refl
