-- What is said of a row, case by case.
use Rattle.std.proofs.Common.{◌≡◌, ℕ, Bool, true, false, cond, not, ◌==◌, None, refl, sym}
use denote.Enum.Bare.{sameb}
use Rattle.fields.specs.contracts.field.report.PartyKind.{the_type as kinds}
use Rattle.fields.specs.declared.field.report.PartyKind.{PartyKind}
use Rattle.fields.specs.declared.field.report.PartyKind.TheVariants.{Lei, Client}
use Rattle.rows.specs.contracts.standing.Standing.{the_type as standings}
use Rattle.rows.specs.declared.standing.Standing.{Standing}
use Rattle.rows.specs.declared.standing.Standing.TheVariants.{Active, Ended, Withdrawn}
use Rattle.rows.specs.Days.{due_later}
use Rattle.rows.specs.Entries.{Entry}
use Rattle.rules.specs.Judging.{Close, Line, by_lei, early, gone, if_ready, is_withdrawn, lapsed, line, outside, ready, registered}
use Rattle.judging.specs.Lines.{line_of}
use Rattle.judging.specs.declared.line.Line.{Line as Code}
use Rattle.judging.specs.declared.line.Line.TheVariants.{Gone, Early, Outside, Lapsed, Ready}

pub lei_kind : (k : PartyKind) → by_lei k ≡ sameb kinds k Lei
lei_kind Lei = refl
lei_kind Client = refl

pub withdrawn_kind : (s : Standing) → is_withdrawn s ≡ sameb standings s Withdrawn
withdrawn_kind Active = refl
withdrawn_kind Ended = refl
withdrawn_kind Withdrawn = refl

abbrev pub pick : Bool → Bool → Bool → Bool → Line
pick w l r t = cond w gone (cond l early (cond (not r) outside (cond t lapsed ready)))

module _ (c : Close) (today : ℕ) (e : Entry) where
  pub at_gone : is_withdrawn e.standing ≡ true → gone ≡ line c today e
  unfolding line
  at_gone w = λ i. pick (sym w i) (due_later today e.due) (registered c e) (e.tries == 7)

  pub at_early : is_withdrawn e.standing ≡ false → due_later today e.due ≡ true → early ≡ line c today e
  unfolding line
  at_early w l = λ i. pick (sym w i) (sym l i) (registered c e) (e.tries == 7)

  pub at_outside : is_withdrawn e.standing ≡ false → due_later today e.due ≡ false → registered c e ≡ false → outside ≡ line c today e
  unfolding line
  at_outside w l r = λ i. pick (sym w i) (sym l i) (sym r i) (e.tries == 7)

  pub at_lapsed : is_withdrawn e.standing ≡ false → due_later today e.due ≡ false → registered c e ≡ true → (e.tries == 7) ≡ true → lapsed ≡ line c today e
  unfolding line
  at_lapsed w l r t = λ i. pick (sym w i) (sym l i) (sym r i) (sym t i)

  pub at_ready : is_withdrawn e.standing ≡ false → due_later today e.due ≡ false → registered c e ≡ true → (e.tries == 7) ≡ false → ready ≡ line c today e
  unfolding line
  at_ready w l r t = λ i. pick (sym w i) (sym l i) (sym r i) (sym t i)

-- a row of which anything else is said is no mirror
pub other_line : (l : Code) (e : Entry) → (l ≡ Ready → ⊥) → None ≡ if_ready (line_of l) e
other_line Gone e n = refl
other_line Early e n = refl
other_line Outside e n = refl
other_line Lapsed e n = refl
other_line Ready e n = absurd (n refl)
