-- The laws of standings.
use Rattle.std.proofs.Common.{◌≡◌, Some, None, ◌⊎◌, inl, inr, refl}
use Rattle.fields.specs.declared.field.report.Action.{Action}
use Rattle.fields.specs.declared.field.report.Action.TheVariants.{New, PositionComponent, Modify, Correction, ValuationUpdate, EarlyTermination, Compression, Error}
use Rattle.rows.specs.Laws.{StandingLaws}
use Rattle.rows.specs.Standings.{enters, takes}
use Rattle.rows.specs.declared.standing.Standing.{Standing}
use Rattle.rows.specs.declared.standing.Standing.TheVariants.{Active, Ended, Withdrawn}

entering : (action : Action) (s t : Standing) → enters action ≡ Some s → takes t action ≡ None
entering New s Active e = refl
entering New s Ended e = refl
entering New s Withdrawn e = refl
entering PositionComponent s Active e = refl
entering PositionComponent s Ended e = refl
entering PositionComponent s Withdrawn e = refl
entering Modify s t e = absurd (cc)
entering Correction s t e = absurd (cc)
entering ValuationUpdate s t e = absurd (cc)
entering EarlyTermination s t e = absurd (cc)
entering Compression s t e = absurd (cc)
entering Error s t e = absurd (cc)

ended : (action : Action) (s : Standing) → takes Ended action ≡ Some s → (action ≡ Correction) ⊎ (action ≡ Error)
ended New s e = absurd (cc)
ended PositionComponent s e = absurd (cc)
ended Modify s e = absurd (cc)
ended Correction s e = inl refl
ended ValuationUpdate s e = absurd (cc)
ended EarlyTermination s e = absurd (cc)
ended Compression s e = absurd (cc)
ended Error s e = inr refl

-- an ended row stays ended or is withdrawn
ended_for_good : (action : Action) → takes Ended action ≡ Some Active → Ended ≡ Active
ended_for_good New e = absurd (cc)
ended_for_good PositionComponent e = absurd (cc)
ended_for_good Modify e = absurd (cc)
ended_for_good Correction e = absurd (cc)
ended_for_good ValuationUpdate e = absurd (cc)
ended_for_good EarlyTermination e = absurd (cc)
ended_for_good Compression e = absurd (cc)
ended_for_good Error e = absurd (cc)

no_return : (action : Action) (s : Standing) → takes s action ≡ Some Active → s ≡ Active
no_return action Active e = refl
no_return action Ended e = ended_for_good action e
no_return action Withdrawn e = absurd (cc)

pub laws : StandingLaws
laws = record { entering = entering; withdrawn = λ action. refl; ended = ended; no_return = no_return }
