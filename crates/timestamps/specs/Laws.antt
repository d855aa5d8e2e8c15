-- Laws of timestamps and of the checks on them.
use Rattle.std.specs.Prelude.{◌≡◌, ℕ, List, Some, Option}
use Rattle.timestamps.specs.Checks.{same_date, within_an_hour}
use Rattle.timestamps.specs.Times.{timestamp_of, timestamp_text}
use Rattle.timestamps.specs.Timestamps.{instant}
use Rattle.timestamps.specs.declared.timestamp.Timestamp.{Timestamp}

pub record TimestampLaws : Type 0 where
  -- reading and writing undo each other
  pub read_back : (t : Timestamp) → timestamp_of (timestamp_text (instant t)) ≡ Some (instant t)
  pub written_back : (text : List ℕ) (i : ℕ) → timestamp_of text ≡ Some i → text ≡ timestamp_text i
  -- one instant has one timestamp
  pub one_form : (a b : Timestamp) → instant a ≡ instant b → a ≡ b
  -- which side comes first makes no difference
  pub date_exchanged : (i j : ℕ) → same_date i j ≡ same_date j i
  pub time_exchanged : (v w : Option (List ℕ)) (i j : ℕ) → within_an_hour v w i j ≡ within_an_hour w v j i
