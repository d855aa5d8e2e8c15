-- What comparing two amounts comes to, and the words that tell it.
use Rattle.std.specs.Prelude.{ℕ, Bool, true, false, List, ◌++◌, ℤ, Some, None, codes, Option, Result, Ok, Err}
use Rattle.amounts.specs.Amounts.{worth}
use Rattle.amounts.specs.Checks.{within_one_percent, same_whole}
use Rattle.amounts.specs.Decimal.{amount_of}
use Rattle.amounts.specs.Shortest.{shortest_text}
use Rattle.refusals.specs.Words.{RefusalParts, parts_of, refusal_text}
use Rattle.amount_words.specs.declared.comparison.AmountCheck.{AmountCheck}
use Rattle.amount_words.specs.declared.comparison.AmountCheck.TheVariants.{Price, Notional}
use Rattle.amount_words.specs.declared.comparison.Comparison.{Comparison}
use Rattle.amount_words.specs.declared.comparison.Comparison.TheVariants.{Matches, Differs}
use Rattle.amount_words.specs.declared.comparison.SentBack.{SentBack}
use Rattle.amount_words.specs.declared.comparison.Side.{Side}
use Rattle.amount_words.specs.declared.comparison.Side.TheVariants.{First, Second}

-- two amounts in units and whether they match, or a refusal and the text that it is about
pub data Outcome : Type 0 where
  compared : ℤ → ℤ → Bool → Outcome
  sent_back : RefusalParts → Side → Outcome

abbrev pub check_of : AmountCheck → ℤ → ℤ → Bool
check_of Price = within_one_percent
check_of Notional = same_whole

-- a text that is no amount is a bad field: tag 18 is a price, tag 21 a notional
abbrev pub bad_field : AmountCheck → RefusalParts
bad_field Price = record { number = 3; words = codes "bad field"; tag = 18 }
bad_field Notional = record { number = 3; words = codes "bad field"; tag = 21 }

-- the first text is judged before the second
abbrev pub judged : AmountCheck → Option ℤ → Option ℤ → Outcome
judged check None second = sent_back (bad_field check) First
judged check (Some x) None = sent_back (bad_field check) Second
judged check (Some x) (Some y) = compared x y (check_of check x y)

abbrev pub outcome_of : AmountCheck → List ℕ → List ℕ → Outcome
outcome_of check first second = judged check (amount_of 20 first) (amount_of 20 second)

-- what each comparison says
abbrev pub outcome : Result Comparison SentBack → Outcome
outcome (Ok (Matches a b)) = compared (worth a) (worth b) true
outcome (Ok (Differs a b)) = compared (worth a) (worth b) false
outcome (Err sent) = sent_back (parts_of sent.refusal) sent.side

abbrev pub verdict_text : Bool → List ℕ
verdict_text true = codes " matches"
verdict_text false = codes " differs"

abbrev pub side_name : Side → List ℕ
side_name First = codes "first"
side_name Second = codes "second"

-- both amounts in shortest form and the verdict, or the refusal and its side
abbrev pub outcome_text : Outcome → List ℕ
outcome_text (compared x y matches) = shortest_text x ++ (codes " " ++ (shortest_text y ++ verdict_text matches))
outcome_text (sent_back refusal side) = refusal_text refusal ++ (codes " " ++ side_name side)

abbrev pub check_text : AmountCheck → List ℕ
check_text Price = codes "price"
check_text Notional = codes "notional"

-- the answer to a pair of texts under a check
abbrev pub pair_text : AmountCheck → List ℕ → List ℕ → List ℕ
pair_text check first second = check_text check ++ (codes " " ++ outcome_text (outcome_of check first second))
