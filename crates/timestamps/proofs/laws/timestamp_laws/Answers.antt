use Rattle.std.proofs.Common.{◌≡◌, ℕ, Bool, ◌&&◌, ◌||◌, leb, List, Option, ap, ◌∙◌, arith}
use Rattle.std.proofs.Math.Bool.{and_comm}
use Rattle.std.proofs.lemmas.Bool.Decides.{nat_tests}
use Rattle.timestamps.specs.Checks.{apart, named_off_exchange, same_date, within_an_hour}
use Rattle.timestamps.specs.Timestamps.{instant}
use Rattle.timestamps.proofs.Form.{one_form}
use Rattle.timestamps.proofs.Instants.{instant_names, instant_read, one_stamp, stamp_names}
use Rattle.timestamps.proofs.laws.timestamp_laws.Goals as goal

date_exchanged : (i j : ℕ) → same_date i j ≡ same_date j i
date_exchanged i j = grind (arith, nat_tests)

time_exchanged : (v w : Option (List ℕ)) (i j : ℕ) → within_an_hour v w i j ≡ within_an_hour w v j i
time_exchanged v w i j =
    let a : apart i j ≡ apart j i = omega arith in
    ap (λ (b : Bool). b && ((named_off_exchange v && named_off_exchange w) || leb (apart i j) 3600)) (date_exchanged i j)
    ∙ ap (λ (b : Bool). same_date j i && (b || leb (apart i j) 3600)) (and_comm (named_off_exchange v) (named_off_exchange w))
    ∙ ap (λ (n : ℕ). same_date j i && ((named_off_exchange w && named_off_exchange v) || leb n 3600)) a

pub returns : goal.returns
returns c =
    record {
      read_back = λ t. instant_read _ _ (stamp_names (instant t) (omega (arith, t.time.within, t.date.within)));
      written_back = λ text i e. one_stamp text i (instant_names text i e);
      one_form = one_form;
      date_exchanged = date_exchanged;
      time_exchanged = time_exchanged;
    }
