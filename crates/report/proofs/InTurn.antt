-- The fields of a report, judged in turn.
use Rattle.std.proofs.Common.{◌≡◌, ℕ, Bool, true, false, List, [], ◌∷◌, Some, None, Option, if◌then◌else◌, refl, ap, ◌∙◌, arith}
use Rattle.std.proofs.lemmas.List.Folds.{find-append}
use Rattle.std.specs.Option.{option_map, option_or}
use Rattle.fields.specs.Fields.{action_letter, action_letters}
use Rattle.fields.specs.Letters.{letter_in}
use Rattle.fields.specs.declared.field.report.Action.{Action}
use Rattle.fields.specs.declared.field.report.Action.TheVariants.{New, PositionComponent, Modify, Correction, ValuationUpdate, EarlyTermination, Compression, Error}
use Rattle.refusals.specs.declared.refusal.Refusal.{Refusal}
use Rattle.refusals.specs.declared.refusal.Refusal.TheVariants.{BadField}
use Rattle.refusals.specs.declared.tag.Tag.{Tag}
use Rattle.report.specs.Texts.{Says}
use Rattle.report.specs.Judging.{Texts, all_tags, bad, detail_tags, first_bad, party_tags}

-- a field that is bad by itself
abbrev pub this_bad : Texts → Tag → Option Tag
this_bad texts tag = if bad texts tag then Some tag else None

step : (b : Bool) (tag : Tag) (rest : Option Tag) → (if b then Some tag else rest) ≡ option_or (if b then Some tag else None) rest
step true tag rest = refl
step false tag rest = refl

-- parties, action, level, day, details and valuation are judged one after the other
pub all_in_turn : (texts : Texts) → first_bad texts all_tags ≡ option_or (first_bad texts party_tags) (option_or (this_bad texts Tag.Action) (option_or (this_bad texts Tag.Level) (option_or (this_bad texts Tag.EligibleDate) (option_or (first_bad texts detail_tags) (this_bad texts Tag.Valuation)))))
unfolding all_tags
all_in_turn texts =
    find-append (bad texts) party_tags _
    ∙ ap (option_or (first_bad texts party_tags)) (step (bad texts Tag.Action) Tag.Action _
    ∙ ap (option_or (this_bad texts Tag.Action)) (step (bad texts Tag.Level) Tag.Level _
    ∙ ap (option_or (this_bad texts Tag.Level)) (step (bad texts Tag.EligibleDate) Tag.EligibleDate _
    ∙ ap (option_or (this_bad texts Tag.EligibleDate)) (find-append (bad texts) detail_tags (Tag.Valuation ∷ [])))))

-- a bad field is the first of all, if those before are good
pub here : (a rest : Option Tag) (e : Refusal) → Some e ≡ option_map BadField a → Some e ≡ option_map BadField (option_or a rest)
here (Some tag) rest e h = h
here None rest e h = grind arith

-- good fields leave the answer to the others
pub on : (a rest : Option Tag) (r : Option Refusal) → None ≡ option_map BadField a → r ≡ option_map BadField rest → r ≡ option_map BadField (option_or a rest)
on (Some tag) rest r h k = grind arith
on None rest r h k = k

pub good : (b : Bool) (tag : Tag) → b ≡ false → None ≡ option_map BadField (if b then Some tag else None)
good true tag h = grind arith
good false tag h = refl

pub is_bad : (b : Bool) (tag : Tag) → b ≡ true → Some (BadField tag) ≡ option_map BadField (if b then Some tag else None)
is_bad true tag h = refl
is_bad false tag h = grind arith

-- the letter of an action is a good one
pub action_good : (texts : Texts) (action : Action) → texts Tag.Action ≡ Some (action_letter action ∷ []) → bad texts Tag.Action ≡ false
action_good texts New h = grind arith
action_good texts PositionComponent h = grind arith
action_good texts Modify h = grind arith
action_good texts Correction h = grind arith
action_good texts ValuationUpdate h = grind arith
action_good texts EarlyTermination h = grind arith
action_good texts Compression h = grind arith
action_good texts Error h = grind arith

-- the action is what its letter says
pub action_said : (text : Option (List ℕ)) (action : Action) → text ≡ Some (action_letter action ∷ []) → Says (letter_in action_letters) action_letter text (Some action)
action_said text New h = ap (option_map (letter_in action_letters)) h
action_said text PositionComponent h = ap (option_map (letter_in action_letters)) h
action_said text Modify h = ap (option_map (letter_in action_letters)) h
action_said text Correction h = ap (option_map (letter_in action_letters)) h
action_said text ValuationUpdate h = ap (option_map (letter_in action_letters)) h
action_said text EarlyTermination h = ap (option_map (letter_in action_letters)) h
action_said text Compression h = ap (option_map (letter_in action_letters)) h
action_said text Error h = ap (option_map (letter_in action_letters)) h
