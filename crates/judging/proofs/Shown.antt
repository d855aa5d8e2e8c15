-- A verdict against what a row shows.
use Rattle.std.proofs.Common.{◌≡◌, ◌&&◌, true, rules, List, [], ◌∷◌, bytes_eq, map, nat_eq, refl, sym, ap}
use Rattle.std.proofs.lemmas.Slice.Eq.{bytes_eq-Decides}
use denote.Enum.Bare.{same_true, sameb}
use lib.Pointwise.{pointwise}
use Rattle.sheets.specs.Findings.{finding_number}
use Rattle.sheets.specs.contracts.finding.FindingPartialEq.TheImpl.{eq-value}
use Rattle.sheets.specs.declared.finding.Finding.{Finding}
use Rattle.sheets.specs.declared.finding.Finding.TheVariants.{Differs, Matches, NotCompared}
use Rattle.rows.specs.Words.{state_text, told}
use Rattle.rows.specs.contracts.state.State.{the_type}
use Rattle.rows.specs.declared.state.State.{State}
use Rattle.rules.specs.Judging.{same_shown}

one_state : (s t : State) → sameb the_type s t ≡ true → bytes_eq (state_text s) (state_text t) ≡ true
one_state s t e = (bytes_eq-Decides (state_text s) (state_text t)).1 (ap state_text (same_true the_type (search rules) s t e))

one_finding : (f g : Finding) → eq-value.it f g ≡ nat_eq (finding_number f) (finding_number g)
one_finding Matches Matches = refl
one_finding Matches Differs = refl
one_finding Matches NotCompared = refl
one_finding Differs Matches = refl
one_finding Differs Differs = refl
one_finding Differs NotCompared = refl
one_finding NotCompared Matches = refl
one_finding NotCompared Differs = refl
one_finding NotCompared NotCompared = refl

pub findings_alike : (a b : List Finding) → pointwise eq-value.it a b ≡ bytes_eq (map finding_number a) (map finding_number b)
findings_alike [] [] = refl
findings_alike [] (g ∷ b) = refl
findings_alike (f ∷ a) [] = refl
findings_alike (f ∷ a) (g ∷ b) = λ i. one_finding f g i && findings_alike a b i

pub shown_alike : (s t : State) (a b : List Finding) → sameb the_type s t ≡ true → pointwise eq-value.it a b ≡ same_shown (told s a) (told t b)
shown_alike s t a b e = λ i. sym (one_state s t e) i && findings_alike a b i
