-- Which report comes first makes no difference.
use Rattle.std.proofs.Common.{◌≡◌, ℕ, List, [], ◌∷◌, map, refl, ap, ◌∙◌}
use Rattle.std.specs.List.{range_with_len}
use Rattle.report.specs.declared.details.Details.{Details}
use Rattle.sheets.specs.Sheets.{Meaning, findings_of, places, state_by, state_of}
use Rattle.sheets.specs.declared.finding.Finding.{Finding}

-- all places, counted
pub all_places : (n : ℕ) → n ≡ 64 → range_with_len 0 n ≡ places
unfolding places
all_places n e = ap (range_with_len 0) e

each : (sheet : Meaning) (a b : Details) (is : List ℕ) → map (λ i. sheet.finding i b a) is ≡ map (λ i. sheet.finding i a b) is
each sheet a b [] = refl
each sheet a b (i ∷ is) = ap (λ x. x ∷ map (λ j. sheet.finding j b a) is) (sheet.exchanged i b a) ∙ ap (λ (xs : List Finding). sheet.finding i a b ∷ xs) (each sheet a b is)

pub findings_exchanged : (sheet : Meaning) (a b : Details) → findings_of sheet b a ≡ findings_of sheet a b
findings_exchanged sheet a b = each sheet a b places

pub state_exchanged : (sheet : Meaning) (a b : Details) → state_of sheet b a ≡ state_of sheet a b
state_exchanged sheet a b = ap (state_by sheet) (findings_exchanged sheet a b)
