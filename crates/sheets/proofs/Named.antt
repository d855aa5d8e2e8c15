-- No two findings, categories or states have one number or word: what is told by these is known.
use Rattle.std.proofs.Common.{◌≡◌, List, [], ◌∷◌, refl, rules}
use Rattle.sheets.specs.Findings.{category_number, finding_number, finding_numbers, state_text}
use Rattle.sheets.specs.declared.finding.Category.{Category}
use Rattle.sheets.specs.declared.finding.Finding.{Finding}
use Rattle.sheets.specs.declared.finding.PairState.{PairState}

pub one_category : (x y : Category) → category_number x ≡ category_number y → x ≡ y
one_category = search rules

pub one_finding : (x y : Finding) → finding_number x ≡ finding_number y → x ≡ y
one_finding = search rules

pub one_state : (x y : PairState) → state_text x ≡ state_text y → x ≡ y
one_state = search rules

pub same_findings : (xs ys : List Finding) → finding_numbers xs ≡ finding_numbers ys → xs ≡ ys
same_findings [] [] e = refl
same_findings [] (y ∷ ys) e = absurd (cc)
same_findings (x ∷ xs) [] e = absurd (cc)
same_findings (x ∷ xs) (y ∷ ys) e =
    let here : x ≡ y = one_finding x y (cc) in
    let behind : xs ≡ ys = same_findings xs ys (cc) in
    cc
