use Rattle.std.proofs.Common.{ℕ, List, ap, ◌∙◌, rules, tests}
use Rattle.std.specs.Bool.{◌==◌}
use Rattle.std.specs.Option.{option_map}
use Rattle.std.proofs.lemmas.Iterator.{YieldsList-from_slice}
use Rattle.std.proofs.lemmas.Iterator.Search.{find_from_yields_List}
use Rattle.fields.specs.Letters.{letter_among}
use Rattle.fields.proofs.Found.{found}
use Rattle.fields.proofs.letter.AnyLetter.of_letter.Goals as goal

pub returns : goal.returns
returns g c =
    let told = g.C.Cases.told in
    let byte = c.args.byte in
    let cases = c.cases.result.now in
    ap (option_map told) (c.copied.ensures ∙ find_from_yields_List (λ x. told x == byte) _ _ _ c.find.ensures.ran (YieldsList-from_slice cases (cc)) (λ x b q k. search (rules, tests)))
    ∙ found told byte cases
    ∙ ap (λ (letters : List ℕ). letter_among letters byte) c.cases.ensures
