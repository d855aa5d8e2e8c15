use Rattle.std.proofs.Common.{◌≡◌, true, false, Some, None, sym, ap, ◌∙◌, arith}
use Rattle.std.proofs.lemmas.Grind.{common_steps}
use Rattle.std.specs.Option.{option_map}
use Rattle.std.specs.Result.{result_err}
use Rattle.refusals.specs.declared.refusal.Refusal.TheVariants.{BadField}
use Rattle.refusals.specs.declared.tag.Tag.TheVariants as Tag
use Rattle.slip.specs.Fields.{fields_of}
use Rattle.report.specs.Judging.{bad, detail_tags, first_bad, party_tags}
use Rattle.report.specs.Texts.{text_in}
use Rattle.report.proofs.InTurn.{action_good, action_said, all_in_turn, good, here, is_bad, on}
use Rattle.report.proofs.NeedsMet.{needs_met}
use Rattle.report.proofs.report.read.read_fields.Goals as goal

pub returns-in_err-parties-clause-refusal : goal.returns-in_err-parties-clause-refusal
returns-in_err-parties-clause-refusal c =
    let t = text_in (fields_of c.args.slip.now) in
    let r : result_err c.from_residual.result ≡ Some c.in_err-parties.field-0.0 = grind (arith, common_steps) in
    let p : Some c.in_err-parties.field-0.0 ≡ option_map BadField (first_bad t party_tags) = ap result_err (sym c.in_err-parties.was) ∙ c.read.ensures.refusal c.requires.always in
    r ∙ here _ _ _ p ∙ ap (option_map BadField) (sym (all_in_turn t))

pub returns-in_err-level-clause-refusal : goal.returns-in_err-level-clause-refusal
returns-in_err-level-clause-refusal c =
    let t = text_in (fields_of c.args.slip.now) in
    let p : None ≡ option_map BadField (first_bad t party_tags) = ap result_err (sym c.in_ok-parties.was) ∙ c.read.ensures.refusal c.requires.always in
    let a = good _ Tag.Action (action_good t c.args.action c.requires.action) in
    let r : result_err c.from_residual-in_err-level.result ≡ Some (BadField Tag.Level) = grind (arith, common_steps) in
    let l : bad t Tag.Level ≡ true = grind (arith, common_steps) in
    r ∙ on _ _ _ p (on _ _ _ a (here _ _ _ (is_bad _ Tag.Level l))) ∙ ap (option_map BadField) (sym (all_in_turn t))

pub returns-in_err-eligible-clause-refusal : goal.returns-in_err-eligible-clause-refusal
returns-in_err-eligible-clause-refusal c =
    let t = text_in (fields_of c.args.slip.now) in
    let p : None ≡ option_map BadField (first_bad t party_tags) = ap result_err (sym c.in_ok-parties.was) ∙ c.read.ensures.refusal c.requires.always in
    let a = good _ Tag.Action (action_good t c.args.action c.requires.action) in
    let l : bad t Tag.Level ≡ false = grind (arith, common_steps) in
    let r : result_err c.from_residual-in_err-eligible.result ≡ Some (BadField Tag.EligibleDate) = grind (arith, common_steps) in
    let d : bad t Tag.EligibleDate ≡ true = grind (arith, common_steps) in
    r ∙ on _ _ _ p (on _ _ _ a (on _ _ _ (good _ Tag.Level l) (here _ _ _ (is_bad _ Tag.EligibleDate d)))) ∙ ap (option_map BadField) (sym (all_in_turn t))

pub returns-in_err-details-clause-refusal : goal.returns-in_err-details-clause-refusal
returns-in_err-details-clause-refusal c =
    let t = text_in (fields_of c.args.slip.now) in
    let p : None ≡ option_map BadField (first_bad t party_tags) = ap result_err (sym c.in_ok-parties.was) ∙ c.read.ensures.refusal c.requires.always in
    let a = good _ Tag.Action (action_good t c.args.action c.requires.action) in
    let l : bad t Tag.Level ≡ false = grind (arith, common_steps) in
    let d : bad t Tag.EligibleDate ≡ false = grind (arith, common_steps) in
    let r : result_err c.from_residual-in_err-details.result ≡ Some c.in_err-details.field-0.0 = grind (arith, common_steps) in
    let s : Some c.in_err-details.field-0.0 ≡ option_map BadField (first_bad t detail_tags) = ap result_err (sym c.in_err-details.was) ∙ c.read-2.ensures.refusal in
    r ∙ on _ _ _ p (on _ _ _ a (on _ _ _ (good _ Tag.Level l) (on _ _ _ (good _ Tag.EligibleDate d) (here _ _ _ s)))) ∙ ap (option_map BadField) (sym (all_in_turn t))

pub returns-in_err-valuation-clause-refusal : goal.returns-in_err-valuation-clause-refusal
returns-in_err-valuation-clause-refusal c =
    let t = text_in (fields_of c.args.slip.now) in
    let p : None ≡ option_map BadField (first_bad t party_tags) = ap result_err (sym c.in_ok-parties.was) ∙ c.read.ensures.refusal c.requires.always in
    let a = good _ Tag.Action (action_good t c.args.action c.requires.action) in
    let l : bad t Tag.Level ≡ false = grind (arith, common_steps) in
    let d : bad t Tag.EligibleDate ≡ false = grind (arith, common_steps) in
    let s : None ≡ option_map BadField (first_bad t detail_tags) = ap result_err (sym c.in_ok-details.was) ∙ c.read-2.ensures.refusal in
    let r : result_err c.from_residual-in_err-valuation.result ≡ Some (BadField Tag.Valuation) = grind (arith, common_steps) in
    let v : bad t Tag.Valuation ≡ true = grind (arith, common_steps) in
    r ∙ on _ _ _ p (on _ _ _ a (on _ _ _ (good _ Tag.Level l) (on _ _ _ (good _ Tag.EligibleDate d) (on _ _ _ s (is_bad _ Tag.Valuation v))))) ∙ ap (option_map BadField) (sym (all_in_turn t))

pub returns-clause-refusal : goal.returns-clause-refusal
returns-clause-refusal c =
    let t = text_in (fields_of c.args.slip.now) in
    let p : None ≡ option_map BadField (first_bad t party_tags) = ap result_err (sym c.in_ok-parties.was) ∙ c.read.ensures.refusal c.requires.always in
    let a = good _ Tag.Action (action_good t c.args.action c.requires.action) in
    let l : bad t Tag.Level ≡ false = grind (arith, common_steps) in
    let d : bad t Tag.EligibleDate ≡ false = grind (arith, common_steps) in
    let s : None ≡ option_map BadField (first_bad t detail_tags) = ap result_err (sym c.in_ok-details.was) ∙ c.read-2.ensures.refusal in
    let v : bad t Tag.Valuation ≡ false = grind (arith, common_steps) in
    on _ _ _ p (on _ _ _ a (on _ _ _ (good _ Tag.Level l) (on _ _ _ (good _ Tag.EligibleDate d) (on _ _ _ s (good _ Tag.Valuation v))))) ∙ ap (option_map BadField) (sym (all_in_turn t))

pub invariant_of-result : goal.invariant_of-result
invariant_of-result c =
    let t = text_in (fields_of c.args.slip.now) in
    let l : bad t Tag.Level ≡ false = grind (arith, common_steps) in
    record { needs = needs_met t c.args.action c.in_ok-level.level c.in_ok-eligible.eligible c.in_ok-details.details c.in_ok-valuation.valuation c.in_ok-level.ensures.value c.in_ok-eligible.ensures.value c.in_ok-details.ensures.value c.in_ok-valuation.ensures.value c.requires.action l c.requires.needed }

pub returns-clause-value : goal.returns-clause-value
returns-clause-value c =
    record { parties = c.in_ok-parties.ensures.value; action = action_said _ c.args.action c.requires.action; level = c.in_ok-level.ensures.value; eligible = c.in_ok-eligible.ensures.value; details = c.in_ok-details.ensures.value; valuation = c.in_ok-valuation.ensures.value }
