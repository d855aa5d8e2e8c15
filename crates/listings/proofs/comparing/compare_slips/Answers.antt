use Rattle.std.proofs.Common.{◌≡◌, ◌++◌, ℕ, List, codes, rules}
use Rattle.refusals.specs.Words.{parts_of, refusal_text}
use Rattle.listings.specs.Compared.{TellsCompared}
use Rattle.listings.proofs.Judged.{both_read, second_refused}
use Rattle.listings.proofs.comparing.compare_slips.Goals as goal

pub returns-in-Err-read : goal.returns-in-Err-read
returns-in-Err-read g c =
    let told : (text : List ℕ) → text ≡ refusal_text (parts_of c.in-Err-read.refusal) ++ codes " second" → TellsCompared (g.S.Sheet.meaning c.args.sheet.now) c.args.first.now c.args.second.now text = λ text e. second_refused (g.S.Sheet.meaning c.args.sheet.now) c.args.first.now c.args.second.now text c.in-Ok.report c.in-Err-read.refusal c.in-Ok.ensures.value c.in-Ok.ensures.refusal c.in-Err-read.ensures.refusal e in
    search (rules, told)

pub returns : goal.returns
returns g c =
    let sheet = g.S.Sheet.meaning c.args.sheet.now in
    both_read sheet c.args.first.now c.args.second.now _ c.in-Ok.report c.in-Ok-read.report c.in-Ok.ensures.value c.in-Ok.ensures.refusal c.in-Ok-read.ensures.value c.in-Ok-read.ensures.refusal (search rules)
