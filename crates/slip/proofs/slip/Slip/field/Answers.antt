use Rattle.std.proofs.Common.{◌==◌, rules, tests}
use Rattle.std.proofs.lemmas.Iterator.Search.{find_from_yields_List}
use Rattle.std.proofs.lemmas.Iterator.Consumers.{YieldsList-from_first}
use Rattle.refusals.specs.Words.{tag_number}
use Rattle.slip.specs.Fields.{field_of, fields_left, fields_of}
use Rattle.slip.proofs.slip.Slip.field.Goals as goal

pub returns : goal.returns
returns c = find_from_yields_List (λ f. f.tag == tag_number c.args.tag) c.find.new.self _ c.find.result c.find.ensures.ran (YieldsList-from_first field_of fields_left (fields_of c.args.self.now) (cc)) (λ x b q k. search (rules, tests))
