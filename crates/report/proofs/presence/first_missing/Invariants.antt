use Rattle.std.proofs.Common.{◌≡◌, drop}
use Rattle.slip.specs.Fields.{fields_of}
use Rattle.report.specs.Judging.{missing}
use Rattle.report.specs.Texts.{text_in}
use Rattle.report.proofs.presence.first_missing.Given as goal

abbrev pub invariant-loop-tag : goal.invariant-loop-tag
invariant-loop-tag l = missing (text_in (fields_of l.slip)) (drop l.tag-index l.tags) ≡ missing (text_in (fields_of l.slip)) l.tags
