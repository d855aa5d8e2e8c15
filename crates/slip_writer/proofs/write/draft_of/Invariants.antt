use Rattle.std.proofs.Common.{◌≡◌, drop}
use Rattle.slip.specs.Drafts.{fields_drafted}
use Rattle.slip_writer.specs.Written.{fields_written, tagged, written_text}
use Rattle.slip_writer.proofs.NextField.{followed}
use Rattle.slip_writer.proofs.write.draft_of.Given as goal

abbrev pub invariant-loop-tag : goal.invariant-loop-tag
invariant-loop-tag l = followed (fields_drafted l.draft) (tagged (written_text l.report) (drop l.tag-index l.tags)) ≡ fields_written l.report
