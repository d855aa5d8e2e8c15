use Rattle.std.proofs.Common.{◌≡◌, map, drop, vec_items}
use Rattle.codes.specs.Codes.{text_of}
use Rattle.desk.specs.Lists.{parties_read}
use Rattle.desk.proofs.Reading.{behind_all}
use Rattle.desk.proofs.lists.read_parties.Given as goal

abbrev pub invariant-loop-word : goal.invariant-loop-word
invariant-loop-word l = parties_read (map vec_items l.words) ≡ behind_all (map text_of (vec_items l.parties)) (parties_read (map vec_items (drop l.word-index l.words)))
