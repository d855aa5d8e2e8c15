use Rattle.std.proofs.Common.{◌≡◌, map, drop, vec_items}
use Rattle.slip_words.specs.Spelled.{fields_spelled}
use Rattle.slip_words.specs.Faults.{bad_word}
use Rattle.slip_words.specs.Tagged.{tagged}
use Rattle.slip_words.proofs.Words.{behind_all}
use Rattle.slip_words.proofs.spelling.read_fields.Given as goal

abbrev pub invariant-loop-word : goal.invariant-loop-word
invariant-loop-word l = (bad_word (map vec_items l.words) ≡ bad_word (map vec_items (drop l.word-index l.words))) × (fields_spelled (map vec_items l.words) ≡ behind_all (map tagged (vec_items l.fields)) (fields_spelled (map vec_items (drop l.word-index l.words))))
