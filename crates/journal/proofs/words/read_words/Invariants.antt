use Rattle.std.proofs.Common.{◌≡◌, map, vec_items}
use Rattle.journal.specs.Words.{decoded_all, words_of}
use Rattle.journal.proofs.Wording.{behind_all}
use Rattle.journal.proofs.words.read_words.Given as goal

abbrev pub invariant-loop-word : goal.invariant-loop-word
invariant-loop-word l = decoded_all (words_of l.line) ≡ behind_all (map vec_items (vec_items l.words)) (decoded_all (words_of l.word-iterator.0.now))
