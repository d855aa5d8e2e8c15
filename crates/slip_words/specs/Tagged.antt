-- What the code's fields stand for.
use Rattle.slip.specs.Writing.{TaggedText}
use Rattle.slip_words.specs.declared.field.SpelledField.{SpelledField}

abbrev pub tagged : SpelledField → TaggedText
tagged field = record { tag = field.tag; text = field.text.now }
