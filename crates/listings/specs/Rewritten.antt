-- What is told of a report that is written again.
use Rattle.std.specs.Prelude.{ℕ, List, Some, None, Option}
use Rattle.hex.specs.Hex.{encode_upper}
use Rattle.refusals.specs.Words.{RefusalParts, refusal_text}
use Rattle.report.specs.Judging.{Texts, fields_told, refusal_of}
use Rattle.report.specs.Texts.{text_in}
use Rattle.slip_writer.specs.Written.{shortened, slip_with}

-- the refusal, or the slip that has these texts with amounts as short as they can be
abbrev pub refused_or_written : Option RefusalParts → Texts → List ℕ
refused_or_written (Some refusal) texts = refusal_text refusal
refused_or_written None texts = encode_upper (slip_with (shortened texts))

-- a slip that reads as a report, as it is written again, in hexadecimal digits; or the refusal of bytes that are none
abbrev pub rewritten_text : List ℕ → List ℕ
rewritten_text bytes = refused_or_written (refusal_of bytes) (text_in (fields_told bytes))
