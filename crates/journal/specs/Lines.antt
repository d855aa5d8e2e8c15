-- The first line of a journal, and the first word of a line.
use Rattle.std.specs.Prelude.{◌≡◌, ◌≢◌, ℕ, ◌+◌, ◌-◌, cond, List, [], Some, None, Option, length, take, drop, ◌==◌, slice_index}
use Rattle.std.specs.List.{prefix_len}
use Rattle.journal.specs.Bytes.{blank, in_line, in_word}

-- a carriage return at a line's end is no part of it
abbrev pub without_return : List ℕ → List ℕ
without_return line = cond (slice_index line (length line - 1) == 13) (take (length line - 1) line) line

-- what stands before the first line feed, or everything where there is none
abbrev pub first_line : List ℕ → List ℕ
first_line text = without_return (take (prefix_len in_line text) text)

abbrev pub after_line : List ℕ → List ℕ
after_line text = drop (prefix_len in_line text + 1) text

-- of the text that was left, a call gave the first line and left what follows it, or gave nothing where nothing was left
abbrev pub YieldsLine : List ℕ → Option (List ℕ) → List ℕ → Type 0
YieldsLine text (Some line) rest = (text ≢ []) × (line ≡ first_line text) × (rest ≡ after_line text)
YieldsLine text None rest = (text ≡ []) × (rest ≡ [])

abbrev pub without_blanks : List ℕ → List ℕ
without_blanks line = drop (prefix_len blank line) line

-- what stands before the next blank, once the blanks in front are passed over; nothing where no word is left
abbrev pub first_word : List ℕ → List ℕ
first_word line = take (prefix_len in_word (without_blanks line)) (without_blanks line)

abbrev pub after_word : List ℕ → List ℕ
after_word line = drop (prefix_len in_word (without_blanks line)) (without_blanks line)
