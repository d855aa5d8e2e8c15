use Rattle.std.proofs.Common.{◌≡◌, ◌+◌, [], ◌∷◌, ◌++◌, drop, map, rules, vec_items}
use Rattle.codes.specs.Codes.{text_of}
use Rattle.codes.specs.Values.{capitals}
use Rattle.refusals.specs.declared.tag.Tag.TheVariants.{OtherCountry}
use Rattle.std.proofs.lemmas.List.{map-append}
use Rattle.desk.proofs.Reading.{next_word, reads_on}
use Rattle.desk.proofs.lists.read_countries.Goals as goal

pub loop-word-preserved : goal.loop-word-preserved
loop-word-preserved c =
    let words = map vec_items c.args.words.now in
    let rest = map vec_items (drop c.loop-word.word-index c.args.words.now) in
    let more = map vec_items (drop (c.loop-word.word-index + 1) c.args.words.now) in
    let at : rest ≡ c.as_slice.result.now ∷ more = search (rules, next_word vec_items c.args.words.now c.loop-word.word-index c.word-item.result c.as_slice.result.now) in
    let grown : map text_of c.push.new.self.items ≡ map text_of c.loop-word.countries.items ++ text_of c.in_ok-list_country.field-0 ∷ [] = search (rules, map-append) in
    reads_on capitals 2 2 OtherCountry words (map text_of c.loop-word.countries.items) rest c.as_slice.result.now more (text_of c.in_ok-list_country.field-0) (map text_of c.push.new.self.items) c.loop-word.invariant at c.in_ok-list_country.ensures grown
