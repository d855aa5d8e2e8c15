-- Words read one after the other.
use Rattle.std.proofs.Common.{◌≡◌, ℕ, ◌+◌, List, [], ◌∷◌, ◌++◌, length, map, Ok, Err, Result, refl, ap, sym, ◌∙◌}
use Rattle.std.proofs.Common.{◌<◌, drop, get_or}
use Rattle.std.proofs.lemmas.List.{drop_more, append_assoc, length-append, length-map}
use Rattle.refusals.specs.Words.{RefusalParts}
use Rattle.codes.specs.Alphabets.{Letters}
use Rattle.codes.specs.Hosts.{field_of}
use Rattle.refusals.specs.declared.tag.Tag.{Tag}
use Rattle.desk.specs.Lists.{before_all, codes_read}

-- texts before what the rest is read as
abbrev pub behind_all : List (List ℕ) → Result (List (List ℕ)) RefusalParts → Result (List (List ℕ)) RefusalParts
behind_all texts (Ok more) = Ok (texts ++ more)
behind_all texts (Err refusal) = Err refusal

moved : (texts : List (List ℕ)) (text : List ℕ) (rest : Result (List (List ℕ)) RefusalParts) → behind_all texts (before_all (Ok text) rest) ≡ behind_all (texts ++ text ∷ []) rest
moved texts text (Ok more) = ap Ok (sym (append_assoc texts (text ∷ []) more))
moved texts text (Err refusal) = refl

-- a text that is read goes to those before it
pub one_more : (texts : List (List ℕ)) (text : List ℕ) (rest : Result (List (List ℕ)) RefusalParts) (word : Result (List ℕ) RefusalParts) → Ok text ≡ word → behind_all texts (before_all word rest) ≡ behind_all (texts ++ text ∷ []) rest
one_more texts text rest word e = ap (λ w. behind_all texts (before_all w rest)) (sym e) ∙ moved texts text rest

pub counted : {A B : Type 0} (f : A → B) (xs ys : List A) → length (map f xs ++ map f ys) ≡ length xs + length ys
counted f xs ys = simp (length-append, length-map)

-- one word more is read
pub reads_on : (alphabet : Letters) (least most : ℕ) (tag : Tag) (all texts rest : List (List ℕ)) (word : List ℕ) (more : List (List ℕ)) (text : List ℕ) (texts2 : List (List ℕ)) → codes_read alphabet least most tag all ≡ behind_all texts (codes_read alphabet least most tag rest) → rest ≡ word ∷ more → Ok text ≡ field_of alphabet least most tag word → texts2 ≡ texts ++ text ∷ [] → codes_read alphabet least most tag all ≡ behind_all texts2 (codes_read alphabet least most tag more)
reads_on alphabet least most tag all texts rest word more text texts2 before at read grown =
    before ∙ ap (λ ws. behind_all texts (codes_read alphabet least most tag ws)) at ∙ one_more texts text (codes_read alphabet least most tag more) (field_of alphabet least most tag word) read ∙ ap (λ ts. behind_all ts (codes_read alphabet least most tag more)) (sym grown)

-- the word at hand, and those behind it
pub next_word : {A : Type 0} (f : A → List ℕ) (xs : List A) (i : ℕ) (x : A) (word : List ℕ) → i < length xs → x ≡ get_or xs i x → word ≡ f x → map f (drop i xs) ≡ word ∷ map f (drop (i + 1) xs)
next_word f xs i x word within is named = ap (map f) (drop_more xs i x within) ∙ ap (λ y. y ∷ map f (drop (i + 1) xs)) (sym (named ∙ ap f is))
