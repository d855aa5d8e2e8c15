-- Laws of codes.
use Rattle.std.specs.Prelude.{◌≡◌, ℕ, ◌-◌, ◌<◌, ◌≤◌, true, List, ◌∷◌, ◌++◌, length, Some, Decides, ◌≢◌, slice_index}
use Rattle.std.specs.declared.cmp.Ordering.TheVariants.{Less}
use Rattle.std.specs.Ordering.{is_eq, ordering_reverse}
use Rattle.std.specs.List.{AllByRecursion}
use Rattle.codes.specs.declared.code.Code.{Code}
use Rattle.codes.specs.Alphabets.{Letters}
use Rattle.codes.specs.Codes.{text_of, text_order}
use Rattle.codes.specs.Rules.{code_of, keeps}

-- the rule of a text in plain terms
pub record IsCode (alphabet : Letters) (least most : ℕ) (text : List ℕ) : Type 0 where
  pub some : 0 < length text
  pub long : least ≤ length text
  pub short : length text ≤ most
  pub all : AllByRecursion (λ b. alphabet.has b ≡ true) text
  pub first : alphabet.ends (slice_index text 0) ≡ true
  pub last : alphabet.ends (slice_index text (length text - 1)) ≡ true

pub record CodeLaws : Type 0 where
  -- the test of the rule is the rule
  pub plain : (alphabet : Letters) (least most : ℕ) (text : List ℕ) → Decides (keeps alphabet least most text) (IsCode alphabet least most text)
  -- no alphabet has the zero that stands behind a text
  pub no_zero : (alphabet : Letters) → alphabet.has 0 ≢ true
  -- the order is total
  pub flip : (s t : List ℕ) → text_order s t ≡ ordering_reverse (text_order t s)
  pub transitive : (s t u : List ℕ) → text_order s t ≡ Less → text_order t u ≡ Less → text_order s u ≡ Less
  pub equal : (s t : List ℕ) → Decides (is_eq (text_order s t)) (s ≡ t)
  -- a beginning comes before its continuation
  pub beginning : (s t : List ℕ) (b : ℕ) → text_order s (s ++ (b ∷ t)) ≡ Less

-- how the codes of an alphabet stand for texts
pub record CodeForms (A : _) (m : _) : Type 0 where
  -- codes of one text are one
  pub one_form : {least most : ℕ} (a b : Code A least most m) → text_of a ≡ text_of b → a ≡ b
  -- the text of a code reads back
  pub reads_back : {least most : ℕ} (a : Code A least most m) → code_of m.letters least most (text_of a) ≡ Some (text_of a)
