-- The laws of codes.
use Rattle.std.proofs.Common.{◌≡◌, ℕ, ◌-◌, Bool, true, cond, ◌&&◌, ltb, leb, List, [], ◌∷◌, ◌++◌, length, get_or, Some, None, Ordering, Less, sym, refl, subst, Decides, ap, ◌∙◌, true≢false}
use Rattle.std.specs.Ordering.{ordering_then}
use Rattle.std.specs.List.{list_all, AllByRecursion}
use Rattle.std.proofs.lemmas.Cmp.{nat_cmp_total, nat_list_cmp_total, tied_itself}
use Rattle.std.proofs.lemmas.Map.Text.{is_eq-slice_cmp}
use Rattle.std.proofs.lemmas.Slice.Eq.{bytes_eq-Decides}
use Rattle.std.proofs.lemmas.Bool.{and_from, and_parts, le-leb, leb-true, lt-ltb, ltb-true}
use Rattle.codes.specs.Alphabets.{Letters}
use Rattle.codes.specs.Codes.{text_of, text_order}
use Rattle.codes.specs.Laws.{CodeForms, CodeLaws, IsCode}
use Rattle.codes.specs.Rules.{ZeroFilled, code_of, ends_well, keeps, spelled, text_in}
use Rattle.codes.specs.declared.code.Code.{Code}
use Rattle.std.specs.Coded.{Coded-set, coded_ℕ, coded_bool, coded_list}
use mathlib.Core.HLevel.{is_prop→PathP}
use Rattle.codes.proofs.Ordered.{one_place}

-- ---- the rule

all_passed : (p : ℕ → Bool) (xs : List ℕ) → list_all p xs ≡ true → AllByRecursion (λ b. p b ≡ true) xs
all_passed p [] h = tt
all_passed p (x ∷ xs) h = let parts = and_parts (p x) (list_all p xs) h in (parts.0, all_passed p xs parts.1)

passed_all : (p : ℕ → Bool) (xs : List ℕ) → AllByRecursion (λ b. p b ≡ true) xs → list_all p xs ≡ true
passed_all p [] h = refl
passed_all p (x ∷ xs) h = and_from _ _ h.0 (passed_all p xs h.1)

from_test : (alphabet : Letters) (least most : ℕ) (text : List ℕ) → keeps alphabet least most text ≡ true → IsCode alphabet least most text
from_test alphabet least most text h =
    let one = and_parts (leb least (length text)) (leb (length text) most && (spelled alphabet text && ends_well alphabet text)) h in
    let two = and_parts (leb (length text) most) (spelled alphabet text && ends_well alphabet text) one.1 in
    let three = and_parts (spelled alphabet text) (ends_well alphabet text) two.1 in
    let four = and_parts (ltb 0 (length text)) (alphabet.ends (get_or text 0 0) && alphabet.ends (get_or text (length text - 1) 0)) three.1 in
    let five = and_parts (alphabet.ends (get_or text 0 0)) (alphabet.ends (get_or text (length text - 1) 0)) four.1 in
    record {
      some = ltb-true 0 (length text) four.0;
      long = leb-true least (length text) one.0;
      short = leb-true (length text) most two.0;
      all = all_passed alphabet.has text three.0;
      first = five.0;
      last = five.1;
    }

to_test : (alphabet : Letters) (least most : ℕ) (text : List ℕ) → IsCode alphabet least most text → keeps alphabet least most text ≡ true
to_test alphabet least most text h =
    and_from _ _ (le-leb least (length text) h.long)
    (and_from _ _ (le-leb (length text) most h.short)
    (and_from _ _ (passed_all alphabet.has text h.all)
    (and_from _ _ (lt-ltb 0 (length text) h.some) (and_from _ _ h.first h.last))))

-- ---- the order

before_more : (s t : List ℕ) (b : ℕ) → text_order s (s ++ (b ∷ t)) ≡ Less
before_more [] t b = refl
before_more (x ∷ s) t b = ap (λ (o : Ordering). ordering_then o (text_order s (s ++ (b ∷ t)))) (tied_itself nat_cmp_total x) ∙ before_more s t b

reads : (alphabet : Letters) (least most : ℕ) (text : List ℕ) → keeps alphabet least most text ≡ true → code_of alphabet least most text ≡ Some text
reads alphabet least most text h = ap (λ (b : Bool). cond b (Some text) None) h

pub laws : CodeLaws
laws = record {
  plain = λ alphabet least most text. (from_test alphabet least most text, to_test alphabet least most text);
  no_zero = λ alphabet h. true≢false (sym h ∙ alphabet.no_zero);
  flip = nat_list_cmp_total.antisymm;
  transitive = nat_list_cmp_total.trans;
  equal = λ s t. subst (λ b. Decides b (s ≡ t)) (sym (is_eq-slice_cmp s t)) (bytes_eq-Decides s t);
  beginning = before_more;
}

-- one text has one code
pub one_form : {A : _} {m : _} {least most : ℕ} (a b : Code A least most m) → text_of a ≡ text_of b → a ≡ b
one_form {A} {m} {least} {most} a b e =
    let f = one_place most a.bytes b.bytes a.filled b.filled e in
    λ i. record {
      bytes = f i;
      alphabet = a.alphabet;
      rule = is_prop→PathP (λ j. keeps m.letters least most (text_in (f j)) ≡ true) (λ j. hlevel (Coded-set coded_bool)) a.rule b.rule i;
      filled = is_prop→PathP (λ j. ZeroFilled most (f j)) (λ j. hlevel (Coded-set (coded_list coded_ℕ))) a.filled b.filled i;
    }

pub forms : {A : _} {m : _} → CodeForms A m
forms {A} {m} = record {
  one_form = one_form;
  reads_back = λ {least} {most} a. reads m.letters least most (text_of a) a.rule;
}
