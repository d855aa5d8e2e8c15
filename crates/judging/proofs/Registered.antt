-- Texts in registers of codes.
use Rattle.std.proofs.Common.{◌≡◌, ℕ, Bool, true, false, cond, ◌||◌, List, [], ◌∷◌, map, Some, None, Decides, bytes_eq, refl, ap, subst, ◌∙◌}
use Rattle.std.proofs.lemmas.List.Folds.{Any-from_list_any, list_any_at}
use Rattle.std.proofs.lemmas.Bool.Decides.{same_from_decides}
use Rattle.std.proofs.lemmas.Slice.Eq.{bytes_eq-Decides}
use Rattle.std.proofs.lemmas.List.{get_or_default}
use Rattle.std.specs.List.{ContainsAt}
use Rattle.codes.specs.Alphabets.{Letters}
use Rattle.codes.specs.Codes.{text_of}
use Rattle.codes.specs.Rules.{code_of, keeps}
use Rattle.codes.specs.declared.code.Code.{Code}
use Rattle.rules.specs.Lists.{has}

-- the test by the texts
has_Decides : (texts : List (List ℕ)) (text : List ℕ) → Decides (has texts text) (ContainsAt texts text)
has_Decides texts text = (
  λ e.
      let a = Any-from_list_any (λ t. bytes_eq t text) texts e in
      (a.0, a.2, λ d. get_or_default texts a.0 d a.1 a.2 ∙ a.3 ∙ (bytes_eq-Decides a.1 text).0 a.4),
  λ h. list_any_at (λ t. bytes_eq t text) texts h.0 [] h.1 ((bytes_eq-Decides _ text).1 (h.2 [])),
)

pub known : (texts : List (List ℕ)) (text : List ℕ) (r : Bool) → Decides r (ContainsAt texts text) → r ≡ has texts text
known texts text r d = same_from_decides r (has texts text) d (has_Decides texts text)

read_same : (letters : Letters) (least most : ℕ) (text t : List ℕ) → Some t ≡ code_of letters least most text → t ≡ text
read_same letters least most text t e = go (keeps letters least most text) e
  where
    go : (b : Bool) → Some t ≡ cond b (Some text) None → t ≡ text
    go true q = cc
    go false q = absurd (cc)

-- a text that is read as a code is in a register where the code is
pub known_read : {A : _} {least most : _} {m : _} (code : Code A least most m) (texts : List (List ℕ)) (read text : List ℕ) (r : Bool) → Some (text_of code) ≡ code_of m.letters least most read → read ≡ text → Decides r (ContainsAt texts (text_of code)) → r ≡ has texts text
known_read {A} {least} {most} {m} code texts read text r e p d = known texts (text_of code) r d ∙ ap (has texts) (read_same m.letters least most read (text_of code) e ∙ p)

-- a text that is no code is in no register
pub unknown : {A : _} {least most : _} {m : _} (codes : List (Code A least most m)) (text : List ℕ) → None ≡ code_of m.letters least most text → false ≡ has (map text_of codes) text
unknown [] text e = refl
unknown {A} {least} {most} {m} (c ∷ cs) text e = go (bytes_eq (text_of c) text) refl (unknown cs text e)
  where
    go : (b : Bool) → bytes_eq (text_of c) text ≡ b → false ≡ has (map text_of cs) text → false ≡ (b || has (map text_of cs) text)
    go true p h =
        let same : text_of c ≡ text = (bytes_eq-Decides (text_of c) text).0 p in
        let kept : keeps m.letters least most text ≡ true = subst (λ t. keeps m.letters least most t ≡ true) same c.rule in
        let some : code_of m.letters least most text ≡ Some text = ap (λ (b : Bool). cond b (Some text) None) kept in
        absurd (cc)
    go false p h = h
