-- The lists of a close are in order exactly if the registers are.
use Rattle.std.proofs.Common.{◌≡◌, ℕ, zero, suc, ◌<◌, Bool, true, false, ◌&&◌, List, [], ◌∷◌, map, length, get_or, nat_le, Ordering, Less, Equal, Greater, refl, ap, arith}
use Rattle.std.proofs.lemmas.Bool.{and_from, and_parts, le-leb, leb-true}
use Rattle.std.proofs.lemmas.Cmp.{nat_list_cmp_total}
use Rattle.std.proofs.lemmas.List.{length-map}
use Rattle.std.specs.Ordering.{is_lt, on}
use Rattle.codes.specs.Codes.{text_order}
use Rattle.table.specs.Order.{Ascending}
use Rattle.table.specs.Register.{IsRegister}
use Rattle.table.proofs.Searching.{keys_from_rows, rows_from_keys}
use Rattle.rules.specs.Lists.{ascends, ascends_from, in_order}

less_tested : (o : Ordering) → is_lt o ≡ true → o ≡ Less
less_tested Less e = refl
less_tested Equal e = absurd (cc)
less_tested Greater e = absurd (cc)

-- each text comes before the next one, so before all behind it
first_below : (t : List ℕ) (ts : List (List ℕ)) → ascends_from t ts ≡ true → (j : ℕ) (d : List ℕ) → j < length ts → text_order t (get_or ts j d) ≡ Less
first_below t [] e j d h = absurd (omega arith)
first_below t (u ∷ us) e zero d h = less_tested (text_order t u) (and_parts (is_lt (text_order t u)) (ascends_from u us) e).0
first_below t (u ∷ us) e (suc j) d h =
    let parts = and_parts (is_lt (text_order t u)) (ascends_from u us) e in
    nat_list_cmp_total.trans t u (get_or us j d) (less_tested (text_order t u) parts.0) (first_below u us parts.1 j d (omega arith))

ascends_on : (t : List ℕ) (ts : List (List ℕ)) → ascends_from t ts ≡ true → ascends ts ≡ true
ascends_on t [] e = refl
ascends_on t (u ∷ us) e = (and_parts (is_lt (text_order t u)) (ascends_from u us) e).1

ascending : (ts : List (List ℕ)) → ascends ts ≡ true → Ascending text_order ts
ascending [] e i j d lt h = absurd (omega arith)
ascending (t ∷ ts) e i zero d lt h = absurd (omega arith)
ascending (t ∷ ts) e zero (suc j) d lt h = first_below t ts e j d (omega arith)
ascending (t ∷ ts) e (suc i) (suc j) d lt h = ascending ts (ascends_on t ts e) i j d (omega arith) (omega arith)

ascends_tested : (t : List ℕ) (ts : List (List ℕ)) → Ascending text_order (t ∷ ts) → ascends_from t ts ≡ true
ascends_tested t [] up = refl
ascends_tested t (u ∷ us) up =
    and_from (is_lt (text_order t u)) (ascends_from u us)
    (ap is_lt {x = text_order t u} {y = Less} (up 0 1 t (omega arith) (omega arith)))
    (ascends_tested u us (λ i j d lt h. up (suc i) (suc j) d (omega arith) (omega arith)))

tested : (ts : List (List ℕ)) → Ascending text_order ts → ascends ts ≡ true
tested [] up = refl
tested (t ∷ ts) up = ascends_tested t ts up

module _ {K : Type 0} (text : K → List ℕ) (codes : List K) where
  register : in_order (map text codes) ≡ true → IsRegister (on text text_order) (λ (code : K). code) codes
  unfolding in_order
  register e =
      let parts = and_parts (ascends (map text codes)) (nat_le (length (map text codes)) 65536) e in
      let up = rows_from_keys text_order text codes (ascending (map text codes) parts.0) in
      record {
        few = omega (arith, leb-true _ _ parts.1, length-map codes text);
        ascends = keys_from_rows (on text text_order) (λ (code : K). code) codes up;
      }

  listed : IsRegister (on text text_order) (λ (code : K). code) codes → in_order (map text codes) ≡ true
  unfolding in_order
  listed r =
      let up = rows_from_keys (on text text_order) (λ (code : K). code) codes r.ascends in
      and_from (ascends (map text codes)) (nat_le (length (map text codes)) 65536)
      (tested (map text codes) (keys_from_rows text_order text codes up))
      (le-leb _ _ (omega (arith, r.few, length-map codes text)))

-- of both lists
module _ {K L : Type 0} (text : K → List ℕ) (other : L → List ℕ) (codes : List K) (others : List L) where
  abbrev both : Bool
  both = in_order (map text codes) && in_order (map other others)

  pub both_in_order : IsRegister (on text text_order) (λ (code : K). code) codes × IsRegister (on other text_order) (λ (code : L). code) others → both ≡ true
  both_in_order r = and_from (in_order (map text codes)) (in_order (map other others)) (listed text codes r.0) (listed other others r.1)

  pub not_both : (IsRegister (on text text_order) (λ (code : K). code) codes → IsRegister (on other text_order) (λ (code : L). code) others → ⊥) → both ≡ false
  not_both none = go (in_order (map text codes)) (in_order (map other others)) (register text codes) (register other others)
    where
      go : (u v : Bool) → (u ≡ true → IsRegister (on text text_order) (λ (code : K). code) codes) → (v ≡ true → IsRegister (on other text_order) (λ (code : L). code) others) → (u && v) ≡ false
      go true true p q = absurd (none (p refl) (q refl))
      go true false p q = refl
      go false v p q = refl
