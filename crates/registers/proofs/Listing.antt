-- What a search tells of the texts in a register.
use Rattle.std.proofs.Common.{◌≡◌, ℕ, ◌<◌, List, map, length, take, is_ok, Ok, Err, Decides, Result, Ordering, sym, refl, ap, ◌∙◌, subst, arith}
use Rattle.codes.specs.Codes.{text_order}
use Rattle.std.proofs.lemmas.Cmp.{nat_list_cmp_total, tied_itself}
use Rattle.std.proofs.lemmas.List.{get_or-map, length-map, map-id}
use Rattle.std.proofs.lemmas.Map.Lookups.{exact_bytes}
use Rattle.std.specs.List.{ContainsAt as Has}
use Rattle.std.specs.Ordering.{on}
use Rattle.table.specs.Order.{Answers, keys}

module _ {K : Type 0} (text : K → List ℕ) (k : K) where
  abbrev by_text : K → K → Ordering
  by_text = on text text_order

  listed : (xs : List K) (r : Result ℕ ℕ) → Answers by_text xs k r → Decides (is_ok r) (Has (map text xs) (text k))
  listed xs (Ok i) a =
      let s = a.ok i refl in
      (λ _. (i, omega (arith, length-map xs text, s.0), λ d. get_or-map text xs i k d s.0 ∙ exact_bytes _ _ (s.1 k)), λ _. refl)
  listed xs (Err i) a = (
    λ e. absurd (cc),
    λ has.
        let h : has.0 < length xs = omega (arith, length-map xs text, has.1) in
        let same = λ (d : K). sym (get_or-map text xs has.0 d (text k) h) ∙ has.2 (text k) in
        let e : Err i ≡ Ok has.0 = a.ok_only has.0 (h, λ d. ap (λ t. text_order t (text k)) (same d) ∙ tied_itself nat_list_cmp_total (text k)) in
        absurd (cc),
  )

  -- the used rows, each of which is its own key
  pub listed_among : (xs : List K) (used : ℕ) (r : Result ℕ ℕ) → Answers by_text (keys (λ (x : K). x) used xs) k r → Decides (is_ok r) (Has (map text (take used xs)) (text k))
  listed_among xs used r law = listed (take used xs) r (subst (λ (ks : List K). Answers by_text ks k r) (map-id (take used xs)) law)
