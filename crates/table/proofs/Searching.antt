-- Where a key stands in an ascending list.
use Rattle.std.proofs.Common.{◌≡◌, ℕ, zero, suc, ◌+◌, ◌<◌, ◌≤◌, Bool, true, false, Decides, List, [], ◌∷◌, map, min, length, get_or, take, Ok, Err, Result, Ordering, Less, Equal, Greater, sym, refl, ap, ◌∙◌, subst, ⊎_elim, arith, IfOk, MatchResult}
use Prim.{tt}
use Rattle.std.proofs.lemmas.Bool.{cases_lt, cases_order}
use Rattle.std.proofs.lemmas.Cmp.{on_total, tied_back}
use Rattle.std.proofs.lemmas.List.{get_or-map, length-map, length-take, take_all}
use Rattle.std.proofs.lemmas.List.Sorted.{searchable_from_sorted}
use Rattle.std.proofs.lemmas.Map.Keys.{Less-from_sorted, sorted_from_all_adjacent}
use Rattle.std.specs.Cmp.{IsTotalOrder}
use Rattle.std.specs.List.{AllAdjacentBelow, AllPairs, IsAllAdjacentAnswer}
use Rattle.std.specs.List.Sorted.{IsBinarySearchResult, IsPartitionPoint, IsSearchInRange}
use Rattle.std.specs.Ordering.{is_lt, on, ordering_reverse}
use Rattle.table.specs.Order.{Answers, Ascending, MissingAt, StandsAt, keys, place, past}

-- the keys below the place i are less, and those from there on are greater
abbrev pub Parts : {K : Type 0} → (K → K → Ordering) → List K → K → ℕ → Type 0
Parts cmp ks k i = (i ≤ length ks) × IsPartitionPoint (λ y. cmp y k ≡ Less) (λ y. cmp y k ≡ Greater) ks i

-- a place where the key stands, or one where it would have to stand
abbrev pub Placed : {K : Type 0} → (K → K → Ordering) → List K → K → Result ℕ ℕ → Type 0
Placed cmp ks k r = MatchResult r (StandsAt cmp ks k) (Parts cmp ks k)

greater_else : (o : Ordering) → (o ≡ Less → ⊥) → (o ≡ Equal → ⊥) → o ≡ Greater
greater_else Less l e = absurd (l refl)
greater_else Equal l e = absurd (e refl)
greater_else Greater l e = refl

less_tested : (o : Ordering) → is_lt o ≡ true → o ≡ Less
less_tested Less e = refl
less_tested Equal e = absurd (cc)
less_tested Greater e = absurd (cc)

-- the same of the rows and of their keys
module _ {X K : Type 0} (cmp : K → K → Ordering) (id : X → K) where
  pub rows_from_keys : (xs : List X) → Ascending cmp (map id xs) → AllPairs (λ x y. cmp (id x) (id y) ≡ Less) xs
  rows_from_keys xs up i j d lt h =
      let at = λ (n : ℕ) (m : n < length xs). get_or-map id xs n d (id d) m in
      sym (ap_at (at i (omega arith)) (at j h)) ∙ up i j (id d) lt (omega (arith, length-map xs id))
    where
      ap_at : {x y u v : K} → x ≡ u → y ≡ v → cmp x y ≡ cmp u v
      ap_at p q = cc

  pub keys_from_rows : (xs : List X) → AllPairs (λ x y. cmp (id x) (id y) ≡ Less) xs → Ascending cmp (map id xs)
  keys_from_rows [] up i j d lt h = absurd (omega arith)
  keys_from_rows (x ∷ xs) up i j d lt h =
      let m : j < length (x ∷ xs) = omega (arith, length-map xs id) in
      let p = get_or-map id (x ∷ xs) i x d (omega arith) in
      let q = get_or-map id (x ∷ xs) j x d m in
      let l = up i j x lt m in
      cc

module _ {X K : Type 0} (id : X → K) (P : K → Type 0) where
  pub key_at : (xs : List X) (i : ℕ) → i < length xs → ((d : X) → P (id (get_or xs i d))) → (d : K) → P (get_or (map id xs) i d)
  key_at [] i h at d = absurd (omega arith)
  key_at (x ∷ xs) i h at d = subst P (sym (get_or-map id (x ∷ xs) i x d h)) (at x)

-- a key that a binary search finds stands there, whatever the order of the rows
pub stands : {X K : Type 0} (cmp : K → K → Ordering) (id : X → K) (xs : List X) (k : K) (r : Result ℕ ℕ) → IsSearchInRange r (length xs) → IsBinarySearchResult (λ x. cmp (id x) k) xs r → IfOk r (StandsAt cmp (map id xs) k)
stands cmp id xs k (Ok i) h s = (omega (arith, length-map xs id), key_at id (λ y. cmp y k ≡ Equal) xs i h s)
stands cmp id xs k (Err i) h s = tt

module _ {K : Type 0} {cmp : K → K → Ordering} (total : IsTotalOrder cmp) where
  module _ (ks : List K) (k : K) (up : Ascending cmp ks) where
    one_place : (i j : ℕ) → i < j → StandsAt cmp ks k i → StandsAt cmp ks k j → ⊥
    one_place i j lt s t =
        let less = up i j k lt t.0 in
        let same = total.congr (get_or ks i k) k (get_or ks j k) (s.1 k) in
        let back = tied_back total (get_or ks j k) k (t.1 k) in
        cc

    no_place : (i j : ℕ) → StandsAt cmp ks k i → Parts cmp ks k j → ⊥
    no_place i j s p = ⊎_elim
        (λ l. let e = p.1.0 i k (omega arith) l in let f = s.1 k in cc)
        (λ g. let e = p.1.1 i k g s.0 in let f = s.1 k in cc)
        (cases_lt i j)

    one_gap : (i j : ℕ) → i < j → Parts cmp ks k i → Parts cmp ks k j → ⊥
    one_gap i j lt p q = let e = p.1.1 i k (omega arith) (omega (arith, q.0)) in let f = q.1.0 i k (omega arith) lt in cc

    -- there is one answer
    pub same : (r s : Result ℕ ℕ) → Placed cmp ks k r → Placed cmp ks k s → r ≡ s
    same (Ok i) (Ok j) a b = ⊎_elim (ap Ok) (⊎_elim (λ l. absurd (one_place i j l a b)) (λ g. absurd (one_place j i g b a))) (cases_order i j)
    same (Ok i) (Err j) a b = absurd (no_place i j a b)
    same (Err i) (Ok j) a b = absurd (no_place j i b a)
    same (Err i) (Err j) a b = ⊎_elim (ap Err) (⊎_elim (λ l. absurd (one_gap i j l a b)) (λ g. absurd (one_gap j i g b a))) (cases_order i j)

    missing : (i : ℕ) → Parts cmp ks k i → MissingAt cmp ks k i
    missing i p = record {
      within = p.0;
      nowhere = λ j d h e. ⊎_elim (λ l. let f = p.1.0 j d (omega arith) l in cc) (λ g. let f = p.1.1 j d g h in cc) (cases_lt j i);
      below = λ j d h. p.1.0 j d (omega arith) h;
      only_below = λ j d h e. ⊎_elim (λ l. l) (λ g. let f = p.1.1 j d g h in absurd (cc)) (cases_lt j i);
    }

    pub parts : (i : ℕ) → MissingAt cmp ks k i → Parts cmp ks k i
    parts i m = (m.within, ((λ j d l h. m.below j d h), λ j d l h. greater_else _ (λ e. let f = m.only_below j d h e in omega arith) (m.nowhere j d h)))

    pub answers : (r : Result ℕ ℕ) → Placed cmp ks k r → r ≡ place cmp ks k → Answers cmp ks k r
    answers r a value = record {
      value = value;
      ok = λ i e. subst (λ (r : Result ℕ ℕ). Placed cmp ks k r) e a;
      ok_only = λ i s. same r (Ok i) a s;
      err = λ i e. missing i (subst (λ (r : Result ℕ ℕ). Placed cmp ks k r) e a);
      err_only = λ i m. same r (Err i) a (parts i m);
    }

  module _ (x : K) (ks : List K) (k : K) (up : Ascending cmp (x ∷ ks)) where
    below-cons : (i : ℕ) → cmp x k ≡ Less → Parts cmp ks k i → (j : ℕ) (d : K) → j < suc i → cmp (get_or (x ∷ ks) j d) k ≡ Less
    below-cons i e p zero d h = e
    below-cons i e p (suc j) d h = p.1.0 j d (omega arith) (omega arith)

    above-cons : (i : ℕ) → Parts cmp ks k i → (j : ℕ) (d : K) → suc i ≤ j → j < length (x ∷ ks) → cmp (get_or (x ∷ ks) j d) k ≡ Greater
    above-cons i p zero d h g = absurd (omega arith)
    above-cons i p (suc j) d h g = p.1.1 j d (omega arith) (omega arith)

    all_above : cmp x k ≡ Greater → (j : ℕ) (d : K) → j < length (x ∷ ks) → cmp (get_or (x ∷ ks) j d) k ≡ Greater
    all_above e zero d g = e
    all_above e (suc j) d g =
        let first = total.antisymm k x ∙ ap ordering_reverse e in
        let less = total.trans k x (get_or ks j d) first (up 0 (suc j) d (omega arith) g) in
        total.antisymm (get_or ks j d) k ∙ ap ordering_reverse less

    placed-cons : (o : Ordering) (r : Result ℕ ℕ) → cmp x k ≡ o → Placed cmp ks k r → Placed cmp (x ∷ ks) k (past o r)
    placed-cons Less (Ok i) e p = (omega (arith, p.0), p.1)
    placed-cons Less (Err i) e p = (omega (arith, p.0), ((λ j d l h. below-cons i e p j d h), λ j d h g. above-cons i p j d h g))
    placed-cons Equal r e p = (omega arith, λ d. e)
    placed-cons Greater r e p = (omega arith, ((λ j d l h. absurd (omega arith)), λ j d h g. all_above e j d g))

  -- `place` answers where a key stands
  pub placed : (ks : List K) (k : K) → Ascending cmp ks → Placed cmp ks k (place cmp ks k)
  placed [] k up = (omega arith, ((λ j d l h. absurd (omega arith)), λ j d h g. absurd (omega arith)))
  placed (x ∷ ks) k up = placed-cons x ks k up (cmp x k) (place cmp ks k) refl (placed ks k (λ i j d lt h. up (suc i) (suc j) d (omega arith) (omega arith)))

  -- and so does whatever else tells a place
  pub found : (ks : List K) (k : K) (up : Ascending cmp ks) (r : Result ℕ ℕ) → Placed cmp ks k r → Answers cmp ks k r
  found ks k up r a = answers ks k up r a (same ks k up r (place cmp ks k) a (placed ks k up))

  -- as a binary search of the rows does
  module _ {X : Type 0} (id : X → K) (xs : List X) (k : K) (up : Ascending cmp (map id xs)) where
    rising : (n : ℕ) (d : X) → 0 ≤ n → n + 1 < length xs → is_lt (cmp (id (get_or xs (n + 1) d)) (id (get_or xs n d))) ≡ false
    rising n d l h = ap is_lt {y = Greater} (total.antisymm _ _ ∙ ap ordering_reverse (rows_from_keys cmp id xs up n (n + 1) d (omega arith) h))

    pub searched : (r : Result ℕ ℕ) → IsSearchInRange r (length xs) → IsBinarySearchResult (λ x. cmp (id x) k) xs r → Placed cmp (map id xs) k r
    searched (Ok i) h s = stands cmp id xs k (Ok i) h s
    searched (Err i) h s =
        let p = s (searchable_from_sorted total id xs k rising) in (
          omega (arith, length-map xs id),
          (
            (λ j d l g. key_at id (λ y. cmp y k ≡ Less) xs j (omega arith) (λ e. p.0 j e l g) d),
            λ j d l g. let m : j < length xs = omega (arith, length-map xs id) in key_at id (λ y. cmp y k ≡ Greater) xs j m (λ e. p.1 j e l m) d,
          ),
        )

-- rows of which each is less than the next
module _ {X K : Type 0} {cmp : K → K → Ordering} (total : IsTotalOrder cmp) (id : X → K) where
  far : (xs : List X) → AllAdjacentBelow (λ x y. is_lt (cmp (id x) (id y)) ≡ true) xs (length xs) → AllPairs (λ x y. cmp (id x) (id y) ≡ Less) xs
  far xs steps i j d lt h = Less-from_sorted (on id cmp) xs i j d (sorted_from_all_adjacent (on_total id total) xs d (λ n m. less_tested _ (steps n d m))) lt h

  unstepped : (xs : List X) (n : ℕ) → n + 1 < length xs → ((d : X) → false ≡ is_lt (cmp (id (get_or xs n d)) (id (get_or xs (n + 1) d)))) → Ascending cmp (map id xs) → ⊥
  unstepped [] n h a up = omega arith
  unstepped (x ∷ xs) n h a up =
      let l : is_lt (cmp (id (get_or (x ∷ xs) n x)) (id (get_or (x ∷ xs) (n + 1) x))) ≡ true = ap is_lt (rows_from_keys cmp id (x ∷ xs) up n (n + 1) x (omega arith) h) in
      let e = a x in
      absurd_test (e ∙ l)
    where
      absurd_test : false ≡ true → ⊥
      absurd_test e = cc

  pub ascending_tested : (xs : List X) (r : Bool) → IsAllAdjacentAnswer (λ x y b. b ≡ is_lt (cmp (id x) (id y))) xs r → Decides r (Ascending cmp (map id xs))
  ascending_tested xs true a = (λ e. keys_from_rows cmp id xs (far xs (λ n d h. sym (a n d h))), λ up. refl)
  ascending_tested xs false a = (λ e. absurd (cc), λ up. absurd (unstepped xs a.0 a.1 a.2 up))

-- the used rows, as the code cuts them
pub cut : {X : Type 0} (xs : List X) (used end : ℕ) → end ≡ min used (length xs) → take end xs ≡ take used xs
cut xs used end e = ⊎_elim (λ l. ap (λ n. take n xs) (omega arith)) (λ g. take_all end xs (omega arith) ∙ sym (take_all used xs (omega arith))) (cases_lt used (length xs))

-- r is what a search of the used rows answers
pub record Searched {X K : Type 0} (cmp : K → K → Ordering) (id : X → K) (used : ℕ) (xs : List X) (k : K) (r : Result ℕ ℕ) : Type 0 where
  pub within : MatchResult r (λ i. (i < used) × (i < length xs)) (λ i. (i ≤ used) × (i ≤ length xs))
  pub stands : IfOk r (StandsAt cmp (keys id used xs) k)
  pub law : Ascending cmp (keys id used xs) → Answers cmp (keys id used xs) k r

-- a place among the used rows
within_used : {X : Type 0} (xs : List X) (used end : ℕ) (r : Result ℕ ℕ) → end ≡ min used (length xs) → IsSearchInRange r (length (take end xs)) → MatchResult r (λ i. (i < used) × (i < length xs)) (λ i. (i ≤ used) × (i ≤ length xs))
within_used xs used end (Ok i) e h = let n = length-take end xs in (omega arith, omega arith)
within_used xs used end (Err i) e h = let n = length-take end xs in (omega arith, omega arith)

-- as the code searches them
pub in_used : {X K : Type 0} (cmp : K → K → Ordering) (id : X → K) (xs : List X) (used end : ℕ) (k : K) (r : Result ℕ ℕ) → end ≡ min used (length xs) → IsSearchInRange r (length (take end xs)) → IfOk r (StandsAt cmp (map id (take end xs)) k) → (Ascending cmp (map id (take end xs)) → Answers cmp (map id (take end xs)) k r) → Searched cmp id used xs k r
in_used cmp id xs used end k r e within stands law =
    let same = cut xs used end e in
    record {
      within = within_used xs used end r e within;
      stands = subst (λ ys. IfOk r (StandsAt cmp (map id ys) k)) same stands;
      law = subst (λ ys. Ascending cmp (map id ys) → Answers cmp (map id ys) k r) same law;
    }
