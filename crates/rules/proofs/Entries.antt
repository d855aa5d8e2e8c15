-- Entries in order: what is found by a key, after one is put and after a close.
use Rattle.std.proofs.Common.{◌≡◌, ◌≢◌, ℕ, zero, suc, ◌<◌, Bool, cond, List, [], ◌∷◌, map, length, filter, filter_map, Some, None, Option, option_and_then, AllPairs, slice_index_or, ◌∙◌, refl, sym, ap, subst, Ordering, Less, Equal, Greater, arith}
use Rattle.std.specs.List.{AllByRecursion, cons_option}
use Rattle.std.specs.Ordering.{match_ordering}
use Rattle.rows.specs.Entries.{Entry}
use Rattle.rows.specs.Keys.{Key, key_order, same_key}
use Rattle.rules.specs.Books.{entry_at, put}
use Rattle.rules.specs.Judging.{Notice}
use Rattle.rules.proofs.Keys.{Below, above_ne, below_ne, below_trans, greater_below, key_dec, key_equal, same_not, same_to}

pub some_inj : {A : Type 0} {a b : A} → Some a ≡ Some b → a ≡ b
some_inj {A} {a} {b} e = cc

pub none_some : {A : Type 0} {a : A} → None ≡ Some a → ⊥
none_some {A} {a} e = absurd (cc)

-- ---- found by a key

pub find_here : (k : Key) (x : Entry) (xs : List Entry) → k ≡ x.key → entry_at k (x ∷ xs) ≡ Some x
find_here k x xs e = ap (λ (b : Bool). cond b (Some x) (entry_at k xs)) (same_to k x.key e)

pub find_past : (k : Key) (x : Entry) (xs : List Entry) → k ≢ x.key → entry_at k (x ∷ xs) ≡ entry_at k xs
find_past k x xs n = ap (λ (b : Bool). cond b (Some x) (entry_at k xs)) (same_not k x.key n)

pub find_key : (k : Key) (xs : List Entry) (e : Entry) → entry_at k xs ≡ Some e → e.key ≡ k
find_key k [] e p = absurd (none_some p)
find_key k (x ∷ xs) e p = go (key_dec k x.key) (find_key k xs e)
  where
    go : Dec (k ≡ x.key) → (entry_at k xs ≡ Some e → e.key ≡ k) → e.key ≡ k
    go (yes q) f = ap (λ (y : Entry). y.key) (some_inj (sym p ∙ find_here k x xs q)) ∙ sym q
    go (no n) f = f (sym (find_past k x xs n) ∙ p)

-- ---- after one is put

pub find_put_same : (e : Entry) (xs : List Entry) → entry_at e.key (put e xs) ≡ Some e
find_put_same e [] = find_here e.key e [] refl
find_put_same e (x ∷ xs) = go (key_order e.key x.key) refl (find_put_same e xs)
  where
    go : (o : Ordering) → key_order e.key x.key ≡ o → entry_at e.key (put e xs) ≡ Some e → entry_at e.key (match_ordering o (e ∷ (x ∷ xs)) (e ∷ xs) (x ∷ put e xs)) ≡ Some e
    go Less p h = find_here e.key e (x ∷ xs) refl
    go Equal p h = find_here e.key e xs refl
    go Greater p h = find_past e.key x (put e xs) (above_ne e.key x.key (greater_below e.key x.key p)) ∙ h

pub find_put_other : (k : Key) (e : Entry) (xs : List Entry) → k ≢ e.key → entry_at k (put e xs) ≡ entry_at k xs
find_put_other k e [] n = find_past k e [] n
find_put_other k e (x ∷ xs) n = go (key_order e.key x.key) refl (key_dec k x.key) (find_put_other k e xs n)
  where
    go : (o : Ordering) → key_order e.key x.key ≡ o → Dec (k ≡ x.key) → entry_at k (put e xs) ≡ entry_at k xs → entry_at k (match_ordering o (e ∷ (x ∷ xs)) (e ∷ xs) (x ∷ put e xs)) ≡ entry_at k (x ∷ xs)
    go Less p d h = find_past k e (x ∷ xs) n
    go Equal p d h = find_past k e xs n ∙ sym (find_past k x xs (λ q. n (q ∙ sym (key_equal e.key x.key p))))
    go Greater p (yes q) h = find_here k x (put e xs) q ∙ sym (find_here k x xs q)
    go Greater p (no m) h = find_past k x (put e xs) m ∙ h ∙ sym (find_past k x xs m)

-- the same by another name of the key
pub find_with_same : (k : Key) (e : Entry) (xs : List Entry) → e.key ≡ k → entry_at k (put e xs) ≡ Some e
find_with_same k e xs p = subst (λ (v : Key). entry_at v (put e xs) ≡ Some e) p (find_put_same e xs)

pub find_with_other : (l k : Key) (e : Entry) (xs : List Entry) → e.key ≡ k → l ≢ k → entry_at l (put e xs) ≡ entry_at l xs
find_with_other l k e xs p n = find_put_other l e xs (λ q. n (q ∙ p))

-- ---- ascending

abbrev pub Above : Key → List Entry → Type 0
Above k xs = AllByRecursion (λ (y : Entry). Below k y.key) xs

abbrev pub Sorted : List Entry → Type 0
Sorted [] = Unit {0}
Sorted (x ∷ xs) = Above x.key xs × Sorted xs

pub above_more : (k l : Key) (xs : List Entry) → Below k l → Above l xs → Above k xs
above_more k l [] h a = tt
above_more k l (x ∷ xs) h a = (below_trans k l x.key h a.0, above_more k l xs h a.1)

above_put : (k : Key) (e : Entry) (xs : List Entry) → Below k e.key → Above k xs → Above k (put e xs)
above_put k e [] h a = (h, tt)
above_put k e (x ∷ xs) h a = go (key_order e.key x.key) (above_put k e xs h a.1)
  where
    go : (o : Ordering) → Above k (put e xs) → Above k (match_ordering o (e ∷ (x ∷ xs)) (e ∷ xs) (x ∷ put e xs))
    go Less b = (h, a)
    go Equal b = (h, a.1)
    go Greater b = (a.0, b)

pub sorted_put : (e : Entry) (xs : List Entry) → Sorted xs → Sorted (put e xs)
sorted_put e [] s = (tt, tt)
sorted_put e (x ∷ xs) s = go (key_order e.key x.key) refl (sorted_put e xs s.1)
  where
    go : (o : Ordering) → key_order e.key x.key ≡ o → Sorted (put e xs) → Sorted (match_ordering o (e ∷ (x ∷ xs)) (e ∷ xs) (x ∷ put e xs))
    go Less p b = ((p, above_more e.key x.key xs p s.0), s)
    go Equal p b = (subst (λ v. Above v xs) (sym (key_equal e.key x.key p)) s.0, s.1)
    go Greater p b = (above_put x.key e xs (greater_below e.key x.key p) s.0, b)

pub find_above : (k : Key) (xs : List Entry) → Above k xs → entry_at k xs ≡ None
find_above k [] a = refl
find_above k (x ∷ xs) a = find_past k x xs (below_ne k x.key a.0) ∙ find_above k xs a.1

-- ---- lists in order that answer alike are the same

module _ (x y : Entry) (xs ys : List Entry) (a : Above x.key xs) (b : Above y.key ys) where
  head_same : ((k : Key) → entry_at k (x ∷ xs) ≡ entry_at k (y ∷ ys)) → (o : Ordering) → key_order x.key y.key ≡ o → x ≡ y
  head_same f Less p = absurd (none_some (sym (find_past x.key y ys (below_ne x.key y.key p) ∙ find_above x.key ys (above_more x.key y.key ys p b)) ∙ sym (f x.key) ∙ find_here x.key x xs refl))
  head_same f Equal p = some_inj (sym (find_here x.key x xs refl) ∙ f x.key ∙ find_here x.key y ys (key_equal x.key y.key p))
  head_same f Greater p =
      let q = greater_below x.key y.key p in
      absurd (none_some (sym (find_past y.key x xs (below_ne y.key x.key q) ∙ find_above y.key xs (above_more y.key x.key xs q a)) ∙ f y.key ∙ find_here y.key y ys refl))

  tail_at : x ≡ y → (k : Key) → entry_at k (x ∷ xs) ≡ entry_at k (y ∷ ys) → Dec (k ≡ x.key) → entry_at k xs ≡ entry_at k ys
  tail_at e k f (yes p) = find_above k xs (subst (λ v. Above v xs) (sym p) a) ∙ sym (find_above k ys (subst (λ v. Above v ys) (sym (p ∙ ap (λ (z : Entry). z.key) e)) b))
  tail_at e k f (no n) = sym (find_past k x xs n) ∙ f ∙ find_past k y ys (λ q. n (q ∙ ap (λ (z : Entry). z.key) (sym e)))

pub same_entries : (xs ys : List Entry) → Sorted xs → Sorted ys → ((k : Key) → entry_at k xs ≡ entry_at k ys) → xs ≡ ys
same_entries [] [] s t f = refl
same_entries [] (y ∷ ys) s t f = absurd (none_some (f y.key ∙ find_here y.key y ys refl))
same_entries (x ∷ xs) [] s t f = absurd (none_some (sym (f x.key) ∙ find_here x.key x xs refl))
same_entries (x ∷ xs) (y ∷ ys) s t f =
    let e : x ≡ y = head_same x y xs ys s.0 t.0 f (key_order x.key y.key) refl in
    let d : xs ≡ ys = same_entries xs ys s.1 t.1 (λ k. tail_at x y xs ys s.0 t.0 e k (f k) (key_dec k x.key)) in
    λ i. e i ∷ d i

-- ---- after a close

-- f keeps the key of what it keeps
abbrev pub Keeps : (Entry → Option Entry) → Type 0
Keeps f = (x y : Entry) → f x ≡ Some y → y.key ≡ x.key

above_collect : (f : Entry → Option Entry) → Keeps f → (k : Key) (xs : List Entry) → Above k xs → Above k (filter_map f xs)
above_collect f K k [] a = tt
above_collect f K k (x ∷ xs) a = go (f x) refl (above_collect f K k xs a.1)
  where
    go : (o : Option Entry) → f x ≡ o → Above k (filter_map f xs) → Above k (cons_option o (filter_map f xs))
    go None e b = b
    go (Some y) e b = (subst (λ v. Below k v) (sym (K x y e)) a.0, b)

pub sorted_collect : (f : Entry → Option Entry) → Keeps f → (xs : List Entry) → Sorted xs → Sorted (filter_map f xs)
sorted_collect f K [] s = tt
sorted_collect f K (x ∷ xs) s = go (f x) refl (sorted_collect f K xs s.1)
  where
    go : (o : Option Entry) → f x ≡ o → Sorted (filter_map f xs) → Sorted (cons_option o (filter_map f xs))
    go None e b = b
    go (Some y) e b = (subst (λ v. Above v (filter_map f xs)) (sym (K x y e)) (above_collect f K x.key xs s.0), b)

pub find_collect : (f : Entry → Option Entry) → Keeps f → (k : Key) (xs : List Entry) → Sorted xs → entry_at k (filter_map f xs) ≡ option_and_then f (entry_at k xs)
find_collect f K k [] s = refl
find_collect f K k (x ∷ xs) s = go (f x) refl (key_dec k x.key) (find_collect f K k xs s.1)
  where
    found : (o : Option Entry) → entry_at k (x ∷ xs) ≡ o → option_and_then f o ≡ option_and_then f (entry_at k (x ∷ xs))
    found o p = ap (option_and_then f) (sym p)

    go : (o : Option Entry) → f x ≡ o → Dec (k ≡ x.key) → entry_at k (filter_map f xs) ≡ option_and_then f (entry_at k xs) → entry_at k (cons_option o (filter_map f xs)) ≡ option_and_then f (entry_at k (x ∷ xs))
    go None e (yes p) h = find_above k (filter_map f xs) (above_collect f K k xs (subst (λ v. Above v xs) (sym p) s.0)) ∙ sym e ∙ found (Some x) (find_here k x xs p)
    go None e (no n) h = h ∙ found (entry_at k xs) (find_past k x xs n)
    go (Some y) e (yes p) h = find_here k y (filter_map f xs) (p ∙ sym (K x y e)) ∙ sym e ∙ found (Some x) (find_here k x xs p)
    go (Some y) e (no n) h = find_past k y (filter_map f xs) (λ q. n (q ∙ K x y e)) ∙ h ∙ found (entry_at k xs) (find_past k x xs n)

-- ---- the notices of a close

abbrev pub notices_of : Key → List Notice → List Notice
notices_of k ns = filter (λ n. same_key k n.key) ns

-- f tells of an entry under its key
abbrev pub Tells : (Entry → Option Notice) → Type 0
Tells f = (x : Entry) (y : Notice) → f x ≡ Some y → y.key ≡ x.key

notice_here : (k : Key) (n : Notice) (ns : List Notice) → k ≡ n.key → notices_of k (n ∷ ns) ≡ n ∷ notices_of k ns
notice_here k n ns e = ap (λ (b : Bool). cond b (n ∷ notices_of k ns) (notices_of k ns)) (same_to k n.key e)

notice_past : (k : Key) (n : Notice) (ns : List Notice) → k ≢ n.key → notices_of k (n ∷ ns) ≡ notices_of k ns
notice_past k n ns e = ap (λ (b : Bool). cond b (n ∷ notices_of k ns) (notices_of k ns)) (same_not k n.key e)

pub for_above : (f : Entry → Option Notice) → Tells f → (k : Key) (xs : List Entry) → Above k xs → notices_of k (filter_map f xs) ≡ []
for_above f K k [] a = refl
for_above f K k (x ∷ xs) a = go (f x) refl (for_above f K k xs a.1)
  where
    go : (o : Option Notice) → f x ≡ o → notices_of k (filter_map f xs) ≡ [] → notices_of k (cons_option o (filter_map f xs)) ≡ []
    go None e h = h
    go (Some y) e h = notice_past k y (filter_map f xs) (λ q. below_ne k x.key a.0 (q ∙ K x y e)) ∙ h

pub for_collect : (f : Entry → Option Notice) → Tells f → (k : Key) (xs : List Entry) → Sorted xs → notices_of k (filter_map f xs) ≡ cons_option (option_and_then f (entry_at k xs)) []
for_collect f K k [] s = refl
for_collect f K k (x ∷ xs) s = go (f x) refl (key_dec k x.key) (for_collect f K k xs s.1)
  where
    rest : k ≡ x.key → notices_of k (filter_map f xs) ≡ []
    rest p = for_above f K k xs (subst (λ v. Above v xs) (sym p) s.0)

    told : (o : Option Entry) (q : Option Notice) → entry_at k (x ∷ xs) ≡ o → option_and_then f o ≡ q → cons_option q [] ≡ cons_option (option_and_then f (entry_at k (x ∷ xs))) []
    told o q p e = ap (λ (r : Option Notice). cons_option r []) (sym e ∙ ap (option_and_then f) (sym p))

    go : (o : Option Notice) → f x ≡ o → Dec (k ≡ x.key) → notices_of k (filter_map f xs) ≡ cons_option (option_and_then f (entry_at k xs)) [] → notices_of k (cons_option o (filter_map f xs)) ≡ cons_option (option_and_then f (entry_at k (x ∷ xs))) []
    go None e (yes p) h = rest p ∙ told (Some x) None (find_here k x xs p) e
    go None e (no n) h = h ∙ told (entry_at k xs) _ (find_past k x xs n) refl
    go (Some y) e (yes p) h = notice_here k y (filter_map f xs) (p ∙ sym (K x y e)) ∙ ap (λ (l : List Notice). y ∷ l) (rest p) ∙ told (Some x) (Some y) (find_here k x xs p) e
    go (Some y) e (no n) h = notice_past k y (filter_map f xs) (λ q. n (q ∙ K x y e)) ∙ h ∙ told (entry_at k xs) _ (find_past k x xs n) refl

-- ---- as pairs of places

above_at : (k : Key) (xs : List Entry) → Above k xs → (i : ℕ) (d : Key) → i < length (map (λ (e : Entry). e.key) xs) → Below k (slice_index_or (map (λ (e : Entry). e.key) xs) i d)
above_at k [] a i d h = absurd (omega arith)
above_at k (x ∷ xs) a zero d h = a.0
above_at k (x ∷ xs) a (suc i) d h = above_at k xs a.1 i d (omega arith)

pub sorted_pairs : (xs : List Entry) → Sorted xs → AllPairs (λ (k : Key) (l : Key). key_order k l ≡ Less) (map (λ (e : Entry). e.key) xs)
sorted_pairs [] s i j d h g = absurd (omega arith)
sorted_pairs (x ∷ xs) s i zero d h g = absurd (omega arith)
sorted_pairs (x ∷ xs) s zero (suc j) d h g = above_at x.key xs s.0 j d (omega arith)
sorted_pairs (x ∷ xs) s (suc i) (suc j) d h g = sorted_pairs xs s.1 i j d (omega arith) (omega arith)

above_from : (k : Key) (xs : List Entry) → ((j : ℕ) (d : Key) → j < length (map (λ (e : Entry). e.key) xs) → key_order k (slice_index_or (map (λ (e : Entry). e.key) xs) j d) ≡ Less) → Above k xs
above_from k [] f = tt
above_from k (x ∷ xs) f = (f zero k (omega arith), above_from k xs (λ j d h. f (suc j) d (omega arith)))

pub pairs_sorted : (xs : List Entry) → AllPairs (λ (k : Key) (l : Key). key_order k l ≡ Less) (map (λ (e : Entry). e.key) xs) → Sorted xs
pairs_sorted [] P = tt
pairs_sorted (x ∷ xs) P = (above_from x.key xs (λ j d h. P zero (suc j) d (omega arith) (omega arith)), pairs_sorted xs (λ i j d h g. P (suc i) (suc j) d (omega arith) (omega arith)))
