-- Where a key stands among entries, and what is put there.
use Rattle.std.proofs.Common.{◌≡◌, ℕ, suc, ◌<◌, List, [], ◌∷◌, map, length, get_or, set, take, ◌≤◌, MatchResult, Some, None, Ok, Err, Result, Ordering, Less, Equal, Greater, ◌∙◌, refl, sym, ap, subst, arith}
use Rattle.std.proofs.lemmas.Cmp.{tied_back, tied_itself}
use Rattle.std.proofs.lemmas.List.{get_or-map, get_or-take, length-map, length-take, length-take-le}
use Rattle.std.specs.List.{insert}
use Rattle.std.specs.Ordering.{match_ordering}
use Rattle.table.specs.Order.{Answers, Ascending, StandsNowhere, past, place}
use Rattle.table.proofs.Searching.{found, placed}
use Rattle.intake.specs.Places.{FoundAt, Located, WithinUsed, entries_in, used_of}
use Rattle.rows.specs.Entries.{Entry, entry_of}
use Rattle.rows.specs.Keys.{Key, key_of, key_order}
use Rattle.rows.specs.contracts.key.TradeKeyOrd.TheImpl.{ghosts}
use Rattle.rows.specs.declared.key.TradeKey.{TradeKey}
use Rattle.rows.specs.declared.row.Row.{Row}
use Rattle.rules.specs.Books.{InOrder, entry_at, put}
use Rattle.rules.proofs.Entries.{find_here, find_past}
use Rattle.rules.proofs.Keys.{above_ne, below_greater, greater_below, key_equal, key_total}

abbrev pub keys_in : List Entry → List Key
keys_in entries = map (λ (e : Entry). e.key) entries

-- ---- rows are ordered as their entries

pub ordered : (a b : TradeKey) → ghosts.cmp a b ≡ key_order (key_of a) (key_of b)
ordered a b = refl

keys_of_rows : (rows : List Row) → map key_of (map (λ (row : Row). row.key) rows) ≡ keys_in (map entry_of rows)
keys_of_rows [] = refl
keys_of_rows (row ∷ rows) = ap (λ l. key_of row.key ∷ l) (keys_of_rows rows)

pub place_in : (rows : List Row) (k : TradeKey) → place ghosts.cmp (map (λ (row : Row). row.key) rows) k ≡ place key_order (keys_in (map entry_of rows)) (key_of k)
place_in [] k = refl
place_in (row ∷ rows) k = ap (past (key_order (key_of row.key) (key_of k))) (place_in rows k)

pub ascending_in : (rows : List Row) → InOrder (map entry_of rows) → Ascending ghosts.cmp (map (λ (row : Row). row.key) rows)
ascending_in rows up i j d lt h =
    let ks = map (λ (row : Row). row.key) rows in
    let both = subst (λ ls. key_order (get_or ls i (key_of d)) (get_or ls j (key_of d)) ≡ Less) (sym (keys_of_rows rows)) (up i j (key_of d) lt (omega (arith, ap length (keys_of_rows rows), length-map ks key_of))) in
    let a = get_or-map key_of ks i d (key_of d) (omega arith) in
    let b = get_or-map key_of ks j d (key_of d) h in
    subst (λ x. key_order x (key_of (get_or ks j d)) ≡ Less) a (subst (λ y. key_order (get_or (map key_of ks) i (key_of d)) y ≡ Less) b both)

-- ---- the entry of a key by its place

pub found_here : (xs : List Entry) (k : Key) (i : ℕ) → place key_order (keys_in xs) k ≡ Ok i → (d : Entry) → entry_at k xs ≡ Some (get_or xs i d)
found_here [] k i e d = absurd (cc)
found_here (x ∷ xs) k i e d = go (key_order x.key k) (place key_order (keys_in xs) k) refl (λ j q. found_here xs k j q d) e
  where
    go : (o : Ordering) (r : Result ℕ ℕ) → key_order x.key k ≡ o → ((j : ℕ) → r ≡ Ok j → entry_at k xs ≡ Some (get_or xs j d)) → past o r ≡ Ok i → entry_at k (x ∷ xs) ≡ Some (get_or (x ∷ xs) i d)
    go Less (Ok j) p more e = let n : suc j ≡ i = cc in find_past k x xs (above_ne k x.key p) ∙ more j refl ∙ ap (λ n. Some (get_or (x ∷ xs) n d)) n
    go Less (Err j) p more e = absurd (cc)
    go Equal r p more e = let n : 0 ≡ i = cc in find_here k x xs (sym (key_equal x.key k p)) ∙ ap (λ n. Some (get_or (x ∷ xs) n d)) n
    go Greater r p more e = absurd (cc)

none_of : (xs : List Entry) (k : Key) → StandsNowhere key_order (keys_in xs) k → entry_at k xs ≡ None
none_of [] k n = refl
none_of (x ∷ xs) k n = find_past k x xs (λ q. n 0 k (omega arith) (subst (λ m. key_order x.key m ≡ Equal) (sym q) (tied_itself key_total x.key))) ∙ none_of xs k (λ j d h. n (suc j) d (omega arith))

pub found_nowhere : (xs : List Entry) (k : Key) (i : ℕ) → InOrder xs → place key_order (keys_in xs) k ≡ Err i → entry_at k xs ≡ None
found_nowhere xs k i up e = none_of xs k ((found key_total (keys_in xs) k up (place key_order (keys_in xs) k) (placed key_total (keys_in xs) k up)).err i e).nowhere

-- ---- an entry put at its place

module _ (e x : Entry) (xs : List Entry) where
  put_by : (o : Ordering) → key_order e.key x.key ≡ o → put e (x ∷ xs) ≡ match_ordering o (e ∷ (x ∷ xs)) (e ∷ xs) (x ∷ put e xs)
  put_by o p = ap (λ (o : Ordering). match_ordering o (e ∷ (x ∷ xs)) (e ∷ xs) (x ∷ put e xs)) p

pub put_there : (e : Entry) (xs : List Entry) (i : ℕ) → place key_order (keys_in xs) e.key ≡ Ok i → put e xs ≡ set xs i e
put_there e [] i p = absurd (cc)
put_there e (x ∷ xs) i p = go (key_order x.key e.key) (place key_order (keys_in xs) e.key) refl (put_there e xs) p
  where
    go : (o : Ordering) (r : Result ℕ ℕ) → key_order x.key e.key ≡ o → ((j : ℕ) → r ≡ Ok j → put e xs ≡ set xs j e) → past o r ≡ Ok i → put e (x ∷ xs) ≡ set (x ∷ xs) i e
    go Less (Ok j) q more p = let n : suc j ≡ i = cc in put_by e x xs Greater (below_greater e.key x.key q) ∙ ap (λ l. x ∷ l) (more j refl) ∙ ap (λ n. set (x ∷ xs) n e) n
    go Less (Err j) q more p = absurd (cc)
    go Equal r q more p = let n : 0 ≡ i = cc in put_by e x xs Equal (tied_back key_total x.key e.key q) ∙ ap (λ n. set (x ∷ xs) n e) n
    go Greater r q more p = absurd (cc)

pub put_new : (e : Entry) (xs : List Entry) (i : ℕ) → place key_order (keys_in xs) e.key ≡ Err i → put e xs ≡ insert xs i e
put_new e [] i p = let n : 0 ≡ i = cc in ap (λ n. insert [] n e) n
put_new e (x ∷ xs) i p = go (key_order x.key e.key) (place key_order (keys_in xs) e.key) refl (put_new e xs) p
  where
    go : (o : Ordering) (r : Result ℕ ℕ) → key_order x.key e.key ≡ o → ((j : ℕ) → r ≡ Err j → put e xs ≡ insert xs j e) → past o r ≡ Err i → put e (x ∷ xs) ≡ insert (x ∷ xs) i e
    go Less (Ok j) q more p = absurd (cc)
    go Less (Err j) q more p = let n : suc j ≡ i = cc in put_by e x xs Greater (below_greater e.key x.key q) ∙ ap (λ l. x ∷ l) (more j refl) ∙ ap (λ n. insert (x ∷ xs) n e) n
    go Equal r q more p = absurd (cc)
    go Greater r q more p = let n : 0 ≡ i = cc in put_by e x xs Less (greater_below x.key e.key q) ∙ ap (λ n. insert (x ∷ xs) n e) n

-- ---- a search of the used rows

module _ (used u : ℕ) (rows : List Row) (key : TradeKey) (clamped : u ≡ used_of used rows) where
  same_place : (r : Result ℕ ℕ) → (Ascending ghosts.cmp (map (λ (row : Row). row.key) (take u rows)) → Answers ghosts.cmp (map (λ (row : Row). row.key) (take u rows)) key r) → InOrder (entries_in used rows) → r ≡ place key_order (keys_in (entries_in used rows)) (key_of key)
  same_place r law up =
      let same : map entry_of (take u rows) ≡ entries_in used rows = ap (λ n. map entry_of (take n rows)) clamped in
      (law (ascending_in (take u rows) (subst InOrder (sym same) up))).value ∙ place_in (take u rows) key ∙ ap (λ l. place key_order (keys_in l) (key_of key)) same

  within : (r : Result ℕ ℕ) → MatchResult r (λ i. i < length (take u rows)) (λ i. i ≤ length (take u rows)) → WithinUsed (used_of used rows) r
  within (Ok i) h = omega (arith, length-take u rows)
  within (Err i) h = omega (arith, length-take u rows)

  found_at : (r : Result ℕ ℕ) → WithinUsed (used_of used rows) r → (InOrder (entries_in used rows) → r ≡ place key_order (keys_in (entries_in used rows)) (key_of key)) → InOrder (entries_in used rows) → FoundAt (entries_in used rows) (key_of key) r rows
  found_at (Ok i) h stands up =
      let n = used_of used rows in
      λ d.
      found_here (entries_in used rows) (key_of key) i (sym (stands up)) (entry_of d)
      ∙ ap Some (get_or-map entry_of (take n rows) i d (entry_of d) (omega (arith, length-take-le n rows (omega arith))) ∙ ap entry_of (get_or-take n rows i d h))
  found_at (Err i) h stands up = found_nowhere (entries_in used rows) (key_of key) i up (sym (stands up))

  pub located : (r : Result ℕ ℕ) → MatchResult r (λ i. i < length (take u rows)) (λ i. i ≤ length (take u rows)) → (Ascending ghosts.cmp (map (λ (row : Row). row.key) (take u rows)) → Answers ghosts.cmp (map (λ (row : Row). row.key) (take u rows)) key r) → Located used rows key r
  located r h law = record { within = within r h; found = found_at r (within r h) (same_place r law); stands = same_place r law }
