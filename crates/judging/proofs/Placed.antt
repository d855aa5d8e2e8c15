-- Where a search finds a row, the rules find its entry.
use Rattle.std.proofs.Common.{◌≡◌, ℕ, zero, suc, ◌<◌, List, [], ◌∷◌, map, length, take, min, Some, None, Ok, Err, AllPairs, slice_index_or, Less, Equal, refl, sym, ap, subst, ◌∙◌, arith}
use Rattle.std.proofs.lemmas.List.{get_or-map}
use Rattle.std.proofs.lemmas.Simd.{map-map}
use Rattle.std.proofs.lemmas.Cmp.{tied_itself}
use Rattle.table.proofs.Searching.{cut, keys_from_rows, rows_from_keys}
use Rattle.table.specs.Order.{Answers, Ascending, StandsNowhere}
use Rattle.rows.specs.Entries.{Entry, entry_of}
use Rattle.rows.specs.Keys.{Key, key_of, key_order}
use Rattle.rows.specs.contracts.key.TradeKeyOrd.TheImpl.{ghosts}
use Rattle.rows.specs.declared.key.TradeKey.{TradeKey}
use Rattle.rows.specs.declared.row.Row.{Row}
use Rattle.rules.specs.Books.{InOrder, entry_at}
use Rattle.rules.specs.Slices.{entries_of}
use Rattle.rules.proofs.Entries.{find_here, find_past}
use Rattle.rules.proofs.Keys.{above_ne, key_equal, key_total}

abbrev id : Row → TradeKey
id row = row.key

-- the same of rows, with no key between
abbrev Rising : List Row → Type 0
Rising xs = AllPairs (λ (x y : Row). key_order (key_of x.key) (key_of y.key) ≡ Less) xs

rising : (xs : List Row) → InOrder (map entry_of xs) → Rising xs
rising xs up = rows_from_keys key_order (λ (r : Row). key_of r.key) xs (subst (λ ks. Ascending key_order ks) (map-map (λ (e : Entry). e.key) entry_of xs) up)

ascends : (xs : List Row) → InOrder (map entry_of xs) → Ascending ghosts.cmp (map id xs)
ascends xs up = keys_from_rows ghosts.cmp id xs (rising xs up)

here : (xs : List Row) (k : TradeKey) (i : ℕ) (d : Row) → Rising xs → i < length xs → key_order (key_of (slice_index_or xs i d).key) (key_of k) ≡ Equal → Some (entry_of (slice_index_or xs i d)) ≡ entry_at (key_of k) (map entry_of xs)
here [] k i d up h e = absurd (omega arith)
here (x ∷ xs) k zero d up h e = sym (find_here (key_of k) (entry_of x) (map entry_of xs) (sym (key_equal _ _ e)))
here (x ∷ xs) k (suc i) d up h e =
    let less : key_order (key_of x.key) (key_of k) ≡ Less = subst (λ l. key_order (key_of x.key) l ≡ Less) (key_equal _ _ e) (up zero (suc i) d (omega arith) h) in
    here xs k i d (λ n m c lt g. up (suc n) (suc m) c (omega arith) (omega arith)) (omega arith) e
    ∙ sym (find_past (key_of k) (entry_of x) (map entry_of xs) (above_ne (key_of k) (key_of x.key) less))

nowhere : (xs : List Row) (k : TradeKey) → StandsNowhere ghosts.cmp (map id xs) k → None ≡ entry_at (key_of k) (map entry_of xs)
nowhere [] k h = refl
nowhere (x ∷ xs) k h =
    nowhere xs k (λ j d g. h (suc j) d (omega arith))
    ∙ sym (find_past (key_of k) (entry_of x) (map entry_of xs) (λ e. h zero x.key (omega arith) (tied (key_of x.key) (key_of k) (sym e))))
  where
    tied : (k l : Key) → k ≡ l → key_order k l ≡ Equal
    tied k l e = subst (λ m. key_order k m ≡ Equal) e (tied_itself key_total k)

-- what a search of the used rows answers
module _ (rows : List Row) (used end : ℕ) (clamped : end ≡ min used (length rows)) (k : TradeKey) (up : InOrder (entries_of used rows)) where
  same_rows : take end rows ≡ take used rows
  same_rows = cut rows used end clamped

  in_order : InOrder (map entry_of (take end rows))
  in_order = subst (λ (xs : List Row). InOrder (map entry_of xs)) (sym same_rows) up

  pub used_ascend : Ascending ghosts.cmp (map id (take end rows))
  used_ascend = ascends (take end rows) in_order

  pub found_here : (i : ℕ) (x : Row) → i < length (take end rows) → x ≡ slice_index_or (take end rows) i x → Answers ghosts.cmp (map id (take end rows)) k (Ok i) → Some (entry_of x) ≡ entry_at (key_of k) (entries_of used rows)
  found_here i x h e a =
      let s = a.ok i refl in
      let same = get_or_map_key x in
      ap (λ (r : Row). Some (entry_of r)) e
      ∙ here (take end rows) k i x (rising (take end rows) in_order) h (subst (λ (t : TradeKey). ghosts.cmp t k ≡ Equal) same (s.1 x.key))
      ∙ ap (λ (xs : List Row). entry_at (key_of k) (map entry_of xs)) same_rows
    where
      get_or_map_key : (d : Row) → slice_index_or (map id (take end rows)) i d.key ≡ (slice_index_or (take end rows) i d).key
      get_or_map_key d = get_or-map id (take end rows) i d d.key h

  pub found_nowhere : (i : ℕ) → Answers ghosts.cmp (map id (take end rows)) k (Err i) → None ≡ entry_at (key_of k) (entries_of used rows)
  found_nowhere i a = nowhere (take end rows) k (a.err i refl).nowhere ∙ ap (λ (xs : List Row). entry_at (key_of k) (map entry_of xs)) same_rows
