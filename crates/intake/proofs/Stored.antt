-- What the rows hold after a row was changed or entered among them.
use Rattle.std.proofs.Common.{◌≡◌, ℕ, zero, suc, ◌<◌, ◌≤◌, List, [], ◌∷◌, ◌++◌, map, length, min, set, take, drop, ◌∙◌, refl, ap, arith}
use Rattle.std.proofs.lemmas.List.{append_assoc, drop-map, length-append, length-drop, length-set, length-take, length-take-le, map-append, map-set, take_at, take-append-drop, take-map, take-take}
use Rattle.std.proofs.lemmas.List.Edits.{length-insert}
use Rattle.std.specs.List.{insert}
use Rattle.table.specs.Changes.{entered}
use Rattle.rows.specs.Entries.{entry_of}
use Rattle.rows.specs.declared.row.Row.{Row}
use Rattle.rules.specs.Slices.{entries_of, room}

-- ---- changed where it stands

take_changed : {X : Type 0} (u at : ℕ) (xs : List X) (x : X) → take u (set xs at x) ≡ set (take u xs) at x
take_changed zero at xs x = refl
take_changed (suc u) at [] x = refl
take_changed (suc u) zero (y ∷ xs) x = refl
take_changed (suc u) (suc at) (y ∷ xs) x = ap (λ l. y ∷ l) (take_changed u at xs x)

pub room_changed : (xs : List Row) (at : ℕ) (row : Row) → room (set xs at row) ≡ room xs
room_changed xs at row = ap (λ n. min n 4096) (length-set xs at row)

pub entries_changed : (u at : ℕ) (xs : List Row) (row : Row) → entries_of u (set xs at row) ≡ set (entries_of u xs) at (entry_of row)
entries_changed u at xs row = ap (map entry_of) (take_changed u at xs row) ∙ map-set entry_of (take u xs) at row

-- ---- entered at its place

module _ {X Y : Type 0} (f : X → Y) where
  map-inserted : (xs : List X) (i : ℕ) (x : X) → map f (insert xs i x) ≡ insert (map f xs) i (f x)
  map-inserted xs i x =
      let a = map-append f (take i xs) (x ∷ drop i xs) in
      let t = take-map f i xs in
      let d = drop-map f i xs in
      cc

module _ (xs : List Row) (u at : ℕ) (row : Row) (le : at ≤ u) (lt : u < length xs) where
  long : length (insert (take u xs) at row) ≡ suc u
  long = let n = length-take-le u xs (omega arith) in omega (arith, length-insert (take u xs) at row (omega arith))

  pub room_entered : room (entered xs u at row) ≡ room xs
  room_entered = ap (λ n. min n 4096) (omega (arith, length-append (insert (take u xs) at row) (drop (suc u) xs), long, length-drop (suc u) xs))

  pub entries_entered : entries_of (suc u) (entered xs u at row) ≡ insert (entries_of u xs) at (entry_of row)
  entries_entered = ap (map entry_of) (take_at (insert (take u xs) at row) (drop (suc u) xs) (suc u) long) ∙ map-inserted entry_of (take u xs) at row

-- ---- entered among the rows that a book may use

drop_rest : {X : Type 0} (n m : ℕ) (xs : List X) → n ≤ m → drop n (take m xs) ++ drop m xs ≡ drop n xs
drop_rest zero m xs le = take-append-drop m xs
drop_rest (suc n) zero xs le = absurd (omega arith)
drop_rest (suc n) (suc m) [] le = refl
drop_rest (suc n) (suc m) (x ∷ xs) le = drop_rest n m xs (omega arith)

pub entered_front : {X : Type 0} (m u at : ℕ) (xs : List X) (x : X) → u < length (take m xs) → entered (take m xs) u at x ++ drop m xs ≡ entered xs u at x
entered_front m u at xs x lt =
    append_assoc (insert (take u (take m xs)) at x) (drop (suc u) (take m xs)) (drop m xs)
    ∙ ap (λ l. insert l at x ++ (drop (suc u) (take m xs) ++ drop m xs)) (take-take u m xs (omega (arith, length-take m xs)))
    ∙ ap (λ l. insert (take u xs) at x ++ l) (drop_rest (suc u) m xs (omega (arith, length-take m xs)))
