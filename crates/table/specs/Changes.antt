-- What the changes of a table leave. The table is the whole slice: the used rows come first, and blanks fill the rest.
use Rattle.std.specs.Prelude.{◌≡◌, ℕ, suc, ◌+◌, ◌-◌, ◌<◌, ◌≤◌, Bool, false, not, List, ◌++◌, length, take, drop, replicate, is_ok, Ok, Err, Result, filter, slice_index_or, codes, decimal}
use Rattle.std.specs.List.{insert}
use Rattle.std.specs.declared.cmp.Ordering.{Ordering}
use Rattle.table.specs.declared.insertion.NotEntered.{NotEntered}
use Rattle.table.specs.declared.insertion.NotEntered.TheVariants.{Known, Full}
use Rattle.table.specs.Order.{MissingAt, StandsAt, StandsNowhere, keys, place}

-- behind the used rows stand n blanks, and then the rest of the slice, which is empty where all of it is blank
abbrev pub BlanksBehind : {X : Type 0} → ℕ → X → List X → ℕ → List X → Type 0
BlanksBehind n blank rest used xs = drop used xs ≡ replicate n blank ++ rest

-- the row x entered at the place i among the used rows; it takes up the place behind them
abbrev pub entered : {X : Type 0} → List X → ℕ → ℕ → X → List X
entered xs used i x = insert (take used xs) i x ++ drop (suc used) xs

-- there was room for it, and it stands there now: the rows from there on moved up by one, the others stand where they
-- stood, and a blank is gone
pub record PutIn {X : Type 0} (used : ℕ) (xs : List X) (x : X) (ys : List X) (i : ℕ) : Type 0 where
  pub room : used < length xs
  pub within : i ≤ used
  pub rows : ys ≡ entered xs used i x
  pub before : (j : ℕ) (d : X) → j < i → slice_index_or ys j d ≡ slice_index_or xs j d
  pub moved : (j : ℕ) (d : X) → i ≤ j → j < used → slice_index_or ys (j + 1) d ≡ slice_index_or xs j d
  pub beyond : (j : ℕ) (d : X) → used < j → slice_index_or ys j d ≡ slice_index_or xs j d
  pub blanks : (n : ℕ) (blank : X) (rest : List X) → BlanksBehind (suc n) blank rest used xs → BlanksBehind n blank rest (suc used) ys

-- what the answer to an insertion says of the rows, in any order: xs are those before it, ys those after it
abbrev pub Inserts : {X K : Type 0} → (K → K → Ordering) → (X → K) → ℕ → List X → X → List X → Result ℕ NotEntered → Type 0
Inserts cmp id used xs x ys (Ok i) = PutIn used xs x ys i
Inserts cmp id used xs x ys (Err (Known i)) = (ys ≡ xs) × (i < used) × (i < length xs) × StandsAt cmp (keys id used xs) (id x) i
Inserts cmp id used xs x ys (Err Full) = (ys ≡ xs) × (length xs ≤ used)

-- what it tells of the row's key k among the keys before it, which ascend
abbrev pub Tells : {K : Type 0} → (K → K → Ordering) → List K → K → Result ℕ NotEntered → Type 0
Tells cmp ks k (Ok i) = (place cmp ks k ≡ Err i) × MissingAt cmp ks k i
Tells cmp ks k (Err (Known i)) = place cmp ks k ≡ Ok i
Tells cmp ks k (Err Full) = is_ok (place cmp ks k) ≡ false × StandsNowhere cmp ks k

-- what the answer to an insertion at the place i says of the rows
abbrev pub InsertsAt : {X A : Type 0} → ℕ → List X → ℕ → X → List X → Result A NotEntered → Type 0
InsertsAt used xs i x ys (Ok _) = PutIn used xs x ys i
InsertsAt used xs i x ys (Err e) = (e ≡ Full) × (ys ≡ xs) × (length xs ≤ used)

-- how many rows are used after either
abbrev pub used_after : {A : Type 0} → ℕ → Result A NotEntered → ℕ
used_after used (Ok _) = suc used
used_after used (Err e) = used

-- what the refusal of a row says
abbrev pub not_entered_text : NotEntered → List ℕ
not_entered_text (Known i) = codes "key known at place " ++ decimal i
not_entered_text Full = codes "no blank left"

-- the rows that are not freed, in their order
abbrev pub kept : {X : Type 0} → (X → Bool) → List X → List X
kept freed xs = filter (λ x. not (freed x)) xs

-- the kept rows, then blanks in the places that became free, then all behind the used rows
abbrev pub closed_up : {X : Type 0} → (X → Bool) → X → ℕ → List X → List X
closed_up freed blank used xs =
    kept freed (take used xs) ++ (replicate (length (take used xs) - length (kept freed (take used xs))) blank ++ drop used xs)

-- the rows were closed up, and n are used now
pub record Closes {X : Type 0} (freed : X → Bool) (blank : X) (used : ℕ) (xs ys : List X) (n : ℕ) : Type 0 where
  pub count : n ≡ length (kept freed (take used xs))
  pub rows : ys ≡ closed_up freed blank used xs
  pub beyond : (j : ℕ) (d : X) → used ≤ j → slice_index_or ys j d ≡ slice_index_or xs j d
  pub blanks : (m : ℕ) (rest : List X) → used ≤ length xs → BlanksBehind m blank rest used xs → BlanksBehind (used - n + m) blank rest n ys
