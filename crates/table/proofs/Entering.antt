-- A row entered among the used ones.
use Rattle.std.proofs.Common.{◌≡◌, ℕ, suc, ◌+◌, ◌-◌, ◌<◌, ◌≤◌, List, [], ◌∷◌, ◌++◌, map, length, get_or, min, take, drop, set, is_ok, Ok, Err, Result, Ordering, Less, refl, sym, ap, ◌∙◌, subst, ⊎_elim, arith}
use lib.Seq.{paste}
use Rattle.std.proofs.lemmas.List.Edits.{length-insert, get_or-insert_below, get_or-insert_at, get_or-insert_above}
use Rattle.std.proofs.lemmas.List.{append_assoc, drop_at, drop-drop, drop-map, drop-take, get_or_append_left, get_or-append_right, get_or-drop, get_or-take, length-take-le, map-append, set_at, take_at, take-map, take_more, take-take}
use Rattle.std.proofs.lemmas.Bool.{cases_order}
use Rattle.std.specs.Cmp.{IsTotalOrder}
use Rattle.std.specs.List.{insert}
use Rattle.std.specs.Ordering.{ordering_reverse}
use Rattle.table.specs.Changes.{BlanksBehind, Inserts, PutIn, Tells, entered, used_after}
use Rattle.table.specs.Order.{Ascending, MissingAt, keys}
use Rattle.table.specs.declared.insertion.NotEntered.{NotEntered}
use Rattle.table.specs.declared.insertion.NotEntered.TheVariants.{Full, Known}
use Rattle.table.proofs.Searching.{Parts, Searched, parts}

written : {X : Type 0} (ps bs cs : List X) (y x : X) (n : ℕ) → length ps ≡ n → set (((ps ++ y ∷ []) ++ bs) ++ cs) n x ≡ (ps ++ x ∷ bs) ++ cs
written ps bs cs y x n e =
    ap (λ l. set l n x) (append_assoc (ps ++ y ∷ []) bs cs ∙ append_assoc ps (y ∷ []) (bs ++ cs))
    ∙ set_at ps y (bs ++ cs) x n e
    ∙ sym (append_assoc ps (x ∷ bs) cs)

module _ {X : Type 0} (xs : List X) (used i : ℕ) (x : X) (le : i ≤ used) (lt : used < length xs) where
  shifted : set (paste xs (i + 1) (drop i xs) (used - i)) i x ≡ entered xs used i x
  shifted =
      let front : take (i + 1) xs ≡ take i xs ++ get_or xs i x ∷ [] = take_more xs i x (omega arith) in
      let whole : i + (used - i) ≡ used = omega arith in
      let last : i + 1 + (used - i) ≡ suc used = omega arith in
      let first : take i (take used xs) ≡ take i xs = take-take i used xs le in
      let middle : drop i (take (i + (used - i)) xs) ≡ take (used - i) (drop i xs) = drop-take i (used - i) xs in
      let done = written (take i xs) (take (used - i) (drop i xs)) (drop (i + 1 + (used - i)) xs) (get_or xs i x) x i (length-take-le i xs (omega arith)) in
      cc

  long : length (insert (take used xs) i x) ≡ suc used
  long = let n = length-take-le used xs (omega arith) in omega (arith, length-insert (take used xs) i x (omega arith))

  front_entered : (j : ℕ) (d : X) → j ≤ used → get_or (entered xs used i x) j d ≡ get_or (insert (take used xs) i x) j d
  front_entered j d h = let n = long in get_or_append_left (insert (take used xs) i x) (drop (suc used) xs) d j (omega arith)

  before_entered : (j : ℕ) (d : X) → j < i → get_or (entered xs used i x) j d ≡ get_or xs j d
  before_entered j d h =
      let n = length-take-le used xs (omega arith) in
      front_entered j d (omega arith) ∙ get_or-insert_below (take used xs) i x d j h (omega arith) ∙ get_or-take used xs j d (omega arith)

  moved_entered : (j : ℕ) (d : X) → i ≤ j → j < used → get_or (entered xs used i x) (j + 1) d ≡ get_or xs j d
  moved_entered j d h below =
      let n = length-take-le used xs (omega arith) in
      front_entered (j + 1) d (omega arith) ∙ get_or-insert_above (take used xs) i x d j h (omega arith) ∙ get_or-take used xs j d below

  beyond_entered : (j : ℕ) (d : X) → used < j → get_or (entered xs used i x) j d ≡ get_or xs j d
  beyond_entered j d h =
      let e : suc used + (j - suc used) ≡ j = omega arith in
      get_or-append_right (insert (take used xs) i x) (drop (suc used) xs) (suc used) j d long (omega arith)
      ∙ get_or-drop (suc used) xs (j - suc used) d
      ∙ ap (λ n. get_or xs n d) e

  blanks_entered : (n : ℕ) (blank : X) (rest : List X) → BlanksBehind (suc n) blank rest used xs → BlanksBehind n blank rest (suc used) (entered xs used i x)
  blanks_entered n blank rest e =
      let one : used + 1 ≡ suc used = omega arith in
      drop_at (insert (take used xs) i x) (drop (suc used) xs) (suc used) long
      ∙ ap (λ m. drop m xs) (sym one)
      ∙ sym (drop-drop 1 used xs)
      ∙ ap (drop 1) e

  -- the block behind the place moved up by one, and the row written over the place
  pub put_in : (ys : List X) → ys ≡ paste xs (i + 1) (drop i xs) (used - i) → PutIn used xs x (set ys i x) i
  put_in ys moved =
      let e : set ys i x ≡ entered xs used i x = ap (λ zs. set zs i x) moved ∙ shifted in
      record {
        room = lt;
        within = le;
        rows = e;
        before = λ j d h. ap (λ zs. get_or zs j d) e ∙ before_entered j d h;
        moved = λ j d h below. ap (λ zs. get_or zs (j + 1) d) e ∙ moved_entered j d h below;
        beyond = λ j d h. ap (λ zs. get_or zs j d) e ∙ beyond_entered j d h;
        blanks = λ n blank rest h. ap (drop (suc used)) e ∙ blanks_entered n blank rest h;
      }

  module _ {K : Type 0} (id : X → K) where
    map-inserted : (zs : List X) → map id (insert zs i x) ≡ insert (map id zs) i (id x)
    map-inserted zs =
        let a = map-append id (take i zs) (x ∷ drop i zs) in
        let t = take-map id i zs in
        let d = drop-map id i zs in
        cc

    keys-entered : keys id (suc used) (entered xs used i x) ≡ insert (keys id used xs) i (id x)
    keys-entered = ap (map id) (take_at (insert (take used xs) i x) (drop (suc used) xs) (suc used) long) ∙ map-inserted (take used xs)

-- a key between those that are less and those that are greater
module _ {K : Type 0} {cmp : K → K → Ordering} (total : IsTotalOrder cmp) (ks : List K) (k : K) (i : ℕ) (up : Ascending cmp ks) (at : Parts cmp ks k i) where
  below : (a : ℕ) (d : K) → a < i → get_or (insert ks i k) a d ≡ get_or ks a d
  below a d h = get_or-insert_below ks i k d a h at.0

  here : (a : ℕ) (d : K) → a ≡ i → get_or (insert ks i k) a d ≡ k
  here a d e = ap (λ n. get_or (insert ks i k) n d) e ∙ get_or-insert_at ks i k d at.0

  above : (a : ℕ) (d : K) → i < a → get_or (insert ks i k) a d ≡ get_or ks (a - 1) d
  above a d h = let e : a ≡ a - 1 + 1 = omega arith in ap (λ n. get_or (insert ks i k) n d) e ∙ get_or-insert_above ks i k d (a - 1) (omega arith) at.0

  both : {x y u v : K} → x ≡ u → y ≡ v → cmp u v ≡ Less → cmp x y ≡ Less
  both p q h = cc

  ascending_between : Ascending cmp (insert ks i k)
  ascending_between a b d lt h =
      let n = length-insert ks i k at.0 in
      ⊎_elim
      (λ e. both (below a d (omega arith)) (here b d e) (at.1.0 a d (omega arith) (omega arith)))
      (⊎_elim
      (λ l. both (below a d (omega arith)) (below b d l) (up a b d lt (omega arith)))
      (λ g.
      ⊎_elim
      (λ e. both (here a d e) (above b d g) (total.antisymm _ _ ∙ ap ordering_reverse (at.1.1 (b - 1) d (omega arith) (omega arith))))
      (⊎_elim
      (λ l. both (below a d l) (above b d g) (up a (b - 1) d (omega arith) (omega arith)))
      (λ m. both (above a d m) (above b d g) (up (a - 1) (b - 1) d (omega arith) (omega arith))))
      (cases_order a i)))
      (cases_order b i)

-- a row put in where its key is missing keeps the order
pub ascending_entered : {X K : Type 0} {cmp : K → K → Ordering} (total : IsTotalOrder cmp) (id : X → K) (xs ys : List X) (used i : ℕ) (x : X) → PutIn used xs x ys i → Ascending cmp (keys id used xs) → MissingAt cmp (keys id used xs) (id x) i → Ascending cmp (keys id (suc used) ys)
ascending_entered {X} {K} {cmp} total id xs ys used i x put up missing =
    let ks = keys id used xs in
    subst (λ (ks : List K). Ascending cmp ks) (sym (ap (keys id (suc used)) put.rows ∙ keys-entered xs used i x put.within put.room id))
    (ascending_between total ks (id x) i up (parts total ks (id x) up i missing))

-- what an insertion of the row x answers, by what a search of the used rows for its key did
module _ {X K : Type 0} (cmp : K → K → Ordering) (id : X → K) (used : ℕ) (xs : List X) (x : X) where
  -- its key is known
  pub known : (i : ℕ) → Searched cmp id used xs (id x) (Ok i) → Inserts cmp id used xs x xs (Err (Known i))
  known i found = (refl, found.within.0, found.within.1, found.stands)

  pub known_told : (i : ℕ) → Searched cmp id used xs (id x) (Ok i) → Ascending cmp (keys id used xs) → Tells cmp (keys id used xs) (id x) (Err (Known i))
  known_told i found up = sym (found.law up).value

  -- it is new, and there was room
  pub entered_told : (i : ℕ) → Searched cmp id used xs (id x) (Err i) → Ascending cmp (keys id used xs) → Tells cmp (keys id used xs) (id x) (Ok i)
  entered_told i found up = let a = found.law up in (sym a.value, a.err i refl)

  pub in_place : (i : ℕ) → Searched cmp id used xs (id x) (Err i) → min i used ≡ i
  in_place i found = omega (arith, found.within.0)

  -- it is new, and there was none
  module _ (r : Result ℕ NotEntered) (is : r ≡ Err Full) where
    pub full : (ys : List X) → ys ≡ xs → length xs ≤ used → Inserts cmp id used xs x ys r
    full ys same none = subst (Inserts cmp id used xs x ys) (sym is) (same, none)

    pub full_told : (i : ℕ) → Searched cmp id used xs (id x) (Err i) → Ascending cmp (keys id used xs) → Tells cmp (keys id used xs) (id x) r
    full_told i found up = let a = found.law up in subst (Tells cmp (keys id used xs) (id x)) (sym is) (ap is_ok (sym a.value), (a.err i refl).nowhere)

    pub full_ascends : (ys : List X) → ys ≡ xs → Ascending cmp (keys id used xs) → Ascending cmp (keys id (used_after used r) ys)
    full_ascends ys same up = subst (λ (r : Result ℕ NotEntered). Ascending cmp (keys id (used_after used r) ys)) (sym is) (subst (λ (zs : List X). Ascending cmp (keys id used zs)) (sym same) up)
