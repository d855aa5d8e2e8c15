-- Keys in order, and where a key stands among them.
use Rattle.std.specs.Prelude.{◌≡◌, ℕ, suc, ◌<◌, ◌≤◌, List, [], ◌∷◌, map, length, take, Ok, Err, Result, ◌≢◌, slice_index_or}
use Rattle.std.specs.List.{AllPairs}
use Rattle.std.specs.declared.cmp.Ordering.TheVariants.{Less, Equal, Greater}
use Rattle.std.specs.declared.cmp.Ordering.{Ordering}

-- strictly ascending: of any two places the earlier holds the lesser key
abbrev pub Ascending : {K : Type 0} → (K → K → Ordering) → List K → Type 0
Ascending cmp ks = AllPairs (λ x y. cmp x y ≡ Less) ks

-- the keys of the used rows
abbrev pub keys : {X K : Type 0} → (X → K) → ℕ → List X → List K
keys id used xs = map id (take used xs)

-- the key k stands at the place i
abbrev pub StandsAt : {K : Type 0} → (K → K → Ordering) → List K → K → ℕ → Type 0
StandsAt {K} cmp ks k i = (i < length ks) × ((d : K) → cmp (slice_index_or ks i d) k ≡ Equal)

-- the key k stands nowhere
abbrev pub StandsNowhere : {K : Type 0} → (K → K → Ordering) → List K → K → Type 0
StandsNowhere {K} cmp ks k = (j : ℕ) (d : K) → j < length ks → cmp (slice_index_or ks j d) k ≢ Equal

-- the key k stands nowhere, and exactly the keys below the place i are less
pub record MissingAt {K : Type 0} (cmp : K → K → Ordering) (ks : List K) (k : K) (i : ℕ) : Type 0 where
  pub within : i ≤ length ks
  pub nowhere : StandsNowhere cmp ks k
  pub below : (j : ℕ) (d : K) → j < i → cmp (slice_index_or ks j d) k ≡ Less
  pub only_below : (j : ℕ) (d : K) → j < length ks → cmp (slice_index_or ks j d) k ≡ Less → j < i

abbrev pub one_on : Result ℕ ℕ → Result ℕ ℕ
one_on (Ok i) = Ok (suc i)
one_on (Err i) = Err (suc i)

abbrev pub past : Ordering → Result ℕ ℕ → Result ℕ ℕ
past Less r = one_on r
past Equal r = Ok 0
past Greater r = Err 0

-- where the key k stands, `Ok`, or would have to stand, `Err`, found from the front: the first key that is not less decides
abbrev pub place : {K : Type 0} → (K → K → Ordering) → List K → K → Result ℕ ℕ
place cmp [] k = Err 0
place cmp (x ∷ xs) k = past (cmp x k) (place cmp xs k)

-- r answers where the key k stands, `Ok`, or where it would have to stand, `Err`
pub record Answers {K : Type 0} (cmp : K → K → Ordering) (ks : List K) (k : K) (r : Result ℕ ℕ) : Type 0 where
  pub value : r ≡ place cmp ks k
  pub ok : (i : ℕ) → r ≡ Ok i → StandsAt cmp ks k i
  pub ok_only : (i : ℕ) → StandsAt cmp ks k i → r ≡ Ok i
  pub err : (i : ℕ) → r ≡ Err i → MissingAt cmp ks k i
  pub err_only : (i : ℕ) → MissingAt cmp ks k i → r ≡ Err i
