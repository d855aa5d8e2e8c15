-- Freed rows taken out of the used ones.
use Rattle.std.proofs.Common.{◌≡◌, ℕ, ◌+◌, ◌-◌, ◌≤◌, min, Bool, not, List, [], ◌∷◌, ◌++◌, map, length, get_or, take, drop, replicate, Ordering, Less, refl, sym, ap, ◌∙◌, subst, ⊎_elim, arith}
use borrow.Rule.Slice.PartMut.{put_mid}
use lib.Seq.{paste}
use Rattle.std.proofs.lemmas.Bool.{cases_lt}
use Rattle.std.proofs.lemmas.List.{append_assoc, drop_all, drop_at, get_or-append_right, get_or-drop, length-append, length-drop, length-replicate, length-take-le, replicate-append-replicate, take_all, take_at}
use Rattle.std.proofs.lemmas.List.Filters.{FiltersInPlace}
use Rattle.std.proofs.lemmas.List.Kept.{AllPairs-filter}
use Rattle.std.proofs.lemmas.Slice.{put_mid-paste}
use Rattle.std.specs.List.{FoldsTo}
use Rattle.table.specs.Changes.{Closes, kept}
use Rattle.table.specs.Order.{Ascending, keys}
use Rattle.table.proofs.Searching.{cut, keys_from_rows, rows_from_keys}

-- what is left of ascending rows ascends
ascending_kept : {X K : Type 0} (cmp : K → K → Ordering) (id : X → K) (freed : X → Bool) (xs : List X) → Ascending cmp (map id xs) → Ascending cmp (map id (kept freed xs))
ascending_kept cmp id freed xs up = keys_from_rows cmp id (kept freed xs) (AllPairs-filter (λ x y. cmp (id x) (id y) ≡ Less) (λ x. not (freed x)) xs (rows_from_keys cmp id xs up))

-- calls that always give the blank fill a list with it
pub blank_calls : {X F : Type 0} (R : F → X → F → Type 0) (f : F) (blank : X) → ((x : X) (f' : F) → R f x f' → (x ≡ blank) × (f' ≡ f)) → (xs : List X) (last : F) → FoldsTo R f xs last → xs ≡ replicate (length xs) blank
blank_calls R f blank call [] last ran = refl
blank_calls R f blank call (x ∷ xs) last ran =
    let one = call x ran.0 ran.1 in
    let rest = blank_calls R f blank call xs last (subst (λ s. FoldsTo R s xs last) one.1 ran.2) in
    let first = one.0 in
    cc

-- the part behind the kept rows, filled with blanks
pub filled : {X : Type 0} (ys part : List X) (n end : ℕ) (blank : X) → n ≤ end → end ≤ length ys → length part ≡ length (take (end - n) (drop n ys)) → part ≡ replicate (length part) blank → put_mid n (end - n) ys part ≡ paste ys n (replicate (end - n) blank) (end - n)
filled ys part n end blank le within long blanks =
    let size : length part ≡ end - n = long ∙ length-take-le (end - n) (drop n ys) (omega (arith, length-drop n ys)) in
    put_mid-paste n (end - n) ys part (replicate (end - n) blank) (end - n) (blanks ∙ ap (λ m. replicate m blank) size) refl (sym (length-replicate (end - n) blank))

-- what is behind the used rows, as the code cuts it
cut_behind : {X : Type 0} (xs : List X) (used end : ℕ) → end ≡ min used (length xs) → drop end xs ≡ drop used xs
cut_behind xs used end e =
    ⊎_elim
    (λ l. ap (λ n. drop n xs) (omega arith))
    (λ g. drop_all end xs (omega arith) ∙ sym (drop_all used xs (omega arith)))
    (cases_lt used (length xs))

-- all used rows were looked at, and blanks stand behind the kept ones
module _ {X : Type 0} (freed : X → Bool) (blank : X) (all ys zs : List X) (used end n : ℕ) (clamped : end ≡ min used (length all)) (done : FiltersInPlace (λ x. not (freed x)) all ys n end) (filled : zs ≡ paste ys n (replicate (end - n) blank) (end - n)) where
  same_front : take end all ≡ take used all
  same_front = cut all used end clamped

  front : take n ys ≡ kept freed (take used all)
  front = done.front ∙ ap (kept freed) same_front

  count : length (kept freed (take used all)) ≡ n
  count = ap length (sym front) ∙ length-take-le n ys (omega (arith, done.behind, done.within, done.long))

  blanked : zs ≡ kept freed (take used all) ++ (replicate (end - n) blank ++ drop used all)
  blanked =
      let sum : n + (end - n) ≡ end = omega (arith, done.behind) in
      let full = take_all (end - n) (replicate (end - n) blank) (omega (arith, length-replicate (end - n) blank)) in
      let rest : drop end ys ≡ drop used all = done.rest ∙ cut_behind all used end clamped in
      let f = front in
      let a = append_assoc (kept freed (take used all)) (replicate (end - n) blank) (drop used all) in
      cc

  beyond : (j : ℕ) (d : X) → used ≤ j → get_or zs j d ≡ get_or all j d
  beyond j d h =
      let gap = replicate (end - n) blank in
      let e : zs ≡ (kept freed (take used all) ++ gap) ++ drop used all = blanked ∙ sym (append_assoc (kept freed (take used all)) gap (drop used all)) in
      let size : length (kept freed (take used all) ++ gap) ≡ end = omega (arith, length-append (kept freed (take used all)) gap, count, length-replicate (end - n) blank, done.behind) in
      let rest : drop used all ≡ drop end all = sym (cut_behind all used end clamped) in
      let back : end + (j - end) ≡ j = omega (arith, clamped) in
      ap (λ xs. get_or xs j d) (e ∙ ap (λ xs. (kept freed (take used all) ++ gap) ++ xs) rest)
      ∙ get_or-append_right (kept freed (take used all) ++ gap) (drop end all) end j d size (omega (arith, clamped))
      ∙ get_or-drop end all (j - end) d
      ∙ ap (λ m. get_or all m d) back

  pub closed_ascends : {K : Type 0} (cmp : K → K → Ordering) (id : X → K) → Ascending cmp (keys id used all) → Ascending cmp (keys id n zs)
  closed_ascends cmp id up =
      let e : take n zs ≡ kept freed (take used all) = ap (take n) blanked ∙ take_at (kept freed (take used all)) (replicate (end - n) blank ++ drop used all) n count in
      subst (λ (xs : List X). Ascending cmp (map id xs)) (sym e) (ascending_kept cmp id freed (take used all) up)

  pub closes : Closes freed blank used all zs n
  closes =
      let old : length (take used all) ≡ end = ap length (sym same_front) ∙ length-take-le end all done.within in
      let gap : length (take used all) - length (kept freed (take used all)) ≡ end - n = omega (arith, old, count) in
      record {
        count = sym count;
        rows = blanked ∙ ap (λ m. kept freed (take used all) ++ (replicate m blank ++ drop used all)) (sym gap);
        beyond = beyond;
        blanks = λ m rest le h.
            let g : end - n + m ≡ used - n + m = omega (arith, clamped) in
            ap (drop n) blanked
            ∙ drop_at (kept freed (take used all)) (replicate (end - n) blank ++ drop used all) n count
            ∙ ap (λ l. replicate (end - n) blank ++ l) h
            ∙ sym (append_assoc (replicate (end - n) blank) (replicate m blank) rest)
            ∙ ap (λ l. l ++ rest) (replicate-append-replicate (end - n) m blank)
            ∙ ap (λ k. replicate k blank ++ rest) g;
      }
