-- One row judged.
use Rattle.std.proofs.Common.{◌≡◌, ℕ, ◌+◌, ◌<◌, ◌≤◌, Bool, true, false, cond, List, [], ◌∷◌, ◌++◌, map, length, get_or, take, drop, slice_set, filter_map, count_by, Some, None, Option, sym, ap, ◌∙◌, subst, arith}
use Rattle.std.proofs.lemmas.Grind.{drop_more_same}
use Rattle.std.proofs.lemmas.List.{append-nil, drop-set-lt, get_or-drop, length-set, map-append, take-map, take_more, take_more_set}
use Rattle.std.proofs.lemmas.List.Elements.{filter_map-append}
use Rattle.std.proofs.lemmas.List.Sums.{sum_by-append}
use Rattle.std.proofs.Math.Seq.{map-set_same}
use Rattle.std.specs.List.{cons_option}
use Rattle.std.specs.Option.{option_map}
use Rattle.judging.specs.Lines.{found, notice_found, notice_told}
use Rattle.rows.specs.Entries.{Entry, entry_of}
use Rattle.rows.specs.declared.notice.Notice.{Notice}
use Rattle.rows.specs.declared.row.Row.{Row}
use Rattle.rules.specs.Judging.{Close, judged, notice_of, takes_up}
use Rattle.rules.specs.Judging as rules
use Rattle.rules.specs.Slices.{entries_of}
use Rattle.rules.specs.Books.{InOrder}
use Rattle.sheets.specs.Sheets.{Meaning}
use Rattle.closing.specs.Passes.{Passed}

pub same_entries_of : (used : ℕ) (xs ys : List Row) → map entry_of ys ≡ map entry_of xs → entries_of used ys ≡ entries_of used xs
same_entries_of used xs ys e = sym (take-map entry_of used ys) ∙ ap (take used) e ∙ take-map entry_of used xs

-- a row not judged yet is as it was
pub row_ahead : (xs ys : List Row) (i : ℕ) (d : Row) → drop i ys ≡ drop i xs → get_or xs i d ≡ get_or ys i d
row_ahead xs ys i d e = sym (at xs) ∙ ap (λ (l : List Row). get_or l 0 d) (sym e) ∙ at ys
  where
    at : (l : List Row) → get_or (drop i l) 0 d ≡ get_or l i d
    at l = get_or-drop i l 0 d ∙ ap (λ n. get_or l n d) (omega arith)

entries_more : (xs : List Row) (i : ℕ) (d : Row) → i < length xs → entries_of (i + 1) xs ≡ entries_of i xs ++ entry_of (get_or xs i d) ∷ []
entries_more xs i d h = ap (map entry_of) (take_more xs i d h) ∙ map-append entry_of (take i xs) (get_or xs i d ∷ [])

-- a notice is put down if there is one
abbrev pub Noted : List Notice → ℕ → Option Notice → List Notice → ℕ → Type 0
Noted zs sent None after n = (after ≡ zs) × (n ≡ sent)
Noted zs sent (Some z) after n = (after ≡ slice_set zs sent z) × (n ≡ sent + 1)

module _ (ws zs after : List Notice) (sent n i : ℕ) where
  noted_few : (o : Option Notice) → Noted zs sent o after n → sent ≤ i → n ≤ i + 1
  noted_few None e h = omega (arith, e.1)
  noted_few (Some z) e h = omega (arith, e.1)

  noted_places : (o : Option Notice) → Noted zs sent o after n → length zs ≡ length ws → length after ≡ length ws
  noted_places None e h = ap length e.0 ∙ h
  noted_places (Some z) e h = ap length e.0 ∙ length-set zs sent z ∙ h

  noted_behind : (o : Option Notice) → Noted zs sent o after n → drop sent zs ≡ drop sent ws → drop n after ≡ drop n ws
  noted_behind None e h = let p = e.0 in let q = e.1 in cc
  noted_behind (Some z) e h =
      let p = e.0 in
      let q = e.1 in
      let past = drop-set-lt (sent + 1) zs sent z (omega arith) in
      let same = drop_more_same zs ws sent h in
      cc

  noted_told : (f : Entry → Option rules.Notice) (es : List Entry) (e : Entry) (o : Option Notice) → sent < length zs → Noted zs sent o after n → option_map notice_told o ≡ f e → map notice_told (take sent zs) ≡ filter_map f es → map notice_told (take n after) ≡ filter_map f (es ++ e ∷ [])
  noted_told f es e None h m t before =
      let p = m.0 in
      let q = m.1 in
      let more = filter_map-append f es (e ∷ []) in
      let one : filter_map f (e ∷ []) ≡ [] = ap (λ (o : Option rules.Notice). cons_option o []) (sym t) in
      let end = append-nil (filter_map f es) in
      cc
  noted_told f es e (Some z) h m t before =
      let p = m.0 in
      let q = m.1 in
      let more = filter_map-append f es (e ∷ []) in
      let one : filter_map f (e ∷ []) ≡ notice_told z ∷ [] = ap (λ (o : Option rules.Notice). cons_option o []) (sym t) in
      let put = take_more_set zs sent z h in
      let each = map-append notice_told (take sent zs) (z ∷ []) in
      cc

-- the rows after a write that changes no entry
module _ (xs ys : List Row) (i : ℕ) (x y : Row) (count : length ys ≡ length xs) (h : i < length xs) (at : x ≡ get_or ys i x) (same : entry_of y ≡ entry_of x) where
  entries_on : map entry_of ys ≡ map entry_of xs → map entry_of (slice_set ys i y) ≡ map entry_of xs
  entries_on e = map-set_same entry_of ys i y x (same ∙ ap entry_of at) ∙ e

  fates_on : (g : Entry → Option rules.Verdict) → drop i ys ≡ drop i xs → found y.fate ≡ Some (g (entry_of x)) → map (λ (row : Row). found row.fate) (take i ys) ≡ map (λ e. Some (g e)) (entries_of i xs) → map (λ (row : Row). found row.fate) (take (i + 1) (slice_set ys i y)) ≡ map (λ e. Some (g e)) (entries_of (i + 1) xs)
  fates_on g rest e before =
      let written = take_more_set ys i y (omega arith) in
      let more = entries_more xs i x h in
      let one : entry_of (get_or xs i x) ≡ entry_of x = ap entry_of (row_ahead xs ys i x rest ∙ sym at) in
      let left = map-append (λ (row : Row). found row.fate) (take i ys) (y ∷ []) in
      let right = map-append (λ (e : Entry). Some (g e)) (entries_of i xs) (entry_of x ∷ []) in
      cc

counted_few : (taken : Bool) (pairs m i : ℕ) → m ≡ pairs + cond taken 1 0 → pairs ≤ i → m ≤ i + 1
counted_few true pairs m i e h = omega arith
counted_few false pairs m i e h = omega arith

counted_on : (f : Entry → Bool) (es : List Entry) (e : Entry) (taken : Bool) (pairs m : ℕ) → m ≡ pairs + cond taken 1 0 → taken ≡ f e → pairs ≡ count_by f es → m ≡ count_by f (es ++ e ∷ [])
counted_on f es e taken pairs m is t before =
    let more = sum_by-append (λ (x : Entry). cond (f x) 1 0) es (e ∷ []) in
    let one : cond {A = ℕ} taken 1 0 ≡ cond (f e) 1 0 = ap (λ (b : Bool). cond {A = ℕ} b 1 0) t in
    omega (arith, more, one)

-- at the end of the loop
pub until : {s : Meaning} {c : Close} {today used : ℕ} {xs ys : List Row} {ws zs : List Notice} {sent pairs i : ℕ} (n : ℕ) → i ≡ n → Passed s c today used xs ys ws zs sent pairs i → Passed s c today used xs ys ws zs sent pairs n
until {s} {c} {today} {used} {xs} {ys} {ws} {zs} {sent} {pairs} n e p = subst (λ (k : ℕ). Passed s c today used xs ys ws zs sent pairs k) e p

-- the next row is judged by what the rows hold, which is what they held before the close
module _ {s : Meaning} {c : Close} {today used : ℕ} {xs ys : List Row} {ws zs : List Notice} {sent pairs i : ℕ} (p : Passed s c today used xs ys ws zs sent pairs i) (h : i < used) (within : used ≤ length xs) (room : used ≤ length ws) where
  same : entries_of used ys ≡ entries_of used xs
  same = same_entries_of used xs ys p.entries

  pub turn : (x y : Row) (taken : Bool) (o : Option Notice) (after : List Notice) (n m : ℕ) → x ≡ get_or ys i x → entry_of y ≡ entry_of x → (InOrder (entries_of used ys) → found y.fate ≡ Some (judged s c today (entries_of used ys) (entry_of x))) → (InOrder (entries_of used ys) → taken ≡ takes_up c today (entries_of used ys) (entry_of x)) → option_map notice_told o ≡ notice_found (entry_of x) (found y.fate) → Noted zs sent o after n → m ≡ pairs + cond taken 1 0 → Passed s c today used xs (slice_set ys i y) ws after n m (i + 1)
  turn x y taken o after n m at kept fate take_up told noted counted =
      let lt : i < length xs = omega arith in
      let one : entry_of (get_or xs i x) ≡ entry_of x = ap entry_of (row_ahead xs ys i x p.ahead ∙ sym at) in
      let more : entries_of (i + 1) xs ≡ entries_of i xs ++ entry_of x ∷ [] = entries_more xs i x lt ∙ ap (λ (e : Entry). entries_of i xs ++ e ∷ []) one in
      let as_before = λ (up : InOrder (entries_of used xs)). subst (λ (es : List Entry). InOrder es) (sym same) up in
      let verdict = λ (up : InOrder (entries_of used xs)). subst (λ (es : List Entry). found y.fate ≡ Some (judged s c today es (entry_of x))) same (fate (as_before up)) in
      record {
        count = length-set ys i y ∙ p.count;
        entries = entries_on xs ys i x y p.count lt at kept p.entries;
        ahead = drop-set-lt (i + 1) ys i y (omega arith) ∙ drop_more_same ys xs i p.ahead;
        few = noted_few ws zs after sent n i o noted p.few;
        few_pairs = counted_few taken pairs m i counted p.few_pairs;
        places = noted_places ws zs after sent n i o noted p.places;
        behind = noted_behind ws zs after sent n i o noted p.behind;
        fates = λ up. fates_on xs ys i x y p.count lt at kept (judged s c today (entries_of used xs)) p.ahead (verdict up) (p.fates up);
        notices = λ up.
            let f = notice_of s c today (entries_of used xs) in
            noted_told ws zs after sent n i f (entries_of i xs) (entry_of x) o (omega (arith, p.few, p.places)) noted (told ∙ ap (notice_found (entry_of x)) (verdict up)) (p.notices up) ∙ ap (filter_map f) (sym more);
        pairs_counted = λ up.
            let f = takes_up c today (entries_of used xs) in
            let t = subst (λ (es : List Entry). taken ≡ takes_up c today es (entry_of x)) same (take_up (as_before up)) in
            counted_on f (entries_of i xs) (entry_of x) taken pairs m counted t (p.pairs_counted up) ∙ ap (count_by f) (sym more);
      }
