-- Parts that follow one another: which of them has a day, and how far into it the day is.
use Rattle.std.proofs.Common.{◌≡◌, ℕ, zero, suc, ◌+◌, ◌-◌, ◌*◌, ◌/◌, ◌%◌, ◌<◌, ◌≤◌, min, Bool, true, false, ltb, leb, List, [], ◌∷◌, length, get_or, take, drop, sum, sym, refl, ap, ◌∙◌, subst, inl, inr, arith, lit≤}
use Rattle.std.proofs.lemmas.List.Sums.{prefix_len-le-length, prefix_len_passes, prefix_len_stops, sum_by-cons, sum_by_more, sum_by-take-le}
use Rattle.std.proofs.lemmas.List.{get_or-drop, get_or-take, length-drop, length-take-le, take_all}
use Rattle.std.proofs.lemmas.Bool.{leb-true, leb-false, lt-ltb, le-ltb, cases_lt}
use Rattle.std.proofs.lemmas.Bool.Decides.{nat_tests}
use Rattle.std.proofs.Math.Nat.{add_comm}
use Rattle.std.specs.List.{prefix_len}
use Rattle.calendar.specs.Gregorian.{century, day_number, day_of_year, days_before, exists, leap, month_lengths, months_of, part_of, year_at}
use Rattle.calendar.proofs.Spans.{equal_below, years_before}

before_next : (l : ℕ) (ls : List ℕ) (i : ℕ) → days_before (l ∷ ls) (suc i) ≡ l + days_before ls i
before_next l ls i = sum_by-cons (λ x. x) l (take i ls)

-- the day that lies r days into part i
pub part_at : (ls : List ℕ) (i r : ℕ) → i < length ls → r < get_or ls i 0 → part_of ls (days_before ls i + r) ≡ (i, r)
part_at [] i r h k = absurd (omega arith)
part_at (l ∷ ls) zero r h k =
    let e : 0 + r ≡ r = omega arith in
    let t : ltb r l ≡ true = lt-ltb r l k in
    rw (e, t)
part_at (l ∷ ls) (suc i) r h k =
    let n : ℕ = l + days_before ls i + r in
    let e : days_before (l ∷ ls) (suc i) + r ≡ n = rw (before_next l ls i) refl in
    let f : ltb n l ≡ false = le-ltb n l (omega arith) in
    let m : n - l ≡ days_before ls i + r = omega arith in
    let q : part_of ls (days_before ls i + r) ≡ (i, r) = part_at ls i r (omega arith) k in
    ap (part_of (l ∷ ls)) e ∙ rw (f, m, q) refl

-- the part that begins on day n or before and ends after it
pub part_found : (ls : List ℕ) (n i : ℕ) → i < length ls → days_before ls i ≤ n → n < days_before ls (i + 1) → part_of ls n ≡ (i, n - days_before ls i)
part_found ls n i h low high =
    let e : days_before ls i + (n - days_before ls i) ≡ n = omega arith in
    ap (part_of ls) (sym e) ∙ part_at ls i (n - days_before ls i) h (omega (arith, sum_by_more (λ x. x) ls i 0 h))

-- every day before the end of all parts lies in one of them
pub part_sound : (ls : List ℕ) (n : ℕ) → n < sum ls → ((part_of ls n).0 < length ls) × ((part_of ls n).1 < get_or ls (part_of ls n).0 0) × (days_before ls (part_of ls n).0 + (part_of ls n).1 ≡ n)
part_sound [] n h = absurd (omega arith)
part_sound (l ∷ ls) n h =
    elim (cases_lt n l) [
      | inl lt ↦ (let t : ltb n l ≡ true = lt-ltb n l lt in rw t (omega arith, lt, omega arith))
      | inr le ↦
          let f : ltb n l ≡ false = le-ltb n l le in
          let r = part_sound ls (n - l) (omega (arith, sum_by-cons (λ x. x) l ls)) in
          rw f (omega (arith, r.0), r.1, omega (arith, r.2, before_next l ls (part_of ls (n - l)).0))
    ]

-- which of the hundred years has day n
abbrev pub year_index : ℕ → ℕ
year_index n = n / 1461 * 4 + (n % 1461 - 1) / 365

-- four years of 1,461 days, the first of them a leap year
within_four : (q r m : ℕ) → r < 1461 → m ≡ (r - 1) / 365 → (m ≤ 3) × ((q * 4 + m) * 365 + (q * 4 + m + 3) / 4 ≤ q * 1461 + r) × (q * 1461 + r < (q * 4 + m + 1) * 365 + (q * 4 + m + 1 + 3) / 4)
within_four q r m h e = (omega arith, omega arith, omega arith)

year_bounds : (n : ℕ) → n < 36525 → (year_index n < 100) × (days_before century (year_index n) ≤ n) × (n < days_before century (year_index n + 1))
year_bounds n h =
    let p = within_four (n / 1461) (n % 1461) ((n % 1461 - 1) / 365) (omega arith) refl in
    let i : year_index n < 100 = omega (arith, p.0, p.1) in
    (i, omega (arith, p.1, years_before (year_index n) (omega arith)), omega (arith, p.2, years_before (year_index n + 1) (omega arith)))

-- a year's length is the sum of its months
pub year_length : (i : ℕ) → i < 100 → get_or century i 0 ≡ days_before (months_of (2000 + i)) 12
unfolding century months_of
year_length = equal_below (λ i. get_or century i 0) (λ i. days_before (months_of (2000 + i)) 12) 100 refl

pub century_length : length century ≡ 100
unfolding century
century_length = refl

next_year : (i : ℕ) → i < 100 → days_before century (i + 1) ≡ days_before century i + days_before (months_of (2000 + i)) 12
next_year i h = sum_by_more (λ x. x) century i 0 (omega (arith, century_length)) ∙ ap (λ (x : ℕ). days_before century i + x) (year_length i h)

pub year_next : (y : ℕ) → 2000 ≤ y → y ≤ 2099 → days_before century (y - 2000 + 1) ≡ days_before century (y - 2000) + days_before (months_of y) 12
year_next y low high =
    let e : 2000 + (y - 2000) ≡ y = omega arith in
    next_year (y - 2000) (omega arith) ∙ ap (λ (x : ℕ). days_before century (y - 2000) + days_before (months_of x) 12) e

-- day n lies in year y, which begins on day `start`
pub record InYear (n y start : ℕ) : Type 0 where
  pub begun : start ≤ n
  pub year : y ≡ year_at n
  pub days : n - start ≡ day_of_year n
  pub within : n - start < days_before (months_of y) 12

pub in_year : (n y start : ℕ) → n < 36525 → y ≡ 2000 + year_index n → start ≡ days_before century (y - 2000) → InYear n y start
unfolding year_at day_of_year
in_year n y start h e s =
    let b = year_bounds n h in
    let i : y - 2000 ≡ year_index n = omega (arith, e) in
    let low : days_before century (y - 2000) ≤ n = rw i b.1 in
    let high : n < days_before century (y - 2000 + 1) = rw i b.2 in
    let found : (y - 2000, n - days_before century (y - 2000)) ≡ part_of century n =
    sym (part_found century n (y - 2000) (omega (arith, i, b.0, century_length)) low high) in
    record {
      begun = omega (arith, s, low);
      year = e ∙ ap (λ (k : ℕ). 2000 + k) (sym i) ∙ ap (λ (p : ℕ × ℕ). 2000 + p.0) found;
      days = rw s (ap (λ (p : ℕ × ℕ). p.1) found);
      within = omega (arith, s, high, year_next y (omega (arith, e)) (omega (arith, i, b.0)));
    }

pub months_length : (y : ℕ) → length (months_of y) ≡ 12
unfolding months_of
months_length y = refl

pub month_next : (y m : ℕ) → m < 12 → days_before (months_of y) (m + 1) ≡ days_before (months_of y) m + get_or (months_of y) m 0
month_next y m h = sum_by_more (λ x. x) (months_of y) m 0 (omega (arith, months_length y))

-- the days of all hundred years
pub century_days : sum century ≡ 36525
unfolding century
century_days = refl

-- the days of a whole year
pub months_all : (y m : ℕ) → days_before (months_of y) m ≤ days_before (months_of y) 12
months_all y m =
    let e : take 12 (months_of y) ≡ months_of y = take_all 12 (months_of y) (omega (arith, months_length y)) in
    omega (arith, sum_by-take-le (λ x. x) (months_of y) m, ap sum e)

year_most : (b : Bool) → days_before (month_lengths b) 12 ≤ 366
year_most true = lit≤ tt
year_most false = lit≤ tt

pub months_most : (y m : ℕ) → days_before (months_of y) m ≤ 366
unfolding months_of
months_most y m = omega (arith, months_all y m, year_most (leap y))

-- what exists returns of its arguments
pub exists_parts : (y m d : ℕ) → exists y m d ≡ true → (2000 ≤ y) × (y ≤ 2099) × (1 ≤ m) × (m ≤ 12) × (1 ≤ d) × (d ≤ get_or (months_of y) (m - 1) 0)
exists_parts y m d h = grind (arith, nat_tests)

pub number_below : (y m d : ℕ) → exists y m d ≡ true → day_number y m d < 36525
number_below y m d h =
    let p = exists_parts y m d h in
    omega (arith, p.0, p.1, p.2, p.3, p.4, p.5, year_next y p.0 p.1, month_next y (m - 1) (omega (arith, p.2, p.3)), months_all y (m - 1 + 1), sum_by-take-le (λ x. x) century (y - 2000 + 1), century_days)

month_short : (b : Bool) (m : ℕ) → m < 12 → min 31 (get_or (month_lengths b) m 0) ≡ get_or (month_lengths b) m 0
month_short true = equal_below (λ m. min 31 (get_or (month_lengths true) m 0)) (λ m. get_or (month_lengths true) m 0) 12 refl
month_short false = equal_below (λ m. min 31 (get_or (month_lengths false) m 0)) (λ m. get_or (month_lengths false) m 0) 12 refl

pub month_most : (y m : ℕ) → m < 12 → get_or (months_of y) m 0 ≤ 31
unfolding months_of
month_most y m h = omega (arith, month_short (leap y) m h)

-- m months begin on day d of year y or before it, by the days before each
pub record Begun (y d m : ℕ) (starts : List ℕ) : Type 0 where
  pub few : m < 12
  pub begun : get_or starts m 0 ≤ d
  pub parts : (m, d - get_or starts m 0) ≡ part_of (months_of y) d
  pub short : d - get_or starts m 0 < 31

pub month_begun : (y d m : ℕ) (starts : List ℕ) → length starts ≡ 13 → ((k : ℕ) → k ≤ 12 → get_or starts k 0 ≡ days_before (months_of y) k) → d < days_before (months_of y) 12 → m ≡ prefix_len (λ s. leb s d) (take 11 (drop 1 starts)) → Begun y d m starts
month_begun y d m starts len is within e =
    let xs : List ℕ = take 11 (drop 1 starts) in
    let eleven : length xs ≡ 11 = length-take-le 11 (drop 1 starts) (omega (arith, length-drop 1 starts)) in
    let at : (k : ℕ) → k < 11 → get_or xs k 0 ≡ days_before (months_of y) (k + 1) =
    λ k h. get_or-take 11 (drop 1 starts) k 0 h ∙ get_or-drop 1 starts k 0 ∙ ap (λ (i : ℕ). get_or starts i 0) (add_comm 1 k) ∙ is (k + 1) (omega arith) in
    let most : m ≤ 11 = omega (arith, e, eleven, prefix_len-le-length (λ s. leb s d) xs) in
    let low : days_before (months_of y) m ≤ d =
    elim (cases_lt 0 m) [
      | inl some ↦
          let p = prefix_len_passes (λ s. leb s d) xs (m - 1) 0 (omega (arith, e)) in
          let i : m - 1 + 1 ≡ m = omega arith in
          subst (λ (k : ℕ). days_before (months_of y) k ≤ d) i (omega (arith, at (m - 1) (omega arith), leb-true (get_or xs (m - 1) 0) d p))
      | inr none ↦ (let z : m ≡ 0 = omega arith in rw z (omega arith))
    ] in
    let high : d < days_before (months_of y) (m + 1) =
    elim (cases_lt m 11) [
      | inl more ↦
          let q = prefix_len_stops (λ s. leb s d) xs 0 (omega (arith, e, eleven)) in
          let f : leb (get_or xs m 0) d ≡ false = rw e q in
          omega (arith, at m more, leb-false (get_or xs m 0) d f)
      | inr last ↦ (let i : m + 1 ≡ 12 = omega arith in rw i within)
    ] in
    let start : get_or starts m 0 ≡ days_before (months_of y) m = is m (omega arith) in
    let found = part_found (months_of y) d m (omega (arith, most, months_length y)) low high in
    record {
      few = omega (arith, most);
      begun = omega (arith, start, low);
      parts = rw start (sym found);
      short = omega (arith, start, month_next y m (omega arith), month_most y m (omega arith));
    }
