-- A day's number and its year, month and day give each other, and so do a day's number and its text.
use Rattle.std.proofs.Common.{◌≡◌, ℕ, ◌+◌, ◌-◌, ◌<◌, ◌≤◌, true, List, get_or, Some, None, sum, Option, IfOk, Ok, Err, Result, sym, refl, ap, ◌∙◌, inl, inr, arith}
use Rattle.std.proofs.lemmas.List.{take_all}
use Rattle.std.proofs.lemmas.Bool.{cases_Bool, cond-true}
use Rattle.std.proofs.lemmas.Bool.Decides.{nat_tests}
use Rattle.calendar.specs.Gregorian.{century, day_at, day_number, day_of_year, days_before, existing, exists, month_at, months_of, part_of, year_at}
use Rattle.texts.specs.ThreeNumbers.{three_of}
use Rattle.calendar.specs.Text.{NamesDay, ReadsDate, date_of, date_text, day_of_three}
use Rattle.std.specs.Option.{option_map}
use Rattle.std.specs.Result.{result_ok}
use Rattle.calendar.specs.Dates.{number}
use Rattle.calendar.specs.declared.date.Date.{Date}
use Rattle.calendar.proofs.Parts.{century_days, century_length, exists_parts, month_most, month_next, months_all, months_length, part_at, part_sound, year_length}
use Rattle.texts.proofs.ThreeNumbers.{three_back, three_text_lem}

-- the days of a year are those of its months
whole_year : (y : ℕ) → sum (months_of y) ≡ days_before (months_of y) 12
whole_year y = ap sum (sym (take_all 12 (months_of y) (omega (arith, months_length y))))

-- each day has a year, month and day, which exist and give its number
pub civil_of : (n : ℕ) → n < 36525 → (exists (year_at n) (month_at n) (day_at n) ≡ true) × (day_number (year_at n) (month_at n) (day_at n) ≡ n)
unfolding year_at day_of_year month_at day_at
civil_of n h =
    let p = part_sound century n (omega (arith, century_days)) in
    let i : ℕ = (part_of century n).0 in
    let r : ℕ = (part_of century n).1 in
    let y : ℕ = 2000 + i in
    let few : i < 100 = omega (arith, p.0, century_length) in
    let q = part_sound (months_of y) r (omega (arith, p.1, year_length i few, whole_year y)) in
    let m : ℕ = (part_of (months_of y) r).0 in
    let d : ℕ = (part_of (months_of y) r).1 in
    let month : m < 12 = omega (arith, q.0, months_length y) in
    let em : 1 + m - 1 ≡ m = omega arith in
    let ed : 1 + d - 1 ≡ d = omega arith in
    let ey : y - 2000 ≡ i = omega arith in
    let short : 1 + d ≤ get_or (months_of y) (1 + m - 1) 0 = rw em (omega (arith, q.1)) in
    let sum_is : days_before century i + days_before (months_of y) m + d ≡ n = omega (arith, p.2, q.2) in
    (grind (arith, nat_tests), rw (ey, em, ed) sum_is)

-- the number of an existing day gives its year, month and day back
pub civil_back : (y m d : ℕ) → exists y m d ≡ true → (year_at (day_number y m d) ≡ y) × (month_at (day_number y m d) ≡ m) × (day_at (day_number y m d) ≡ d)
unfolding year_at day_of_year month_at day_at
civil_back y m d h =
    let e = exists_parts y m d h in
    let i : ℕ = y - 2000 in
    let r : ℕ = days_before (months_of y) (m - 1) + (d - 1) in
    let ey : 2000 + i ≡ y = omega (arith, e.0) in
    let em : m - 1 < 12 = omega (arith, e.2, e.3) in
    let short : d - 1 < get_or (months_of y) (m - 1) 0 = omega (arith, e.4, e.5) in
    let inside : r < get_or century i 0 =
    omega (arith, short, month_next y (m - 1) em, months_all y (m - 1 + 1), year_length i (omega (arith, e.1)), ap (λ (k : ℕ). days_before (months_of k) 12) ey) in
    let n : day_number y m d ≡ days_before century i + r = omega arith in
    let p : part_of century (day_number y m d) ≡ (i, r) = ap (part_of century) n ∙ part_at century i r (omega (arith, e.1, century_length)) inside in
    let q : part_of (months_of y) r ≡ (m - 1, d - 1) = part_at (months_of y) (m - 1) (d - 1) (omega (arith, em, months_length y)) short in
    let year : 2000 + (part_of century (day_number y m d)).0 ≡ y = ap (λ (x : ℕ × ℕ). 2000 + x.0) p ∙ ey in
    let rest : part_of (months_of (2000 + (part_of century (day_number y m d)).0)) (part_of century (day_number y m d)).1 ≡ (m - 1, d - 1) =
    ap (λ (k : ℕ). part_of (months_of k) (part_of century (day_number y m d)).1) year ∙ ap (λ (x : ℕ × ℕ). part_of (months_of y) x.1) p ∙ q in
    (year, ap (λ (x : ℕ × ℕ). 1 + x.0) rest ∙ omega (arith, e.2), ap (λ (x : ℕ × ℕ). 1 + x.1) rest ∙ omega (arith, e.4))

-- the text of an existing day is read as its number
pub date_read : (text : List ℕ) (n : ℕ) → NamesDay text n → date_of text ≡ Some n
unfolding date_of existing
date_read text n s =
    let e = exists_parts s.year s.month s.day s.there in
    let short : s.day ≤ 31 = omega (arith, e.5, month_most s.year (s.month - 1) (omega (arith, e.2, e.3))) in
    ap (λ (t : List ℕ). day_of_three (three_of 4 45 t)) s.spelt
    ∙ ap day_of_three (three_text_lem 4 45 s.year s.month s.day (omega (arith, e.1)) (omega (arith, e.3)) (omega arith))
    ∙ cond-true (exists s.year s.month s.day) (Some (day_number s.year s.month s.day)) None s.there
    ∙ ap Some s.is

day_of : (y m d n : ℕ) → existing y m d ≡ Some n → (exists y m d ≡ true) × (day_number y m d ≡ n)
unfolding existing
day_of y m d n e =
    elim (cases_Bool (exists y m d)) [
      | inl t ↦ (t, let s : Some (day_number y m d) ≡ Some n = rw t at e in cc)
      | inr f ↦ (let s : None ≡ Some n = rw f at e in absurd (cc))
    ]

-- what is read spells the day
from_three : (text : List ℕ) (o : Option (ℕ × ℕ × ℕ)) (n : ℕ) → three_of 4 45 text ≡ o → day_of_three o ≡ Some n → NamesDay text n
from_three text None n e h = absurd (cc)
from_three text (Some p) n e h =
    let d = day_of p.0 p.1 p.2 n h in
    record { year = p.0; month = p.1; day = p.2; spelt = three_back 4 45 text p e; there = d.0; is = d.1 }

pub date_names : (text : List ℕ) (n : ℕ) → date_of text ≡ Some n → NamesDay text n
unfolding date_of
date_names text n e = from_three text (three_of 4 45 text) n refl e

-- each day has one text
pub one_text : (text : List ℕ) (n : ℕ) → NamesDay text n → text ≡ date_text n
one_text text n s =
    let b = civil_back s.year s.month s.day s.there in
    cc

pub reads_date : (text : List ℕ) (o : Option ℕ) → o ≡ date_of text → ReadsDate text o
reads_date text o e n = (λ s. e ∙ date_read text n s, λ k. date_names text n (sym e ∙ k))

pub read_once : {E : Type 0} (text : List ℕ) (r : Result Date E) → option_map number (result_ok r) ≡ date_of text → IfOk r (λ d. text ≡ date_text (number d))
read_once text (Err _) e = tt
read_once text (Ok d) e = one_text text (number d) (date_names text (number d) (sym e))

pub text_names : (n : ℕ) → n < 36525 → NamesDay (date_text n) n
text_names n h =
    let c = civil_of n h in
    record { year = year_at n; month = month_at n; day = day_at n; spelt = refl; there = c.0; is = c.1 }

pub text_back : (text : List ℕ) (n : ℕ) → n < 36525 → text ≡ date_text n → date_of text ≡ Some n
text_back text n h e = ap date_of e ∙ date_read (date_text n) n (text_names n h)
