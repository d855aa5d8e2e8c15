-- What a close answers and leaves.
use Rattle.std.proofs.Common.{◌≡◌, is_some, ℕ, ◌-◌, ◌<◌, ◌≤◌, min, true, false, not, ◌&&◌, List, [], ◌∷◌, ◌++◌, map, length, take, drop, replicate, filter_map, Some, None, Option, Ok, Err, Result, sym, refl, ap, ◌∙◌, subst, arith}
use Rattle.std.proofs.lemmas.Bool.{le-leb, lt-leb}
use Rattle.std.proofs.lemmas.List.Sums.{count_by-le-length, length-filter}
use Rattle.std.proofs.lemmas.List.{length-append, length-drop, length-map, length-replicate, length-take-le, take_all, take_at}
use Rattle.std.specs.List.{AllByRecursion, AllZip}
use Rattle.std.specs.Option.{ok_or, option_map}
use Rattle.business.specs.BusinessDays.{day_no}
use Rattle.business.specs.TargetDays.{next_business}
use Rattle.business.specs.declared.business_day.BusinessDay.{BusinessDay}
use Rattle.codes.specs.Codes.{text_of}
use Rattle.judging.specs.Lines.{close_of, found, verdict_of}
use Rattle.refusals.specs.declared.refusal.Refusal.TheVariants.{CalendarEnds, NoticeListShort, RegisterDisordered}
use Rattle.refusals.specs.declared.refusal.Refusal.{Refusal}
use Rattle.registers.specs.declared.Registers.{Registers}
use Rattle.rows.specs.Blank.{IsBlank}
use Rattle.rows.specs.Closing.{is_freed}
use Rattle.rows.specs.Entries.{Entry, entry_of}
use Rattle.rows.specs.declared.notice.Notice.{Notice}
use Rattle.rows.specs.declared.row.Fate.TheVariants.{Open, Freed, Stays}
use Rattle.rows.specs.declared.row.Fate.{Fate}
use Rattle.rows.specs.declared.row.Row.{Row}
use Rattle.rules.specs.Books.{Book, InOrder, after_close, close_answer, closed, may_close, next_or_end}
use Rattle.rules.specs.Judging.{Close, Verdict, entry_after, judged, with_verdict}
use Rattle.rules.specs.Lists.{in_order}
use Rattle.rules.specs.Slices.{book_of, entries_of, room}
use Rattle.sheets.specs.Sheets.{Meaning}
use Rattle.table.specs.Changes.{Closes as ClosesUp, kept}
use Rattle.closing.specs.Closing.{Closes}
use Rattle.closing.specs.Lists.{lists_of}
use Rattle.closing.specs.Passes.{Passed, Settled, SettledBy, Settles}
use Rattle.closing.specs.declared.table_close.Closed.{Closed}
use Rattle.closing.proofs.Judging.{same_entries_of}

-- ---- refused

-- whatever is refused leaves all as it was
module _ (sheet : Meaning) (c : Close) (today : BusinessDay) (used : ℕ) (xs : List Row) (ws : List Notice) where
  refuses : (refusal : Refusal) → may_close (book_of today used xs) c ≡ Err refusal → Closes sheet c today used xs xs ws ws (Err refusal)
  refuses refusal e =
      let b = book_of today used xs in
      record {
        gives = λ up. record { answers = ap (close_answer sheet b c) e; leaving = ap (after_close sheet b c) e };
        frame = (refl, refl);
      }

  pub refused_as : (r : Result Closed Refusal) (refusal : Refusal) → r ≡ Err refusal → may_close (book_of today used xs) c ≡ Err refusal → Closes sheet c today used xs xs ws ws r
  refused_as r refusal e may = subst (λ (r : Result Closed Refusal). Closes sheet c today used xs xs ws ws r) (sym e) (refuses refusal may)

-- ---- which refusal it is

module _ (b : Book) (c : Close) where
  pub may_not_by_lists : (in_order c.parties && in_order c.countries) ≡ false → may_close b c ≡ Err RegisterDisordered
  may_not_by_lists e = rw (e) refl

  pub may_not_tell : (in_order c.parties && in_order c.countries) ≡ true → c.places < length b.entries → may_close b c ≡ Err NoticeListShort
  may_not_tell e h = let f = lt-leb _ _ h in rw (e, f) refl

  pub may_go : (in_order c.parties && in_order c.countries) ≡ true → length b.entries ≤ c.places → may_close b c ≡ next_or_end (next_business b.day)
  may_go e h = let f = le-leb _ _ h in rw (e, f) refl

pub length_entries : (used : ℕ) (xs : List Row) → length (entries_of (min used (room xs)) xs) ≡ min used (room xs)
length_entries used xs = length-map (take (min used (room xs)) xs) entry_of ∙ length-take-le (min used (room xs)) xs (omega arith)

-- the next day, if there is one
module _ (day : ℕ) where
  pub day_ends : (next : Option BusinessDay) → false ≡ is_some next → option_map day_no next ≡ next_business day → next_or_end (next_business day) ≡ Err CalendarEnds
  day_ends None e f = ap next_or_end (sym f)
  day_ends (Some x) e f = absurd (cc)

  pub day_goes : (found : Option BusinessDay) (next : BusinessDay) → Ok next ≡ ok_or found CalendarEnds → option_map day_no found ≡ next_business day → next_or_end (next_business day) ≡ Ok (day_no next)
  day_goes None next e f = absurd (cc)
  day_goes (Some x) next e f = let same : next ≡ x = cc in ap next_or_end (sym f) ∙ ap (λ (d : BusinessDay). Ok (day_no d)) (sym same)

-- a close that is given the registers is given the lists
pub same_lists : (r : Registers) (parties : List _) (countries : List _) (places : ℕ) → (r.parties.used ≡ length parties) × (r.parties.rows.now ≡ parties) → (r.countries.used ≡ length countries) × (r.countries.rows.now ≡ countries) → close_of r places ≡ lists_of parties countries places
same_lists r parties countries places p q =
    let first = whole r.parties.rows.now parties r.parties.used p.0 p.1 in
    let second = whole r.countries.rows.now countries r.countries.used q.0 q.1 in
    λ i. record { parties = map text_of (first i); countries = map text_of (second i); places = places }
  where
    whole : {X : Type 0} (ys xs : List X) (used : ℕ) → used ≡ length xs → ys ≡ xs → take used ys ≡ xs
    whole ys xs used e f = take_all used ys (omega (arith, ap length f)) ∙ f

-- ---- the rows that stay

abbrev stays : List Row → List Row
stays zs = kept (λ (row : Row). is_freed row.fate) zs

-- none of them has more than its entry
open_one : (y z : Row) (fate : Fate) → y.fate ≡ fate → SettledBy y z (found fate) → (zs : List Row) → AllByRecursion (λ (row : Row). row.fate ≡ Open) (stays zs) → AllByRecursion (λ (row : Row). row.fate ≡ Open) (stays (z ∷ zs))
open_one y z Open e by zs rest =
    let open_still : z.fate ≡ Open = ap (λ (row : Row). row.fate) by ∙ e in
    let kept : not (is_freed z.fate) ≡ true = ap (λ (f : Fate). not (is_freed f)) open_still in
    rw (kept) (open_still, rest)
open_one y z Freed e by zs rest =
    let freed : not (is_freed z.fate) ≡ false = ap (λ (row : Row). not (is_freed row.fate)) by ∙ ap (λ (f : Fate). not (is_freed f)) e in
    rw (freed) rest
open_one y z (Stays v) e by zs rest =
    let kept : not (is_freed z.fate) ≡ true = ap (λ (f : Fate). not (is_freed f)) by.fate in
    rw (kept) (by.fate, rest)

open_left : (ys zs : List Row) → AllZip Settled ys zs → AllByRecursion (λ (row : Row). row.fate ≡ Open) (stays zs)
open_left [] [] by = tt
open_left [] (z ∷ zs) by = elim by [ ]
open_left (y ∷ ys) [] by = elim by [ ]
open_left (y ∷ ys) (z ∷ zs) by = open_one y z y.fate refl by.0 zs (open_left ys zs by.1)

-- what was found of each is what is left of its entry
module _ (j : Entry → Option Verdict) where
  abbrev after : Entry → Option Entry
  after e = option_map (with_verdict e) (j e)

  -- one row and those behind it
  left_one : (y z : Row) (fate : Fate) → y.fate ≡ fate → found fate ≡ Some (j (entry_of y)) → SettledBy y z (found fate) → (zs : List Row) (es : List Entry) → map entry_of (stays zs) ≡ filter_map after es → map entry_of (stays (z ∷ zs)) ≡ filter_map after (entry_of y ∷ es)
  left_one y z Open e f by zs es rest = absurd (cc)
  left_one y z Freed e f by zs es rest =
      let freed : not (is_freed z.fate) ≡ false = ap (λ (row : Row). not (is_freed row.fate)) by ∙ ap (λ (f : Fate). not (is_freed f)) e in
      let none : j (entry_of y) ≡ None = cc in
      rw (freed, none) rest
  left_one y z (Stays v) e f by zs es rest =
      let kept : not (is_freed z.fate) ≡ true = ap (λ (f : Fate). not (is_freed f)) by.fate in
      let some : j (entry_of y) ≡ Some (verdict_of v) = cc in
      let entry = by.entry in
      rw (kept, some) (cc)

  abbrev Found : List Row → Type 0
  Found ys = map (λ (row : Row). found row.fate) ys ≡ map (λ e. Some (j e)) (map entry_of ys)

  head_found : (y : Row) (ys : List Row) → Found (y ∷ ys) → found y.fate ≡ Some (j (entry_of y))
  head_found y ys e = cc

  rest_found : (y : Row) (ys : List Row) → Found (y ∷ ys) → Found ys
  rest_found y ys e = cc

  left : (ys zs : List Row) → AllZip Settled ys zs → Found ys → map entry_of (stays zs) ≡ filter_map after (map entry_of ys)
  left [] [] by e = refl
  left [] (z ∷ zs) by e = elim by [ ]
  left (y ∷ ys) [] by e = elim by [ ]
  left (y ∷ ys) (z ∷ zs) by e = left_one y z y.fate refl (head_found y ys e) by.0 zs (map entry_of ys) (left ys zs by.1 (rest_found y ys e))

-- ---- accepted

module _ (sheet : Meaning) (c : Close) (today next : BusinessDay) (used : ℕ) (xs ys zs rows : List Row) (ws notices : List Notice) (sent pairs n : ℕ) (blank : Row) where
  abbrev size : ℕ
  size = min used (room xs)

  abbrev Judged : ℕ → Type 0
  Judged k = Passed sheet c (day_no today) k xs ys ws notices sent pairs k

  abbrev Left : ℕ → Type 0
  Left k = ClosesUp (λ (row : Row). is_freed row.fate) blank k zs rows n

  module _ (all : Judged size) (settled : Settles size ys zs) (up : Left size) where
    abbrev front_rows : List Row
    front_rows = take size zs

    front : take n rows ≡ stays front_rows
    front = ap (take n) up.rows ∙ take_at (stays front_rows) _ n (sym up.count)

    within : length front_rows ≡ size
    within = length-take-le size zs (omega (arith, settled.count, all.count))

    few : n ≤ size
    few = omega (arith, up.count, length-filter (λ (row : Row). not (is_freed row.fate)) front_rows, count_by-le-length (λ (row : Row). not (is_freed row.fate)) front_rows, within)

    long : length rows ≡ length xs
    long =
        let gap = replicate (length front_rows - length (stays front_rows)) blank in
        let parts = ap length up.rows ∙ length-append (stays front_rows) (gap ++ drop size zs) in
        let behind = length-append gap (drop size zs) in
        let size_of = length-replicate (length front_rows - length (stays front_rows)) blank in
        omega (arith, parts, behind, size_of, length-drop size zs, within, few, up.count, settled.count, all.count)

    behind : drop n rows ≡ replicate (size - n) blank ++ drop size xs
    behind =
        let rest : drop size zs ≡ drop size xs = settled.behind ∙ all.ahead in
        up.blanks 0 (drop size xs) (omega (arith, settled.count, all.count)) rest ∙ ap (λ k. replicate k blank ++ drop size xs) (omega arith)

    same : entries_of size ys ≡ entries_of size xs
    same = same_entries_of size xs ys all.entries

    left_entries : InOrder (entries_of size xs) → filter_map (entry_after sheet c (day_no today) (entries_of size xs)) (entries_of size xs) ≡ entries_of (min n (room rows)) rows
    left_entries order =
        let j = judged sheet c (day_no today) (entries_of size xs) in
        let found_of : Found j (take size ys) = all.fates order ∙ ap (map (λ (e : Entry). Some (j e))) (sym same) in
        let count : n ≡ min n (room rows) = omega (arith, few, long) in
        ap (filter_map (entry_after sheet c (day_no today) (entries_of size xs))) (sym same)
        ∙ sym (left j (take size ys) front_rows settled.rows found_of)
        ∙ ap (map entry_of) (sym front)
        ∙ ap (λ k. map entry_of (take k rows)) count

    closes_all : size ≤ length ws → IsBlank blank → may_close (book_of today used xs) c ≡ Ok (day_no next) → Closes sheet c today used xs rows ws notices (Ok (record { used = n; notices = sent; pairs = pairs; next_day = next }))
    closes_all fits is_blank may = record {
      gives = λ order.
          let b = book_of today used xs in
          let told = all.notices order in
          let count = all.pairs_counted order in
          let entries = left_entries order in
          let room_on : room xs ≡ room rows = ap (λ k. min k 4096) (sym long) in
          record {
            answers = ap (close_answer sheet b c) may ∙ (λ i. closed (sym told i) (sym count i) (day_no next));
            leaving = ap (after_close sheet b c) may ∙ (λ i. record { day = day_no next; size = room_on i; entries = entries i });
          };
      frame = record {
        count = long;
        few = few;
        fates = subst (λ (l : List Row). AllByRecursion (λ (row : Row). row.fate ≡ Open) l) (sym front) (open_left (take size ys) front_rows settled.rows);
        blank = blank;
        is_blank = is_blank;
        behind = behind;
        sent = omega (arith, all.few, fits);
        places = all.places;
        unused = all.behind;
      };
    }

  -- as the code says how many rows are used
  pub accepted : (k : ℕ) → k ≡ min used (room xs) → k ≤ length ws → Judged k → Settles k ys zs → Left k → IsBlank blank → may_close (book_of today used xs) c ≡ Ok (day_no next) → Closes sheet c today used xs rows ws notices (Ok (record { used = n; notices = sent; pairs = pairs; next_day = next }))
  accepted k e fits all settled up =
      closes_all
      (subst Judged e all)
      (subst (λ (m : ℕ). Settles m ys zs) e settled)
      (subst Left e up)
      (omega (arith, e, fits))
