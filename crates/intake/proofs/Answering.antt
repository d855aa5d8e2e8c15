-- What a report answers and leaves, from what became of its row.
use Rattle.std.proofs.Common.{◌≡◌, ℕ, suc, ◌<◌, ◌≤◌, Bool, true, false, cond, List, length, get_or, take, set, min, nat_le, Some, None, Option, Ok, Err, Result, inl, inr, ◌∙◌, refl, sym, ap, subst, arith}
use Rattle.std.specs.Prelude.{⊤}
use Rattle.std.proofs.lemmas.Bool.{leb-true}
use Rattle.std.proofs.lemmas.List.{get_or_default, length-map, length-take-le, set-get_or}
use Rattle.business.specs.BusinessDays.{day_no}
use Rattle.business.specs.declared.business_day.BusinessDay.{BusinessDay}
use Rattle.refusals.specs.Words.{parts_of}
use Rattle.refusals.specs.declared.refusal.Refusal.{Refusal}
use Rattle.refusals.specs.declared.refusal.Refusal.TheVariants.{DatedAhead, SameParty}
use Rattle.report.specs.declared.report.Report.{Report}
use Rattle.sheets.specs.Sheets.{Meaning}
use Rattle.table.specs.Changes.{entered as put_in}
use Rattle.table.specs.Order.{place}
use Rattle.rows.specs.Days.{ahead}
use Rattle.rows.specs.Changes.{IsAmended}
use Rattle.rows.specs.Entries.{Entry, amended, entered, entry_of}
use Rattle.rows.specs.Keys.{key_in, key_of, key_order}
use Rattle.rows.specs.Standings.{enters, taken}
use Rattle.rows.specs.declared.key.TradeKey.{TradeKey}
use Rattle.rows.specs.declared.row.Row.{Row}
use Rattle.rows.specs.declared.standing.Standing.{Standing}
use Rattle.rules.specs.Books.{Gives, accepted, after_report, at_entry, at_key, at_new_key, entry_at, put, received, refused, report, same_party}
use Rattle.rules.specs.Books.{report_answer as answer_of}
use Rattle.rules.specs.Slices.{book_of, entries_of, room}
use Rattle.rules.proofs.Entries.{find_key}
use Rattle.intake.specs.Intake.{AmendsTo, Enters, Receives}
use Rattle.intake.specs.Places.{Located, used_of}
use Rattle.intake.proofs.Placing.{keys_in, put_new, put_there}
use Rattle.intake.proofs.Stored.{entries_changed, entries_entered, room_changed, room_entered}

-- ---- by what the rules say of a report

not_le : (m n : ℕ) → n < m → nat_le m n ≡ false
not_le m n lt = go (nat_le m n) refl
  where
    go : (b : Bool) → nat_le m n ≡ b → nat_le m n ≡ false
    go true e = let le : m ≤ n = leb-true m n e in absurd (omega arith)
    go false e = e

full_of : (xs : List Row) (used : ℕ) → length (entries_of (used_of used xs) xs) ≡ used_of used xs
full_of xs used = length-map (take (used_of used xs) xs) entry_of ∙ length-take-le (used_of used xs) xs (omega arith)

entering : (full : Bool) (today : ℕ) (r : Report) (o : Option Standing) (standing : Standing) → full ≡ false → o ≡ Some standing → at_new_key full today r o ≡ Ok (entered today r standing)
entering false today r (Some t) standing p q = ap (λ s. Ok (entered today r s)) (cc)
entering true today r (Some t) standing p q = absurd (cc)
entering full today r None standing p q = absurd (cc)

module _ (today : BusinessDay) (used : ℕ) (xs : List Row) (r : Report) where
  -- a refusal leaves the book
  refusing : (refusal : Refusal) (ys : List Row) → ys ≡ xs → received (book_of today used xs) (Ok r) ≡ Err refusal → (sheet : Meaning) → Gives sheet (book_of today used xs) (report (Ok r)) (refused (parts_of refusal)) (book_of today used ys)
  refusing refusal ys same e sheet = record { answers = ap answer_of e; leaving = ap (after_report (book_of today used xs)) e ∙ ap (book_of today used) (sym same) }

  -- an entry that was accepted stands in it at its place
  accepting : (n : ℕ) (ys : List Row) (entry : Entry) → received (book_of today used xs) (Ok r) ≡ Ok entry → room ys ≡ room xs → put entry (entries_of (used_of used xs) xs) ≡ entries_of (min n (room ys)) ys → (sheet : Meaning) → Gives sheet (book_of today used xs) (report (Ok r)) accepted (book_of today n ys)
  accepting n ys entry e size entries sheet = record {
    answers = ap answer_of e;
    leaving = ap (after_report (book_of today used xs)) e ∙ (let fewer = sym size in λ i. record { day = day_no today; size = fewer i; entries = entries i });
  }

-- a report that two tests let through, of a key that was searched
module _ (today : BusinessDay) (used : ℕ) (xs : List Row) (r : Report) (key : TradeKey) (named : key_of key ≡ key_in r.parties) (apart : same_party (key_of key) ≡ false) (timely : ahead (day_no today) r ≡ false) where
  found : (o : Option Entry) → entry_at (key_of key) (entries_of (used_of used xs) xs) ≡ o → received (book_of today used xs) (Ok r) ≡ at_key (nat_le (room xs) (length (entries_of (used_of used xs) xs))) (day_no today) o r
  found o e =
      let two = subst (λ k. same_party k ≡ false) named apart in
      let old = subst (λ k. entry_at k (entries_of (used_of used xs) xs) ≡ o) named e in
      past two timely old
    where
      past : same_party (key_in r.parties) ≡ false → ahead (day_no today) r ≡ false → entry_at (key_in r.parties) (entries_of (used_of used xs) xs) ≡ o → received (book_of today used xs) (Ok r) ≡ at_key (nat_le (room xs) (length (entries_of (used_of used xs) xs))) (day_no today) o r
      past p q e =
          let full = nat_le (room xs) (length (entries_of (used_of used xs) xs)) in
          let rest = λ (o : Option Entry). at_key full (day_no today) o r in
          ap (λ (t : Bool). cond t (Err SameParty) (cond (ahead (day_no today) r) (Err DatedAhead) (rest (entry_at (key_in r.parties) (entries_of (used_of used xs) xs))))) p
          ∙ ap (λ (t : Bool). cond t (Err DatedAhead) (rest (entry_at (key_in r.parties) (entries_of (used_of used xs) xs)))) q
          ∙ ap rest e

  -- ---- of a row

  module _ (at : ℕ) (d new : Row) (located : Located used xs key (Ok at)) where
    pub refuses : (refusal : Refusal) → AmendsTo (get_or xs at d) r new (Err refusal) → Receives today used xs r (Err refusal) (set xs at new)
    refuses refusal a =
        let same : set xs at new ≡ xs = ap (set xs at) a.1 ∙ set-get_or xs at d in
        record {
          gives = λ up. refusing today used xs r refusal (set xs at new) same (found (Some (entry_of (get_or xs at d))) (located.found up d) ∙ ap (at_entry (entry_of (get_or xs at d)) r) a.0);
          frame = same;
        }

    pub amends : (u : ⊤) → AmendsTo (get_or xs at d) r new (Ok u) → Receives today used xs r (Ok used) (set xs at new)
    amends u a =
        let old = get_or xs at d in
        let entries = entries_of (used_of used xs) xs in
        let held : entry_of new ≡ amended (entry_of old) r a.0 = a.1.1.entry in
        let size = room_changed xs at new in
        let same : old ≡ get_or xs at new = get_or_default xs at d new (omega (arith, located.within)) in
        record {
          gives = λ up.
              let k = ap (λ (e : Entry). e.key) held ∙ find_key (key_of key) entries (entry_of old) (located.found up d) in
              let stands = sym (located.stands up ∙ ap (λ k. place key_order (keys_in entries) k) (sym k)) in
              accepting today used xs r used (set xs at new) (entry_of new)
              (found (Some (entry_of old)) (located.found up d) ∙ ap (at_entry (entry_of old) r) a.1.0 ∙ ap Ok (sym held))
              size
              (put_there (entry_of new) entries at stands ∙ sym (entries_changed (used_of used xs) at xs new) ∙ ap (λ n. entries_of (min used n) (set xs at new)) (sym size));
          frame = inl (record { at = at; row = new; standing = a.0; within = located.within; count = refl; rows = refl; takes = subst (λ (x : Row). taken x.standing r.action ≡ Ok a.0) same a.1.0; is_amended = subst (λ (x : Row). IsAmended x r a.0 new) same a.1.1 });
        }

  -- ---- of a trade that has none

  pub enters_in : (at : ℕ) (ys : List Row) (result : Result ℕ Refusal) → Located used xs key (Err at) → Enters today used xs at r result ys → Receives today used xs r result ys
  enters_in at ys (Err refusal) located a =
      let full = ap (λ n. at_new_key (nat_le (room xs) n) (day_no today) r (enters r.action)) (full_of xs used) in
      record { gives = λ up. refusing today used xs r refusal ys a.0 (found None (located.found up) ∙ full ∙ a.1); frame = a.0 }
  enters_in at ys (Ok n) located a =
      let e = a.0 in
      let entries = entries_of (used_of used xs) xs in
      let here : e.at ≡ at = omega (arith, a.1, located.within) in
      let count = e.count in
      let roomy = e.roomy in
      let rows : ys ≡ put_in xs (used_of used xs) at e.row = e.rows ∙ ap (λ i. put_in xs (used_of used xs) i e.row) here in
      let size : room ys ≡ room xs = ap room rows ∙ room_entered xs (used_of used xs) at e.row located.within (omega arith) in
      let held : entry_of e.row ≡ entered (day_no today) r e.standing = e.is_entered.entry in
      let space : nat_le (room xs) (length entries) ≡ false = not_le (room xs) (length entries) (omega (arith, full_of xs used)) in
      let clamped : suc (used_of used xs) ≡ min n (room ys) = omega arith in
      record {
        gives = λ up.
            let k = ap (λ (e : Entry). e.key) held ∙ sym named in
            let stands = sym (located.stands up ∙ ap (λ k. place key_order (keys_in entries) k) (sym k)) in
            accepting today used xs r n ys (entry_of e.row)
            (found None (located.found up) ∙ entering (nat_le (room xs) (length entries)) (day_no today) r (enters r.action) e.standing space e.enters ∙ ap Ok (sym held))
            size
            (put_new (entry_of e.row) entries at stands ∙ sym (entries_entered xs (used_of used xs) at e.row located.within (omega arith)) ∙ ap (entries_of (suc (used_of used xs))) (sym rows) ∙ ap (λ m. entries_of m ys) clamped);
        frame = inr e;
      }
