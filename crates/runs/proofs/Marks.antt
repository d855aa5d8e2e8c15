-- The mark of a row says what it is named for: it was paired at the last accepted close, and was not disturbed since.
use Rattle.std.proofs.Common.{◌≡◌, ◌⊎◌, ◌↔◌, inl, inr, ℕ, Bool, true, false, ◌&&◌, ◌||◌, cond, List, [], ◌∷◌, Some, None, Option, Ok, Err, Result, is_ok, ◌∙◌, refl, sym, ap, subst}
use Rattle.std.proofs.lemmas.Bool.{and_from, and_left, and_parts, and_right, false≢true, or_from}
use Rattle.refusals.specs.declared.refusal.Refusal.{Refusal}
use Rattle.report.specs.declared.report.Report.{Report}
use Rattle.rows.specs.Entries.{Entry}
use Rattle.rows.specs.Keys.{Key, key_in, mirror, same_key}
use Rattle.rows.specs.Standings.{disturbs}
use Rattle.rules.specs.Books.{Book, Call, Opening, Slip, after, after_close, after_report, close, entry_at, lookup, may_close, put, received, report, report_answer}
use Rattle.rules.specs.Judging.{Close, Line, early, gone, if_found, if_ready, lapsed, line, outside, ready, stays_paired}
use Rattle.rules.proofs.Entries.{find_key, find_with_other, find_with_same, none_some, some_inj}
use Rattle.rules.proofs.Keys.{key_dec, same_not}
use Rattle.runs.specs.Law.{OldPair, Pair, disturbed, disturbs_at, last_close, was_accepted}
use Rattle.runs.proofs.Pairs.{From, Settled, carries, from, from_pairing, partner_found, turned, undisturbed}
use Rattle.runs.proofs.Steps.{Altered, Entered, TookIn, err_ok, sorted_after, took_in, took_in_key}

-- ---- not disturbed since

-- a settled row was not disturbed, as f tells of keys
abbrev Quiet : List Entry → (Key → Bool) → Type 0
Quiet xs f = (k : Key) (x : Entry) → entry_at k xs ≡ Some x → Settled x → f k ≡ false

-- a row that is put and is settled is left by a report that does not disturb it
module _ (b : Book) (r : Report) where
  settled_took : (x : Entry) → Entered b.day r (entry_at (key_in r.parties) b.entries) x ⊎ Altered b.day r (entry_at (key_in r.parties) b.entries) x → Settled x → (disturbs r.action ≡ false) × (old : Entry) × (entry_at (key_in r.parties) b.entries ≡ Some old) × Settled old
  settled_took x (inl w) h = absurd (false≢true (sym (ap (λ (y : Entry). y.settled) w.is) ∙ h))
  settled_took x (inr w) h = let u = undisturbed r.action w.old.settled (sym (ap (λ (y : Entry). y.settled) w.is) ∙ h) in (u.0, w.old, w.present, u.1)

module _ (b : Book) (f : Key → Bool) (L : Quiet b.entries f) where
  quiet_put : (r : Report) (x : Entry) → TookIn b r x → Quiet (put x b.entries) (λ k. disturbs_at k (Ok r) || f k)
  quiet_put r x T k e p h = go (key_dec k (key_in r.parties))
    where
      go : Dec (k ≡ key_in r.parties) → ((same_key k (key_in r.parties) && disturbs r.action) || f k) ≡ false
      go (yes q) =
          let z : x ≡ e = some_inj (sym (find_with_same k x b.entries (took_in_key b r x T ∙ sym q)) ∙ p) in
          let u = settled_took b r x T.how (subst Settled (sym z) h) in
          or_from _ _ (and_right (same_key k (key_in r.parties)) (disturbs r.action) u.0) (L k u.1 (ap (λ (v : Key). entry_at v b.entries) q ∙ u.2) u.3)
      go (no n) = or_from _ _ (and_left (same_key k (key_in r.parties)) (disturbs r.action) (same_not k (key_in r.parties) n)) (L k e (sym (find_with_other k (key_in r.parties) x b.entries (took_in_key b r x T) n) ∙ p) h)

  quiet_report : (s : Slip) (o : Result Entry Refusal) → received b s ≡ o → Quiet (after_report b o).entries (λ k. (was_accepted (report_answer o) && disturbs_at k s) || f k)
  quiet_report s (Err refusal) q = L
  quiet_report (Err refusal) (Ok x) q = absurd (err_ok q)
  quiet_report (Ok r) (Ok x) q = quiet_put r x (took_in b r x q)

quiet_close : (o : Opening) (h : List Call) (c : Close) (r : Result ℕ Refusal) → Quiet (after o h).entries (λ k. disturbed o k h) → Quiet (after_close o.sheet (after o h) c r).entries (λ k. cond (is_ok r) false (disturbed o k h))
quiet_close o h c (Err refusal) L = L
quiet_close o h c (Ok day) L = λ k e p s. refl

quiet : (o : Opening) (h : List Call) → Quiet (after o h).entries (λ k. disturbed o k h)
quiet o [] = λ k e p s. refl
quiet o (report s ∷ h) = quiet_report (after o h) (λ k. disturbed o k h) (quiet o h) s (received (after o h) s) refl
quiet o (close c ∷ h) = quiet_close o h c (may_close (after o h) c) (quiet o h)
quiet o (lookup q ∷ h) = quiet o h

-- ---- paired at the last accepted close

record InPair (o : Opening) (h : List Call) (k : Key) : Type 0 where
  one : Entry
  two : Entry
  pair : Pair o h one two
  own : one.key ≡ k

abbrev InPairs : Opening → List Call → List Entry → Type 0
InPairs o h xs = (k : Key) (x : Entry) → entry_at k xs ≡ Some x → Settled x → InPair o h k

-- the same pair, seen from a later history
later : (o : Opening) (h g : List Call) (k : Key) → last_close o g ≡ last_close o h → InPair o h k → InPair o g k
later o h g k e w = record {
  one = w.one;
  two = w.two;
  pair = record { by = w.pair.by; met = w.pair.met; last = e ∙ w.pair.last; there = w.pair.there; there_too = w.pair.there_too; across = w.pair.across; fits = w.pair.fits; fits_too = w.pair.fits_too };
  own = w.own;
}

module _ (b : Book) (Q : Key → Type 0) (L : (k : Key) (x : Entry) → entry_at k b.entries ≡ Some x → Settled x → Q k) where
  paired_put : (r : Report) (x : Entry) → TookIn b r x → (k : Key) (e : Entry) → entry_at k (put x b.entries) ≡ Some e → Settled e → Q k
  paired_put r x T k e p h = go (key_dec k (key_in r.parties))
    where
      go : Dec (k ≡ key_in r.parties) → Q k
      go (yes q) =
          let z : x ≡ e = some_inj (sym (find_with_same k x b.entries (took_in_key b r x T ∙ sym q)) ∙ p) in
          let u = settled_took b r x T.how (subst Settled (sym z) h) in
          L k u.1 (ap (λ (v : Key). entry_at v b.entries) q ∙ u.2) u.3
      go (no n) = L k e (sym (find_with_other k (key_in r.parties) x b.entries (took_in_key b r x T) n) ∙ p) h

  paired_report : (s : Slip) (o : Result Entry Refusal) → received b s ≡ o → (k : Key) (e : Entry) → entry_at k (after_report b o).entries ≡ Some e → Settled e → Q k
  paired_report s (Err refusal) q = L
  paired_report (Err refusal) (Ok x) q = absurd (err_ok q)
  paired_report (Ok r) (Ok x) q = paired_put r x (took_in b r x q)

partner_ready : (c : Close) (today : ℕ) (o : Option Entry) (m : Entry) → if_found c today o ≡ Some m → line c today m ≡ ready
partner_ready c today None m p = absurd (none_some p)
partner_ready c today (Some e) m p = go (line c today e) refl p
  where
    go : (l : Line) → line c today e ≡ l → if_ready l e ≡ Some m → line c today m ≡ ready
    go gone f z = absurd (none_some z)
    go early f z = absurd (none_some z)
    go outside f z = absurd (none_some z)
    go lapsed f z = absurd (none_some z)
    go ready f z = subst (λ (y : Entry). line c today y ≡ ready) (some_inj z) f

paired_close : (o : Opening) (h : List Call) (c : Close) (r : Result ℕ Refusal) → may_close (after o h) c ≡ r → InPairs o h (after o h).entries → InPairs o (close c ∷ h) (after_close o.sheet (after o h) c r).entries
paired_close o h c (Err refusal) z L k x e p = later o h (close c ∷ h) k (ap (λ (r : Result ℕ Refusal). cond (is_ok r) (Some (c, h)) (last_close o h)) z) (L k x e p)
paired_close o h c (Ok day) z L k x e p =
    let b = after o h in
    let f : From o.sheet c b k x = from o.sheet c b (sorted_after o h) k x e in
    let w = from_pairing o.sheet c b k x f p in
    let own : f.old.key ≡ k = find_key k b.entries f.old f.was in
    let found : entry_at (mirror f.old.key) b.entries ≡ Some w.partner = partner_found c b.day (entry_at (mirror f.old.key) b.entries) w.partner w.found in
    let across : w.partner.key ≡ mirror f.old.key = find_key (mirror f.old.key) b.entries w.partner found in
    record {
      one = f.old;
      two = w.partner;
      pair = record {
        by = c;
        met = h;
        last = ap (λ (r : Result ℕ Refusal). cond (is_ok r) (Some (c, h)) (last_close o h)) z;
        there = ap (λ (v : Key). entry_at v b.entries) own ∙ f.was;
        there_too = ap (λ (v : Key). entry_at v b.entries) across ∙ found;
        across = across;
        fits = w.fits;
        fits_too = partner_ready c b.day (entry_at (mirror f.old.key) b.entries) w.partner w.found;
      };
      own = own;
    }

in_pairs : (o : Opening) (h : List Call) → InPairs o h (after o h).entries
in_pairs o [] = λ k x e p. absurd (none_some e)
in_pairs o (report s ∷ h) = paired_report (after o h) (InPair o (report s ∷ h)) (λ k x e p. later o h (report s ∷ h) k refl (in_pairs o h k x e p)) s (received (after o h) s) refl
in_pairs o (close c ∷ h) = paired_close o h c (may_close (after o h) c) refl (in_pairs o h)
in_pairs o (lookup q ∷ h) = λ k x e p. later o h (lookup q ∷ h) k refl (in_pairs o h k x e p)

-- ---- the mark

-- a row of a pair that was not disturbed has the mark
marks : (o : Opening) (h : List Call) (x e m : Entry) → entry_at x.key (after o h).entries ≡ Some x → Pair o h e m → e.key ≡ x.key → disturbed o x.key h ≡ false → Settled x
marks o h x e m p P q calm =
    let w = carries o h e m P in
    ap (λ (y : Entry). y.settled) (some_inj (sym p ∙ ap (λ (v : Key). entry_at v (after o h).entries) (sym q) ∙ w.there)) ∙ w.settled (ap (λ (v : Key). disturbed o v h) q ∙ calm)

pub old_pairs : (o : Opening) (h : List Call) (e m : Entry) → entry_at e.key (after o h).entries ≡ Some e → entry_at m.key (after o h).entries ≡ Some m → m.key ≡ mirror e.key → (stays_paired e m ≡ true) ↔ OldPair o h e m
old_pairs o h e m p q a = (there, back)
  where
    there : stays_paired e m ≡ true → OldPair o h e m
    there s =
        let both = and_parts e.settled m.settled s in
        let w = in_pairs o h e.key e p both.0 in
        record {
          e_then = w.one;
          m_then = w.two;
          pair = w.pair;
          same = w.own;
          same_too = w.pair.across ∙ ap mirror w.own ∙ sym a;
          quiet = quiet o h e.key e p both.0;
          quiet_too = quiet o h m.key m q both.1;
        }

    back : OldPair o h e m → stays_paired e m ≡ true
    back w = and_from e.settled m.settled (marks o h e w.e_then w.m_then p w.pair w.same w.quiet) (marks o h m w.m_then w.e_then q (turned o h w.e_then w.m_then w.pair) w.same_too w.quiet_too)
