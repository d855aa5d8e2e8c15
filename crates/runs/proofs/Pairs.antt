-- Both rows of a pair carry what a full comparison at the last close comes to, though a close compares only what is new.
use Rattle.std.proofs.Common.{◌≡◌, ◌≢◌, ◌⊎◌, inl, inr, ℕ, Bool, true, false, not, ◌&&◌, cond, List, [], ◌∷◌, Some, None, Option, Ok, Err, Result, is_ok, option_map, option_and_then, filter_map, ◌∙◌, refl, sym, ap, subst, true≢false}
use Rattle.std.proofs.lemmas.Bool.{and_parts, false≢true, or_parts}
use Rattle.fields.specs.declared.field.report.Action.{Action}
use Rattle.fields.specs.declared.field.report.Action.TheVariants.{New, PositionComponent, Modify, Correction, ValuationUpdate, EarlyTermination, Compression, Error}
use Rattle.refusals.specs.declared.refusal.Refusal.{Refusal}
use Rattle.report.specs.declared.report.Report.{Report}
use Rattle.sheets.specs.Sheets.{Meaning, findings_of, state_by, state_of}
use Rattle.sheets.specs.declared.finding.Finding.{Finding}
use Rattle.sheets.proofs.Exchanged.{findings_exchanged, state_exchanged}
use Rattle.rows.specs.Entries.{Entry, tags_after}
use Rattle.rows.specs.Keys.{Key, key_in, mirror, same_key}
use Rattle.rows.specs.Standings.{disturbs}
use Rattle.rows.specs.Words.{state_of_pair}
use Rattle.rows.specs.declared.row.Tags.{Tags}
use Rattle.rules.specs.Books.{Book, Call, Opening, Slip, after, after_close, after_report, close, entry_at, lookup, may_close, put, received, report, report_answer}
use Rattle.rules.specs.Judging.{Close, Line, Verdict, at_ready, early, entry_after, gone, if_found, if_ready, judged, lapsed, line, outside, pair_findings, partner, ready, stays_paired, verdict, with_verdict}
use Rattle.rules.proofs.Entries.{Sorted, find_collect, find_key, find_with_other, find_with_same, none_some, some_inj}
use Rattle.rules.proofs.Keys.{key_dec, same_to}
use Rattle.runs.specs.Law.{Carries, Pair, Paired, disturbed, disturbs_at, last_close, was_accepted}
use Rattle.runs.proofs.Steps.{Altered, Entered, TookIn, err_ok, keeps, sorted_after, took_in, took_in_key}

-- ---- the parties of a row are two

abbrev TwoParties : List Entry → Type 0
TwoParties xs = (k : Key) (e : Entry) → entry_at k xs ≡ Some e → k.reporter ≢ k.other

module _ (sheet : Meaning) (b : Book) (L : TwoParties b.entries) where
  parties_put : (r : Report) (x : Entry) → TookIn b r x → TwoParties (put x b.entries)
  parties_put r x T k e p = go (key_dec k (key_in r.parties))
    where
      go : Dec (k ≡ key_in r.parties) → k.reporter ≢ k.other
      go (yes q) = subst (λ (v : Key). v.reporter ≢ v.other) (sym q) T.parties
      go (no n) = L k e (sym (find_with_other k (key_in r.parties) x b.entries (took_in_key b r x T) n) ∙ p)

  parties_report : (s : Slip) (o : Result Entry Refusal) → received b s ≡ o → TwoParties (after_report b o).entries
  parties_report s (Err refusal) q = L
  parties_report (Err refusal) (Ok x) q = absurd (err_ok q)
  parties_report (Ok r) (Ok x) q = parties_put r x (took_in b r x q)

  parties_close : (c : Close) (o : Result ℕ Refusal) → Sorted b.entries → TwoParties (after_close sheet b c o).entries
  parties_close c (Err refusal) s k e p = L k e p
  parties_close c (Ok day) s k e p = go (entry_at k b.entries) refl (sym (find_collect (entry_after sheet c b.day b.entries) (keeps sheet c b.day b.entries) k b.entries s) ∙ p)
    where
      go : (o : Option Entry) → entry_at k b.entries ≡ o → option_and_then (entry_after sheet c b.day b.entries) o ≡ Some e → k.reporter ≢ k.other
      go None f q = absurd (none_some q)
      go (Some x) f q = L k x f

parties : (o : Opening) (h : List Call) → TwoParties (after o h).entries
parties o [] = λ k e p. absurd (none_some p)
parties o (report s ∷ h) = parties_report o.sheet (after o h) (parties o h) s (received (after o h) s) refl
parties o (close c ∷ h) = parties_close o.sheet (after o h) (parties o h) c (may_close (after o h) c) (sorted_after o h)
parties o (lookup q ∷ h) = parties o h

-- ---- the mark of a pair

abbrev pub Settled : Entry → Type 0
Settled e = e.settled ≡ true

-- a settled row comes from a settled row with the same details and findings
record Back (o : Option Entry) (e : Entry) : Type 0 where
  old : Entry
  was : o ≡ Some old
  held : Settled old
  findings : e.findings ≡ old.findings
  details : e.tags.details ≡ old.tags.details

-- only V leaves the mark
pub undisturbed : (a : Action) (s : Bool) → (not (disturbs a) && s) ≡ true → (disturbs a ≡ false) × (s ≡ true)
undisturbed New s h = absurd (false≢true h)
undisturbed PositionComponent s h = absurd (false≢true h)
undisturbed Modify s h = absurd (false≢true h)
undisturbed Correction s h = absurd (false≢true h)
undisturbed ValuationUpdate s h = (refl, h)
undisturbed EarlyTermination s h = absurd (false≢true h)
undisturbed Compression s h = absurd (false≢true h)
undisturbed Error s h = absurd (false≢true h)

kept_details : (a : Action) (old : Tags) (r : Report) → disturbs a ≡ false → (tags_after a old r).details ≡ old.details
kept_details New old r h = absurd (true≢false h)
kept_details PositionComponent old r h = absurd (true≢false h)
kept_details Modify old r h = absurd (true≢false h)
kept_details Correction old r h = absurd (true≢false h)
kept_details ValuationUpdate old r h = refl
kept_details EarlyTermination old r h = absurd (true≢false h)
kept_details Compression old r h = absurd (true≢false h)
kept_details Error old r h = absurd (true≢false h)

module _ (b : Book) (r : Report) where
  back_took : (x : Entry) → Entered b.day r (entry_at (key_in r.parties) b.entries) x ⊎ Altered b.day r (entry_at (key_in r.parties) b.entries) x → Settled x → Back (entry_at (key_in r.parties) b.entries) x
  back_took x (inl w) h = absurd (false≢true (sym (ap (λ (y : Entry). y.settled) w.is) ∙ h))
  back_took x (inr w) h =
      let u = undisturbed r.action w.old.settled (sym (ap (λ (y : Entry). y.settled) w.is) ∙ h) in
      record {
        old = w.old;
        was = w.present;
        held = u.1;
        findings = ap (λ (y : Entry). y.findings) w.is;
        details = ap (λ (y : Entry). y.tags.details) w.is ∙ kept_details r.action w.old.tags r u.0;
      }

  back_put : (x : Entry) → TookIn b r x → (k : Key) (e : Entry) → entry_at k (put x b.entries) ≡ Some e → Settled e → Back (entry_at k b.entries) e
  back_put x T k e p h = go (key_dec k (key_in r.parties))
    where
      go : Dec (k ≡ key_in r.parties) → Back (entry_at k b.entries) e
      go (yes q) =
          let z : x ≡ e = some_inj (sym (find_with_same k x b.entries (took_in_key b r x T ∙ sym q)) ∙ p) in
          subst (λ (v : Key). Back (entry_at v b.entries) e) (sym q) (subst (λ (y : Entry). Back (entry_at (key_in r.parties) b.entries) y) z (back_took x T.how (subst Settled (sym z) h)))
      go (no n) = record { old = e; was = sym (find_with_other k (key_in r.parties) x b.entries (took_in_key b r x T) n) ∙ p; held = h; findings = refl; details = refl }

-- ---- what is kept is right

abbrev Right : Meaning → List Entry → Type 0
Right sheet xs = (k : Key) (e m : Entry) → entry_at k xs ≡ Some e → entry_at (mirror k) xs ≡ Some m → Settled e → Settled m → e.findings ≡ findings_of sheet e.tags.details m.tags.details

pair_right : (sheet : Meaning) (xs : List Entry) → Right sheet xs → (k : Key) (e m : Entry) → entry_at k xs ≡ Some e → entry_at (mirror k) xs ≡ Some m → pair_findings sheet e m ≡ findings_of sheet e.tags.details m.tags.details
pair_right sheet xs R k e m p q = go (stays_paired e m) refl
  where
    go : (v : Bool) → stays_paired e m ≡ v → cond v e.findings (findings_of sheet e.tags.details m.tags.details) ≡ findings_of sheet e.tags.details m.tags.details
    go true z = let both = and_parts e.settled m.settled z in R k e m p q both.0 both.1
    go false z = refl

pub partner_found : (c : Close) (today : ℕ) (o : Option Entry) (m : Entry) → if_found c today o ≡ Some m → o ≡ Some m
partner_found c today None m p = absurd (none_some p)
partner_found c today (Some e) m p = go (line c today e) p
  where
    go : (l : Line) → if_ready l e ≡ Some m → Some e ≡ Some m
    go gone z = absurd (none_some z)
    go early z = absurd (none_some z)
    go outside z = absurd (none_some z)
    go lapsed z = absurd (none_some z)
    go ready z = z

-- a verdict that pairs a row has found its partner
pub record Pairing (sheet : Meaning) (e : Entry) (o : Option Entry) (l : Line) (v : Verdict) : Type 0 where
  pub partner : Entry
  pub found : o ≡ Some partner
  pub fits : l ≡ ready
  pub findings : v.findings ≡ pair_findings sheet e partner

pub pairing : (sheet : Meaning) (e : Entry) (o : Option Entry) (l : Line) (v : Verdict) → verdict sheet e o l ≡ Some v → v.paired ≡ true → Pairing sheet e o l v
pairing sheet e o gone v p h = absurd (none_some p)
pairing sheet e o early v p h = absurd (false≢true (ap (λ (w : Verdict). w.paired) (some_inj p) ∙ h))
pairing sheet e o outside v p h = absurd (false≢true (ap (λ (w : Verdict). w.paired) (some_inj p) ∙ h))
pairing sheet e o lapsed v p h = absurd (false≢true (ap (λ (w : Verdict). w.paired) (some_inj p) ∙ h))
pairing sheet e None ready v p h = absurd (false≢true (ap (λ (w : Verdict). w.paired) (some_inj p) ∙ h))
pairing sheet e (Some m) ready v p h = record { partner = m; found = refl; fits = refl; findings = ap (λ (w : Verdict). w.findings) (sym (some_inj p)) }

-- where an entry after a close comes from
pub record From (sheet : Meaning) (c : Close) (b : Book) (k : Key) (e : Entry) : Type 0 where
  pub old : Entry
  pub was : entry_at k b.entries ≡ Some old
  pub verdict_is : Verdict
  pub judged_so : judged sheet c b.day b.entries old ≡ Some verdict_is
  pub is : with_verdict old verdict_is ≡ e

pub from : (sheet : Meaning) (c : Close) (b : Book) → Sorted b.entries → (k : Key) (e : Entry) → entry_at k (filter_map (entry_after sheet c b.day b.entries) b.entries) ≡ Some e → From sheet c b k e
from sheet c b s k e p = go (entry_at k b.entries) refl (sym (find_collect (entry_after sheet c b.day b.entries) (keeps sheet c b.day b.entries) k b.entries s) ∙ p)
  where
    at : (x : Entry) → entry_at k b.entries ≡ Some x → (v : Option Verdict) → judged sheet c b.day b.entries x ≡ v → option_map (with_verdict x) v ≡ Some e → From sheet c b k e
    at x f None j z = absurd (none_some z)
    at x f (Some v) j z = record { old = x; was = f; verdict_is = v; judged_so = j; is = some_inj z }

    go : (o : Option Entry) → entry_at k b.entries ≡ o → option_and_then (entry_after sheet c b.day b.entries) o ≡ Some e → From sheet c b k e
    go None f z = absurd (none_some z)
    go (Some x) f z = at x f (judged sheet c b.day b.entries x) refl z

-- a row that is settled after a close was paired by it
pub from_pairing : (sheet : Meaning) (c : Close) (b : Book) (k : Key) (e : Entry) (F : From sheet c b k e) → Settled e → Pairing sheet F.old (partner c b.day b.entries F.old) (line c b.day F.old) F.verdict_is
from_pairing sheet c b k e F h = pairing sheet F.old (partner c b.day b.entries F.old) (line c b.day F.old) F.verdict_is F.judged_so (ap (λ (y : Entry). y.settled) F.is ∙ h)

module _ (sheet : Meaning) (b : Book) (R : Right sheet b.entries) where
  right_put : (r : Report) (x : Entry) → TookIn b r x → Right sheet (put x b.entries)
  right_put r x T k e m p q h g =
      let f = back_put b r x T k e p h in
      let l = back_put b r x T (mirror k) m q g in
      f.findings ∙ R k f.old l.old f.was l.was f.held l.held ∙ sym (λ i. findings_of sheet (f.details i) (l.details i))

  right_report : (s : Slip) (o : Result Entry Refusal) → received b s ≡ o → Right sheet (after_report b o).entries
  right_report s (Err refusal) q = R
  right_report (Err refusal) (Ok x) q = absurd (err_ok q)
  right_report (Ok r) (Ok x) q = right_put r x (took_in b r x q)

  right_close : (c : Close) (o : Result ℕ Refusal) → Sorted b.entries → Right sheet (after_close sheet b c o).entries
  right_close c (Err refusal) s k e m p q h g = R k e m p q h g
  right_close c (Ok day) s k e m p q h g = go (from sheet c b s k e p) (from sheet c b s (mirror k) m q)
    where
      go : From sheet c b k e → From sheet c b (mirror k) m → e.findings ≡ findings_of sheet e.tags.details m.tags.details
      go f l =
          let w = from_pairing sheet c b k e f h in
          let z : w.partner ≡ l.old = some_inj (sym (partner_found c b.day (entry_at (mirror f.old.key) b.entries) w.partner w.found) ∙ ap (λ (v : Key). entry_at (mirror v) b.entries) (find_key k b.entries f.old f.was) ∙ l.was) in
          ap (λ (y : Entry). y.findings) (sym f.is) ∙ w.findings ∙ ap (pair_findings sheet f.old) z
          ∙ pair_right sheet b.entries R k f.old l.old f.was l.was
          ∙ (λ i. findings_of sheet (f.is i).tags.details (l.is i).tags.details)

right : (o : Opening) (h : List Call) → Right o.sheet (after o h).entries
right o [] = λ k e m p q h g. absurd (none_some p)
right o (report s ∷ h) = right_report o.sheet (after o h) (right o h) s (received (after o h) s) refl
right o (close c ∷ h) = right_close o.sheet (after o h) (right o h) c (may_close (after o h) c) (sorted_after o h)
right o (lookup q ∷ h) = right o h

-- ---- a report leaves state and findings

module _ (b : Book) (k : Key) (x : Entry) (there : entry_at k b.entries ≡ Some x) where
  -- and the mark, unless it disturbs the row
  record Still (hit : Bool) (xs : List Entry) : Type 0 where
    now : Entry
    at : entry_at k xs ≡ Some now
    findings : now.findings ≡ x.findings
    state : now.state ≡ x.state
    settled : hit ≡ false → now.settled ≡ x.settled

  unmarked : (s : Bool) (d : Bool) (old : Bool) → s ≡ true → (s && d) ≡ false → (not d && old) ≡ old
  unmarked true true old p h = absurd (true≢false h)
  unmarked true false old p h = refl
  unmarked false d old p h = absurd (false≢true p)

  still_put : (r : Report) (w : Entry) → TookIn b r w → Still (same_key k (key_in r.parties) && disturbs r.action) (put w b.entries)
  still_put r w T = go (key_dec k (key_in r.parties)) T.how
    where
      go : Dec (k ≡ key_in r.parties) → Entered b.day r (entry_at (key_in r.parties) b.entries) w ⊎ Altered b.day r (entry_at (key_in r.parties) b.entries) w → Still (same_key k (key_in r.parties) && disturbs r.action) (put w b.entries)
      go (yes p) (inl e) = absurd (none_some (sym e.absent ∙ ap (λ (v : Key). entry_at v b.entries) (sym p) ∙ there))
      go (yes p) (inr e) =
          let z : e.old ≡ x = some_inj (sym e.present ∙ ap (λ (v : Key). entry_at v b.entries) (sym p) ∙ there) in
          record {
            now = w;
            at = find_with_same k w b.entries (took_in_key b r w T ∙ sym p);
            findings = ap (λ (y : Entry). y.findings) e.is ∙ ap (λ (y : Entry). y.findings) z;
            state = ap (λ (y : Entry). y.state) e.is ∙ ap (λ (y : Entry). y.state) z;
            settled = λ h. ap (λ (y : Entry). y.settled) e.is ∙ unmarked (same_key k (key_in r.parties)) (disturbs r.action) e.old.settled (same_to k (key_in r.parties) p) h ∙ ap (λ (y : Entry). y.settled) z;
          }
      go (no n) e = record { now = x; at = find_with_other k (key_in r.parties) w b.entries (took_in_key b r w T) n ∙ there; findings = refl; state = refl; settled = λ h. refl }

  still_report : (s : Slip) (o : Result Entry Refusal) → received b s ≡ o → Still (was_accepted (report_answer o) && disturbs_at k s) (after_report b o).entries
  still_report s (Err refusal) q = record { now = x; at = there; findings = refl; state = refl; settled = λ h. refl }
  still_report (Err refusal) (Ok w) q = absurd (err_ok q)
  still_report (Ok r) (Ok w) q = still_put r w (took_in b r w q)

-- ---- pairs

-- two entries that a close may pair, each the other's mirror
pub record Met (o : Opening) (g : List Call) (c : Close) (e m : Entry) : Type 0 where
  pub there : entry_at e.key (after o g).entries ≡ Some e
  pub there_too : entry_at m.key (after o g).entries ≡ Some m
  pub across : m.key ≡ mirror e.key
  pub fits : line c (after o g).day e ≡ ready
  pub fits_too : line c (after o g).day m ≡ ready

pub met_by : (o : Opening) (h : List Call) (e m : Entry) (P : Pair o h e m) → Met o P.met P.by e m
met_by o h e m P = record { there = P.there; there_too = P.there_too; across = P.across; fits = P.fits; fits_too = P.fits_too }

pub turned : (o : Opening) (h : List Call) (e m : Entry) → Pair o h e m → Pair o h m e
turned o h e m P = record { by = P.by; met = P.met; last = P.last; there = P.there_too; there_too = P.there; across = sym (ap mirror P.across); fits = P.fits_too; fits_too = P.fits }

pair_judged : (sheet : Meaning) (c : Close) (b : Book) (e m : Entry) → entry_at (mirror e.key) b.entries ≡ Some m → line c b.day e ≡ ready → line c b.day m ≡ ready → judged sheet c b.day b.entries e ≡ Some (at_ready sheet e (Some m))
pair_judged sheet c b e m p f g = (λ i. verdict sheet e (if_found c b.day (p i)) (f i)) ∙ ap (λ (l : Line). Some (at_ready sheet e (if_ready l m))) g

-- what a key carries, marked unless it was disturbed
pub record Marked (sheet : Meaning) (k : Key) (hit : Bool) (e m : Entry) (xs : List Entry) : Type 0 where
  pub now : Entry
  pub there : entry_at k xs ≡ Some now
  pub findings : now.findings ≡ findings_of sheet e.tags.details m.tags.details
  pub state : now.state ≡ state_of_pair (state_of sheet e.tags.details m.tags.details)
  pub settled : hit ≡ false → now.settled ≡ true

marked_close : (o : Opening) (g : List Call) (c : Close) (day : ℕ) (e m : Entry) → Met o g c e m → Marked o.sheet e.key false e m (after_close o.sheet (after o g) c (Ok day)).entries
marked_close o g c day e m M =
    let b = after o g in
    let q : entry_at (mirror e.key) b.entries ≡ Some m = ap (λ (v : Key). entry_at v b.entries) (sym M.across) ∙ M.there_too in
    let z = pair_right o.sheet b.entries (right o g) e.key e m M.there q in
    record {
      now = with_verdict e (at_ready o.sheet e (Some m));
      there = find_collect (entry_after o.sheet c b.day b.entries) (keeps o.sheet c b.day b.entries) e.key b.entries (sorted_after o g) ∙ ap (option_and_then (entry_after o.sheet c b.day b.entries)) M.there ∙ ap (option_map (with_verdict e)) (pair_judged o.sheet c b e m q M.fits M.fits_too);
      findings = z;
      state = ap (λ (f : List Finding). state_of_pair (state_by o.sheet f)) z;
      settled = λ h. refl;
    }

marked_report : (o : Opening) (h : List Call) (s : Slip) (e m : Entry) → Marked o.sheet e.key (disturbed o e.key h) e m (after o h).entries → Marked o.sheet e.key (disturbed o e.key (report s ∷ h)) e m (after o (report s ∷ h)).entries
marked_report o h s e m M =
    let b = after o h in
    let w = still_report b e.key M.now M.there s (received b s) refl in
    record {
      now = w.now;
      there = w.at;
      findings = w.findings ∙ M.findings;
      state = w.state ∙ M.state;
      settled = λ q. let both = or_parts (was_accepted (report_answer (received b s)) && disturbs_at e.key s) (disturbed o e.key h) q in w.settled both.0 ∙ M.settled both.1;
    }

pub carried : (o : Opening) (h : List Call) (c : Close) (g : List Call) → last_close o h ≡ Some (c, g) → (e m : Entry) → Met o g c e m → Marked o.sheet e.key (disturbed o e.key h) e m (after o h).entries
carried o [] c g p e m M = absurd (none_some p)
carried o (report s ∷ h) c g p e m M = marked_report o h s e m (carried o h c g p e m M)
carried o (lookup q ∷ h) c g p e m M = carried o h c g p e m M
carried o (close d ∷ h) c g p e m M = go (may_close (after o h) d) p (λ q. carried o h c g q e m M)
  where
    go : (r : Result ℕ Refusal) → cond (is_ok r) (Some (d, h)) (last_close o h) ≡ Some (c, g) → (last_close o h ≡ Some (c, g) → Marked o.sheet e.key (disturbed o e.key h) e m (after o h).entries) → Marked o.sheet e.key (cond (is_ok r) false (disturbed o e.key h)) e m (after_close o.sheet (after o h) d r).entries
    go (Err refusal) z f = f z
    go (Ok day) z f = marked_close o h d day e m (subst (λ (u : Close × List Call). Met o u.1 u.0 e m) (sym (some_inj z)) M)

-- ---- what holds of a pair

pub carries : (o : Opening) (h : List Call) (e m : Entry) → Pair o h e m → Marked o.sheet e.key (disturbed o e.key h) e m (after o h).entries
carries o h e m P = carried o h P.by P.met P.last e m (met_by o h e m P)

pub pairs_hold : (o : Opening) (h : List Call) (e m : Entry) → Pair o h e m → Paired o h e m
pairs_hold o h e m P = record {
  two = λ p. parties o P.met e.key e P.there (ap (λ (k : Key). k.reporter) (p ∙ P.across));
  only = λ n Q. same_other n Q;
  one = plain (carries o h e m P);
  other = exchanged (carries o h m e (turned o h e m P));
}
  where
    plain : Marked o.sheet e.key (disturbed o e.key h) e m (after o h).entries → Carries o h e.key e m
    plain w = record { now = w.now; there = w.there; findings = w.findings; state = w.state }

    exchanged : Marked o.sheet m.key (disturbed o m.key h) m e (after o h).entries → Carries o h m.key e m
    exchanged w = record { now = w.now; there = w.there; findings = w.findings ∙ findings_exchanged o.sheet e.tags.details m.tags.details; state = w.state ∙ ap state_of_pair (state_exchanged o.sheet e.tags.details m.tags.details) }

    same_other : (n : Entry) → Pair o h e n → n ≡ m
    same_other n Q =
        let y : (Q.by, Q.met) ≡ (P.by, P.met) = some_inj (sym Q.last ∙ P.last) in
        some_inj (sym Q.there_too ∙ (λ i. entry_at ((Q.across ∙ sym P.across) i) (after o (y i).1).entries) ∙ P.there_too)
