-- A row shows what its newest notice since entry said, and no notice says what the one before it said.
use Rattle.std.proofs.Common.{◌≡◌, ◌≢◌, ◌⊎◌, inl, inr, refl, sym, ap, subst, ◌∙◌, ℕ, Bool, true, false, cond, ◌&&◌, is_some, List, [], ◌∷◌, ◌++◌, Option, Some, None, option_and_then, option_map, Result, Ok, Err}
use Rattle.std.specs.List.{cons_option}
use Rattle.std.proofs.lemmas.Bool.{and_from, and_left, and_right}
use Rattle.refusals.specs.declared.refusal.Refusal.{Refusal}
use Rattle.report.specs.declared.report.Report.{Report}
use Rattle.sheets.specs.Sheets.{Meaning, state_by}
use Rattle.sheets.specs.declared.finding.PairState.{PairState}
use Rattle.sheets.specs.declared.finding.PairState.TheVariants as Pair
use Rattle.rows.specs.Entries.{Entry, uncompared}
use Rattle.rows.specs.Keys.{Key, key_in, same_key}
use Rattle.rows.specs.Standings.{enters}
use Rattle.rows.specs.Words.{Shown, state_of_pair, told}
use Rattle.rows.specs.declared.standing.Standing.{Standing}
use Rattle.rows.specs.declared.state.State.{State}
use Rattle.rows.specs.declared.state.State.TheVariants.{Err1, Err2, Gone, Laps, Mach, Npar, Outs, Wait}
use Rattle.rules.specs.Books.{Book, Call, Opening, Slip, after, after_close, after_report, close, close_answer, entry_at, lookup, may_close, put, received, report, report_answer}
use Rattle.rules.specs.Judging.{Close, Line, Notice, Verdict, early, entry_after, gone, judged, lapsed, line, notice_by, notice_of, outside, pair_findings, partner, ready, same_shown, shown, verdict, with_verdict}
use Rattle.rules.proofs.Entries.{Sorted, find_collect, find_with_other, find_with_same, for_collect, none_some, some_inj}
use Rattle.rules.proofs.Keys.{key_dec, same_not, same_to}
use Rattle.rules.proofs.Shown.{not_same_shown, one_state, same_shown_is}
use Rattle.runs.specs.Law.{DiffersFromNext, NoRepeat, enters_at, newest, notices_for, notices_in, since_entry, was_accepted}
use Rattle.runs.proofs.Steps.{Altered, Entered, keeps, sorted_after, tells, took_in, took_in_key}

-- ---- no row of a book is gone

abbrev Lives : State → Type 0
Lives Wait = Unit {0}
Lives Outs = Unit {0}
Lives Laps = Unit {0}
Lives Npar = Unit {0}
Lives Mach = Unit {0}
Lives Err1 = Unit {0}
Lives Err2 = Unit {0}
Lives Gone = ⊥

pair_lives : (p : PairState) → Lives (state_of_pair p)
pair_lives Pair.Mach = tt
pair_lives Pair.Err1 = tt
pair_lives Pair.Err2 = tt

verdict_lives : (sheet : Meaning) (e : Entry) (m : Option Entry) (l : Line) (v : Verdict) → Lives e.state → verdict sheet e m l ≡ Some v → Lives v.state
verdict_lives sheet e m gone v h q = absurd (none_some q)
verdict_lives sheet e m early v h q = subst (λ (w : Verdict). Lives w.state) (some_inj q) h
verdict_lives sheet e m outside v h q = subst (λ (w : Verdict). Lives w.state) (some_inj q) tt
verdict_lives sheet e m lapsed v h q = subst (λ (w : Verdict). Lives w.state) (some_inj q) tt
verdict_lives sheet e None ready v h q = subst (λ (w : Verdict). Lives w.state) (some_inj q) tt
verdict_lives sheet e (Some m) ready v h q = subst (λ (w : Verdict). Lives w.state) (some_inj q) (pair_lives (state_by sheet (pair_findings sheet e m)))

abbrev Alive : List Entry → Type 0
Alive xs = (k : Key) (e : Entry) → entry_at k xs ≡ Some e → Lives e.state

module _ (b : Book) (before : Alive b.entries) where
  alive_took : (r : Report) (x : Entry) → Entered b.day r (entry_at (key_in r.parties) b.entries) x ⊎ Altered b.day r (entry_at (key_in r.parties) b.entries) x → Lives x.state
  alive_took r x (inl t) = subst (λ (y : Entry). Lives y.state) (sym t.is) tt
  alive_took r x (inr t) = subst (λ (y : Entry). Lives y.state) (sym t.is) (before (key_in r.parties) t.old t.present)

  alive_put : (r : Report) (x : Entry) → received b (Ok r) ≡ Ok x → Alive (put x b.entries)
  alive_put r x q k e p = go (key_dec k (key_in r.parties))
    where
      go : Dec (k ≡ key_in r.parties) → Lives e.state
      go (yes z) = subst (λ (y : Entry). Lives y.state) (some_inj (sym (find_with_same k x b.entries (took_in_key b r x (took_in b r x q) ∙ sym z)) ∙ p)) (alive_took r x (took_in b r x q).how)
      go (no n) = before k e (sym (find_with_other k (key_in r.parties) x b.entries (took_in_key b r x (took_in b r x q)) n) ∙ p)

  alive_report : (s : Slip) (a : Result Entry Refusal) → received b s ≡ a → Alive (after_report b a).entries
  alive_report s (Err refusal) q = before
  alive_report (Err refusal) (Ok x) q = absurd cc
  alive_report (Ok r) (Ok x) q = alive_put r x q

  module _ (sheet : Meaning) (c : Close) (up : Sorted b.entries) where
    alive_judged : (k : Key) (x e : Entry) → entry_at k b.entries ≡ Some x → (v : Option Verdict) → judged sheet c b.day b.entries x ≡ v → option_map (with_verdict x) v ≡ Some e → Lives e.state
    alive_judged k x e f None j p = absurd (none_some p)
    alive_judged k x e f (Some v) j p = subst (λ (y : Entry). Lives y.state) (some_inj p) (verdict_lives sheet x (partner c b.day b.entries x) (line c b.day x) v (before k x f) j)

    alive_close : (a : Result ℕ Refusal) → Alive (after_close sheet b c a).entries
    alive_close (Err refusal) k e p = before k e p
    alive_close (Ok day) k e p = go (entry_at k b.entries) refl (sym (find_collect (entry_after sheet c b.day b.entries) (keeps sheet c b.day b.entries) k b.entries up) ∙ p)
      where
        go : (x : Option Entry) → entry_at k b.entries ≡ x → option_and_then (entry_after sheet c b.day b.entries) x ≡ Some e → Lives e.state
        go None f z = absurd (none_some z)
        go (Some x) f z = alive_judged k x e f (judged sheet c b.day b.entries x) refl z

alive : (o : Opening) (h : List Call) → Alive (after o h).entries
alive o [] = λ k e p. absurd (none_some p)
alive o (report s ∷ h) = alive_report (after o h) (alive o h) s (received (after o h) s) refl
alive o (close c ∷ h) = alive_close (after o h) (alive o h) o.sheet c (sorted_after o h) (may_close (after o h) c)
alive o (lookup q ∷ h) = alive o h

-- ---- when an entry begins

enters_yes : (k : Key) (r : Report) (standing : Standing) → enters r.action ≡ Some standing → k ≡ key_in r.parties → enters_at k (Ok r) ≡ true
enters_yes k r standing e p = and_from (same_key k (key_in r.parties)) (is_some (enters r.action)) (same_to k (key_in r.parties) p) (ap is_some e)

enters_no : (k : Key) (r : Report) → enters r.action ≡ None → enters_at k (Ok r) ≡ false
enters_no k r e = and_right (same_key k (key_in r.parties)) (is_some (enters r.action)) (ap is_some e)

enters_other : (k : Key) (r : Report) → k ≢ key_in r.parties → enters_at k (Ok r) ≡ false
enters_other k r n = and_left (same_key k (key_in r.parties)) (is_some (enters r.action)) (same_not k (key_in r.parties) n)

-- ---- the newest notice

abbrev Says : List Entry → (Key → List Notice) → Type 0
Says xs f = (k : Key) (e : Entry) → entry_at k xs ≡ Some e → shown e ≡ newest (f k)

abbrev noted : Result Entry Refusal → Key → Slip → List Notice → List Notice
noted a k s ns = cond (was_accepted (report_answer a) && enters_at k s) [] ns

noted_none : (k : Key) (s : Slip) (x : Entry) (ns : List Notice) → enters_at k s ≡ true → noted (Ok x) k s ns ≡ []
noted_none k s x ns e = ap (λ (v : Bool). cond v [] ns) e

noted_on : (k : Key) (s : Slip) (x : Entry) (ns : List Notice) → enters_at k s ≡ false → noted (Ok x) k s ns ≡ ns
noted_on k s x ns e = ap (λ (v : Bool). cond v [] ns) e

differs : (n : Notice) (ns : List Notice) → n.says ≢ newest ns → DiffersFromNext n ns
differs n [] h = tt
differs n (m ∷ ms) h = λ e. h (ap (λ (x : Notice). x.says) e)

module _ (b : Book) (f : Key → List Notice) (before : Says b.entries f) where
  says_took : (k : Key) (r : Report) (x : Entry) → k ≡ key_in r.parties → Entered b.day r (entry_at (key_in r.parties) b.entries) x ⊎ Altered b.day r (entry_at (key_in r.parties) b.entries) x → shown x ≡ newest (noted (Ok x) k (Ok r) (f k))
  says_took k r x p (inl t) = ap shown t.is ∙ ap newest (sym (noted_none k (Ok r) x (f k) (enters_yes k r t.standing t.entering p)))
  says_took k r x p (inr t) = ap shown t.is ∙ before k t.old (ap (λ (v : Key). entry_at v b.entries) p ∙ t.present) ∙ ap newest (sym (noted_on k (Ok r) x (f k) (enters_no k r t.entering)))

  says_put : (r : Report) (x : Entry) → received b (Ok r) ≡ Ok x → Says (put x b.entries) (λ k. noted (Ok x) k (Ok r) (f k))
  says_put r x q k e p = go (key_dec k (key_in r.parties))
    where
      go : Dec (k ≡ key_in r.parties) → shown e ≡ newest (noted (Ok x) k (Ok r) (f k))
      go (yes z) = ap shown (some_inj (sym p ∙ find_with_same k x b.entries (took_in_key b r x (took_in b r x q) ∙ sym z))) ∙ says_took k r x z (took_in b r x q).how
      go (no n) = before k e (sym (find_with_other k (key_in r.parties) x b.entries (took_in_key b r x (took_in b r x q)) n) ∙ p) ∙ ap newest (sym (noted_on k (Ok r) x (f k) (enters_other k r n)))

  says_report : (s : Slip) (a : Result Entry Refusal) → received b s ≡ a → Says (after_report b a).entries (λ k. noted a k s (f k))
  says_report s (Err refusal) q = before
  says_report (Err refusal) (Ok x) q = absurd cc
  says_report (Ok r) (Ok x) q = says_put r x q

  module _ (sheet : Meaning) (c : Close) (up : Sorted b.entries) where
    -- the notice of a close for a key
    close_says : (k : Key) (day : ℕ) → notices_for k (notices_in (close_answer sheet b c (Ok day))) ≡ cons_option (option_and_then (notice_of sheet c b.day b.entries) (entry_at k b.entries)) []
    close_says k day = for_collect (notice_of sheet c b.day b.entries) (tells sheet c b.day b.entries) k b.entries up

    says_judged : (k : Key) (x e : Entry) → entry_at k b.entries ≡ Some x → (v : Option Verdict) → option_map (with_verdict x) v ≡ Some e → shown e ≡ newest (cons_option (notice_by x v) [] ++ f k)
    says_judged k x e q None p = absurd (none_some p)
    says_judged k x e q (Some v) p = go (same_shown (told v.state v.findings) (shown x)) refl
      where
        go : (t : Bool) → same_shown (told v.state v.findings) (shown x) ≡ t → shown e ≡ newest (cons_option (cond t None (Some (record { key = x.key; says = told v.state v.findings }))) [] ++ f k)
        go true h = ap shown (sym (some_inj p)) ∙ same_shown_is (told v.state v.findings) (shown x) h ∙ before k x q
        go false h = ap shown (sym (some_inj p))

    says_close : (a : Result ℕ Refusal) → Says (after_close sheet b c a).entries (λ k. notices_for k (notices_in (close_answer sheet b c a)) ++ f k)
    says_close (Err refusal) k e p = before k e p
    says_close (Ok day) k e p =
        subst (λ (ns : List Notice). shown e ≡ newest (ns ++ f k)) (sym (close_says k day))
        (go (entry_at k b.entries) refl (sym (find_collect (entry_after sheet c b.day b.entries) (keeps sheet c b.day b.entries) k b.entries up) ∙ p))
      where
        go : (x : Option Entry) → entry_at k b.entries ≡ x → option_and_then (entry_after sheet c b.day b.entries) x ≡ Some e → shown e ≡ newest (cons_option (option_and_then (notice_of sheet c b.day b.entries) x) [] ++ f k)
        go None q z = absurd (none_some z)
        go (Some x) q z = says_judged k x e q (judged sheet c b.day b.entries x) z

    module _ (living : Alive b.entries) (apart : (k : Key) → NoRepeat (f k)) where
      no_repeat_judged : (k : Key) (x : Entry) → entry_at k b.entries ≡ Some x → (v : Option Verdict) → NoRepeat (cons_option (notice_by x v) [] ++ f k)
      no_repeat_judged k x q None = (differs (record { key = x.key; says = told Gone uncompared }) (f k) (λ e. subst Lives (one_state x.state Gone (ap (λ (z : Shown). z.0) (sym (e ∙ sym (before k x q))))) (living k x q)), apart k)
      no_repeat_judged k x q (Some v) = go (same_shown (told v.state v.findings) (shown x)) refl
        where
          go : (t : Bool) → same_shown (told v.state v.findings) (shown x) ≡ t → NoRepeat (cons_option (cond t None (Some (record { key = x.key; says = told v.state v.findings }))) [] ++ f k)
          go true h = apart k
          go false h = (differs (record { key = x.key; says = told v.state v.findings }) (f k) (λ e. not_same_shown (told v.state v.findings) (shown x) h (e ∙ sym (before k x q))), apart k)

      no_repeat_close : (a : Result ℕ Refusal) (k : Key) → NoRepeat (notices_for k (notices_in (close_answer sheet b c a)) ++ f k)
      no_repeat_close (Err refusal) k = apart k
      no_repeat_close (Ok day) k = subst (λ (ns : List Notice). NoRepeat (ns ++ f k)) (sym (close_says k day)) (go (entry_at k b.entries) refl)
        where
          go : (x : Option Entry) → entry_at k b.entries ≡ x → NoRepeat (cons_option (option_and_then (notice_of sheet c b.day b.entries) x) [] ++ f k)
          go None q = apart k
          go (Some x) q = no_repeat_judged k x q (judged sheet c b.day b.entries x)

no_repeat_report : (k : Key) (s : Slip) (a : Result Entry Refusal) (ns : List Notice) → NoRepeat ns → NoRepeat (noted a k s ns)
no_repeat_report k s a ns apart = go (was_accepted (report_answer a) && enters_at k s)
  where
    go : (v : Bool) → NoRepeat (cond v [] ns)
    go true = tt
    go false = apart

pub shows_newest : (o : Opening) (h : List Call) → Says (after o h).entries (λ k. since_entry o k h)
shows_newest o [] = λ k e p. absurd (none_some p)
shows_newest o (report s ∷ h) = says_report (after o h) (λ k. since_entry o k h) (shows_newest o h) s (received (after o h) s) refl
shows_newest o (close c ∷ h) = says_close (after o h) (λ k. since_entry o k h) (shows_newest o h) o.sheet c (sorted_after o h) (may_close (after o h) c)
shows_newest o (lookup q ∷ h) = shows_newest o h

pub no_repeat : (o : Opening) (h : List Call) (k : Key) → NoRepeat (since_entry o k h)
no_repeat o [] k = tt
no_repeat o (report s ∷ h) k = no_repeat_report k s (received (after o h) s) (since_entry o k h) (no_repeat o h k)
no_repeat o (close c ∷ h) k = no_repeat_close (after o h) (λ l. since_entry o l h) (shows_newest o h) o.sheet c (sorted_after o h) (alive o h) (no_repeat o h) (may_close (after o h) c) k
no_repeat o (lookup q ∷ h) k = no_repeat o h k
