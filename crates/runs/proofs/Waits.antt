-- A row not yet due waits.
use Rattle.std.proofs.Common.{◌≡◌, ◌⊎◌, inl, inr, refl, sym, ap, subst, ◌∙◌, ℕ, ◌<◌, Bool, true, false, cond, not, ◌==◌, List, [], ◌∷◌, Option, Some, None, option_and_then, option_map, Result, Ok, Err}
use Rattle.std.proofs.lemmas.Bool.{true≢false}
use Rattle.refusals.specs.declared.refusal.Refusal.{Refusal}
use Rattle.report.specs.declared.report.Report.{Report}
use Rattle.sheets.specs.Sheets.{Meaning}
use Rattle.rows.specs.Days.{due_later}
use Rattle.rows.specs.Entries.{Entry, uncompared}
use Rattle.rows.specs.Keys.{Key, key_in}
use Rattle.rows.specs.Words.{told}
use Rattle.rows.specs.declared.state.State.TheVariants.{Wait}
use Rattle.rules.specs.Books.{Book, Call, Opening, Slip, after, after_close, after_report, close, entry_at, lookup, may_close, put, received, report}
use Rattle.rules.specs.Judging.{Close, Line, Verdict, early, entry_after, gone, is_withdrawn, judged, lapsed, line, outside, partner, ready, registered, shown, verdict, with_verdict}
use Rattle.rules.proofs.Days.{close_later, later_before}
use Rattle.rules.proofs.Entries.{Sorted, find_collect, find_with_other, find_with_same, none_some, some_inj}
use Rattle.rules.proofs.Keys.{key_dec}
use Rattle.runs.proofs.Steps.{Altered, Entered, keeps, sorted_after, took_in, took_in_key}

abbrev Waiting : ℕ → List Entry → Type 0
Waiting today xs = (k : Key) (e : Entry) → entry_at k xs ≡ Some e → due_later today e.due ≡ true → shown e ≡ told Wait uncompared

-- ---- reports

module _ (b : Book) (before : Waiting b.day b.entries) where
  waits_took : (r : Report) (x : Entry) → Entered b.day r (entry_at (key_in r.parties) b.entries) x ⊎ Altered b.day r (entry_at (key_in r.parties) b.entries) x → due_later b.day x.due ≡ true → shown x ≡ told Wait uncompared
  waits_took r x (inl t) h = ap shown t.is
  waits_took r x (inr t) h = ap shown t.is ∙ before (key_in r.parties) t.old t.present (subst (λ (y : Entry). due_later b.day y.due ≡ true) t.is h)

  waits_put : (r : Report) (x : Entry) → received b (Ok r) ≡ Ok x → Waiting b.day (put x b.entries)
  waits_put r x q k e p h = go (key_dec k (key_in r.parties))
    where
      go : Dec (k ≡ key_in r.parties) → shown e ≡ told Wait uncompared
      go (yes z) =
          let same : x ≡ e = some_inj (sym (find_with_same k x b.entries (took_in_key b r x (took_in b r x q) ∙ sym z)) ∙ p) in
          ap shown (sym same) ∙ waits_took r x (took_in b r x q).how (subst (λ (y : Entry). due_later b.day y.due ≡ true) (sym same) h)
      go (no n) = before k e (sym (find_with_other k (key_in r.parties) x b.entries (took_in_key b r x (took_in b r x q)) n) ∙ p) h

  waits_report : (s : Slip) (a : Result Entry Refusal) → received b s ≡ a → Waiting (after_report b a).day (after_report b a).entries
  waits_report s (Err refusal) q = before
  waits_report (Err refusal) (Ok x) q = absurd cc
  waits_report (Ok r) (Ok x) q = waits_put r x q

-- ---- closes

line_early : (c : Close) (today : ℕ) (e : Entry) → due_later today e.due ≡ true → (line c today e ≡ gone) ⊎ (line c today e ≡ early)
unfolding line
line_early c today e h = go (is_withdrawn e.standing) (due_later today e.due) h
  where
    rest : Line
    rest = cond (not (registered c e)) outside (cond (e.tries == 7) lapsed ready)

    go : (w v : Bool) → v ≡ true → (cond w gone (cond v early rest) ≡ gone) ⊎ (cond w gone (cond v early rest) ≡ early)
    go true v p = inl refl
    go false true p = inr refl
    go false false p = absurd (true≢false (sym p))

-- an entry that is not yet due is freed or left as it was
early_shown : (sheet : Meaning) (e : Entry) (m : Option Entry) (l : Line) (v : Verdict) → (l ≡ gone) ⊎ (l ≡ early) → verdict sheet e m l ≡ Some v → told v.state v.findings ≡ shown e
early_shown sheet e m l v (inl g) j = absurd (none_some (sym (ap (verdict sheet e m) g) ∙ j))
early_shown sheet e m l v (inr g) j = ap (λ (w : Verdict). told w.state w.findings) (sym (some_inj (sym (ap (verdict sheet e m) g) ∙ j)))

module _ (sheet : Meaning) (b : Book) (c : Close) (up : Sorted b.entries) (before : Waiting b.day b.entries) where
  waits_judged : (next : ℕ) → b.day < next → (k : Key) (x e : Entry) → entry_at k b.entries ≡ Some x → (v : Option Verdict) → judged sheet c b.day b.entries x ≡ v → option_map (with_verdict x) v ≡ Some e → due_later next e.due ≡ true → shown e ≡ told Wait uncompared
  waits_judged next lt k x e f None j p h = absurd (none_some p)
  waits_judged next lt k x e f (Some v) j p h =
      let soon : due_later b.day x.due ≡ true = later_before b.day next x.due lt (subst (λ (y : Entry). due_later next y.due ≡ true) (sym (some_inj p)) h) in
      ap shown (sym (some_inj p)) ∙ early_shown sheet x (partner c b.day b.entries x) (line c b.day x) v (line_early c b.day x soon) j ∙ before k x f soon

  waits_close : (a : Result ℕ Refusal) → may_close b c ≡ a → Waiting (after_close sheet b c a).day (after_close sheet b c a).entries
  waits_close (Err refusal) z k e p h = before k e p h
  waits_close (Ok next) z k e p h = go (entry_at k b.entries) refl (sym (find_collect (entry_after sheet c b.day b.entries) (keeps sheet c b.day b.entries) k b.entries up) ∙ p)
    where
      go : (x : Option Entry) → entry_at k b.entries ≡ x → option_and_then (entry_after sheet c b.day b.entries) x ≡ Some e → shown e ≡ told Wait uncompared
      go None f y = absurd (none_some y)
      go (Some x) f y = waits_judged next (close_later b c next z) k x e f (judged sheet c b.day b.entries x) refl y h

pub waits : (o : Opening) (h : List Call) → Waiting (after o h).day (after o h).entries
waits o [] = λ k e p d. absurd (none_some p)
waits o (report s ∷ h) = waits_report (after o h) (waits o h) s (received (after o h) s) refl
waits o (close c ∷ h) = waits_close o.sheet (after o h) c (sorted_after o h) (waits o h) (may_close (after o h) c) refl
waits o (lookup q ∷ h) = waits o h
