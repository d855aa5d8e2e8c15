-- What an accepted report and an accepted close leave at each key.
use Rattle.std.proofs.Common.{◌≡◌, ◌≢◌, ◌⊎◌, inl, inr, ℕ, Bool, true, false, cond, List, [], ◌∷◌, Some, None, Option, Ok, Err, Result, option_map, ◌∙◌, refl, sym, ap}
use Rattle.std.proofs.lemmas.Slice.Eq.{bytes_eq-Decides}
use Rattle.refusals.specs.declared.refusal.Refusal.{Refusal}
use Rattle.refusals.specs.declared.refusal.Refusal.TheVariants.{DatedAhead, SameParty}
use Rattle.report.specs.declared.report.Report.{Report}
use Rattle.sheets.specs.Sheets.{Meaning}
use Rattle.rows.specs.Days.{ahead}
use Rattle.rows.specs.Entries.{Entry, amended, entered}
use Rattle.rows.specs.Keys.{key_in}
use Rattle.rows.specs.Standings.{enters, taken_by, takes}
use Rattle.rows.specs.Words.{told}
use Rattle.rows.specs.declared.standing.Standing.{Standing}
use Rattle.rules.specs.Books.{Book, Call, Opening, after, after_close, after_report, at_entry, at_key, at_new_key, close, entry_at, is_full, judged_report, leaves, lookup, may_close, received, report, same_party}
use Rattle.rules.specs.Judging.{Close, Notice, Verdict, entry_after, judged, notice_by, notice_of, same_shown, shown, with_verdict}
use Rattle.rules.proofs.Entries.{Keeps, Sorted, Tells, find_key, none_some, some_inj, sorted_collect, pairs_sorted, sorted_pairs, sorted_put}
use Rattle.rules.specs.Books.{InOrder}

pub err_ok : {A B : Type 0} {a : A} {b : B} → Err b ≡ Ok a → ⊥
err_ok {A} {B} {a} {b} e = absurd (cc)

pub ok_inj : {A B : Type 0} {a b : A} → ◌≡◌ {A = Result A B} (Ok a) (Ok b) → a ≡ b
ok_inj {A} {B} {a} {b} e = cc

-- ---- an accepted report

module _ (today : ℕ) (r : Report) where
  pub record Entered (o : Option Entry) (e : Entry) : Type 0 where
    pub standing : Standing
    pub absent : o ≡ None
    pub entering : enters r.action ≡ Some standing
    pub is : e ≡ entered today r standing

  pub record Altered (o : Option Entry) (e : Entry) : Type 0 where
    pub old : Entry
    pub standing : Standing
    pub present : o ≡ Some old
    pub entering : enters r.action ≡ None
    pub is : e ≡ amended old r standing

  took_none : (s : Option Standing) (full : Bool) (o : Option Entry) (e : Entry) → o ≡ None → enters r.action ≡ s → at_new_key full today r s ≡ Ok e → Entered o e
  took_none None full o e z p q = absurd (err_ok q)
  took_none (Some s) true o e z p q = absurd (err_ok q)
  took_none (Some s) false o e z p q = record { standing = s; absent = z; entering = p; is = sym (ok_inj q) }

  took_some : (s t : Option Standing) (old : Entry) (o : Option Entry) (e : Entry) → o ≡ Some old → enters r.action ≡ s → at_entry old r (taken_by s t) ≡ Ok e → Altered o e
  took_some (Some s) t old o e z p q = absurd (err_ok q)
  took_some None None old o e z p q = absurd (err_ok q)
  took_some None (Some s) old o e z p q = record { old = old; standing = s; present = z; entering = p; is = sym (ok_inj q) }

  took_key : (full : Bool) (o : Option Entry) (e : Entry) → at_key full today o r ≡ Ok e → Entered o e ⊎ Altered o e
  took_key full None e q = inl (took_none (enters r.action) full None e refl refl q)
  took_key full (Some old) e q = inr (took_some (enters r.action) (takes old.standing r.action) old (Some old) e refl refl q)

  pub record Took (o : Option Entry) (e : Entry) : Type 0 where
    pub parties : (key_in r.parties).reporter ≢ (key_in r.parties).other
    pub how : Entered o e ⊎ Altered o e

  pub took : (full : Bool) (o : Option Entry) (e : Entry) → judged_report full today o r ≡ Ok e → Took o e
  took full o e = go (same_party (key_in r.parties)) refl (ahead today r)
    where
      go : (s : Bool) → same_party (key_in r.parties) ≡ s → (a : Bool) → cond s (Err SameParty) (cond a (Err DatedAhead) (at_key full today o r)) ≡ Ok e → Took o e
      go true z a q = absurd (err_ok q)
      go false z true q = absurd (err_ok q)
      go false z false q = record {
        parties = λ p. let w = (bytes_eq-Decides (key_in r.parties).reporter (key_in r.parties).other).1 p in absurd (cc);
        how = took_key full o e q;
      }

-- the entry is that of the report's key
module _ (b : Book) (r : Report) where
  abbrev pub TookIn : Entry → Type 0
  TookIn e = Took b.day r (entry_at (key_in r.parties) b.entries) e

  pub took_in : (e : Entry) → received b (Ok r) ≡ Ok e → TookIn e
  took_in e q = took b.day r (is_full b) (entry_at (key_in r.parties) b.entries) e q

  how_key : (e : Entry) → Entered b.day r (entry_at (key_in r.parties) b.entries) e ⊎ Altered b.day r (entry_at (key_in r.parties) b.entries) e → e.key ≡ key_in r.parties
  how_key e (inl w) = ap (λ (x : Entry). x.key) w.is
  how_key e (inr w) = ap (λ (x : Entry). x.key) w.is ∙ find_key (key_in r.parties) b.entries w.old w.present

  pub took_in_key : (e : Entry) → TookIn e → e.key ≡ key_in r.parties
  took_in_key e w = how_key e w.how

-- ---- a close keeps keys

module _ (sheet : Meaning) (c : Close) (today : ℕ) (entries : List Entry) where
  pub keeps : Keeps (entry_after sheet c today entries)
  keeps x y = go (judged sheet c today entries x)
    where
      go : (o : Option Verdict) → option_map (with_verdict x) o ≡ Some y → y.key ≡ x.key
      go None e = absurd (none_some e)
      go (Some v) e = ap (λ (z : Entry). z.key) (sym (some_inj e))

  pub tells : Tells (notice_of sheet c today entries)
  tells x y = go (judged sheet c today entries x)
    where
      at : (v : Verdict) (same : Bool) → cond same None (Some (record { key = x.key; says = told v.state v.findings })) ≡ Some y → y.key ≡ x.key
      at v true e = absurd (none_some e)
      at v false e = ap (λ (z : Notice). z.key) (sym (some_inj e))

      go : (o : Option Verdict) → notice_by x o ≡ Some y → y.key ≡ x.key
      go None e = ap (λ (z : Notice). z.key) (sym (some_inj e))
      go (Some v) e = at v (same_shown (told v.state v.findings) (shown x)) e

-- ---- the entries ascend

pub sorted_report : (b : Book) (o : Result Entry Refusal) → Sorted b.entries → Sorted (after_report b o).entries
sorted_report b (Err refusal) s = s
sorted_report b (Ok e) s = sorted_put e b.entries s

pub sorted_close : (sheet : Meaning) (b : Book) (c : Close) (o : Result ℕ Refusal) → Sorted b.entries → Sorted (after_close sheet b c o).entries
sorted_close sheet b c (Err refusal) s = s
sorted_close sheet b c (Ok day) s = sorted_collect (entry_after sheet c b.day b.entries) (keeps sheet c b.day b.entries) b.entries s

pub sorted_after : (o : Opening) (h : List Call) → Sorted (after o h).entries
sorted_after o [] = tt
sorted_after o (report s ∷ h) = sorted_report (after o h) (received (after o h) s) (sorted_after o h)
sorted_after o (close c ∷ h) = sorted_close o.sheet (after o h) c (may_close (after o h) c) (sorted_after o h)
sorted_after o (lookup q ∷ h) = sorted_after o h

pub ascend : (o : Opening) (h : List Call) → InOrder (after o h).entries
ascend o h = sorted_pairs (after o h).entries (sorted_after o h)

sorted_left : (sheet : Meaning) (b : Book) (c : Call) → Sorted b.entries → Sorted (leaves sheet b c).entries
sorted_left sheet b (report s) = sorted_report b (received b s)
sorted_left sheet b (close c) = sorted_close sheet b c (may_close b c)
sorted_left sheet b (lookup q) = λ s. s

-- no call brings a book out of order
pub order_kept : (sheet : Meaning) (b : Book) (c : Call) → InOrder b.entries → InOrder (leaves sheet b c).entries
order_kept sheet b c o = sorted_pairs (leaves sheet b c).entries (sorted_left sheet b c (pairs_sorted b.entries o))
