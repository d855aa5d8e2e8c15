-- Each Trade ID's reports get the same answers, however those of others come between them.
use Rattle.std.proofs.Common.{◌≡◌, ◌≢◌, ◌⊎◌, inl, inr, refl, sym, ap, subst, ◌∙◌, ℕ, min, Bool, true, false, cond, Decides, bytes_eq, List, [], ◌∷◌, ◌++◌, filter, Option, Some, None, Result, Ok, Err}
use Rattle.std.specs.List.{AllByRecursion}
use Rattle.std.proofs.lemmas.List.Elements.{filter-append}
use Rattle.std.proofs.lemmas.Slice.Eq.{bytes_eq-Decides}
use Rattle.std.proofs.lemmas.Bool.Decides.{not_from_Decides}
use Rattle.refusals.specs.declared.refusal.Refusal.{Refusal}
use Rattle.refusals.specs.Words.{parts_of}
use Rattle.refusals.specs.declared.refusal.Refusal.TheVariants.{BookFull, DatedAhead, SameParty}
use Rattle.report.specs.declared.report.Report.{Report}
use Rattle.sheets.specs.Sheets.{Meaning}
use Rattle.rows.specs.Days.{ahead}
use Rattle.rows.specs.Entries.{Entry}
use Rattle.rows.specs.Keys.{Key, key_in}
use Rattle.rows.specs.Standings.{enters}
use Rattle.rows.specs.declared.standing.Standing.{Standing}
use Rattle.rules.specs.Books.{Answer, Book, Call, Opening, Slip, after, after_close, after_report, answer, at_key, at_new_key, close, entry_at, is_full, judged_report, leaves, lookup, may_close, put, received, refused, report, report_answer, same_party, told}
use Rattle.rules.specs.Judging.{Close}
use Rattle.runs.specs.Law.{Agree, NeverFull, SameFor, concerns, trade_of}
use Rattle.rules.proofs.Entries.{find_put_other, find_with_same, same_entries}
use Rattle.rules.proofs.Keys.{key_dec}
use Rattle.runs.proofs.Steps.{sorted_after, took_in, took_in_key}

abbrev Told : Type 0
Told = Call × Answer

abbrev about : List ℕ → Told → Bool
about trade t = concerns trade t.0

abbrev NotFull : List Told → Type 0
NotFull ts = AllByRecursion (λ (t : Told). t.1 ≢ refused (parts_of BookFull)) ts

-- ---- a history, cut at its last close

-- the last close, and the calls before it
abbrev up : List Call → List Call
up [] = []
up (report s ∷ h) = up h
up (close c ∷ h) = close c ∷ h
up (lookup q ∷ h) = up h

-- the calls since
abbrev on : List Call → List Call
on [] = []
on (report s ∷ h) = report s ∷ on h
on (close c ∷ h) = []
on (lookup q ∷ h) = lookup q ∷ on h

abbrev run : Meaning → Book → List Call → Book
run sheet b [] = b
run sheet b (c ∷ cs) = leaves sheet (run sheet b cs) c

abbrev tell : Meaning → Book → List Call → List Told
tell sheet b [] = []
tell sheet b (c ∷ cs) = (c, answer sheet (run sheet b cs) c) ∷ tell sheet b cs

after_cut : (o : Opening) (h : List Call) → after o h ≡ run o.sheet (after o (up h)) (on h)
after_cut o [] = refl
after_cut o (report s ∷ h) = ap (λ (b : Book). leaves o.sheet b (report s)) (after_cut o h)
after_cut o (close c ∷ h) = refl
after_cut o (lookup q ∷ h) = after_cut o h

told_cut : (o : Opening) (h : List Call) → told o h ≡ tell o.sheet (after o (up h)) (on h) ++ told o (up h)
told_cut o [] = refl
told_cut o (report s ∷ h) = λ i. (report s, answer o.sheet (after_cut o h i) (report s)) ∷ told_cut o h i
told_cut o (close c ∷ h) = refl
told_cut o (lookup q ∷ h) = λ i. (lookup q, answer o.sheet (after_cut o h i) (lookup q)) ∷ told_cut o h i

up_kept : (trade : List ℕ) (h : List Call) → up (filter (concerns trade) h) ≡ filter (concerns trade) (up h)
up_kept trade [] = refl
up_kept trade (report s ∷ h) = go (concerns trade (report s)) (up_kept trade h)
  where
    go : (v : Bool) → up (filter (concerns trade) h) ≡ filter (concerns trade) (up h) → up (cond v (report s ∷ filter (concerns trade) h) (filter (concerns trade) h)) ≡ filter (concerns trade) (up h)
    go true e = e
    go false e = e
up_kept trade (close c ∷ h) = refl
up_kept trade (lookup q ∷ h) = up_kept trade h

on_kept : (trade : List ℕ) (h : List Call) → on (filter (concerns trade) h) ≡ filter (concerns trade) (on h)
on_kept trade [] = refl
on_kept trade (report s ∷ h) = go (concerns trade (report s)) (on_kept trade h)
  where
    go : (v : Bool) → on (filter (concerns trade) h) ≡ filter (concerns trade) (on h) → on (cond v (report s ∷ filter (concerns trade) h) (filter (concerns trade) h)) ≡ cond v (report s ∷ filter (concerns trade) (on h)) (filter (concerns trade) (on h))
    go true e = ap (λ (l : List Call). report s ∷ l) e
    go false e = e
on_kept trade (close c ∷ h) = refl
on_kept trade (lookup q ∷ h) = on_kept trade h

same_up : (h g : List Call) → SameFor h g → SameFor (up h) (up g)
same_up h g same trade = sym (up_kept trade h) ∙ ap up (same trade) ∙ up_kept trade g

same_on : (h g : List Call) → SameFor h g → SameFor (on h) (on g)
same_on h g same trade = sym (on_kept trade h) ∙ ap on (same trade) ∙ on_kept trade g

-- ---- one Trade ID, in a book that is never full

full_free : (full : Bool) (today : ℕ) (old : Option Entry) (r : Report) → report_answer (judged_report full today old r) ≢ refused (parts_of BookFull) → judged_report full today old r ≡ judged_report false today old r
full_free full today old r = go (same_party (key_in r.parties)) (ahead today r) old
  where
    at : (entering : Option Standing) (f : Bool) → report_answer (at_new_key f today r entering) ≢ refused (parts_of BookFull) → at_new_key f today r entering ≡ at_new_key false today r entering
    at None f n = refl
    at (Some standing) true n = absurd (n refl)
    at (Some standing) false n = refl

    go : (u v : Bool) (old : Option Entry) → report_answer (cond u (Err SameParty) (cond v (Err DatedAhead) (at_key full today old r))) ≢ refused (parts_of BookFull) → cond u (Err SameParty) (cond v (Err DatedAhead) (at_key full today old r)) ≡ cond u (Err SameParty) (cond v (Err DatedAhead) (at_key false today old r))
    go true v old n = refl
    go false true old n = refl
    go false false None n = at (enters r.action) full n
    go false false (Some e) n = refl

-- what a book with room makes of a slip
abbrev roomy : Book → Slip → Result Entry Refusal
roomy b (Err refusal) = Err refusal
roomy b (Ok r) = judged_report false b.day (entry_at (key_in r.parties) b.entries) r

-- the runs of such a book, in which closes change nothing
abbrev run_roomy : Book → List Call → Book
run_roomy b [] = b
run_roomy b (report s ∷ h) = after_report (run_roomy b h) (roomy (run_roomy b h) s)
run_roomy b (close c ∷ h) = run_roomy b h
run_roomy b (lookup q ∷ h) = run_roomy b h

abbrev tell_roomy : Book → List Call → List Told
tell_roomy b [] = []
tell_roomy b (report s ∷ h) = (report s, report_answer (roomy (run_roomy b h) s)) ∷ tell_roomy b h
tell_roomy b (close c ∷ h) = tell_roomy b h
tell_roomy b (lookup q ∷ h) = tell_roomy b h

-- the same day, and the same rows of this Trade ID
record Near (trade : List ℕ) (b d : Book) : Type 0 where
  day : b.day ≡ d.day
  entries : (k : Key) → k.trade ≡ trade → entry_at k b.entries ≡ entry_at k d.entries

day_kept : (b : Book) (o : Result Entry Refusal) → (after_report b o).day ≡ b.day
day_kept b (Err refusal) = refl
day_kept b (Ok e) = refl

-- a report of another Trade ID
far : (b : Book) (s : Slip) (trade : List ℕ) → trade_of s ≢ trade → (o : Result Entry Refusal) → received b s ≡ o → (k : Key) → k.trade ≡ trade → entry_at k (after_report b o).entries ≡ entry_at k b.entries
far b s trade n (Err refusal) q k p = refl
far b (Err refusal) trade n (Ok e) q k p = absurd cc
far b (Ok r) trade n (Ok e) q k p = find_put_other k e b.entries (λ z. n (sym (ap (λ (v : Key). v.trade) (z ∙ took_in_key b r e (took_in b r e q))) ∙ p))

near_far : (b d : Book) (s : Slip) (trade : List ℕ) → trade_of s ≢ trade → Near trade b d → Near trade (after_report b (received b s)) d
near_far b d s trade n near = record { day = day_kept b (received b s) ∙ near.day; entries = λ k p. far b s trade n (received b s) refl k p ∙ near.entries k p }

-- a report of this Trade ID
near_received : (b d : Book) (s : Slip) (trade : List ℕ) → trade_of s ≡ trade → Near trade b d → report_answer (received b s) ≢ refused (parts_of BookFull) → received b s ≡ roomy d s
near_received b d (Err refusal) trade e near n = refl
near_received b d (Ok r) trade e near n = full_free (is_full b) b.day (entry_at (key_in r.parties) b.entries) r n ∙ (λ i. judged_report false (near.day i) (near.entries (key_in r.parties) e i) r)

near_after : (trade : List ℕ) (b d : Book) (o : Result Entry Refusal) → Near trade b d → Near trade (after_report b o) (after_report d o)
near_after trade b d (Err refusal) near = near
near_after trade b d (Ok e) near = record { day = near.day; entries = λ k p. go k p (key_dec k e.key) }
  where
    go : (k : Key) → k.trade ≡ trade → Dec (k ≡ e.key) → entry_at k (put e b.entries) ≡ entry_at k (put e d.entries)
    go k p (yes q) = find_with_same k e b.entries (sym q) ∙ sym (find_with_same k e d.entries (sym q))
    go k p (no n) = find_put_other k e b.entries n ∙ near.entries k p ∙ sym (find_put_other k e d.entries n)

-- the book d and what it told, beside the reports of one Trade ID alone
record Alone (b : Book) (trade : List ℕ) (d : Book) (ts : List Told) (own : List Call) : Type 0 where
  near : Near trade d (run_roomy b own)
  says : ts ≡ tell_roomy b own

alone_at : (b : Book) (trade : List ℕ) (s : Slip) (d : Book) (ts : List Told) (own : List Call) → report_answer (received d s) ≢ refused (parts_of BookFull) → (v : Bool) → Decides v (trade_of s ≡ trade) → Alone b trade d ts own → Alone b trade (after_report d (received d s)) (cond v ((report s, report_answer (received d s)) ∷ ts) ts) (cond v (report s ∷ own) own)
alone_at b trade s d ts own n true e was =
    let q : received d s ≡ roomy (run_roomy b own) s = near_received d (run_roomy b own) s trade (e.0 refl) was.near n in
    record {
      near = subst (λ (o : Result Entry Refusal). Near trade (after_report d o) (after_report (run_roomy b own) (roomy (run_roomy b own) s))) (sym q) (near_after trade d (run_roomy b own) (roomy (run_roomy b own) s) was.near);
      says = λ i. (report s, report_answer (q i)) ∷ was.says i;
    }
alone_at b trade s d ts own n false e was = record { near = near_far d (run_roomy b own) s trade (not_from_Decides false e refl) was.near; says = was.says }

module _ (sheet : Meaning) (b : Book) (trade : List ℕ) where
  alone : (h : List Call) → NotFull (tell sheet b (on h)) → Alone b trade (run sheet b (on h)) (filter (about trade) (tell sheet b (on h))) (filter (concerns trade) (on h))
  alone [] n = record { near = record { day = refl; entries = λ k p. refl }; says = refl }
  alone (report s ∷ h) n = alone_at b trade s (run sheet b (on h)) (filter (about trade) (tell sheet b (on h))) (filter (concerns trade) (on h)) n.0 (bytes_eq (trade_of s) trade) (bytes_eq-Decides (trade_of s) trade) (alone h n.1)
  alone (close c ∷ h) n = record { near = record { day = refl; entries = λ k p. refl }; says = refl }
  alone (lookup q ∷ h) n = alone h n.1

-- ---- two histories

record Both (sheet : Meaning) (b : Book) (h g : List Call) : Type 0 where
  day : (run sheet b (on h)).day ≡ (run sheet b (on g)).day
  entries : (k : Key) → entry_at k (run sheet b (on h)).entries ≡ entry_at k (run sheet b (on g)).entries
  says : (trade : List ℕ) → filter (about trade) (tell sheet b (on h)) ≡ filter (about trade) (tell sheet b (on g))

-- from one book, up to the next close
both : (sheet : Meaning) (b : Book) (h g : List Call) → SameFor (on h) (on g) → NotFull (tell sheet b (on h)) → NotFull (tell sheet b (on g)) → Both sheet b h g
both sheet b h g same n m = record {
  day = (alone sheet b [] h n).near.day ∙ ap (λ (l : List Call). (run_roomy b l).day) (same []) ∙ sym (alone sheet b [] g m).near.day;
  entries = λ k. (alone sheet b k.trade h n).near.entries k refl ∙ ap (λ (l : List Call). entry_at k (run_roomy b l).entries) (same k.trade) ∙ sym ((alone sheet b k.trade g m).near.entries k refl);
  says = λ trade. (alone sheet b trade h n).says ∙ ap (tell_roomy b) (same trade) ∙ sym (alone sheet b trade g m).says;
}

size_reported : (b : Book) (o : Result Entry Refusal) → (after_report b o).size ≡ b.size
size_reported b (Err refusal) = refl
size_reported b (Ok e) = refl

size_closed : (sheet : Meaning) (b : Book) (c : Close) (o : Result ℕ Refusal) → (after_close sheet b c o).size ≡ b.size
size_closed sheet b c (Err refusal) = refl
size_closed sheet b c (Ok day) = refl

size_after : (o : Opening) (h : List Call) → (after o h).size ≡ min o.rows 4096
size_after o [] = refl
size_after o (report s ∷ h) = size_reported (after o h) (received (after o h) s) ∙ size_after o h
size_after o (close c ∷ h) = size_closed o.sheet (after o h) c (may_close (after o h) c) ∙ size_after o h
size_after o (lookup q ∷ h) = size_after o h

one_book : (b d : Book) → b.day ≡ d.day → b.size ≡ d.size → b.entries ≡ d.entries → b ≡ d
one_book b d day size entries = λ i. record { day = day i; size = size i; entries = entries i }

not_full_parts : (xs ys : List Told) → NotFull (xs ++ ys) → NotFull xs × NotFull ys
not_full_parts [] ys n = (tt, n)
not_full_parts (x ∷ xs) ys n = let rest = not_full_parts xs ys n.1 in ((n.0, rest.0), rest.1)

record Same (o : Opening) (h g : List Call) : Type 0 where
  book : after o h ≡ after o g
  says : (trade : List ℕ) → filter (about trade) (told o h) ≡ filter (about trade) (told o g)

not_full_cut : (o : Opening) (h : List Call) → NotFull (told o h) → NotFull (tell o.sheet (after o (up h)) (on h)) × NotFull (told o (up h))
not_full_cut o h n = not_full_parts (tell o.sheet (after o (up h)) (on h)) (told o (up h)) (subst NotFull (told_cut o h) n)

says_cut : (o : Opening) (h : List Call) (trade : List ℕ) → filter (about trade) (told o h) ≡ filter (about trade) (tell o.sheet (after o (up h)) (on h)) ++ filter (about trade) (told o (up h))
says_cut o h trade = ap (filter (about trade)) (told_cut o h) ∙ filter-append (about trade) (tell o.sheet (after o (up h)) (on h)) (told o (up h))

module _ (o : Opening) (h g : List Call) (before : Same o (up h) (up g)) (same : SameFor h g) (n : NeverFull o h) (m : NeverFull o g) where
  here : after o h ≡ run o.sheet (after o (up g)) (on h)
  here = after_cut o h ∙ ap (λ (b : Book). run o.sheet b (on h)) before.book

  there : Both o.sheet (after o (up g)) h g
  there = both o.sheet (after o (up g)) h g (same_on h g same) (subst (λ (b : Book). NotFull (tell o.sheet b (on h))) before.book (not_full_cut o h n).0) (not_full_cut o g m).0

  entries_alike : (k : Key) → entry_at k (after o h).entries ≡ entry_at k (after o g).entries
  entries_alike k = ap (λ (b : Book). entry_at k b.entries) here ∙ there.entries k ∙ sym (ap (λ (b : Book). entry_at k b.entries) (after_cut o g))

  on_and_up : Same o h g
  on_and_up = record {
    book = one_book (after o h) (after o g)
        (ap (λ (b : Book). b.day) here ∙ there.day ∙ sym (ap (λ (b : Book). b.day) (after_cut o g)))
        (size_after o h ∙ sym (size_after o g))
        (same_entries (after o h).entries (after o g).entries (sorted_after o h) (sorted_after o g) entries_alike);
    says = λ trade. says_cut o h trade ∙ (λ i. filter (about trade) (tell o.sheet (before.book i) (on h)) ++ before.says trade i) ∙ ap (λ (l : List Told). l ++ filter (about trade) (told o (up g))) (there.says trade) ∙ sym (says_cut o g trade);
  }

-- what a history is up to its last close
abbrev Shape : List Call → Type 0
Shape u = (u ≡ []) ⊎ ((c : Close) × (g : List Call) × (u ≡ close c ∷ g))

shape : (g : List Call) → Shape (up g)
shape [] = inl refl
shape (report s ∷ g) = shape g
shape (close c ∷ g) = inr (c, g, refl)
shape (lookup q ∷ g) = shape g

head_is : {c d : Close} {xs ys : List Call} → close c ∷ xs ≡ close d ∷ ys → c ≡ d
head_is {c} {d} {xs} {ys} e = cc

tail_is : {x y : Call} {xs ys : List Call} → x ∷ xs ≡ y ∷ ys → xs ≡ ys
tail_is {x} {y} {xs} {ys} e = cc

nil_cons : {x : Call} {xs : List Call} → [] ≡ x ∷ xs → ⊥
nil_cons {x} {xs} e = cc

at_close : (o : Opening) (c d : Close) (h g : List Call) → c ≡ d → Same o h g → Same o (close c ∷ h) (close d ∷ g)
at_close o c d h g p was = record {
  book = λ i. leaves o.sheet (was.book i) (close (p i));
  says = λ trade i. (close (p i), answer o.sheet (was.book i) (close (p i))) ∷ was.says trade i;
}

up_to : (o : Opening) (h u : List Call) → Shape u → SameFor (up h) u → NotFull (told o (up h)) → NotFull (told o u) → Same o (up h) u
up_to o [] u (inl e) same n m = subst (λ (v : List Call). Same o [] v) (sym e) (record { book = refl; says = λ trade. refl })
up_to o [] u (inr w) same n m = absurd (nil_cons (same [] ∙ ap (filter (concerns [])) w.2))
up_to o (report s ∷ h) u w same n m = up_to o h u w same n m
up_to o (lookup q ∷ h) u w same n m = up_to o h u w same n m
up_to o (close c ∷ h) u (inl e) same n m = absurd (nil_cons (sym (same [] ∙ ap (filter (concerns [])) e)))
up_to o (close c ∷ h) u (inr w) same n m =
    let all : SameFor (close c ∷ h) (close w.0 ∷ w.1) = λ trade. same trade ∙ ap (filter (concerns trade)) w.2 in
    let rest : SameFor h w.1 = λ trade. tail_is (all trade) in
    let m_rest : NotFull (told o w.1) = (subst (λ (v : List Call). NotFull (told o v)) w.2 m).1 in
    let was : Same o (up h) (up w.1) = up_to o h (up w.1) (shape w.1) (same_up h w.1 rest) (not_full_cut o h n.1).1 (not_full_cut o w.1 m_rest).1 in
    subst (λ (v : List Call). Same o (close c ∷ h) v) (sym w.2) (at_close o c w.0 h w.1 (head_is (all [])) (on_and_up o h w.1 was rest n.1 m_rest))

pub agree : (o : Opening) (h g : List Call) → SameFor h g → NeverFull o h → NeverFull o g → Agree o h g
agree o h g same n m =
    let was : Same o (up h) (up g) = up_to o h (up g) (shape g) (same_up h g same) (not_full_cut o h n).1 (not_full_cut o g m).1 in
    let all : Same o h g = on_and_up o h g was same n m in
    record { answers = all.says; entries = ap (λ (b : Book). b.entries) all.book }
