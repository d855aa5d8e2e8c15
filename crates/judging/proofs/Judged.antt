-- What is found of a row, by what is said of it and by its mirror.
use Rattle.std.proofs.Common.{◌≡◌, ℕ, ◌+◌, ◌≤◌, min, Bool, true, false, List, Some, None, Option, ◌==◌, refl, ap, ◌∙◌, arith}
use Rattle.std.proofs.lemmas.Bool.Decides.{Decides-eqb, not_from_Decides}
use Rattle.sheets.specs.Sheets.{Meaning}
use Rattle.rows.specs.Days.{due_later}
use Rattle.rows.specs.Entries.{Entry}
use Rattle.rows.specs.Keys.{Key, mirror}
use Rattle.rules.specs.Books.{entry_at}
use Rattle.rules.specs.Judging.{Close, Line, alone, at_ready, if_found, if_ready, is_withdrawn, judged, line, partner, ready, registered, takes_up, takes_up_by, verdict}
use Rattle.rows.specs.declared.state.State.TheVariants.{Npar}
use Rattle.judging.proofs.Lined.{pick}

module _ (c : Close) (today : ℕ) (entries : List Entry) (e : Entry) (k : Key) (same : k ≡ mirror e.key) where
  at_mirror : (o : Option Entry) → o ≡ entry_at k entries → if_found c today o ≡ partner c today entries e
  at_mirror o p = ap (λ (x : Option Entry). if_found c today x) (p ∙ ap (λ (l : Key). entry_at l entries) same)

  pub no_mirror : None ≡ entry_at k entries → None ≡ partner c today entries e
  no_mirror p = at_mirror None p

  pub by_mirror : (m : Entry) (l : Line) → Some m ≡ entry_at k entries → l ≡ line c today m → if_ready l m ≡ partner c today entries e
  by_mirror m l p q = ap (λ (x : Line). if_ready x m) q ∙ at_mirror (Some m) p

module _ (sheet : Meaning) (c : Close) (today : ℕ) (entries : List Entry) (e : Entry) where
  pub by_line : (l : Line) → l ≡ line c today e → verdict sheet e (partner c today entries e) l ≡ judged sheet c today entries e
  by_line l p = ap (λ (x : Line). verdict sheet e (partner c today entries e) x) p

  pub by_partner : (m : Option Entry) → ready ≡ line c today e → m ≡ partner c today entries e → Some (at_ready sheet e m) ≡ judged sheet c today entries e
  by_partner m p q = λ i. verdict sheet e (q i) (p i)

  pub taken_up : (m : Option Entry) → ready ≡ line c today e → m ≡ partner c today entries e → takes_up_by e ready m ≡ takes_up c today entries e
  taken_up m p q = λ i. takes_up_by e (p i) (q i)

  unspent : ready ≡ line c today e → (e.tries == 7) ≡ false
  unfolding line
  unspent p = go (is_withdrawn e.standing) (due_later today e.due) (registered c e) (e.tries == 7) p
    where
      go : (w l r t : Bool) → ready ≡ pick w l r t → t ≡ false
      go true l r t q = absurd (cc)
      go false true r t q = absurd (cc)
      go false false false t q = absurd (cc)
      go false false true true q = absurd (cc)
      go false false true false q = refl

  one_more : e.tries ≤ 7 → (e.tries == 7) ≡ false → min (e.tries + 1) 7 ≡ e.tries + 1
  one_more most t = let other = not_from_Decides _ (Decides-eqb e.tries 7) t in omega arith

  -- a row that may be paired has a try left
  pub tried : (n : ℕ) → n ≡ min (e.tries + 1) 7 → e.tries ≤ 7 → ready ≡ line c today e → None ≡ partner c today entries e → Some (alone Npar n) ≡ judged sheet c today entries e
  tried n p most q none =
      ap (λ (x : ℕ). Some (alone Npar x)) (p ∙ one_more most (unspent q)) ∙ by_partner None q none
