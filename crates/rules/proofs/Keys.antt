-- The order of keys is total, and its ties are equations.
use Rattle.std.proofs.Common.{◌≡◌, ◌≢◌, ℕ, Bool, true, false, List, Decides, ◌∙◌, refl, sym, ap, subst, true≢false, Ordering, Less, Equal, Greater, is_eq}
use Rattle.std.proofs.lemmas.Cmp.{nat_list_cmp_total, on_total, then_total, tied_itself}
use Rattle.std.proofs.lemmas.Map.Text.{is_eq-slice_cmp}
use Rattle.std.proofs.lemmas.Slice.Eq.{bytes_eq-Decides}
use Rattle.std.specs.Cmp.{IsTotalOrder}
use Rattle.std.specs.Ordering.{ordering_reverse, ordering_then}
use Rattle.codes.specs.Codes.{text_order}
use Rattle.rows.specs.Keys.{Key, key_order, mirror, same_key}

pub key_total : IsTotalOrder key_order
key_total =
    then_total (on_total (λ (k : Key). k.trade) nat_list_cmp_total)
    (then_total (on_total (λ (k : Key). k.reporter) nat_list_cmp_total) (on_total (λ (k : Key). k.other) nat_list_cmp_total))

-- ---- texts

pub text_Decides : (s t : List ℕ) → Decides (is_eq (text_order s t)) (s ≡ t)
text_Decides s t = subst (λ b. Decides b (s ≡ t)) (sym (is_eq-slice_cmp s t)) (bytes_eq-Decides s t)

text_equal : (s t : List ℕ) → text_order s t ≡ Equal → s ≡ t
text_equal s t e = (text_Decides s t).0 (ap is_eq e)

-- ---- ties

both_equal : (o p : Ordering) → ordering_then o p ≡ Equal → (o ≡ Equal) × (p ≡ Equal)
both_equal Less p e = absurd (cc)
both_equal Equal p e = (refl, e)
both_equal Greater p e = absurd (cc)

pub key_equal : (k l : Key) → key_order k l ≡ Equal → k ≡ l
key_equal k l e =
    let first = both_equal (text_order k.trade l.trade) (ordering_then (text_order k.reporter l.reporter) (text_order k.other l.other)) e in
    let second = both_equal (text_order k.reporter l.reporter) (text_order k.other l.other) first.1 in
    let trade = text_equal _ _ first.0 in
    let reporter = text_equal _ _ second.0 in
    let other = text_equal _ _ second.1 in
    λ i. record { trade = trade i; reporter = reporter i; other = other i }

eq_Equal : (o : Ordering) → is_eq o ≡ true → o ≡ Equal
eq_Equal Less e = absurd (cc)
eq_Equal Equal e = refl
eq_Equal Greater e = absurd (cc)

pub same_from : (k l : Key) → same_key k l ≡ true → k ≡ l
same_from k l e = key_equal k l (eq_Equal (key_order k l) e)

pub same_itself : (k : Key) → same_key k k ≡ true
same_itself k = ap is_eq (tied_itself key_total k)

pub same_to : (k l : Key) → k ≡ l → same_key k l ≡ true
same_to k l e = subst (λ m. same_key k m ≡ true) e (same_itself k)

pub same_Decides : (k l : Key) → Decides (same_key k l) (k ≡ l)
same_Decides k l = (same_from k l, same_to k l)

pub same_not : (k l : Key) → k ≢ l → same_key k l ≡ false
same_not k l n = go (same_key k l) refl
  where
    go : (b : Bool) → same_key k l ≡ b → same_key k l ≡ false
    go true e = absurd (n (same_from k l e))
    go false e = e

pub not_same : (k l : Key) → same_key k l ≡ false → k ≢ l
not_same k l e p = true≢false (sym (same_to k l p) ∙ e)

-- whether two keys are one
pub key_dec : (k l : Key) → Dec (k ≡ l)
key_dec k l = go (same_key k l) refl
  where
    go : (b : Bool) → same_key k l ≡ b → Dec (k ≡ l)
    go true e = yes (same_from k l e)
    go false e = no (not_same k l e)

-- ---- below

abbrev pub Below : Key → Key → Type 0
Below k l = key_order k l ≡ Less

pub below_not_itself : (k : Key) → Below k k → ⊥
below_not_itself k h = let e = tied_itself key_total k in absurd (cc)

pub below_trans : (k l m : Key) → Below k l → Below l m → Below k m
below_trans k l m h g = key_total.trans k l m h g

pub below_ne : (k l : Key) → Below k l → k ≢ l
below_ne k l h e = below_not_itself l (subst (λ v. Below v l) e h)

pub above_ne : (k l : Key) → Below l k → k ≢ l
above_ne k l h e = below_not_itself l (subst (λ v. Below l v) e h)

pub greater_below : (k l : Key) → key_order k l ≡ Greater → Below l k
greater_below k l e = key_total.antisymm l k ∙ ap ordering_reverse e

pub below_greater : (k l : Key) → Below l k → key_order k l ≡ Greater
below_greater k l e = key_total.antisymm k l ∙ ap ordering_reverse e

-- ---- the mirror

pub mirror_twice : (k : Key) → mirror (mirror k) ≡ k
mirror_twice k = refl

pub across_back : (k l : Key) → l ≡ mirror k → k ≡ mirror l
across_back k l e = sym (ap mirror e)

-- a key that is its own mirror names one party twice
pub own_mirror : (k : Key) → k ≡ mirror k → k.reporter ≡ k.other
own_mirror k e = ap (λ (l : Key). l.reporter) e
