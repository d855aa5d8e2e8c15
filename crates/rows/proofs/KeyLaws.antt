-- The laws of keys.
use Rattle.std.proofs.Common.{◌≡◌, Ordering, Less, Equal, Greater, refl, ap, sym, ◌∙◌, Decides, true}
use Rattle.std.specs.Ordering.{is_eq, ordering_then}
use Rattle.std.specs.Cmp.{IsTotalOrder}
use Rattle.std.proofs.lemmas.Cmp.{nat_list_cmp_total, on_total, then_total, tied_itself}
use Rattle.codes.proofs.CodeLaws.{laws as code_laws, one_form as one_code}
use Rattle.codes.specs.Codes.{text_order}
use Rattle.rows.specs.Keys.{Key, key_of, key_order, same_key}
use Rattle.rows.specs.Laws.{KeyLaws}
use Rattle.rows.specs.declared.key.TradeKey.{TradeKey}
use Rattle.rows.specs.contracts.key.TradeKeyOrd.TheImpl.{ghosts}

pub ordered : (a b : TradeKey) → ghosts.cmp a b ≡ key_order (key_of a) (key_of b)
ordered a b = refl

-- the three texts in turn
pub total : IsTotalOrder key_order
total = then_total (on_total (λ (k : Key). k.trade) nat_list_cmp_total) (then_total (on_total (λ (k : Key). k.reporter) nat_list_cmp_total) (on_total (λ (k : Key). k.other) nat_list_cmp_total))

pub one_key : (a b : TradeKey) → key_of a ≡ key_of b → a ≡ b
one_key a b e =
    let trade = one_code a.trade b.trade (ap (λ (k : Key). k.trade) e) in
    let reporter = one_code a.reporter b.reporter (ap (λ (k : Key). k.reporter) e) in
    let other = one_code a.other b.other (ap (λ (k : Key). k.other) e) in
    λ i. record { trade = trade i; reporter = reporter i; other = other i }

both_equal : (o p : Ordering) → is_eq (ordering_then o p) ≡ true → (is_eq o ≡ true) × (is_eq p ≡ true)
both_equal Less p e = absurd (cc)
both_equal Equal p e = (refl, e)
both_equal Greater p e = absurd (cc)

one_place : (k l : Key) → same_key k l ≡ true → k ≡ l
one_place k l e =
    let first = both_equal (text_order k.trade l.trade) (ordering_then (text_order k.reporter l.reporter) (text_order k.other l.other)) e in
    let rest = both_equal (text_order k.reporter l.reporter) (text_order k.other l.other) first.1 in
    let trade = (code_laws.equal k.trade l.trade).0 first.0 in
    let reporter = (code_laws.equal k.reporter l.reporter).0 rest.0 in
    let other = (code_laws.equal k.other l.other).0 rest.1 in
    λ i. record { trade = trade i; reporter = reporter i; other = other i }

own_place : (k l : Key) → k ≡ l → same_key k l ≡ true
own_place k l e = ap (λ (m : Key). same_key k m) (sym e) ∙ ap is_eq (tied_itself total k)

pub same : (k l : Key) → Decides (same_key k l) (k ≡ l)
same k l = (one_place k l, own_place k l)

pub laws : KeyLaws
laws = record { total = total; same = same; both_ways = λ k. refl }
