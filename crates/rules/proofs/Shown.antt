-- States are told apart by their words, and what rows show is compared as it is told.
use Rattle.std.proofs.Common.{◌≡◌, ◌≢◌, ℕ, true, false, cond, Decides, bytes_eq, codes, List, ◌∙◌, refl, sym, ap}
use Rattle.std.proofs.lemmas.Slice.Eq.{bytes_eq-Decides}
use Rattle.std.proofs.lemmas.Bool.{and_from, and_parts}
use Rattle.std.proofs.lemmas.Bool.Decides.{not_from_Decides}
use Rattle.rows.specs.Words.{Shown, state_text}
use Rattle.rows.specs.declared.state.State.{State}
use Rattle.rows.specs.declared.state.State.TheVariants.{Err1, Err2, Gone, Laps, Mach, Npar, Outs, Wait}
use Rattle.rules.specs.Judging.{same_shown}

-- the state of a word
abbrev state_named : List ℕ → State
state_named word =
    cond (bytes_eq word (codes "WAIT")) Wait
    (cond (bytes_eq word (codes "OUTS")) Outs
    (cond (bytes_eq word (codes "LAPS")) Laps
    (cond (bytes_eq word (codes "NPAR")) Npar
    (cond (bytes_eq word (codes "MACH")) Mach
    (cond (bytes_eq word (codes "ERR1")) Err1
    (cond (bytes_eq word (codes "ERR2")) Err2 Gone))))))

named_back : (s : State) → state_named (state_text s) ≡ s
named_back Wait = refl
named_back Outs = refl
named_back Laps = refl
named_back Npar = refl
named_back Mach = refl
named_back Err1 = refl
named_back Err2 = refl
named_back Gone = refl

pub one_state : (s t : State) → state_text s ≡ state_text t → s ≡ t
one_state s t e = sym (named_back s) ∙ ap state_named e ∙ named_back t

-- ---- both together

pub same_shown_is : (a b : Shown) → same_shown a b ≡ true → a ≡ b
same_shown_is a b h =
    let parts = and_parts (bytes_eq a.0 b.0) (bytes_eq a.1 b.1) h in
    let word : a.0 ≡ b.0 = (bytes_eq-Decides a.0 b.0).0 parts.0 in
    let numbers : a.1 ≡ b.1 = (bytes_eq-Decides a.1 b.1).0 parts.1 in
    λ i. (word i, numbers i)

pub is_same_shown : (a b : Shown) → a ≡ b → same_shown a b ≡ true
is_same_shown a b e =
    and_from (bytes_eq a.0 b.0) (bytes_eq a.1 b.1)
    ((bytes_eq-Decides a.0 b.0).1 (ap (λ (x : Shown). x.0) e))
    ((bytes_eq-Decides a.1 b.1).1 (ap (λ (x : Shown). x.1) e))

pub shown_Decides : (a b : Shown) → Decides (same_shown a b) (a ≡ b)
shown_Decides a b = (same_shown_is a b, is_same_shown a b)

pub not_same_shown : (a b : Shown) → same_shown a b ≡ false → a ≢ b
not_same_shown a b h = not_from_Decides (same_shown a b) (shown_Decides a b) h
