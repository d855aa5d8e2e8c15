use Rattle.std.proofs.Common.{rules, ◌≡◌, Bool, true, false, cond, List, ℕ, Ok, Err, refl}
use Rattle.refusals.specs.Words.{RefusalParts, parts_of}
use Rattle.refusals.specs.declared.refusal.Refusal.TheVariants.{BadSheet}
use Rattle.built_sheets.specs.Rules.{is_tabled, sheet_of}
use Rattle.verbs.proofs.answers.choose_tabled.Goals as goal

-- bytes that are refused are no sheet, and are told so
not_tabled : (bytes : List ℕ) (told : RefusalParts) → Err told ≡ sheet_of bytes → (is_tabled bytes ≡ false) × (told ≡ parts_of BadSheet)
not_tabled bytes told = go (is_tabled bytes)
  where
    go : (t : Bool) → Err told ≡ cond t (Ok bytes) (Err (parts_of BadSheet)) → (t ≡ false) × (told ≡ parts_of BadSheet)
    go true e = absurd (cc)
    go false e = (refl, cc)

pub returns-clause-answered : goal.returns-clause-answered
returns-clause-answered c =
    let h = not_tabled c.as_slice.result.now (parts_of c.in-Err.refusal) c.in-Err.ensures in
    let bad = h.0 in
    let told = h.1 in
    search rules

pub returns-clause-chosen : goal.returns-clause-chosen
returns-clause-chosen c =
    let h = not_tabled c.as_slice.result.now (parts_of c.in-Err.refusal) c.in-Err.ensures in
    let bad = h.0 in
    search rules
