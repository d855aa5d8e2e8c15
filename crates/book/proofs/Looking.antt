-- A lookup as a call on a book.
use Rattle.std.proofs.Common.{◌≡◌, ℕ, List, Ok, Err, Result, Some, None, OnErr, refl, ap, sym, ◌∙◌}
use Rattle.std.specs.Result.{result_map_both}
use Rattle.refusals.specs.Words.{RefusalParts, parts_of}
use Rattle.refusals.specs.declared.refusal.Refusal.{Refusal}
use Rattle.refusals.specs.declared.refusal.Refusal.TheVariants.{UnknownTrade}
use Rattle.rows.specs.Entries.{entry_of}
use Rattle.rows.specs.Keys.{Key, key_named, key_of}
use Rattle.rows.specs.declared.key.TradeKey.{TradeKey}
use Rattle.rows.specs.declared.row.Row.{Row}
use Rattle.rows.specs.declared.state.State.{State}
use Rattle.rules.specs.Books.{InOrder, entry_at, lookup, lookup_answer, shown_answer}
use Rattle.sheets.specs.declared.finding.Finding.{Finding}
use Rattle.book.specs.Calls.{Looks, Step, look_answer, seen}
use Rattle.sheets.specs.Sheets.{Meaning}
use Rattle.book.specs.declared.book.Book.{Book}
use Rattle.book.proofs.Runs.{carried, run_on}

module _ (b : Book) (trade reporter other : List ℕ) (f g : List Finding) where
  looks : (q : Result Key RefusalParts) → key_named trade reporter other ≡ q → (result : Result State Refusal) → (InOrder (seen b).entries → lookup_answer (seen b) q ≡ look_answer result g) → OnErr result (g ≡ f) → Looks b trade reporter other f g result
  looks q e result h kept =
      let step : (sheet : Meaning) → Step sheet b (lookup (key_named trade reporter other)) (look_answer result g) b = λ sheet. carried sheet b (lookup (key_named trade reporter other)) (look_answer result g) b (λ o. record { answers = ap (lookup_answer (seen b)) e ∙ h o; leaving = refl }) in
      record { step = step; history = λ o h e. run_on o b (lookup (key_named trade reporter other)) (look_answer result g) b (step o.sheet) h e; refused_leaves = kept }

module _ (b : Book) (trade reporter other : List ℕ) (read : Result TradeKey Refusal) (names : result_map_both key_of parts_of read ≡ key_named trade reporter other) (f : List Finding) where
  named : (r : Result TradeKey Refusal) → read ≡ r → key_named trade reporter other ≡ result_map_both key_of parts_of r
  named r is = sym names ∙ ap (result_map_both key_of parts_of) is

  pub bad_key : (e : Refusal) → read ≡ Err e → Looks b trade reporter other f f (Err e)
  bad_key e is = looks b trade reporter other f f (Err (parts_of e)) (named (Err e) is) (Err e) (λ o. refl) refl

  pub no_row : (key : TradeKey) → read ≡ Ok key → (InOrder (seen b).entries → entry_at (key_of key) (seen b).entries ≡ None) → Looks b trade reporter other f f (Err UnknownTrade)
  no_row key is absent = looks b trade reporter other f f (Ok (key_of key)) (named (Ok key) is) (Err UnknownTrade) (λ o. ap shown_answer (absent o)) refl

  pub row_there : (key : TradeKey) (row : Row) → read ≡ Ok key → (InOrder (seen b).entries → entry_at (key_of key) (seen b).entries ≡ Some (entry_of row)) → Looks b trade reporter other f row.findings (Ok row.state)
  row_there key row is there = looks b trade reporter other f row.findings (Ok (key_of key)) (named (Ok key) is) (Ok row.state) (λ o. ap shown_answer (there o)) tt
