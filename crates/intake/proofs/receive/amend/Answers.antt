use Rattle.std.proofs.Common.{rules, ◌≡◌, Ok, Err, Result, ap, sym, subst}
use Rattle.std.specs.Prelude.{⊤}
use Rattle.std.specs.Result.{result_map_both}
use Rattle.refusals.specs.Words.{parts_of}
use Rattle.refusals.specs.declared.refusal.Refusal.{Refusal}
use Rattle.report.proofs.Told.{same_refusal}
use Rattle.rows.specs.Entries.{amended, entry_of}
use Rattle.rows.specs.declared.row.Row.{Row}
use Rattle.rows.specs.declared.standing.Standing.{Standing}
use Rattle.intake.specs.Intake.{AmendsTo}
use Rattle.intake.proofs.receive.amend.Goals as goal

-- what an action came to is known by how it is told
is_refused : (a : Result Standing Refusal) (e : Refusal) → Err (parts_of e) ≡ result_map_both (λ s. s) parts_of a → a ≡ Err e
is_refused (Ok s) e p = absurd (cc)
is_refused (Err f) e p = ap Err (sym (same_refusal e f (cc)))

is_taken : (a : Result Standing Refusal) (s : Standing) → Ok s ≡ result_map_both (λ s. s) parts_of a → a ≡ Ok s
is_taken (Ok t) s p = cc
is_taken (Err f) s p = absurd (cc)

pub returns-in_err-take_action : goal.returns-in_err-take_action
returns-in_err-take_action c =
    let refusal = c.in_err-take_action.field-0.0 in
    let e : c.from_residual.result ≡ Err refusal = search rules in
    subst (λ (result : Result ⊤ Refusal). AmendsTo c.args.row.now c.args.report.now c.take_action.new.self result) (sym e)
    (is_refused _ refusal c.in_err-take_action.ensures.answer, c.in_err-take_action.ensures.refused)

pub returns : goal.returns
returns c =
    let row = c.take_action.new.self in (
      row.standing,
      (
        is_taken _ row.standing c.in_ok-take_action.ensures.answer,
        record {
          entry = subst (λ (x : Row). entry_of c.amended.result ≡ amended (entry_of x) c.args.report.now row.standing) c.in_ok-take_action.ensures.others c.amended.ensures.entry;
          fate = c.amended.ensures.fate;
        },
      ),
    )
