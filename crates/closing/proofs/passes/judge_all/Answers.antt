use Rattle.std.proofs.Common.{◌≡◌, ◌+◌, ◌<◌, ◌∙◌, Option, cond, ap, sym, subst, length, arith}
use Rattle.std.proofs.lemmas.List.{get_or_default}
use Rattle.rows.specs.Entries.{entry_of}
use Rattle.rows.specs.declared.notice.Notice.{Notice}
use Rattle.closing.proofs.Judging.{Noted, turn, until}
use Rattle.closing.proofs.passes.judge_all.Goals.{else-judged, in-Some, in_default, then-judged}
use Rattle.closing.proofs.passes.judge_all.Goals as goal

pub loop-i-preserved : goal.loop-i-preserved
loop-i-preserved g c =
    let p = c.loop-i.invariant in
    let x = c.index-rows-i.result in
    let places = length c.args.notices.now in
    let put = λ (o : Option Notice). Noted c.loop-i.notices c.loop-i.sent o c.match-notice.notices c.match-notice.sent in
    let noted : Noted c.loop-i.notices c.loop-i.sent c.notice.result c.match-notice.notices c.match-notice.sent =
    elim c.match-notice.branch [
      | in-Some w ↦ subst put (sym w.in-Some.is) (w.notices-is, w.sent-is)
      | in_default w ↦ subst put (sym w.in_default.is) (w.notices-is, w.sent-is)
    ] in
    let counted : c.if-judged.pairs ≡ c.loop-i.pairs + cond c.judge-judged.result.is_taken_up 1 0 =
    elim c.if-judged.branch [
      | then-judged w ↦ let b = w.if-judged.true in rw (b) w.pairs-is
      | else-judged w ↦ let b = w.if-judged.false in rw (b) (omega (arith, w.pairs-is))
    ] in
    let lt : c.loop-i.i < length c.loop-i.rows = omega (arith, p.count, c.requires.within, c.loop-i-test.true) in
    let again = get_or_default c.loop-i.rows c.loop-i.i c.index-rows-i-in-loop-i.result x lt in
    turn p c.loop-i-test.true c.requires.within c.requires.room x _ c.judge-judged.result.is_taken_up c.notice.result _ _ _ c.index-rows-i.is (ap entry_of (again ∙ sym c.index-rows-i.is)) (c.judge-judged.ensures.fate places) (c.judge-judged.ensures.taken_up places) c.notice.ensures noted counted

pub returns : goal.returns
returns g c = until c.args.used (omega (arith, c.loop-i.auto.i-end, c.loop-i-test.false)) c.loop-i.invariant
