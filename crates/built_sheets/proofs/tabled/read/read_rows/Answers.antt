use Rattle.built_sheets.proofs.Reading.{row_down}
use Rattle.built_sheets.proofs.tabled.read.read_rows.Goals as goal

pub loop-place-preserved : goal.loop-place-preserved
loop-place-preserved c = row_down c.loop-place.rows c.args.codes.now c.args.categories.now c.args.fields.now c.loop-place.place _ _ c.in-Some.row c.loop-place.invariant.0 c.requires.codes c.requires.categories c.requires.fields c.loop-place-test.true c.loop-place.invariant.1 c.in-Some.ensures
