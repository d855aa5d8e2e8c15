use Rattle.std.proofs.Common.{Some, rules}
use Rattle.std.specs.Option.{option_map}
use Rattle.std.specs.Result.{result_ok}
use Rattle.amounts.specs.Amounts.{worth}
use Rattle.amounts.proofs.Spelling.{reads_as}
use Rattle.amounts.proofs.amount.read.read_decimal.Goals as goal

pub returns-in_err-magnitude-clause-plain : goal.returns-in_err-magnitude-clause-plain
returns-in_err-magnitude-clause-plain g c = reads_as g.row.MOST c.args.text.now (option_map worth (result_ok c.from_residual.result)) (search rules) c.requires

pub returns-clause-plain : goal.returns-clause-plain
returns-clause-plain g c = reads_as g.row.MOST c.args.text.now (Some (worth c.signed.result)) (search rules) c.requires
