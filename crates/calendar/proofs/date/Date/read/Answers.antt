use Rattle.std.proofs.Common.{◌≡◌, rules}
use Rattle.std.specs.Option.{option_map}
use Rattle.std.specs.Result.{result_ok}
use Rattle.calendar.specs.Dates.{number}
use Rattle.calendar.specs.Text.{date_of}
use Rattle.calendar.proofs.Civil.{read_once, reads_date}
use Rattle.calendar.proofs.date.Date.read.Goals as goal

pub returns : goal.returns
unfolding date_of
returns c =
    let e : option_map number (result_ok c.ok_or.result) ≡ date_of c.args.text.now = search rules in
    record { value = e; plain = reads_date _ _ e; one_text = read_once _ _ e }
