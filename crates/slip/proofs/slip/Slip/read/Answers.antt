use Rattle.std.proofs.Common.{◌≡◌, ◌∙◌, arith, sym}
use Rattle.std.specs.Option.{option_map}
use Rattle.std.specs.Result.{result_ok}
use Rattle.std.proofs.Math.Facts.{Fits-lt-pow}
use Rattle.std.proofs.lemmas.Grind.{common_steps}
use Rattle.slip.specs.Fields.{fields_of}
use Rattle.slip.specs.Layout.{fields_in}
use Rattle.slip.proofs.Laid.{complete, reads}
use Rattle.slip.proofs.slip.Slip.read.Goals as goal

pub returns : goal.returns
returns c =
    let value : option_map fields_of (result_ok c.ok_or.result) ≡ fields_in c.args.bytes.now = grind (arith, common_steps) in
    record {
      value = value;
      plain = reads c.args.bytes.now _ (λ k. Fits-lt-pow (c.type_inv.bytes k)) (sym value);
      sole = λ fields s. value ∙ complete c.args.bytes.now fields s;
    }
