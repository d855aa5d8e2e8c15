use Rattle.codes.proofs.Ordered.{same_code}
use Rattle.codes.proofs.code.CodeClone.clone.Goals as goal

pub returns : goal.returns
returns g c = record { cases = same_code c.args.self.now _ _ }
