use Rattle.codes.proofs.CodeLaws.{forms, laws}
use Rattle.codes.proofs.code.laws.code_laws.Goals as goal

pub returns : goal.returns
returns g c = record { laws = laws; forms = forms }
