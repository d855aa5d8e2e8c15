use Rattle.std.proofs.Common.{rules}
use Rattle.std.proofs.lemmas.Str.{IsUtf8-from_ascii}
use Rattle.texts.proofs.ascii.as_str.Goals as goal

pub unwrap-requires : goal.unwrap-requires
unwrap-requires c = let u = IsUtf8-from_ascii c.args.bytes.now c.requires in search rules
