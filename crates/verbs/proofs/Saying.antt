-- What an answer says.
use Rattle.std.proofs.Common.{◌≡◌, Some, String, refl, string_bytes, subst, sym}
use Rattle.std.specs.declared.alloc.Global.{Global}
use Rattle.verbs.specs.declared.shelf.Shelf.{Shelf}
use Rattle.verbs.specs.Shelves.{SameSheet}
use Rattle.verbs.specs.declared.shelf.Shelf.TheVariants.{Empty, Holds}
use Rattle.verbs.specs.Answers.{Keeps, Said, Says, SaysOrPasses, nothing, text, compared, reported, shut, looked, no_call}

pub says_some : (said : Said) (answer : String Global) → Says said (string_bytes answer) → SaysOrPasses said (Some answer)
says_some nothing answer s = absurd s
says_some (text t) answer s = s
says_some (compared sheet first second) answer s = s
says_some (reported bytes old new) answer s = s
says_some (shut sheet c old new) answer s = s
says_some (looked b trade reporter other) answer s = s
says_some no_call answer s = absurd s

same_sheet : (old new : Shelf) → new ≡ old → SameSheet old new
same_sheet Empty new e = e
same_sheet (Holds b) new e = subst (λ (s : Shelf). SameSheet (Holds b) s) (sym e) refl

-- a book that is the same is kept, whatever is said
pub kept : (said : Said) (old new : Shelf) → new ≡ old → Keeps said old new
kept nothing old new e = e
kept (text t) old new e = e
kept (compared sheet first second) old new e = e
kept (reported bytes b c) old new e = same_sheet old new e
kept (shut sheet lists b c) old new e = same_sheet old new e
kept (looked b trade reporter other) old new e = e
kept no_call old new e = e
