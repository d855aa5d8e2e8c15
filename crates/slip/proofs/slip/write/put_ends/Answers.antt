use Rattle.std.proofs.Common.{◌≡◌, ◌∙◌, sym}
use Rattle.std.proofs.Math.Facts.{Fits-lt-pow}
use Rattle.std.proofs.lemmas.List.Concat.{concat_is}
use Rattle.std.specs.List.{concat}
use Rattle.slip.proofs.Laid.{Bytes, ends_kept}
use Rattle.slip.proofs.slip.write.put_ends.Goals as goal

pub returns : goal.returns
returns c =
    let flat : c.copy_from_slice.new.self ≡ concat c.args.ends.now = c.copy_from_slice.ensures.after ∙ c.as_flattened.ensures.value ∙ sym (concat_is c.args.ends.now) in
    let bytes : Bytes (concat c.args.ends.now) = rw (← flat) (λ k. Fits-lt-pow (c.type_inv.out k)) in
    flat ∙ sym (ends_kept c.args.ends.now c.told-ends bytes)
