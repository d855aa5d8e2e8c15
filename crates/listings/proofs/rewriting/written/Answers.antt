use Rattle.std.proofs.Common.{◌≡◌, IfOk, replicate, string_bytes, ap, subst, sym, ◌∙◌}
use Rattle.std.specs.Result.{result_map_both}
use Rattle.refusals.specs.Words.{parts_of}
use Rattle.hex.specs.Hex.{encode_upper}
use Rattle.slip_writer.specs.Written.{slip_of}
use Rattle.listings.proofs.Again.{front_length, front_of, room_is_enough}
use Rattle.listings.proofs.rewriting.written.Goals as goal

-- src/rewriting.rt:17:9
pub unwrap-len-requires : goal.unwrap-len-requires
unwrap-len-requires c = room_is_enough (slip_of c.args.report.now) (replicate 449 0) c.write_report.result c.write_report.ensures.answer c.write_report.ensures.room

-- src/rewriting.rt:12:1
pub returns : goal.returns
returns c =
    let front = front_of (slip_of c.args.report.now) (replicate 449 0) _ c.unwrap-len.result (ap (result_map_both (λ n. n) parts_of) (sym c.unwrap-len.ensures) ∙ c.write_report.ensures.answer) c.write_report.ensures.buffer in
    subst (λ bytes. IfOk c.encode_upper.result (λ s. string_bytes s ≡ encode_upper bytes)) front c.encode_upper.ensures

pub slice_bounds-encode_upper-end : goal.slice_bounds-encode_upper-end
slice_bounds-encode_upper-end c = front_length (slip_of c.args.report.now) (replicate 449 0) _ c.unwrap-len.result (ap (result_map_both (λ n. n) parts_of) (sym c.unwrap-len.ensures) ∙ c.write_report.ensures.answer) c.write_report.ensures.buffer
