use Rattle.std.proofs.Common.{◌≡◌, [], length, get_or, ◌∙◌, arith}
use Rattle.wire.proofs.Writing.{size_is, copied_from-slice_get, block_written}
use Rattle.wire.proofs.segment.writing.put_block.Goals as goal

pub returns : goal.returns
returns g c =
    let ms = g.B.Bodies.messages c.args.bodies.now in
    let i = c.args.index in
    let m = get_or ms i [] in
    let size = c.unwrap_or-size.result in
    let s : size ≡ length m = size_is ms i size _ c.unwrap_or-size.ensures c.copy.ensures.value in
    record {
      value = omega arith;
      after = block_written c.args.out.now c.copy.new.out c.put_field.new.out m c.args.at size s
          (c.copy.ensures.after ∙ copied_from-slice_get ms i _) c.put_field.ensures c.requires.room;
    }
