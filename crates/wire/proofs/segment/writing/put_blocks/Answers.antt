use Rattle.std.proofs.Common.{◌<◌, ltb, length, sym, arith}
use Rattle.std.proofs.lemmas.List.{take-append-drop}
use Rattle.std.proofs.lemmas.Bool.{or_parts, ltb-false}
use Rattle.wire.specs.Sessions.{span}
use Rattle.wire.specs.Writing.{some_long}
use Rattle.wire.proofs.Writing.{span_more, span_inside, blocks_written}
use Rattle.wire.proofs.segment.writing.put_blocks.Goals as goal

pub loop-index-init : goal.loop-index-init
loop-index-init g c = (omega arith, sym (take-append-drop 40 c.args.out.now))

pub put_block-at-requires : goal.put_block-at-requires
put_block-at-requires g c =
    let ms = g.B.Bodies.messages c.args.bodies.now in
    let i = c.loop-index.index in
    let within : i < length ms = omega (arith, c.count-index-end.ensures) in
    let inside = span_inside ms i within in
    let small = ltb-false 65495 (span ms) (or_parts (some_long ms) (ltb 65495 (span ms)) c.requires.carried).1 in
    record { short = omega arith; room = omega arith }

pub loop-index-preserved : goal.loop-index-preserved
loop-index-preserved g c =
    let ms = g.B.Bodies.messages c.args.bodies.now in
    let i = c.loop-index.index in
    let within : i < length ms = omega (arith, c.count-index-end.ensures) in
    let more = span_more ms i within in (
      omega (arith, c.put_block-at.ensures.value),
      blocks_written ms i c.args.out.now c.loop-index.out c.put_block-at.new.out c.loop-index.at within (omega arith)
          c.loop-index.invariant.0 c.loop-index.invariant.1 c.put_block-at.ensures.after,
    )
