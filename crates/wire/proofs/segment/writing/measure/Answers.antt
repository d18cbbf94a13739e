use Rattle.std.proofs.Common.{◌<◌, length, sym, ◌∙◌, arith}
use Rattle.wire.proofs.Writing.{size_there, measured_long, measured_past, measured_more}
use Rattle.wire.proofs.segment.writing.measure.Goals as goal

pub returns-then-size-gt-MAX_MESSAGE : goal.returns-then-size-gt-MAX_MESSAGE
returns-then-size-gt-MAX_MESSAGE g c =
    let ms = g.B.Bodies.messages c.args.bodies.now in
    let i = c.loop-index.index in
    let within : i < length ms = omega (arith, c.count-index-end.ensures) in
    let s = size_there ms i c.unwrap-size.result _ c.unwrap-size.ensures c.size.ensures in
    sym (c.loop-index.invariant.1 ∙ measured_long c.loop-index.payload ms i c.unwrap-size.result within s (omega arith))

pub returns-then-payload-gt-MAX_PAYLOAD : goal.returns-then-payload-gt-MAX_PAYLOAD
returns-then-payload-gt-MAX_PAYLOAD g c =
    let ms = g.B.Bodies.messages c.args.bodies.now in
    let i = c.loop-index.index in
    let within : i < length ms = omega (arith, c.count-index-end.ensures) in
    let s = size_there ms i c.unwrap-size.result _ c.unwrap-size.ensures c.size.ensures in
    sym (c.loop-index.invariant.1 ∙ measured_past c.loop-index.payload ms i c.unwrap-size.result within s (omega arith))

pub loop-index-preserved : goal.loop-index-preserved
loop-index-preserved g c =
    let ms = g.B.Bodies.messages c.args.bodies.now in
    let i = c.loop-index.index in
    let within : i < length ms = omega (arith, c.count-index-end.ensures) in
    let s = size_there ms i c.unwrap-size.result _ c.unwrap-size.ensures c.size.ensures in
    (omega arith, c.loop-index.invariant.1 ∙ measured_more c.loop-index.payload ms i c.unwrap-size.result within s (omega arith))
