use Rattle.std.proofs.Common.{◌≡◌, ◌+◌, ◌-◌, length, ap, ◌∙◌, arith}
use Rattle.wire.specs.Blocks.{checked_blocks}
use Rattle.wire.proofs.Blocks.{checked_more, block_and_rest}
use Rattle.wire.proofs.block.check_blocks.Goals as goal

pub loop-preserved : goal.loop-preserved
loop-preserved c =
    let bs = c.loop.rest.now in
    let body = c.in_ok-body.body.now in
    let rest = c.in_ok-body.after.now in
    let h = c.in_ok-body.ensures in
    let l = block_and_rest c.loop.place bs body rest h in
    let n = c.args.count - c.loop.counter in
    let n_is : n - 1 ≡ c.args.count - (c.loop.counter + 1) = omega arith in
    let m = checked_more n c.loop.place bs body rest (omega arith) h in
    (omega arith, c.loop.invariant.1 ∙ (m ∙ ap (λ k. checked_blocks k (c.loop.place + (2 + length body)) rest) n_is))
