use Rattle.std.proofs.Common.{arith}
use Rattle.wire.proofs.RequestWriting.{ranges_written}
use Rattle.wire.proofs.request.writing.put_ranges.Goals as goal

pub loop-i-preserved : goal.loop-i-preserved
loop-i-preserved c =
    ranges_written c.args.ranges.now c.loop-i.i _ c.args.out.now c.loop-i.out c.put_range.new.out (omega arith) (omega arith) c.loop-i.invariant
    c.put_range.ensures
