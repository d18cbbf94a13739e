use Rattle.std.proofs.Common.{◌≡◌, take}
use Rattle.wire.specs.Fields.{overwritten}
use Rattle.wire.specs.RequestWriting.{ranges_bytes}
use Rattle.wire.proofs.request.writing.put_ranges.Given as goal

abbrev pub invariant-loop-i : goal.invariant-loop-i
invariant-loop-i l = l.out ≡ overwritten l.initial.out 16 (ranges_bytes (take l.i l.ranges))
