use Rattle.std.proofs.Common.{◌≡◌, ◌+◌, ◌*◌, map, drop}
use Rattle.wire.specs.Requests.{checked_ranges}
use Rattle.wire.proofs.request.ranges.check_ranges.Given as goal

abbrev pub invariant-loop-i : goal.invariant-loop-i
invariant-loop-i g l =
    checked_ranges g.K.RangeKind.kind l.initial.after 16 (map g.R.AsRange.range l.ranges)
    ≡ checked_ranges g.K.RangeKind.kind l.after (16 + 16 * l.i) (drop l.i (map g.R.AsRange.range l.ranges))
