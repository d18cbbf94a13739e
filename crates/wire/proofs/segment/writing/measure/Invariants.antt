use Rattle.std.proofs.Common.{◌≡◌, ◌≤◌, drop}
use Rattle.wire.specs.Writing.{measured}
use Rattle.wire.proofs.Writing.{measured_from}
use Rattle.wire.proofs.segment.writing.measure.Given as goal

abbrev pub invariant-loop-index : goal.invariant-loop-index
invariant-loop-index g l =
    (l.payload ≤ 65495)
    × (measured (g.B.Bodies.messages l.bodies) ≡ measured_from l.payload (drop l.index (g.B.Bodies.messages l.bodies)))
