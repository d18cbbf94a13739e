use Rattle.std.proofs.Common.{◌≡◌, ◌+◌, take}
use Rattle.wire.specs.Fields.{overwritten}
use Rattle.wire.specs.Sessions.{span}
use Rattle.wire.specs.Writing.{payload_bytes}
use Rattle.wire.proofs.segment.writing.put_blocks.Given as goal

abbrev pub invariant-loop-index : goal.invariant-loop-index
invariant-loop-index g l =
    (l.at ≡ 40 + span (take l.index (g.B.Bodies.messages l.bodies)))
    × (l.out ≡ overwritten l.initial.out 40 (payload_bytes (take l.index (g.B.Bodies.messages l.bodies))))
