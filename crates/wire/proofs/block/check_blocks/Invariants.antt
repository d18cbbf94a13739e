use Rattle.std.proofs.Common.{◌≡◌, ◌+◌, ◌-◌, length}
use Rattle.wire.specs.Blocks.{checked_blocks}
use Rattle.wire.proofs.block.check_blocks.Given as goal

abbrev pub invariant-loop : goal.invariant-loop
invariant-loop l =
    (l.place + length l.rest ≡ l.place-2 + length l.bytes)
    × (checked_blocks l.count l.place-2 l.bytes ≡ checked_blocks (l.count - l.counter) l.place l.rest)
