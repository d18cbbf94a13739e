-- What a live store keeps, and what an append answers.
use Rattle.std.specs.Prelude.{ℕ, ◌+◌, Bool, not, ◌||◌, List, [], ◌∷◌, length, Ok, Err, Result, nat_lt}
use Rattle.memory.specs.MessageBuffers.{Buffered, has_room, with_message}
use Rattle.wire.specs.declared.fault.Fault.{Fault}
use Rattle.wire.specs.declared.fault.Refusal.TheVariants.{LongMessage, StoreFull}
use Rattle.wire.specs.Outcomes.{check, first_fault}
use Rattle.wire.specs.Segments.{Z}
use Rattle.wire.specs.Sessions.{span}
use Rattle.store.specs.declared.live.Live.{Live}

-- what a live store keeps: the messages that were appended, and their memory
abbrev pub kept : Live → Buffered
kept l = l.buffer

-- whether a message of some size cannot be appended: it has no room, or the byte total would pass the largest Long
abbrev pub full : Buffered → ℕ → Bool
full b size = not (has_room b size) || nat_lt Z (span b.messages + (2 + size))

-- what an append answers
abbrev pub append_answer : Buffered → List ℕ → Result (Unit {0}) Fault
append_answer b m =
    first_fault (check (nat_lt 1430 (length m)) LongMessage 0 ∷ check (full b (length m)) StoreFull 0 ∷ []) (Ok tt)

-- what is kept after an append: one more message at the end where it was accepted
abbrev pub appended : Result (Unit {0}) Fault → Buffered → List ℕ → Buffered
appended (Ok u) b m = with_message b m
appended (Err f) b m = b
