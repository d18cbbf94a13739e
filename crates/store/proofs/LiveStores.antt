-- A live store: places from counts and data bytes, and what an append keeps.
use Rattle.std.proofs.Common.{◌≡◌, ℕ, ◌+◌, ◌*◌, ◌<◌, ◌≤◌, Bool, true, false, if◌then◌else◌, List, [], ◌∷◌, ◌++◌, length, take, nat_le, nat_lt, refl, sym, arith, length-append}
use Rattle.std.proofs.lemmas.List.{length-take-le}
use Rattle.std.proofs.lemmas.Bool.{and_parts, leb-true, ltb-true}
use Rattle.std.proofs.lemmas.Grind.{common_steps}
use Rattle.memory.specs.MessageBuffers.{Buffered, data_bytes, has_room, with_message}
use Rattle.wire.specs.Sessions.{span}
use Rattle.wire.specs.Writing.{some_long}
use Rattle.wire.proofs.Sessions.{span_push}

-- blocks have two bytes for each message, and its data
pub span_is : (ms : List (List ℕ)) → 2 * length ms + data_bytes ms ≡ span ms
span_is [] = refl
span_is (m ∷ ms) = omega (arith, span_is ms)

-- where a block begins
pub place_is : (ms : List (List ℕ)) (i : ℕ) → i ≤ length ms → 2 * i + data_bytes (take i ms) ≡ span (take i ms)
place_is ms i h = omega (arith, span_is (take i ms), length-take-le i ms h)

-- one more short message
pub short_push : (ms : List (List ℕ)) (m : List ℕ) → some_long ms ≡ false → length m ≤ 1430 → some_long (ms ++ m ∷ []) ≡ false
short_push [] m e h = grind (arith, common_steps)
short_push (x ∷ ms) m e h = grind (arith, common_steps, short_push ms m)

-- one more message has so many data bytes more
data_push : (ms : List (List ℕ)) (m : List ℕ) → data_bytes (ms ++ m ∷ []) ≡ data_bytes ms + length m
data_push [] m = omega arith
data_push (x ∷ ms) m = omega (arith, data_push ms m)

-- what it means that a message has room
room_means : (b : Buffered) (size : ℕ) → true ≡ has_room b size → (length b.messages < b.entries) × (data_bytes b.messages + size ≤ b.bytes)
room_means b size had =
    let parts = and_parts (nat_lt (length b.messages) b.entries) (nat_le (data_bytes b.messages + size) b.bytes) (sym had) in
    (ltb-true (length b.messages) b.entries parts.0, leb-true (data_bytes b.messages + size) b.bytes parts.1)

-- there are no more messages than entries after an offer, which had room or not
pub counted_kept : (room : Bool) (b after : Buffered) (m : List ℕ) → room ≡ has_room b (length m)
    → after ≡ (if room then with_message b m else b) → length b.messages ≤ b.entries → length after.messages ≤ after.entries
counted_kept false b after m had is h = rw is h
counted_kept true b after m had is h = rw is (omega (arith, length-append b.messages (m ∷ []), (room_means b (length m) had).0))

-- and no more data bytes than there is memory for
pub within_kept : (room : Bool) (b after : Buffered) (m : List ℕ) → room ≡ has_room b (length m)
    → after ≡ (if room then with_message b m else b) → data_bytes b.messages ≤ b.bytes → data_bytes after.messages ≤ after.bytes
within_kept false b after m had is h = rw is h
within_kept true b after m had is h = rw is (omega (arith, data_push b.messages m, (room_means b (length m) had).1))

-- what the check is to try at the goals of an append
pub ruleset appending = (short_push, span_push, counted_kept, within_kept)
