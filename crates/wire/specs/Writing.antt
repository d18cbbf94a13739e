-- The bytes of a segment, and what its writer answers.
use Rattle.std.specs.Prelude.{ℕ, ◌+◌, Bool, false, cond, not, ◌||◌, List, [], ◌∷◌, ◌++◌, length, Some, None, Ok, Err, Option, Result, ◌==◌, nat_le, nat_lt, slice_index_or}
use Rattle.std.specs.Int.{w64}
use Rattle.std.proofs.Common.{of_z}
use Rattle.std.specs.List.{flat_map}
use Rattle.wire.specs.declared.fault.Fault.{Fault}
use Rattle.wire.specs.declared.fault.Refusal.TheVariants.{SettingOutOfRange}
use Rattle.wire.specs.declared.segment.Header.{Header}
use Rattle.wire.specs.Buffers.{write_answer}
use Rattle.wire.specs.Faults.{fault}
use Rattle.wire.specs.Fields.{bytes_of, overwritten}
use Rattle.wire.specs.Segments.{Plain, Z}
use Rattle.wire.specs.Sessions.{span}

-- the bytes of a header before a payload of some length
abbrev pub header_bytes : Header → ℕ → List ℕ
header_bytes h payload =
    1 ∷ 0 ∷ (bytes_of 2 h.address.protocol ++ (bytes_of 4 h.address.channel ++ (bytes_of 4 h.address.session
    ++ (bytes_of 2 payload ++ (bytes_of 2 h.count ++ (bytes_of 8 h.offset ++ (bytes_of 8 h.first
    ++ bytes_of 8 (of_z w64 h.time))))))))

-- the bytes of a block: the length of the data, and the data
abbrev pub block_bytes : List ℕ → List ℕ
block_bytes m = bytes_of 2 (length m) ++ m

-- the bytes of blocks in a row
abbrev pub payload_bytes : List (List ℕ) → List ℕ
payload_bytes ms = flat_map block_bytes ms

-- the bytes of a segment
abbrev pub segment_bytes : Plain → List ℕ
segment_bytes s = header_bytes s.header (span s.messages) ++ payload_bytes s.messages

-- a segment with a header and the data of messages
abbrev pub segment_with : Header → List (List ℕ) → Plain
segment_with h ms = record { header = h; messages = ms }

-- whether a message is longer than a block may be
abbrev pub some_long : List (List ℕ) → Bool
some_long [] = false
some_long (m ∷ ms) = nat_lt 1430 (length m) || some_long ms

-- whether no datagram can carry the messages
abbrev pub too_large : List (List ℕ) → Bool
too_large ms = some_long ms || nat_lt 65495 (span ms)

-- the length of the payload, where a datagram can carry the messages
abbrev pub measured : List (List ℕ) → Option ℕ
measured ms = cond (too_large ms) None (Some (span ms))

-- whether a segment is past the limits: another count than its messages, messages that no datagram can carry,
-- or a number or a place that is no Long
abbrev pub past_limits : Plain → Bool
past_limits s =
    (not (s.header.count == length s.messages) || (nat_lt s.header.first 1 || nat_lt Z (s.header.first + s.header.count)))
    || (too_large s.messages || nat_lt Z (s.header.offset + span s.messages))

-- the length of the payload of a segment within the limits
abbrev pub checked_limits : Plain → Result ℕ Fault
checked_limits s = cond (past_limits s) (Err (fault SettingOutOfRange 0)) (Ok (span s.messages))

-- what the writer answers: how many bytes it wrote, or a fault
abbrev pub write_segment : Plain → List ℕ → Result ℕ Fault
write_segment s out = write_answer (past_limits s) (40 + span s.messages) out

-- what a copy of a message leaves: the message and what stood behind it; all that stood there, where it does not fit
abbrev pub copied : List ℕ → List ℕ → List ℕ
copied m out = cond (nat_le (length m) (length out)) (overwritten out 0 m) out

-- the same of a message that may be missing, where all stays
abbrev pub copied_from : Option (List ℕ) → List ℕ → List ℕ
copied_from None out = out
copied_from (Some m) out = copied m out

-- the data of message i, counted from 0
abbrev pub body_at : List (List ℕ) → ℕ → List ℕ
body_at ms i = slice_index_or ms i []
