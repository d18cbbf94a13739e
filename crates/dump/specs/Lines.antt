-- What is said of one record.
use Rattle.std.specs.Prelude.{ℕ, ◌+◌, List, [], ◌∷◌, ◌++◌, length, Ok, Err, codes, decimal, Result}
use Rattle.wire.specs.declared.fault.Fault.{Fault}
use Rattle.wire.specs.declared.segment.Header.{Header}
use Rattle.wire.specs.Faults.{fault_text}
use Rattle.wire.specs.Segments.{Plain}
use Rattle.wire.specs.Sessions.{span}
use Rattle.dump.specs.declared.line.Line.{Line}
use Rattle.dump.specs.declared.line.Line.TheVariants.{Refused, Heartbeat, Messages}

-- the line of an accepted segment: the numbers of its first and last message, how many they are, its offset, and the bytes of its blocks
abbrev pub segment_line : Header → List (List ℕ) → Line
segment_line h [] = Heartbeat h.first
segment_line h (m ∷ ms) =
    Messages (record { first = h.first; last = h.first + length ms; count = length (m ∷ ms); offset = h.offset; bytes = span (m ∷ ms) })

-- the line of a record that reads so
abbrev pub line_for : Result Plain Fault → Line
line_for (Ok s) = segment_line s.header s.messages
line_for (Err f) = Refused f

-- a line as it is printed, without the record's number
abbrev pub line_text : Line → List ℕ
line_text (Refused f) = codes "refused, " ++ fault_text f
line_text (Heartbeat n) = codes "heartbeat, next " ++ decimal n
line_text (Messages x) =
    codes "messages " ++ (decimal x.first ++ (codes " to " ++ (decimal x.last
    ++ (codes ", offset " ++ (decimal x.offset ++ (codes ", bytes " ++ decimal x.bytes))))))
