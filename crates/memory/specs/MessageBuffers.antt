-- What a message buffer holds, and when it has room.
use Rattle.std.specs.Prelude.{ℕ, ◌+◌, Bool, ◌&&◌, List, [], ◌∷◌, ◌++◌, length, drop, nat_le, nat_lt}

-- the messages that a buffer holds, in the order in which they came; how many entries it has, free ones included; how many data bytes
-- it has room for, used ones included; the free ones of these; and for how many bytes memory is reserved, at least as many
pub record Buffered : Type 0 where
  pub messages : List (List ℕ)
  pub entries : ℕ
  pub bytes : ℕ
  pub free : List ℕ
  pub reserved : ℕ

-- how many data bytes messages have
abbrev pub data_bytes : List (List ℕ) → ℕ
data_bytes [] = 0
data_bytes (m ∷ ms) = length m + data_bytes ms

-- whether a message of some size has room in a buffer: an entry is free, and there are no fewer free bytes than it has
abbrev pub has_room : Buffered → ℕ → Bool
has_room b size = nat_lt (length b.messages) b.entries && nat_le (data_bytes b.messages + size) b.bytes

-- a buffer with one more message, at the end, for which the first free bytes are used
abbrev pub with_message : Buffered → List ℕ → Buffered
with_message b m = record b { messages = b.messages ++ m ∷ []; free = drop (length m) b.free }
