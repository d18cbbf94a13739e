-- A session: the list of all messages published in it, from message 1 on. Where each stands in the session's stream,
-- and what it is for a segment to be true to the session.
use Rattle.std.specs.Prelude.{◌≡◌, ℕ, ◌+◌, ◌-◌, ◌≤◌, List, [], ◌∷◌, length, take, drop, ℤ, slice_index_or}
use Rattle.wire.specs.declared.address.Address.{Address}
use Rattle.wire.specs.Cursor.{Placed, numbered}
use Rattle.wire.specs.Segments.{Plain}

-- the bytes that messages take up as blocks: two for each length field, and the data
abbrev pub span : List (List ℕ) → ℕ
span [] = 0
span (m ∷ ms) = 2 + length m + span ms

-- the place of message n: the bytes of the messages before it
abbrev pub place_of : List (List ℕ) → ℕ → ℕ
place_of σ n = span (take (n - 1) σ)

-- the data of message n
abbrev pub message_of : List (List ℕ) → ℕ → List ℕ
message_of σ n = slice_index_or σ (n - 1) []

-- a segment is true to a session: it has the session's address; its messages are the session's from its first number on,
-- and its offset is the place of that number. A heartbeat may name the number after the last
pub record TrueTo (σ : List (List ℕ)) (a : Address) (s : Plain) : Type 0 where
  pub same_address : s.header.address ≡ a
  pub from_one : 1 ≤ s.header.first
  pub within : s.header.first + length s.messages ≤ length σ + 1
  pub contents : s.messages ≡ take (length s.messages) (drop (s.header.first - 1) σ)
  pub offset_place : s.header.offset ≡ place_of σ s.header.first

-- the segment of k messages of a session from number n on
abbrev pub part_of : List (List ℕ) → Address → ℤ → ℕ → ℕ → Plain
part_of σ a t n k =
    record {
      header = record { address = a; offset = place_of σ n; first = n; count = k; time = t };
      messages = take k (drop (n - 1) σ);
    }

-- a message is the session's under its number, at its place
pub record OfSession (σ : List (List ℕ)) (m : Placed) : Type 0 where
  pub from_one : 1 ≤ m.number
  pub within : m.number ≤ length σ
  pub contents : m.body ≡ message_of σ m.number
  pub in_place : m.place ≡ place_of σ m.number

-- all of some messages are the session's
abbrev pub AllOfSession : List (List ℕ) → List Placed → Type 0
AllOfSession σ [] = Unit {0}
AllOfSession σ (m ∷ ms) = OfSession σ m × AllOfSession σ ms

-- message 1 has place 0, and each message's place is that of the one before, plus two, plus the length of that
pub record PlacesRunOn (σ : List (List ℕ)) : Type 0 where
  pub first : place_of σ 1 ≡ 0
  pub next : (n : ℕ) → 1 ≤ n → n ≤ length σ → place_of σ (n + 1) ≡ place_of σ n + 2 + length (message_of σ n)

-- every message of a true segment is the session's under its number, at its place
abbrev pub TrueMessages : List (List ℕ) → Type 0
TrueMessages σ =
    (a : Address) (s : Plain) → TrueTo σ a s → AllOfSession σ (numbered s.header.first s.header.offset s.messages)

-- every part of a session, a heartbeat after any of its messages too, is a true segment
abbrev pub TrueParts : List (List ℕ) → Type 0
TrueParts σ =
    (a : Address) (t : ℤ) (n k : ℕ) → 1 ≤ n → n + k ≤ length σ + 1 → TrueTo σ a (part_of σ a t n k)
