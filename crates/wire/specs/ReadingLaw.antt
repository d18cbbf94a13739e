-- The law of reading, by conditions that stand each by itself. A datagram is accepted exactly when none of them holds;
-- otherwise it is refused for one that holds, and none with a lower number holds.
use Rattle.std.specs.Prelude.{◌≡◌, ℕ, zero, suc, ◌+◌, ◌-◌, ◌<◌, ◌≤◌, ◌⊎◌, List, [], ◌∷◌, length, take, drop, Some, Ok, Err, Result, ◌≢◌}
use Rattle.wire.specs.declared.address.Expected.{Expected}
use Rattle.wire.specs.declared.fault.Fault.{Fault}
use Rattle.wire.specs.declared.fault.Refusal.{Refusal}
use Rattle.wire.specs.declared.fault.Refusal.TheVariants.{ShortDatagram, LongDatagram, WrongVersion, WrongProtocol, WrongChannel, WrongSession, WrongLength, OutOfRange, BlocksDisagree, LongBlock}
use Rattle.wire.specs.Cursor.{Placed, numbered}
use Rattle.wire.specs.Faults.{entry_of}
use Rattle.wire.specs.Fields.{field}
use Rattle.wire.specs.Segments.{Plain, Z}

-- what can be wrong with a header, with the refusal and the place of each; a negative Long reads as a number above Z
pub data HeaderFault (e : Expected) (d : List ℕ) : Refusal → ℕ → Type 0 where
  too_short : length d < 40 → HeaderFault e d ShortDatagram (length d)
  too_long : 65535 < length d → HeaderFault e d LongDatagram 65535
  another_version : (field d 0 1 ≢ 1) → HeaderFault e d WrongVersion 0
  another_protocol : (field d 2 2 ≢ e.protocol) → HeaderFault e d WrongProtocol 2
  another_channel : (field d 4 4 ≢ e.channel) → HeaderFault e d WrongChannel 4
  another_session : (s : ℕ) → e.session ≡ Some s → (field d 8 4 ≢ s) → HeaderFault e d WrongSession 8
  another_length : (length d ≢ 40 + field d 12 2) → HeaderFault e d WrongLength 12
  no_number : field d 24 8 < 1 → HeaderFault e d OutOfRange 24
  past_numbers : Z < field d 24 8 + field d 14 2 → HeaderFault e d OutOfRange 24
  past_offsets : 1 ≤ field d 24 8 → field d 24 8 + field d 14 2 ≤ Z → Z < field d 16 8 + field d 12 2 → HeaderFault e d OutOfRange 16

-- where block k begins: the first right behind the header, each other right behind the one before
abbrev pub block_start : List ℕ → ℕ → ℕ
block_start d zero = 40
block_start d (suc k) = block_start d k + (2 + field d (block_start d k) 2)

-- the length that block k names
abbrev pub block_length : List ℕ → ℕ → ℕ
block_length d k = field d (block_start d k) 2

-- block k ends within the datagram, and is not too long
pub record Whole (d : List ℕ) (k : ℕ) : Type 0 where
  pub inside : block_start d (suc k) ≤ length d
  pub short : block_length d k ≤ 1430

-- the blocks before block k are whole
abbrev pub WholeBefore : List ℕ → ℕ → Type 0
WholeBefore d k = (j : ℕ) → j < k → Whole d j

-- what can be wrong with the blocks: the first block that is not whole, or bytes behind the last
pub data BlockFault (d : List ℕ) : Refusal → ℕ → Type 0 where
  length_cut : (k : ℕ) → k < field d 14 2 → WholeBefore d k → length d < block_start d k + 2 → BlockFault d BlocksDisagree (block_start d k)
  over_long : (k : ℕ) → k < field d 14 2 → WholeBefore d k → block_start d k + 2 ≤ length d → 1430 < block_length d k
      → BlockFault d LongBlock (block_start d k)
  data_cut : (k : ℕ) → k < field d 14 2 → WholeBefore d k → block_start d k + 2 ≤ length d → block_length d k ≤ 1430
      → length d < block_start d (suc k) → BlockFault d BlocksDisagree (block_start d k)
  left_over : WholeBefore d (field d 14 2) → block_start d (field d 14 2) < length d
      → BlockFault d BlocksDisagree (block_start d (field d 14 2))

-- what can be wrong with a datagram
abbrev pub Faulty : Expected → List ℕ → Refusal → ℕ → Type 0
Faulty e d r p = HeaderFault e d r p ⊎ BlockFault d r p

-- messages as they lie in a datagram from a byte on: their numbers run on by one, their places by two and the length;
-- each body is the part of the datagram behind its length field; the last block ends where the datagram ends
abbrev pub LaidOut : List ℕ → ℕ → ℕ → ℕ → List Placed → Type 0
LaidOut d at n place [] = at ≡ length d
LaidOut d at n place (m ∷ ms) =
    (m.number ≡ n) × (m.place ≡ place) × (length m.body ≡ field d at 2) × (m.body ≡ take (field d at 2) (drop (at + 2) d))
    × LaidOut d (at + (2 + length m.body)) (n + 1) (place + (2 + length m.body)) ms

-- an accepted datagram: no condition holds; its numbers and its places stay within a Long, and its messages lie in it
-- one behind the other
pub record Accepted (e : Expected) (d : List ℕ) (s : Plain) : Type 0 where
  pub faultless : (r : Refusal) (p : ℕ) → Faulty e d r p → ⊥
  pub from_one : 1 ≤ s.header.first
  pub numbers_fit : s.header.first + s.header.count ≤ Z
  pub places_fit : s.header.offset + (length d - 40) ≤ Z
  pub counted : length s.messages ≡ s.header.count
  pub laid_out : LaidOut d 40 s.header.first s.header.offset (numbered s.header.first s.header.offset s.messages)

-- a refused datagram: the condition holds at its place, and none with a lower number does
pub record Refused (e : Expected) (d : List ℕ) (f : Fault) : Type 0 where
  pub holds : Faulty e d f.refusal f.place
  pub lowest : (r : Refusal) (p : ℕ) → Faulty e d r p → (entry_of f.refusal).number ≤ (entry_of r).number

-- what the answer to a datagram says of it
abbrev pub ByLaw : Expected → List ℕ → Result Plain Fault → Type 0
ByLaw e d (Ok s) = Accepted e d s
ByLaw e d (Err f) = Refused e d f
