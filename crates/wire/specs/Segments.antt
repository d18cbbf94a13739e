-- What a datagram says, or why it is refused. `ReadingLaw` says the same by conditions, with no order of steps.
use Rattle.std.specs.Prelude.{ℕ, ◌+◌, not, ◌||◌, List, [], ◌∷◌, ◌++◌, length, take, drop, Ok, Result, ◌==◌, nat_lt}
use Rattle.std.specs.Int.{w64}
use Rattle.std.proofs.Common.{to_z}
use Rattle.wire.specs.declared.address.Address.{Address}
use Rattle.wire.specs.declared.address.AddressRefusals.{AddressRefusals}
use Rattle.wire.specs.declared.address.Expected.{Expected}
use Rattle.wire.specs.declared.fault.Fault.{Fault}
use Rattle.wire.specs.declared.fault.Refusal.TheVariants.{ShortDatagram, LongDatagram, WrongVersion, WrongProtocol, WrongChannel, WrongSession, WrongLength, OutOfRange}
use Rattle.wire.specs.declared.segment.Header.{Header}
use Rattle.wire.specs.Addresses.{other_address_checks}
use Rattle.wire.specs.Blocks.{blocks}
use Rattle.wire.specs.Fields.{field}
use Rattle.wire.specs.Outcomes.{map_ok, Check, check, first_fault}

-- what an accepted datagram says: its header, and the data of its messages; a heartbeat has none
pub record Plain : Type 0 where
  pub header : Header
  pub messages : List (List ℕ)

-- the largest Long
abbrev pub Z : ℕ
Z = 9223372036854775807

-- what can be wrong with the size
abbrev pub size_checks : List ℕ → List Check
size_checks d =
    check (nat_lt (length d) 40) ShortDatagram (length d)
    ∷ check (nat_lt 65535 (length d)) LongDatagram 65535
    ∷ []

-- the header and the payload of a datagram of a right size
abbrev pub split_datagram : List ℕ → Result (List ℕ × List ℕ) Fault
split_datagram d = first_fault (size_checks d) (Ok (take 40 d, drop 40 d))

-- the refusals of an address that is not the expected one
abbrev pub address_refusals : AddressRefusals
address_refusals = record { protocol = WrongProtocol; channel = WrongChannel; session = WrongSession }

-- what can be wrong with the version and the address
abbrev pub address_checks : Expected → List ℕ → List Check
address_checks e d = check (not (field d 0 1 == 1)) WrongVersion 0 ∷ other_address_checks address_refusals e d

-- what can be wrong with the length n of a datagram and the ranges that its header names; the field of a negative Long reads as a number above the largest Long
abbrev pub range_checks : List ℕ → ℕ → List Check
range_checks d n =
    check (not (n == 40 + field d 12 2)) WrongLength 12
    ∷ check (nat_lt (field d 24 8) 1 || nat_lt Z (field d 24 8 + field d 14 2)) OutOfRange 24
    ∷ check (nat_lt Z (field d 16 8 + field d 12 2)) OutOfRange 16
    ∷ []

-- all that can be wrong with a header, in the order in which it is looked for
abbrev pub header_checks : Expected → List ℕ → List Check
header_checks e d = size_checks d ++ (address_checks e d ++ range_checks d (length d))

-- the address that a header names
abbrev pub address_of : List ℕ → Address
address_of d = record { protocol = field d 2 2; channel = field d 4 4; session = field d 8 4 }

-- what a header says
abbrev pub header_of : List ℕ → Header
header_of d =
    record { address = address_of d; offset = field d 16 8; first = field d 24 8; count = field d 14 2; time = to_z w64 (field d 32 8) }

-- a datagram whose blocks have this data
abbrev pub segment_of : List ℕ → List (List ℕ) → Plain
segment_of d ms = record { header = header_of d; messages = ms }

-- what a datagram says to a reader that expects e
abbrev pub read_segment : Expected → List ℕ → Result Plain Fault
read_segment e d = first_fault (header_checks e d) (map_ok (segment_of d) (blocks (field d 14 2) 40 (drop 40 d)))
