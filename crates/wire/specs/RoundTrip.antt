-- Written segments read back, and read segments are written as they were, but for the reserved byte.
use Rattle.std.specs.Prelude.{◌≡◌, ℕ, ◌^◌, ◌<◌, ◌≤◌, false, List, ◌∷◌, ◌++◌, length, take, drop, Ok, Result, FitsSigned}
use Rattle.std.specs.Int.{w64}
use Rattle.wire.specs.declared.address.Address.{Address}
use Rattle.wire.specs.declared.address.Expected.{Expected}
use Rattle.wire.specs.declared.fault.Fault.{Fault}
use Rattle.wire.specs.declared.segment.Header.{Header}
use Rattle.wire.specs.Fields.{Octets}
use Rattle.wire.specs.Addresses.{other_session}
use Rattle.wire.specs.Segments.{Plain, read_segment}

-- the parts of an address fit their widths, as in every address of the code
pub record FitsAddress (a : Address) : Type 0 where
  pub protocol : a.protocol < 2 ^ 16
  pub channel : a.channel < 2 ^ 32
  pub session : a.session < 2 ^ 32

-- and so do those of a header
pub record FitsHeader (h : Header) : Type 0 where
  pub address : FitsAddress h.address
  pub time : FitsSigned w64 h.time

-- a reader expects an address
pub record Expects (e : Expected) (a : Address) : Type 0 where
  pub protocol : e.protocol ≡ a.protocol
  pub channel : e.channel ≡ a.channel
  pub session : other_session e.session a.session ≡ false

-- bytes read as a segment, to every reader that expects its address
abbrev pub ReadsAs : List ℕ → Plain → Type 0
ReadsAs d s = (e : Expected) → Expects e s.header.address → read_segment e d ≡ Ok s

-- a datagram with its reserved byte written as 0
abbrev pub reserved_cleared : List ℕ → List ℕ
reserved_cleared d = take 1 d ++ (0 ∷ drop 2 d)

-- a segment is written as it was in every datagram that reads as it, but for the reserved byte
abbrev pub WrittenAsRead : Plain → List ℕ → List ℕ → Result ℕ Fault → Type 0
WrittenAsRead s out after r =
    (e : Expected) (d : List ℕ) → Octets d → read_segment e d ≡ Ok s → length d ≤ length out
    → (r ≡ Ok (length d)) × (take (length d) after ≡ reserved_cleared d)
