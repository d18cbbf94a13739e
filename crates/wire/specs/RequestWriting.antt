-- The bytes of a request, what its writer answers, and how requests are read and written again.
use Rattle.std.specs.Prelude.{◌≡◌, ℕ, ◌+◌, ◌*◌, ◌<◌, ◌≤◌, Bool, false, ◌||◌, List, [], ◌∷◌, ◌++◌, length, take, Some, None, Ok, Option, Result, nat_lt}
use Rattle.std.specs.List.{flat_map}
use Rattle.wire.specs.declared.address.Address.{Address}
use Rattle.wire.specs.declared.fault.Fault.{Fault}
use Rattle.wire.specs.declared.request.ExpectedRequest.{ExpectedRequest}
use Rattle.wire.specs.declared.request.Range.{Range}
use Rattle.wire.specs.declared.request.Transport.TheVariants.{Stream}
use Rattle.wire.specs.Buffers.{write_answer}
use Rattle.wire.specs.Fields.{bytes_of, Octets}
use Rattle.wire.specs.RequestLaw.{Above}
use Rattle.wire.specs.Requests.{Kind, invalid, not_above, read_request}

-- the bytes of a request's header before some ranges
abbrev pub request_header_bytes : Kind → Address → ℕ → List ℕ
request_header_bytes k a n =
    1 ∷ k.code ∷ (bytes_of 2 a.protocol ++ (bytes_of 4 a.channel ++ (bytes_of 4 a.session ++ bytes_of 4 n)))

-- the bytes of a range
abbrev pub range_bytes : Range → List ℕ
range_bytes r = bytes_of 8 r.first ++ bytes_of 8 r.last

-- the bytes of ranges in a row
abbrev pub ranges_bytes : List Range → List ℕ
ranges_bytes rs = flat_map range_bytes rs

-- the bytes of a request
abbrev pub request_bytes : Kind → Address → List Range → List ℕ
request_bytes k a rs = request_header_bytes k a (length rs) ++ ranges_bytes rs

-- whether a range is invalid, or not above what came before
abbrev pub unordered : Kind → Option ℕ → List Range → Bool
unordered k after [] = false
unordered k after (r ∷ rs) = invalid k r || (not_above after r.first || unordered k (Some r.last) rs)

-- whether there are too many ranges, or such as no reader accepts
abbrev pub ranges_past_limits : Kind → List Range → Bool
ranges_past_limits k rs = nat_lt 64 (length rs) || unordered k None rs

-- what the writer answers: how many bytes it wrote, or a fault
abbrev pub write_request : Kind → List Range → List ℕ → Result ℕ Fault
write_request k rs out = write_answer (ranges_past_limits k rs) (16 + 16 * length rs) out

-- the first of some ranges begins above a value, if there is one
abbrev pub BeginsAbove : Option ℕ → List Range → Type 0
BeginsAbove after [] = Unit {0}
BeginsAbove after (r ∷ rs) = Above after r.first

-- a reader expects an address and such ranges: some at least on a stream, and all above the expected value
pub record ExpectsRanges (x : ExpectedRequest) (a : Address) (rs : List Range) : Type 0 where
  pub address : x.address ≡ a
  pub some : x.transport ≡ Stream → 0 < length rs
  pub above : BeginsAbove x.after rs

-- bytes read as ranges, to every reader that expects the address and such ranges
abbrev pub RequestReadsAs : Kind → List ℕ → Address → List Range → Type 0
RequestReadsAs k d a rs = (x : ExpectedRequest) → ExpectsRanges x a rs → read_request k x d ≡ Ok rs

-- ranges are written as they were in every request that reads as them
abbrev pub RequestWrittenAsRead : Kind → Address → List Range → List ℕ → List ℕ → Result ℕ Fault → Type 0
RequestWrittenAsRead k a rs out left r =
    (x : ExpectedRequest) (d : List ℕ) → Octets d → x.address ≡ a → read_request k x d ≡ Ok rs → length d ≤ length out
    → (r ≡ Ok (length d)) × (take (length d) left ≡ d)
