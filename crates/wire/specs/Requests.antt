-- What a gap fill request asks for, or why it is refused. `RequestLaw` says the same by conditions, with no order of steps.
use Rattle.std.specs.Prelude.{ℕ, zero, suc, ◌+◌, ◌*◌, Bool, true, false, not, ◌&&◌, ◌||◌, List, [], ◌∷◌, ◌++◌, map, length, take, drop, Some, None, Ok, Option, Result, ◌==◌, nat_le, nat_lt}
use Rattle.wire.specs.declared.address.Address.{Address}
use Rattle.wire.specs.declared.address.AddressRefusals.{AddressRefusals}
use Rattle.wire.specs.declared.fault.Fault.{Fault}
use Rattle.wire.specs.declared.fault.Refusal.TheVariants.{ShortRequest, WrongRequestVersion, WrongRequestType, WrongRequestProtocol, WrongRequestChannel, WrongRequestSession, WrongRangeCount, WrongRequestLength, InvalidRange, RangesNotAscending}
use Rattle.wire.specs.declared.request.ExpectedRequest.{ExpectedRequest}
use Rattle.wire.specs.declared.request.Range.{Range}
use Rattle.wire.specs.declared.request.Transport.{Transport}
use Rattle.wire.specs.declared.request.Transport.TheVariants.{Datagram, Stream}
use Rattle.wire.specs.declared.request.ranges.Ranges.{Ranges}
use Rattle.wire.specs.Addresses.{expected_of, other_address_checks}
use Rattle.wire.specs.Fields.{field}
use Rattle.wire.specs.Headers.{short_checks}
use Rattle.wire.specs.Outcomes.{map_ok, and_then, Check, check, first_fault}
use Rattle.wire.specs.Segments.{Z}

-- what the ranges of a request are of: the code in its type field, and the lowest value that a range may begin with
pub record Kind : Type 0 where
  pub code : ℕ
  pub lowest : ℕ

-- ranges of message numbers: type 1, from 1 on
abbrev pub by_numbers : Kind
by_numbers = record { code = 1; lowest = 1 }

-- ranges of stream bytes: type 2, from 0 on
abbrev pub by_bytes : Kind
by_bytes = record { code = 2; lowest = 0 }

-- what can be wrong with the version and the type
abbrev pub front_checks : Kind → List ℕ → List Check
front_checks k d =
    check (not (field d 0 1 == 1)) WrongRequestVersion 0
    ∷ check (not (field d 1 1 == k.code)) WrongRequestType 1
    ∷ []

-- the refusals of an address that is not the expected one
abbrev pub address_refusals : AddressRefusals
address_refusals = record { protocol = WrongRequestProtocol; channel = WrongRequestChannel; session = WrongRequestSession }

-- what can be wrong with the address
abbrev pub address_checks : Address → List ℕ → List Check
address_checks a d = other_address_checks address_refusals (expected_of a) d

-- whether requests come by a stream
abbrev pub is_stream : Transport → Bool
is_stream Datagram = false
is_stream Stream = true

-- what can be wrong with the count, and with the length n of a request
abbrev pub count_checks : Transport → List ℕ → ℕ → List Check
count_checks t d n =
    check (nat_lt 64 (field d 12 4) || (field d 12 4 == 0 && is_stream t)) WrongRangeCount 12
    ∷ check (not (n == 16 + 16 * field d 12 4)) WrongRequestLength n
    ∷ []

-- all that can be wrong with a header, in the order in which it is looked for
abbrev pub header_checks : Kind → ExpectedRequest → List ℕ → List Check
header_checks k x d =
    short_checks 16 ShortRequest d ++ (front_checks k d ++ (address_checks x.address d ++ count_checks x.transport d (length d)))

-- the range that 16 bytes name
abbrev pub range_of : List ℕ → Range
range_of bs = record { first = field bs 0 8; last = field bs 8 8 }

-- whether a range begins too low, or ends before it begins; the field of a negative Long reads as a number above the largest Long
abbrev pub invalid : Kind → Range → Bool
invalid k r = nat_lt r.first k.lowest || (nat_lt r.last r.first || nat_lt Z r.last)

-- whether a number is not above a value, if there is one
abbrev pub not_above : Option ℕ → ℕ → Bool
not_above None n = false
not_above (Some value) n = nat_le n value

-- what can be wrong with a range at a place, after a value
abbrev pub range_checks : Kind → Option ℕ → ℕ → Range → List Check
range_checks k after at r =
    check (invalid k r) InvalidRange at
    ∷ check (not_above after r.first) RangesNotAscending at
    ∷ []

-- the answer to a range at a place, after a value
abbrev pub checked_range : Kind → Option ℕ → ℕ → Range → Result Range Fault
checked_range k after at r = first_fault (range_checks k after at r) (Ok r)

-- ranges that stand from a place on, 16 bytes each, every one above the one before
abbrev pub ranges : Kind → Option ℕ → ℕ → List Range → Result (List Range) Fault
ranges k after at [] = Ok []
ranges k after at (r ∷ rs) =
    and_then (checked_range k after at r) (λ x. map_ok (λ xs. x ∷ xs) (ranges k (Some x.last) (at + 16) rs))

-- whether they are such ranges
abbrev pub checked_ranges : Kind → Option ℕ → ℕ → List Range → Result (Unit {0}) Fault
checked_ranges k after at rs = map_ok (λ _. tt) (ranges k after at rs)

-- the ranges of some bytes, 16 bytes each
abbrev pub ranges_from : ℕ → List ℕ → List Range
ranges_from zero bs = []
ranges_from (suc n) bs = range_of (take 16 bs) ∷ ranges_from n (drop 16 bs)

-- what a request asks of a reader that serves a kind and expects x
abbrev pub read_request : Kind → ExpectedRequest → List ℕ → Result (List Range) Fault
read_request k x d = first_fault (header_checks k x d) (ranges k x.after 16 (ranges_from (field d 12 4) (drop 16 d)))

-- what a cursor has still to hand out
abbrev pub unread_ranges : Ranges → List Range
unread_ranges r = map range_of r.rest.now
