-- The law of reading requests, by conditions that stand each by itself. A request is accepted exactly when none of them holds;
-- otherwise it is refused for one that holds, and none with a lower number holds.
use Rattle.std.specs.Prelude.{◌≡◌, ℕ, zero, suc, ◌+◌, ◌*◌, ◌<◌, ◌≤◌, ◌⊎◌, List, [], ◌∷◌, length, Some, None, Ok, Err, Option, Result, ◌≢◌, slice_index_or}
use Rattle.wire.specs.declared.fault.Fault.{Fault}
use Rattle.wire.specs.declared.fault.Refusal.{Refusal}
use Rattle.wire.specs.declared.fault.Refusal.TheVariants.{ShortRequest, WrongRequestVersion, WrongRequestType, WrongRequestProtocol, WrongRequestChannel, WrongRequestSession, WrongRangeCount, WrongRequestLength, InvalidRange, RangesNotAscending}
use Rattle.wire.specs.declared.request.ExpectedRequest.{ExpectedRequest}
use Rattle.wire.specs.declared.request.Range.{Range}
use Rattle.wire.specs.declared.request.Transport.TheVariants.{Stream}
use Rattle.wire.specs.Faults.{entry_of}
use Rattle.wire.specs.Fields.{field}
use Rattle.wire.specs.Requests.{Kind}
use Rattle.wire.specs.Segments.{Z}

-- what can be wrong with a request's header, with the refusal and the place of each
pub data RequestHeaderFault (k : Kind) (x : ExpectedRequest) (d : List ℕ) : Refusal → ℕ → Type 0 where
  too_short : length d < 16 → RequestHeaderFault k x d ShortRequest (length d)
  another_version : (field d 0 1 ≢ 1) → RequestHeaderFault k x d WrongRequestVersion 0
  another_type : (field d 1 1 ≢ k.code) → RequestHeaderFault k x d WrongRequestType 1
  another_protocol : (field d 2 2 ≢ x.address.protocol) → RequestHeaderFault k x d WrongRequestProtocol 2
  another_channel : (field d 4 4 ≢ x.address.channel) → RequestHeaderFault k x d WrongRequestChannel 4
  another_session : (field d 8 4 ≢ x.address.session) → RequestHeaderFault k x d WrongRequestSession 8
  too_many_ranges : 64 < field d 12 4 → RequestHeaderFault k x d WrongRangeCount 12
  no_ranges : field d 12 4 ≡ 0 → x.transport ≡ Stream → RequestHeaderFault k x d WrongRangeCount 12
  another_length : (length d ≢ 16 + 16 * field d 12 4) → RequestHeaderFault k x d WrongRequestLength (length d)

-- range j of a request, from 0: the first right behind the header, each other 16 bytes on
abbrev pub range_at : List ℕ → ℕ → Range
range_at d j = record { first = field d (16 + 16 * j) 8; last = field d (24 + 16 * j) 8 }

-- a range begins at the lowest value or above and ends where it begins or above; a negative Long reads as a number above Z
pub record Valid (k : Kind) (r : Range) : Type 0 where
  pub from_lowest : k.lowest ≤ r.first
  pub forward : r.first ≤ r.last
  pub within : r.last ≤ Z

-- a number is above a value, if there is one
abbrev pub Above : Option ℕ → ℕ → Type 0
Above None n = Unit {0}
Above (Some value) n = value < n

-- the value that range j must begin above: the expected one, and then the end of the range before
abbrev pub value_before : ExpectedRequest → List ℕ → ℕ → Option ℕ
value_before x d zero = x.after
value_before x d (suc j) = Some (range_at d j).last

-- range j is valid, and begins above what came before
pub record GoodRange (k : Kind) (x : ExpectedRequest) (d : List ℕ) (j : ℕ) : Type 0 where
  pub valid : Valid k (range_at d j)
  pub above : Above (value_before x d j) (range_at d j).first

-- the ranges before range j are good
abbrev pub GoodBefore : Kind → ExpectedRequest → List ℕ → ℕ → Type 0
GoodBefore k x d j = (i : ℕ) → i < j → GoodRange k x d i

-- what can be wrong with the ranges: the first that is not good
pub data RangeFault (k : Kind) (x : ExpectedRequest) (d : List ℕ) : Refusal → ℕ → Type 0 where
  not_valid : (j : ℕ) → j < field d 12 4 → GoodBefore k x d j → (Valid k (range_at d j) → ⊥) → RangeFault k x d InvalidRange (16 + 16 * j)
  not_ascending : (j : ℕ) → j < field d 12 4 → GoodBefore k x d j → Valid k (range_at d j)
      → (Above (value_before x d j) (range_at d j).first → ⊥) → RangeFault k x d RangesNotAscending (16 + 16 * j)

-- what can be wrong with a request
abbrev pub RequestFaulty : Kind → ExpectedRequest → List ℕ → Refusal → ℕ → Type 0
RequestFaulty k x d r p = RequestHeaderFault k x d r p ⊎ RangeFault k x d r p

-- ranges of a kind that are valid and ascend, the first from above a value
abbrev pub Ascending : Kind → Option ℕ → List Range → Type 0
Ascending k after [] = Unit {0}
Ascending k after (r ∷ rs) = Valid k r × Above after r.first × Ascending k (Some r.last) rs

-- an accepted request: no condition holds; its ranges are those that its bytes name, and they ascend
pub record RequestAccepted (k : Kind) (x : ExpectedRequest) (d : List ℕ) (rs : List Range) : Type 0 where
  pub faultless : (r : Refusal) (p : ℕ) → RequestFaulty k x d r p → ⊥
  pub counted : length rs ≡ field d 12 4
  pub named : (j : ℕ) (r : Range) → j < length rs → slice_index_or rs j r ≡ range_at d j
  pub ascending : Ascending k x.after rs

-- a refused request: the condition holds at its place, and none with a lower number does
pub record RequestRefused (k : Kind) (x : ExpectedRequest) (d : List ℕ) (f : Fault) : Type 0 where
  pub holds : RequestFaulty k x d f.refusal f.place
  pub lowest : (r : Refusal) (p : ℕ) → RequestFaulty k x d r p → (entry_of f.refusal).number ≤ (entry_of r).number

-- what the answer to a request says of it
abbrev pub RequestByLaw : Kind → ExpectedRequest → List ℕ → Result (List Range) Fault → Type 0
RequestByLaw k x d (Ok rs) = RequestAccepted k x d rs
RequestByLaw k x d (Err f) = RequestRefused k x d f
