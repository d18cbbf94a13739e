-- A header is the front of a datagram: what is read in the one is read in the other.
use Rattle.std.proofs.Common.{◌≡◌, ℕ, ◌+◌, ◌*◌, ◌≤◌, not, ◌&&◌, ◌||◌, eqb, ltb, List, [], ◌∷◌, take, w64, to_z, arith, lit≤}
use Rattle.wire.specs.declared.address.Address.{Address}
use Rattle.wire.specs.declared.address.AddressRefusals.{AddressRefusals}
use Rattle.wire.specs.declared.address.Expected.{Expected}
use Rattle.wire.specs.declared.fault.Refusal.TheVariants.{WrongVersion, WrongLength, OutOfRange, WrongRequestVersion, WrongRequestType, WrongRangeCount, WrongRequestLength}
use Rattle.wire.specs.declared.request.Transport.{Transport}
use Rattle.wire.specs.Addresses.{expected_of, other_session, other_address_checks}
use Rattle.wire.specs.Outcomes.{check}
use Rattle.wire.specs.Requests as request
use Rattle.wire.specs.Requests.{Kind, front_checks, is_stream, count_checks}
use Rattle.wire.specs.Segments.{Z, address_refusals, address_checks, range_checks, header_of}
use Rattle.wire.proofs.Fields.{field-take}

-- the address is in the first 12 bytes
other_address_checks-take : (d : List ℕ) (n : ℕ) → 12 ≤ n → (r : AddressRefusals) (e : Expected) → other_address_checks r e (take n d) ≡ other_address_checks r e d
other_address_checks-take d n h r e =
    let protocol = field-take d n 2 2 (omega arith) in
    let channel = field-take d n 4 4 (omega arith) in
    let session = field-take d n 8 4 (omega arith) in
    λ i. check (not (eqb (protocol i) e.protocol)) r.protocol 2
    ∷ check (not (eqb (channel i) e.channel)) r.channel 4
    ∷ check (other_session e.session (session i)) r.session 8
    ∷ []

module _ (d : List ℕ) where
  pub address_checks-take : (e : Expected) → address_checks e (take 40 d) ≡ address_checks e d
  address_checks-take e =
      let version = field-take d 40 0 1 (lit≤ tt) in
      λ i. check (not (eqb (version i) 1)) WrongVersion 0 ∷ other_address_checks-take d 40 (lit≤ tt) address_refusals e i

  pub range_checks-take : (n : ℕ) → range_checks (take 40 d) n ≡ range_checks d n
  range_checks-take n =
      let payload = field-take d 40 12 2 (lit≤ tt) in
      let count = field-take d 40 14 2 (lit≤ tt) in
      let offset = field-take d 40 16 8 (lit≤ tt) in
      let first = field-take d 40 24 8 (lit≤ tt) in
      λ i. check (not (eqb n (40 + payload i))) WrongLength 12
      ∷ check (ltb (first i) 1 || ltb Z (first i + count i)) OutOfRange 24
      ∷ check (ltb Z (offset i + payload i)) OutOfRange 16
      ∷ []

  pub header_of-take : header_of (take 40 d) ≡ header_of d
  header_of-take =
      let protocol = field-take d 40 2 2 (lit≤ tt) in
      let channel = field-take d 40 4 4 (lit≤ tt) in
      let session = field-take d 40 8 4 (lit≤ tt) in
      let offset = field-take d 40 16 8 (lit≤ tt) in
      let first = field-take d 40 24 8 (lit≤ tt) in
      let count = field-take d 40 14 2 (lit≤ tt) in
      let time = field-take d 40 32 8 (lit≤ tt) in
      λ i. record {
        address = record { protocol = protocol i; channel = channel i; session = session i };
        offset = offset i;
        first = first i;
        count = count i;
        time = to_z w64 (time i);
      }

module _ (d : List ℕ) where
  pub front_checks-take : (k : Kind) → front_checks k (take 16 d) ≡ front_checks k d
  front_checks-take k =
      let version = field-take d 16 0 1 (lit≤ tt) in
      let code = field-take d 16 1 1 (lit≤ tt) in
      λ i. check (not (eqb (version i) 1)) WrongRequestVersion 0 ∷ check (not (eqb (code i) k.code)) WrongRequestType 1 ∷ []

  pub request_address_checks-take : (a : Address) → request.address_checks a (take 16 d) ≡ request.address_checks a d
  request_address_checks-take a = other_address_checks-take d 16 (lit≤ tt) request.address_refusals (expected_of a)

  pub count_checks-take : (t : Transport) (n : ℕ) → count_checks t (take 16 d) n ≡ count_checks t d n
  count_checks-take t n =
      let count = field-take d 16 12 4 (lit≤ tt) in
      λ i. check (ltb 64 (count i) || (eqb (count i) 0 && is_stream t)) WrongRangeCount 12
      ∷ check (not (eqb n (16 + 16 * count i))) WrongRequestLength n
      ∷ []
