-- What is written as a request reads back, and what is read is written as it was.
use Rattle.std.proofs.Common.{◌≡◌, ℕ, zero, suc, ◌+◌, ◌*◌, ◌%◌, ◌<◌, ◌≤◌, Bool, true, false, ◌&&◌, eqb, ltb, List, [], ◌∷◌, ◌++◌, length, take, drop, Some, None, Ok, Option, sym, refl, ap, ◌∙◌, subst, inl, ⊎_elim, arith, length-drop}
use Rattle.std.proofs.lemmas.List.{take_all, take-append-drop, length-take-le}
use Rattle.std.proofs.lemmas.Bool.{cases_eq, cases_lt, le-ltb, ltb-false, lt-leb, eq-eqb, ne_eqb, not_from_true, or_parts, or_from}
use Rattle.wire.specs.declared.address.Address.{Address}
use Rattle.wire.specs.declared.fault.Refusal.TheVariants.{WrongRequestVersion, WrongRequestType, WrongRequestProtocol, WrongRequestChannel, WrongRequestSession, WrongRangeCount, WrongRequestLength}
use Rattle.wire.specs.declared.request.ExpectedRequest.{ExpectedRequest}
use Rattle.wire.specs.declared.request.Range.{Range}
use Rattle.wire.specs.declared.request.Transport.{Transport}
use Rattle.wire.specs.declared.request.Transport.TheVariants.{Datagram, Stream}
use Rattle.wire.specs.Fields.{bytes_of, field, Octets}
use Rattle.wire.specs.Outcomes.{map_ok}
use Rattle.wire.specs.RequestLaw.{Valid, Above, Ascending, another_version, another_type, another_protocol, another_channel, another_session, too_many_ranges, another_length, RequestAccepted, RequestByLaw}
use Rattle.wire.specs.Requests.{Kind, is_stream, header_checks, range_of, invalid, not_above, range_checks, ranges, ranges_from, read_request}
use Rattle.wire.specs.RequestWriting.{range_bytes, ranges_bytes, request_bytes, unordered, ranges_past_limits, BeginsAbove, ExpectsRanges, RequestReadsAs}
use Rattle.wire.specs.RoundTrip.{FitsAddress}
use Rattle.wire.specs.Segments.{Z}
use Rattle.wire.proofs.Fields.{le-bytes_of, field_bytes, field_front, field_small, Octets-take, Octets-drop}
use Rattle.wire.proofs.Outcomes.{NoneFails, none_fails, past_checks}
use Rattle.wire.proofs.RequestLaw.{valid_from, above_from, requests_by_law}
use Rattle.wire.proofs.RequestReading.{handed_out}
use Rattle.wire.proofs.Requests.{after_range}
use Rattle.wire.proofs.RequestWriting.{length_ranges}

not_invalid : (k : Kind) (r : Range) → Valid k r → invalid k r ≡ false
not_invalid k r v =
    or_from _ _ (le-ltb r.first k.lowest v.from_lowest) (or_from _ _ (le-ltb r.last r.first v.forward) (le-ltb Z r.last v.within))

is_above : (o : Option ℕ) (n : ℕ) → Above o n → not_above o n ≡ false
is_above None n a = refl
is_above (Some value) n a = lt-leb n value a

begins_from : (k : Kind) (o : Option ℕ) (rs : List Range) → unordered k o rs ≡ false → BeginsAbove o rs
begins_from k o [] u = tt
begins_from k o (r ∷ rs) u =
    let p = or_parts (invalid k r) _ u in
    above_from o r.first (or_parts (not_above o r.first) (unordered k (Some r.last) rs) p.1).0

-- ranges in order ascend from above any value that the first is above
ascending_from : (k : Kind) (o after : Option ℕ) (rs : List Range) → unordered k o rs ≡ false → BeginsAbove after rs → Ascending k after rs
ascending_from k o after [] u b = tt
ascending_from k o after (r ∷ rs) u b =
    let p = or_parts (invalid k r) _ u in
    let q = or_parts (not_above o r.first) (unordered k (Some r.last) rs) p.1 in
    (valid_from k r p.0, b, ascending_from k (Some r.last) (Some r.last) rs q.1 (begins_from k (Some r.last) rs q.1))

-- and the other way round
ordered_after : (k : Kind) (after : Option ℕ) (rs : List Range) → Ascending k after rs → unordered k after rs ≡ false
ordered_after k after [] a = refl
ordered_after k after (r ∷ rs) a =
    or_from _ _ (not_invalid k r a.0) (or_from _ _ (is_above after r.first a.1) (ordered_after k (Some r.last) rs a.2))

pub ordered_from : (k : Kind) (after : Option ℕ) (rs : List Range) → Ascending k after rs → unordered k None rs ≡ false
ordered_from k after [] a = refl
ordered_from k after (r ∷ rs) a = or_from _ _ (not_invalid k r a.0) (ordered_after k (Some r.last) rs a.2)

-- ranges that ascend are accepted
ranges_back : (k : Kind) (after : Option ℕ) (rs : List Range) (at : ℕ) → Ascending k after rs → ranges k after at rs ≡ Ok rs
ranges_back k after [] at a = refl
ranges_back k after (r ∷ rs) at a =
    ap (after_range k at rs) (none_fails (range_checks k after at r) (Ok r) (not_invalid k r a.0, (is_above after r.first a.1, tt)))
    ∙ ap (map_ok (λ (xs : List Range). r ∷ xs)) (ranges_back k (Some r.last) rs (at + 16) a.2)

-- and the bytes of valid ranges name them
ranges_named : (k : Kind) (after : Option ℕ) (rs : List Range) → Ascending k after rs → ranges_from (length rs) (ranges_bytes rs) ≡ rs
ranges_named k after [] a = refl
ranges_named k after (r ∷ rs) a =
    let v = a.0 in
    let bs = range_bytes r ++ ranges_bytes rs in
    let first : field (take 16 bs) 0 8 ≡ r.first = le-bytes_of 8 r.first (omega arith) in
    let last : field (take 16 bs) 8 8 ≡ r.last = le-bytes_of 8 r.last (omega arith) in
    λ i. record { first = first i; last = last i } ∷ ranges_named k (Some r.last) rs a.2 i

neither : (b : Bool) → (b && false) ≡ false
neither true = refl
neither false = refl

some_or_datagram : (t : Transport) (n : ℕ) → (t ≡ Stream → 0 < n) → (eqb n 0 && is_stream t) ≡ false
some_or_datagram Datagram n h = neither (eqb n 0)
some_or_datagram Stream n h = let some = h refl in ap (λ b. b && true) (ne_eqb n 0 (λ z. omega arith))

module _ (k : Kind) (a : Address) (rs : List Range) (f : FitsAddress a) (l : ranges_past_limits k rs ≡ false) where
  abbrev d : List ℕ
  d = request_bytes k a rs

  few : length rs ≤ 64
  few = ltb-false 64 (length rs) (or_parts (ltb 64 (length rs)) (unordered k None rs) l).0

  count_is : field d 12 4 ≡ length rs
  count_is = let h = few in le-bytes_of 4 (length rs) (omega arith)

  long : length d ≡ 16 + 16 * length rs
  long = let h = length_ranges rs in omega arith

  code_is : field d 1 1 ≡ k.code
  code_is = omega arith

  protocol_is : field d 2 2 ≡ a.protocol
  protocol_is = let h = f.protocol in le-bytes_of 2 a.protocol (omega arith)

  channel_is : field d 4 4 ≡ a.channel
  channel_is = let h = f.channel in le-bytes_of 4 a.channel (omega arith)

  session_is : field d 8 4 ≡ a.session
  session_is = let h = f.session in le-bytes_of 4 a.session (omega arith)

  nothing_wrong : (x : ExpectedRequest) → ExpectsRanges x a rs → NoneFails (header_checks k x d)
  nothing_wrong x e =
      let h = few in
      let n = count_is in
      let z = long in (
        le-ltb (length d) 16 (omega arith),
        (
          refl,
          (
            not_from_true _ (eq-eqb (field d 1 1) k.code code_is),
            (
              not_from_true _ (eq-eqb (field d 2 2) x.address.protocol (protocol_is ∙ ap (λ (y : Address). y.protocol) (sym e.address))),
              (
                not_from_true _ (eq-eqb (field d 4 4) x.address.channel (channel_is ∙ ap (λ (y : Address). y.channel) (sym e.address))),
                (
                  not_from_true _ (eq-eqb (field d 8 4) x.address.session (session_is ∙ ap (λ (y : Address). y.session) (sym e.address))),
                  (
                    or_from _ _ (le-ltb 64 (field d 12 4) (omega arith)) (some_or_datagram x.transport (field d 12 4) (λ t. let s = e.some t in omega arith)),
                    (not_from_true _ (eq-eqb (length d) (16 + 16 * field d 12 4) (omega arith)), tt),
                  ),
                ),
              ),
            ),
          ),
        ),
      )

  pub request_reads_back : RequestReadsAs k d a rs
  request_reads_back x e =
      let u = (or_parts (ltb 64 (length rs)) (unordered k None rs) l).1 in
      let up = ascending_from k None x.after rs u e.above in
      none_fails (header_checks k x d) _ (nothing_wrong x e)
      ∙ (ap (λ n. ranges k x.after 16 (ranges_from n (ranges_bytes rs))) count_is
      ∙ (ap (ranges k x.after 16) (ranges_named k x.after rs up) ∙ ranges_back k x.after rs 16 up))

-- ranges that were read, written again
ranges_as_read : (n : ℕ) (bs : List ℕ) → Octets bs → length bs ≡ 16 * n → ranges_bytes (ranges_from n bs) ≡ bs
ranges_as_read zero [] o l = refl
ranges_as_read zero (b ∷ bs) o l = absurd (omega arith)
ranges_as_read (suc n) bs o l =
    let part = take 16 bs in
    let size : length part ≡ 16 = length-take-le 16 bs (omega arith) in
    let octets = Octets-take 16 bs o in
    let last : bytes_of 8 (field part 8 8) ≡ drop 8 part
    = field_bytes part 8 8 octets (omega arith) ∙ take_all 8 (drop 8 part) (let h = length-drop 8 part in omega arith) in
    let both : range_bytes (range_of part) ≡ part = ap (λ x. bytes_of 8 (field part 0 8) ++ x) last ∙ field_front part 0 8 octets (omega arith) in
    let more = ranges_as_read n (drop 16 bs) (Octets-drop 16 bs o) (let h = length-drop 16 bs in omega arith) in
    (λ i. both i ++ more i) ∙ take-append-drop 16 bs

module _ (k : Kind) (x : ExpectedRequest) (d : List ℕ) (o : Octets d) (rs : List Range) (read : read_request k x d ≡ Ok rs) where
  law : RequestAccepted k x d rs
  law = subst (RequestByLaw k x d) read (requests_by_law k x d)

  whole : length d ≡ 16 + 16 * field d 12 4
  whole =
      ⊎_elim (λ z. z) (λ z. absurd (law.faultless WrongRequestLength (length d) (inl (another_length z)))) (cases_eq (length d) (16 + 16 * field d 12 4))

  pub request_room : 16 + 16 * length rs ≡ length d
  request_room = let h = whole in let n = law.counted in omega arith

  pub ranges_within : ranges_past_limits k rs ≡ false
  ranges_within =
      let few : field d 12 4 ≤ 64
      = ⊎_elim (λ z. absurd (law.faultless WrongRangeCount 12 (inl (too_many_ranges z)))) (λ z. z) (cases_lt 64 (field d 12 4)) in
      or_from _ _ (le-ltb 64 (length rs) (let n = law.counted in omega arith)) (ordered_from k x.after rs law.ascending)

  header_field : (at width : ℕ) → at + width ≤ 16 → bytes_of width (field d at width) ++ drop (at + width) d ≡ drop at d
  header_field at width h = let l = whole in field_front d at width o (omega arith)

  -- a byte of the header
  one_byte : (at n : ℕ) → at + 1 ≤ 16 → field d at 1 ≡ n → n ∷ [] ≡ bytes_of 1 (field d at 1)
  one_byte at n h e =
      let s = field_small d at 1 o (let w = whole in omega arith) in
      let is : n ≡ field d at 1 % 256 = omega arith in
      λ i. is i ∷ []

  pub request_as_read : request_bytes k x.address rs ≡ d
  request_as_read =
      let version : field d 0 1 ≡ 1
      = ⊎_elim (λ z. z) (λ z. absurd (law.faultless WrongRequestVersion 0 (inl (another_version z)))) (cases_eq (field d 0 1) 1) in
      let code : field d 1 1 ≡ k.code
      = ⊎_elim (λ z. z) (λ z. absurd (law.faultless WrongRequestType 1 (inl (another_type z)))) (cases_eq (field d 1 1) k.code) in
      let protocol : x.address.protocol ≡ field d 2 2
      = ⊎_elim sym (λ z. absurd (law.faultless WrongRequestProtocol 2 (inl (another_protocol z)))) (cases_eq (field d 2 2) x.address.protocol) in
      let channel : x.address.channel ≡ field d 4 4
      = ⊎_elim sym (λ z. absurd (law.faultless WrongRequestChannel 4 (inl (another_channel z)))) (cases_eq (field d 4 4) x.address.channel) in
      let session : x.address.session ≡ field d 8 4
      = ⊎_elim sym (λ z. absurd (law.faultless WrongRequestSession 8 (inl (another_session z)))) (cases_eq (field d 8 4) x.address.session) in
      let handed = handed_out k x.after 16 (ranges_from (field d 12 4) (drop 16 d)) rs (past_checks (header_checks k x d) _ rs read).1 in
      let f16 : ranges_bytes rs ≡ drop 16 d
      = ap ranges_bytes (sym handed) ∙ ranges_as_read (field d 12 4) (drop 16 d) (Octets-drop 16 d o) (let w = whole in let l = length-drop 16 d in omega arith) in
      let f12 : bytes_of 4 (length rs) ++ _ ≡ drop 12 d = (λ i. bytes_of 4 (law.counted i) ++ f16 i) ∙ header_field 12 4 (omega arith) in
      let f8 : bytes_of 4 x.address.session ++ _ ≡ drop 8 d = (λ i. bytes_of 4 (session i) ++ f12 i) ∙ header_field 8 4 (omega arith) in
      let f4 : bytes_of 4 x.address.channel ++ _ ≡ drop 4 d = (λ i. bytes_of 4 (channel i) ++ f8 i) ∙ header_field 4 4 (omega arith) in
      let f2 : bytes_of 2 x.address.protocol ++ _ ≡ drop 2 d = (λ i. bytes_of 2 (protocol i) ++ f4 i) ∙ header_field 2 2 (omega arith) in
      let f1 : k.code ∷ _ ≡ drop 1 d = (λ i. one_byte 1 k.code (omega arith) code i ++ f2 i) ∙ header_field 1 1 (omega arith) in
      (λ i. one_byte 0 1 (omega arith) version i ++ f1 i) ∙ header_field 0 1 (omega arith)
