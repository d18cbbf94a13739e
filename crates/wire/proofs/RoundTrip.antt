-- What is written reads back, and what is read is written as it was.
use Rattle.std.proofs.Common.{◌≡◌, ℕ, zero, suc, ◌+◌, ◌^◌, ◌<◌, ◌≤◌, false, not, ◌||◌, eqb, ltb, List, [], ◌∷◌, ◌++◌, length, take, drop, ℤ, pos, negsuc, Ok, Err, Result, sym, refl, ap, ◌∙◌, subst, inl, ⊎_elim, arith, length-append, length-drop, w64, SFits, to_z, of_z}
use Rattle.std.proofs.lemmas.List.{take_at, drop_at, take-append-drop, length-take-le, nil_from_length}
use Rattle.std.proofs.lemmas.Int.{to_z-of_z, of_z-to_z}
use Rattle.std.proofs.lemmas.Bool.{cond_both, cases_eq, cases_lt, le-ltb, ltb-false, eq-eqb, eqb-true, not-false, not_from_true, or_parts, or_from}
use Rattle.wire.specs.declared.address.Expected.{Expected}
use Rattle.wire.specs.declared.fault.Fault.{Fault}
use Rattle.wire.specs.declared.fault.Refusal.TheVariants.{BlocksDisagree, LongDatagram, WrongVersion, WrongLength}
use Rattle.wire.specs.Blocks.{blocks}
use Rattle.wire.specs.Faults.{fault}
use Rattle.wire.specs.Fields.{bytes_of, field, Octets}
use Rattle.wire.specs.Outcomes.{map_ok}
use Rattle.wire.specs.ReadingLaw.{too_long, another_version, another_length, ByLaw, Accepted}
use Rattle.wire.specs.RoundTrip.{FitsHeader, Expects, ReadsAs, reserved_cleared}
use Rattle.wire.specs.Addresses.{other_session}
use Rattle.wire.specs.Segments.{Plain, Z, header_checks, segment_of, read_segment}
use Rattle.wire.specs.Sessions.{span}
use Rattle.wire.specs.Writing.{block_bytes, payload_bytes, segment_bytes, some_long, past_limits}
use Rattle.wire.proofs.Blocks.{first_block_cases, first_block_good, after}
use Rattle.wire.proofs.Fields.{le-bytes_of, field_bytes, field_front, field_small, Octets-drop}
use Rattle.wire.proofs.Outcomes.{NoneFails, none_fails, ok_not_err, map_ok_from, past_checks}
use Rattle.wire.proofs.ReadingLaw.{reads_by_law}
use Rattle.wire.proofs.Writing.{length_payload, long_span}

of_z-small : (z : ℤ) → SFits w64 z → of_z w64 z < 2 ^ 64
of_z-small (pos n) f = let h = f.sfits in omega arith
of_z-small (negsuc n) f = omega arith

-- a segment within the limits
pub record Within (s : Plain) : Type 0 where
  pub counted : s.header.count ≡ length s.messages
  pub from_one : 1 ≤ s.header.first
  pub numbers_fit : s.header.first + s.header.count ≤ Z
  pub short : some_long s.messages ≡ false
  pub small : span s.messages ≤ 65495
  pub places_fit : s.header.offset + span s.messages ≤ Z

pub within_limits : (s : Plain) → past_limits s ≡ false → Within s
within_limits s e =
    let h = s.header in
    let ms = s.messages in
    let p = or_parts (not (eqb h.count (length ms)) || (ltb h.first 1 || ltb Z (h.first + h.count))) _ e in
    let a = or_parts (not (eqb h.count (length ms))) _ p.0 in
    let b = or_parts (ltb h.first 1) (ltb Z (h.first + h.count)) a.1 in
    let c = or_parts (some_long ms || ltb 65495 (span ms)) (ltb Z (h.offset + span ms)) p.1 in
    let d = or_parts (some_long ms) (ltb 65495 (span ms)) c.0 in
    record {
      counted = eqb-true _ _ (not-false _ a.0);
      from_one = ltb-false _ _ b.0;
      numbers_fit = ltb-false _ _ b.1;
      short = d.0;
      small = ltb-false _ _ d.1;
      places_fit = ltb-false _ _ c.1;
    }

pub limits_kept : (s : Plain) → Within s → past_limits s ≡ false
limits_kept s w =
    let h = s.header in
    let ms = s.messages in
    or_from _ _ (or_from _ _ (not_from_true _ (eq-eqb h.count (length ms) w.counted))
    (or_from _ _ (le-ltb h.first 1 w.from_one) (le-ltb Z (h.first + h.count) w.numbers_fit)))
    (or_from _ _ (or_from _ _ w.short (le-ltb 65495 (span ms) w.small)) (le-ltb Z (h.offset + span ms) w.places_fit))

-- blocks read back
pub blocks_back : (ms : List (List ℕ)) (at : ℕ) → some_long ms ≡ false → blocks (length ms) at (payload_bytes ms) ≡ Ok ms
blocks_back [] at h = refl
blocks_back (m ∷ ms) at h =
    let rest = payload_bytes ms in
    let bs = block_bytes m ++ rest in
    let p = or_parts (ltb 1430 (length m)) (some_long ms) h in
    let short = ltb-false 1430 (length m) p.0 in
    let l = length-append m rest in
    let named : field bs 0 2 ≡ length m = le-bytes_of 2 (length m) (omega arith) in
    let body : take (field bs 0 2) (drop 2 bs) ≡ m = take_at m rest (field bs 0 2) (sym named) in
    let behind : drop (field bs 0 2) (drop 2 bs) ≡ rest = drop_at m rest (field bs 0 2) (sym named) in
    ap (after (length ms) at) (first_block_good at bs (omega arith) (omega arith) (omega arith) ∙ (λ i. Ok (body i, behind i)))
    ∙ ap (map_ok (λ (xs : List (List ℕ)). m ∷ xs)) (blocks_back ms (at + (2 + length m)) p.1)

module _ (s : Plain) (f : FitsHeader s.header) (w : Within s) where
  abbrev ms : List (List ℕ)
  ms = s.messages

  abbrev d : List ℕ
  d = segment_bytes s

  protocol_is : field d 2 2 ≡ s.header.address.protocol
  protocol_is = let h = f.address.protocol in le-bytes_of 2 s.header.address.protocol (omega arith)

  channel_is : field d 4 4 ≡ s.header.address.channel
  channel_is = let h = f.address.channel in le-bytes_of 4 s.header.address.channel (omega arith)

  session_is : field d 8 4 ≡ s.header.address.session
  session_is = let h = f.address.session in le-bytes_of 4 s.header.address.session (omega arith)

  payload_is : field d 12 2 ≡ span ms
  payload_is = let h = w.small in le-bytes_of 2 (span ms) (omega arith)

  count_is : field d 14 2 ≡ s.header.count
  count_is = let h = w.small in let k = long_span ms in let c = w.counted in le-bytes_of 2 s.header.count (omega arith)

  offset_is : field d 16 8 ≡ s.header.offset
  offset_is = let h = w.places_fit in le-bytes_of 8 s.header.offset (omega arith)

  first_is : field d 24 8 ≡ s.header.first
  first_is = let h = w.numbers_fit in le-bytes_of 8 s.header.first (omega arith)

  time_is : to_z w64 (field d 32 8) ≡ s.header.time
  time_is =
      ap (to_z w64) (le-bytes_of 8 (of_z w64 s.header.time) (of_z-small s.header.time f.time))
      ∙ to_z-of_z w64 s.header.time f.time

  long : length d ≡ 40 + span ms
  long = let l = length_payload ms in omega arith

  nothing_wrong : (e : Expected) → Expects e s.header.address → NoneFails (header_checks e d)
  nothing_wrong e x =
      let l = long in
      let h = w.small in
      let p = payload_is in
      let c = count_is in
      let o = offset_is in
      let n = first_is in (
        le-ltb (length d) 40 (omega arith),
        (
          le-ltb 65535 (length d) (omega arith),
          (
            refl,
            (
              not_from_true _ (eq-eqb (field d 2 2) e.protocol (protocol_is ∙ sym x.protocol)),
              (
                not_from_true _ (eq-eqb (field d 4 4) e.channel (channel_is ∙ sym x.channel)),
                (
                  ap (other_session e.session) session_is ∙ x.session,
                  (
                    not_from_true _ (eq-eqb (length d) (40 + field d 12 2) (omega arith)),
                    (
                      or_from _ _ (le-ltb (field d 24 8) 1 (let y = w.from_one in omega arith)) (le-ltb Z (field d 24 8 + field d 14 2) (let y = w.numbers_fit in omega arith)),
                      (le-ltb Z (field d 16 8 + field d 12 2) (let y = w.places_fit in omega arith), tt),
                    ),
                  ),
                ),
              ),
            ),
          ),
        ),
      )

  same : segment_of d ms ≡ s
  same =
      λ i. record {
        header = record {
          address = record { protocol = protocol_is i; channel = channel_is i; session = session_is i };
          offset = offset_is i;
          first = first_is i;
          count = count_is i;
          time = time_is i;
        };
        messages = ms;
      }

  pub reads_back : ReadsAs d s
  reads_back e x =
      none_fails (header_checks e d) _ (nothing_wrong e x)
      ∙ (ap (λ n. map_ok (segment_of d) (blocks n 40 (payload_bytes ms))) (count_is ∙ w.counted)
      ∙ (ap (map_ok (segment_of d)) (blocks_back ms 40 w.short) ∙ ap Ok same))

-- blocks that were read, written again
abbrev AsRead : List ℕ → List (List ℕ) → Type 0
AsRead bs xs = (payload_bytes xs ≡ bs) × (some_long xs ≡ false)

blocks_as_read : (n at : ℕ) (bs : List ℕ) (xs : List (List ℕ)) → Octets bs → blocks n at bs ≡ Ok xs → AsRead bs xs
blocks_as_read zero at bs xs o =
    cond_both (not (eqb (length bs) 0)) (Err (fault BlocksDisagree at)) (Ok []) (λ (r : Result (List (List ℕ)) Fault). r ≡ Ok xs → AsRead bs xs)
    (λ _ e. ok_not_err xs (fault BlocksDisagree at) (sym e))
    (λ t e.
    let none : bs ≡ [] = nil_from_length bs (eqb-true (length bs) 0 (not-false _ t)) in
    let q : [] ≡ xs = cc in
    subst (AsRead bs) q (sym none, refl))
blocks_as_read (suc n) at bs xs o =
    let body = take (field bs 0 2) (drop 2 bs) in
    let rest = drop (field bs 0 2) (drop 2 bs) in
    first_block_cases at bs (λ r. after n at r ≡ Ok xs → AsRead bs xs)
    (λ _ e. ok_not_err xs (fault BlocksDisagree at) (sym e))
    (λ _ _ e. ok_not_err xs _ (sym e))
    (λ _ _ _ e. ok_not_err xs (fault BlocksDisagree at) (sym e))
    (λ two short fits e.
    let f = map_ok_from (λ (ys : List (List ℕ)). body ∷ ys) (blocks n (at + (2 + length body)) rest) xs e in
    let size : length body ≡ field bs 0 2 = length-take-le (field bs 0 2) (drop 2 bs) fits in
    let more = blocks_as_read n (at + (2 + length body)) rest f.0 (Octets-drop (field bs 0 2) (drop 2 bs) (Octets-drop 2 bs o)) f.1 in
    let front : bytes_of 2 (field bs 0 2) ++ drop 2 bs ≡ bs = field_front bs 0 2 o (omega arith) in
    let bytes : payload_bytes (body ∷ f.0) ≡ bs
    = (λ i. bytes_of 2 (size i) ++ (body ++ more.0 i)) ∙ (ap (λ x. bytes_of 2 (field bs 0 2) ++ x) (take-append-drop (field bs 0 2) (drop 2 bs)) ∙ front) in
    subst (AsRead bs) f.2 (bytes, or_from _ _ (le-ltb 1430 (length body) (omega arith)) more.1))

module _ (e : Expected) (d : List ℕ) (o : Octets d) (s : Plain) (read : read_segment e d ≡ Ok s) where
  law : Accepted e d s
  law = subst (ByLaw e d) read (reads_by_law e d)

  found : (xs : List (List ℕ)) × (blocks (field d 14 2) 40 (drop 40 d) ≡ Ok xs) × (segment_of d xs ≡ s)
  found = map_ok_from (segment_of d) (blocks (field d 14 2) 40 (drop 40 d)) s (past_checks (header_checks e d) _ s read).1

  abbrev bodies : List (List ℕ)
  bodies = found.0

  bodies_as_read : AsRead (drop 40 d) bodies
  bodies_as_read = blocks_as_read (field d 14 2) 40 (drop 40 d) bodies (Octets-drop 40 d o) found.1

  whole : length d ≡ 40 + field d 12 2
  whole = ⊎_elim (λ z. z) (λ z. absurd (law.faultless WrongLength 12 (inl (another_length z)))) (cases_eq (length d) (40 + field d 12 2))

  version : field d 0 1 ≡ 1
  version = ⊎_elim (λ z. z) (λ z. absurd (law.faultless WrongVersion 0 (inl (another_version z)))) (cases_eq (field d 0 1) 1)

  spans : 40 + span bodies ≡ length d
  spans =
      let l = whole in
      let k = sym (length_payload bodies) ∙ (ap length bodies_as_read.0 ∙ length-drop 40 d) in
      omega arith

  pub room : 40 + span s.messages ≡ length d
  room = ap (λ (x : Plain). 40 + span x.messages) (sym found.2) ∙ spans

  pub within : Within s
  within =
      let a = law in
      let l = whole in
      let k = room in
      let size : length d ≤ 65535 = ⊎_elim (λ z. absurd (law.faultless LongDatagram 65535 (inl (too_long z)))) (λ z. z) (cases_lt 65535 (length d)) in
      record {
        counted = sym law.counted;
        from_one = law.from_one;
        numbers_fit = law.numbers_fit;
        short = ap (λ (x : Plain). some_long x.messages) (sym found.2) ∙ bodies_as_read.1;
        small = omega arith;
        places_fit = omega arith;
      }

  -- a field of the header, with all that stands behind it
  header_field : (at width : ℕ) → at + width ≤ 40 → bytes_of width (field d at width) ++ drop (at + width) d ≡ drop at d
  header_field at width h = let l = whole in field_front d at width o (omega arith)

  pub written_as_read : segment_bytes s ≡ reserved_cleared d
  written_as_read =
      let l = whole in
      let payload : span bodies ≡ field d 12 2 = let k = spans in omega arith in
      let time : of_z w64 (to_z w64 (field d 32 8)) ≡ field d 32 8 = of_z-to_z w64 (field d 32 8) (field_small d 32 8 o (omega arith)) in
      let f40 = bodies_as_read.0 in
      let f32 : bytes_of 8 (of_z w64 (to_z w64 (field d 32 8))) ++ payload_bytes bodies ≡ drop 32 d
      = (λ i. bytes_of 8 (time i) ++ f40 i) ∙ header_field 32 8 (omega arith) in
      let f24 : bytes_of 8 (field d 24 8) ++ _ ≡ drop 24 d = ap (λ x. bytes_of 8 (field d 24 8) ++ x) f32 ∙ header_field 24 8 (omega arith) in
      let f16 : bytes_of 8 (field d 16 8) ++ _ ≡ drop 16 d = ap (λ x. bytes_of 8 (field d 16 8) ++ x) f24 ∙ header_field 16 8 (omega arith) in
      let f14 : bytes_of 2 (field d 14 2) ++ _ ≡ drop 14 d = ap (λ x. bytes_of 2 (field d 14 2) ++ x) f16 ∙ header_field 14 2 (omega arith) in
      let f12 : bytes_of 2 (span bodies) ++ _ ≡ drop 12 d = (λ i. bytes_of 2 (payload i) ++ f14 i) ∙ header_field 12 2 (omega arith) in
      let f8 : bytes_of 4 (field d 8 4) ++ _ ≡ drop 8 d = ap (λ x. bytes_of 4 (field d 8 4) ++ x) f12 ∙ header_field 8 4 (omega arith) in
      let f4 : bytes_of 4 (field d 4 4) ++ _ ≡ drop 4 d = ap (λ x. bytes_of 4 (field d 4 4) ++ x) f8 ∙ header_field 4 4 (omega arith) in
      let f2 : bytes_of 2 (field d 2 2) ++ _ ≡ drop 2 d = ap (λ x. bytes_of 2 (field d 2 2) ++ x) f4 ∙ header_field 2 2 (omega arith) in
      let f0 : 1 ∷ [] ≡ take 1 d = ap (bytes_of 1) (sym version) ∙ field_bytes d 0 1 o (omega arith) in
      ap segment_bytes (sym found.2) ∙ (λ i. f0 i ++ (0 ∷ f2 i))
