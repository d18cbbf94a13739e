-- The law of reading requests: the header's conditions, the ranges' conditions, and the two together.
use Rattle.std.proofs.Common.{◌≡◌, ℕ, zero, suc, ◌+◌, ◌*◌, ◌<◌, ◌≤◌, true, false, ◌&&◌, ◌||◌, eqb, ltb, List, ◌∷◌, length, get_or, take, drop, Some, None, Ok, Err, Option, Result, sym, refl, ap, ◌∙◌, subst, inl, inr, ⊎_elim, arith, lit≤, below_more}
use Rattle.std.proofs.lemmas.List.{take-take, drop-take, drop-drop}
use Rattle.std.proofs.lemmas.Bool.{cond_both, cases_order, eqb-true, eqb-false, eq-eqb, ne_eqb, ltb-true, ltb-false, lt-ltb, leb-true, leb-false, not-true, not_from_false, or_cases, or_parts, or_left, or_right, and_parts, and_from, false≢true}
use Rattle.wire.specs.declared.fault.Fault.{Fault}
use Rattle.wire.specs.declared.fault.Refusal.{Refusal}
use Rattle.wire.specs.declared.fault.Refusal.TheVariants.{WrongRangeCount, InvalidRange, RangesNotAscending}
use Rattle.wire.specs.declared.request.ExpectedRequest.{ExpectedRequest}
use Rattle.wire.specs.declared.request.Range.{Range}
use Rattle.wire.specs.declared.request.Transport.{Transport}
use Rattle.wire.specs.declared.request.Transport.TheVariants.{Datagram, Stream}
use Rattle.wire.specs.Faults.{entry_of, fault}
use Rattle.wire.specs.Fields.{le, field}
use Rattle.wire.specs.Outcomes.{map_ok, and_then}
use Rattle.wire.specs.RequestLaw.{RequestHeaderFault, too_short, another_version, another_type, another_protocol, another_channel, another_session, too_many_ranges, no_ranges, another_length, range_at, Valid, Above, value_before, GoodRange, GoodBefore, RangeFault, not_valid, not_ascending, Ascending, RequestByLaw}
use Rattle.wire.specs.Requests.{Kind, is_stream, header_checks, range_of, invalid, not_above, checked_range, ranges, ranges_from, read_request}
use Rattle.wire.specs.Segments.{Z}
use Rattle.wire.proofs.Outcomes.{NoneFails, Each, Rising, Fails, not_both, first_fault_cases}

-- the range that 16 bytes from a place on name
pub range_of_bytes : (d : List ℕ) (at : ℕ) → range_of (take 16 (drop at d)) ≡ record { first = field d at 8; last = field d (at + 8) 8 }
range_of_bytes d at =
    let first : field (take 16 (drop at d)) 0 8 ≡ field d at 8 = ap le (take-take 8 16 (drop at d) (lit≤ tt)) in
    let inner : take 8 (drop 8 (take 16 (drop at d))) ≡ take 8 (drop (at + 8) d)
    = ap (take 8) (drop-take 8 8 (drop at d)) ∙ (take-take 8 8 (drop 8 (drop at d)) (lit≤ tt) ∙ ap (take 8) (drop-drop 8 at d)) in
    λ i. record { first = first i; last = le (inner i) }

-- range j of a request, where the bytes are those of its place
pub range_of_place : (d : List ℕ) (j : ℕ) → range_of (take 16 (drop (16 + 16 * j) d)) ≡ range_at d j
range_of_place d j =
    let place : 16 + 16 * j + 8 ≡ 24 + 16 * j = omega arith in
    range_of_bytes d (16 + 16 * j) ∙ (λ i. record { first = field d (16 + 16 * j) 8; last = field d (place i) 8 })

-- the two tests of a range
invalid_not : (k : Kind) (r : Range) → invalid k r ≡ true → Valid k r → ⊥
invalid_not k r t v =
    ⊎_elim (λ a. let l = ltb-true r.first k.lowest a in omega arith)
    (λ b. ⊎_elim (λ a. let l = ltb-true r.last r.first a in omega arith) (λ a. let l = ltb-true Z r.last a in omega arith) (or_cases _ _ b))
    (or_cases _ _ t)

pub valid_from : (k : Kind) (r : Range) → invalid k r ≡ false → Valid k r
valid_from k r t =
    let p = or_parts (ltb r.first k.lowest) _ t in
    let q = or_parts (ltb r.last r.first) (ltb Z r.last) p.1 in
    record { from_lowest = ltb-false _ _ p.0; forward = ltb-false _ _ q.0; within = ltb-false _ _ q.1 }

not_above_not : (o : Option ℕ) (n : ℕ) → not_above o n ≡ true → Above o n → ⊥
not_above_not None n t a = false≢true t
not_above_not (Some value) n t a = let l = leb-true n value t in omega arith

pub above_from : (o : Option ℕ) (n : ℕ) → not_above o n ≡ false → Above o n
above_from None n t = tt
above_from (Some value) n t = leb-false n value t

-- a property of what a range gives, case by case
pub checked_range_cases : (k : Kind) (after : Option ℕ) (at : ℕ) (r : Range) (P : Result Range Fault → Type 0)
    → ((Valid k r → ⊥) → P (Err (fault InvalidRange at)))
    → (Valid k r → (Above after r.first → ⊥) → P (Err (fault RangesNotAscending at)))
    → (Valid k r → Above after r.first → P (Ok r))
    → P (checked_range k after at r)
checked_range_cases k after at r P wrong low good =
    cond_both (invalid k r) _ _ P (λ e. wrong (invalid_not k r e))
    (λ e. let v = valid_from k r e in
    cond_both (not_above after r.first) _ _ P
    (λ l. low v (not_above_not after r.first l))
    (λ l. good v (above_from after r.first l)))

-- requests that come by a stream
stream_is : (t : Transport) → is_stream t ≡ true → t ≡ Stream
stream_is Datagram e = absurd (false≢true e)
stream_is Stream e = refl

module _ (k : Kind) (x : ExpectedRequest) (d : List ℕ) where
  abbrev HeaderFaulty : Fault → Type 0
  HeaderFaulty f = RequestHeaderFault k x d f.refusal f.place × ((entry_of f.refusal).number ≤ 19)

  wrong_count : (ltb 64 (field d 12 4) || (eqb (field d 12 4) 0 && is_stream x.transport)) ≡ true → RequestHeaderFault k x d WrongRangeCount 12
  wrong_count t =
      ⊎_elim (λ a. too_many_ranges (ltb-true _ _ a))
      (λ a. let p = and_parts (eqb (field d 12 4) 0) (is_stream x.transport) a in
      no_ranges (eqb-true _ _ p.0) (stream_is x.transport p.1))
      (or_cases _ _ t)

  each_holds : Each HeaderFaulty (header_checks k x d)
  each_holds = (
    λ t. (too_short (ltb-true (length d) 16 t), lit≤ tt),
    λ _. (
      λ t. (another_version (eqb-false _ _ (not-true _ t)), lit≤ tt),
      λ _. (
        λ t. (another_type (eqb-false _ _ (not-true _ t)), lit≤ tt),
        λ _. (
          λ t. (another_protocol (eqb-false _ _ (not-true _ t)), lit≤ tt),
          λ _. (
            λ t. (another_channel (eqb-false _ _ (not-true _ t)), lit≤ tt),
            λ _. (
              λ t. (another_session (eqb-false _ _ (not-true _ t)), lit≤ tt),
              λ _. (
                λ t. (wrong_count t, lit≤ tt),
                λ _. (
                  λ t. (another_length (eqb-false _ _ (not-true _ t)), lit≤ tt),
                  λ _. tt,
                ),
              ),
            ),
          ),
        ),
      ),
    ),
  )

  numbers_rise : Rising 12 (header_checks k x d)
  numbers_rise = (lit≤ tt, (lit≤ tt, (lit≤ tt, (lit≤ tt, (lit≤ tt, (lit≤ tt, (lit≤ tt, (lit≤ tt, tt))))))))

  fails : (r : Refusal) (p : ℕ) → RequestHeaderFault k x d r p → Fails (entry_of r).number (header_checks k x d)
  fails _ _ (too_short h) = inl (lt-ltb _ _ h, refl)
  fails _ _ (another_version h) = inr (inl (not_from_false _ (ne_eqb _ _ h), refl))
  fails _ _ (another_type h) = inr (inr (inl (not_from_false _ (ne_eqb _ _ h), refl)))
  fails _ _ (another_protocol h) = inr (inr (inr (inl (not_from_false _ (ne_eqb _ _ h), refl))))
  fails _ _ (another_channel h) = inr (inr (inr (inr (inl (not_from_false _ (ne_eqb _ _ h), refl)))))
  fails _ _ (another_session h) = inr (inr (inr (inr (inr (inl (not_from_false _ (ne_eqb _ _ h), refl))))))
  fails _ _ (too_many_ranges h) = inr (inr (inr (inr (inr (inr (inl (or_left _ _ (lt-ltb _ _ h), refl)))))))
  fails _ _ (no_ranges h s) = inr (inr (inr (inr (inr (inr (inl (or_right _ _ (and_from _ _ (eq-eqb _ _ h) (ap is_stream s)), refl)))))))
  fails _ _ (another_length h) = inr (inr (inr (inr (inr (inr (inr (inl (not_from_false _ (ne_eqb _ _ h), refl))))))))

  -- what n ranges from range j on give: all ranges good, and these as the bytes name them; or the fault
  abbrev RangesLaw : ℕ → ℕ → Result (List Range) Fault → Type 0
  RangesLaw n j (Ok rs) =
      (length rs ≡ n) × GoodBefore k x d (field d 12 4) × ((i : ℕ) (r : Range) → i < length rs → get_or rs i r ≡ range_at d (j + i))
      × Ascending k (value_before x d j) rs
  RangesLaw n j (Err f) = RangeFault k x d f.refusal f.place

  named_more : (j : ℕ) (rs : List Range) → ((i : ℕ) (r : Range) → i < length rs → get_or rs i r ≡ range_at d (suc j + i))
      → (i : ℕ) (r : Range) → i < suc (length rs) → get_or (range_at d j ∷ rs) i r ≡ range_at d (j + i)
  named_more j rs h zero r l = let e : j ≡ j + 0 = omega arith in ap (range_at d) e
  named_more j rs h (suc i) r l = let e : suc j + i ≡ j + suc i = omega arith in h i r (omega arith) ∙ ap (range_at d) e

  one_more : (n j : ℕ) → GoodRange k x d j → (q : Result (List Range) Fault) → RangesLaw n (suc j) q
      → RangesLaw (suc n) j (map_ok (λ rs. range_at d j ∷ rs) q)
  one_more n j good (Ok rs) y = (ap suc y.0, y.1, named_more j rs y.2, (good.valid, good.above, y.3))
  one_more n j good (Err f) y = y

  -- n ranges from range j on, in the bytes from its place on, after good ones
  ranges_law : (n j at : ℕ) (bs : List ℕ) → j + n ≡ field d 12 4 → at ≡ 16 + 16 * j → bs ≡ drop (16 + 16 * j) d → GoodBefore k x d j
      → RangesLaw n j (ranges k (value_before x d j) at (ranges_from n bs))
  ranges_law zero j at bs c a b g =
      let all : j ≡ field d 12 4 = omega arith in (refl, subst (GoodBefore k x d) all g, λ i r h. absurd (omega arith), tt)
  ranges_law (suc n) j at bs c a b g =
      let is : range_of (take 16 bs) ≡ range_at d j = ap (λ y. range_of (take 16 y)) b ∙ range_of_place d j in
      let next : 16 + 16 * j + 16 ≡ 16 + 16 * suc j = omega arith in
      let rest_is : drop 16 bs ≡ drop (16 + 16 * suc j) d = ap (drop 16) b ∙ (drop-drop 16 (16 + 16 * j) d ∙ ap (λ y. drop y d) next) in
      let at_place : (r : Refusal) → RangeFault k x d r (16 + 16 * j) → RangeFault k x d r at = λ r. subst (RangeFault k x d r) (sym a) in
      let go_on : Range → Result (List Range) Fault = λ r. map_ok (λ rs. r ∷ rs) (ranges k (Some r.last) (at + 16) (ranges_from n (drop 16 bs))) in
      checked_range_cases k (value_before x d j) at (range_of (take 16 bs)) (λ r. RangesLaw (suc n) j (and_then r go_on))
      (λ wrong. at_place InvalidRange (not_valid j (omega arith) g (λ v. wrong (subst (Valid k) (sym is) v))))
      (λ v low. at_place RangesNotAscending (not_ascending j (omega arith) g (subst (Valid k) is v)
      (λ y. low (subst (λ r. Above (value_before x d j) r.first) (sym is) y))))
      (λ v y. let good : GoodRange k x d j
      = record { valid = subst (Valid k) is v; above = subst (λ r. Above (value_before x d j) r.first) is y } in
      subst (λ r. RangesLaw (suc n) j (go_on r)) (sym is)
      (one_more n j good (ranges k (value_before x d (suc j)) (at + 16) (ranges_from n (drop 16 bs)))
      (ranges_law n (suc j) (at + 16) (drop 16 bs) (omega arith) (omega arith) rest_is
      (λ i h. below_more (GoodRange k x d) j g good i (omega arith)))))

  twenty_or_more : (r : Refusal) (p : ℕ) → RangeFault k x d r p → 20 ≤ (entry_of r).number
  twenty_or_more _ _ (not_valid _ _ _ _) = lit≤ tt
  twenty_or_more _ _ (not_ascending _ _ _ _ _) = lit≤ tt

  -- where all ranges are good, nothing is wrong with them
  nothing_wrong : GoodBefore k x d (field d 12 4) → (r : Refusal) (p : ℕ) → RangeFault k x d r p → ⊥
  nothing_wrong g _ _ (not_valid j h _ wrong) = wrong (g j h).valid
  nothing_wrong g _ _ (not_ascending j h _ _ low) = low (g j h).above

  -- only one range is the first that is not good, and it is either valid or not
  lowest_range : (r : Refusal) (p : ℕ) → RangeFault k x d r p → (q : Refusal) (o : ℕ) → RangeFault k x d q o
      → (entry_of r).number ≤ (entry_of q).number
  lowest_range _ _ (not_valid _ _ _ _) q o y = twenty_or_more q o y
  lowest_range _ _ (not_ascending j _ g v low) _ _ (not_valid i _ f wrong) =
      absurd (⊎_elim (λ e. wrong (subst (λ n. Valid k (range_at d n)) e v))
      (⊎_elim (λ l. low (f j l).above) (λ l. wrong (g i l).valid)) (cases_order j i))
  lowest_range _ _ (not_ascending _ _ _ _ _) _ _ (not_ascending _ _ _ _ _) = lit≤ tt

  header_right : NoneFails (header_checks k x d) → (r : Refusal) (p : ℕ) → RequestHeaderFault k x d r p → ⊥
  header_right none r p h = not_both (entry_of r).number (header_checks k x d) none (fails r p h)

  by_ranges : NoneFails (header_checks k x d) → (r : Result (List Range) Fault) → RangesLaw (field d 12 4) 0 r → RequestByLaw k x d r
  by_ranges none (Ok rs) y =
      record {
        faultless = λ r p z. ⊎_elim (header_right none r p) (λ b. nothing_wrong y.1 r p b) z;
        counted = y.0;
        named = λ j r h. let e : 0 + j ≡ j = omega arith in y.2 j r h ∙ ap (range_at d) e;
        ascending = y.3;
      }
  by_ranges none (Err f) y =
      record {
        holds = inr y;
        lowest = λ r p z. ⊎_elim (λ h. absurd (header_right none r p h)) (λ b. lowest_range f.refusal f.place y r p b) z;
      }

pub requests_by_law : (k : Kind) (x : ExpectedRequest) (d : List ℕ) → RequestByLaw k x d (read_request k x d)
requests_by_law k x d =
    first_fault_cases (HeaderFaulty k x d) 12 (header_checks k x d) (each_holds k x d) (numbers_rise k x d) (RequestByLaw k x d)
    (ranges k x.after 16 (ranges_from (field d 12 4) (drop 16 d)))
    (λ none. by_ranges k x d none (ranges k x.after 16 (ranges_from (field d 12 4) (drop 16 d)))
    (ranges_law k x d (field d 12 4) 0 16 (drop 16 d) (omega arith) refl refl (λ j h. absurd (omega arith))))
    (λ f q lowest. record {
      holds = inl q.0;
      lowest = λ r p y. ⊎_elim (λ h. lowest (entry_of r).number (fails k x d r p h))
          (λ b. let n = twenty_or_more k x d r p b in let m = q.1 in omega arith) y;
    })
