-- The law of reading: the header's conditions, the blocks' conditions, and the two together.
use Rattle.std.proofs.Common.{◌≡◌, ℕ, zero, suc, ◌+◌, ◌-◌, ◌<◌, ◌≤◌, true, not, eqb, ltb, List, [], ◌∷◌, length, take, drop, Some, None, Ok, Err, Option, Result, sym, refl, ap, ◌∙◌, subst, inl, inr, ⊎_elim, arith, lit≤, length-drop, below_more}
use Rattle.std.proofs.lemmas.List.{length-take-le, drop-drop}
use Rattle.std.proofs.lemmas.Bool.{cond_both, cases_order, cases_eq, cases_lt, eqb-true, eqb-false, ne_eqb, ltb-true, ltb-false, lt-ltb, not-true, not-false, not_from_false, or_cases, or_parts, or_left, or_right, false≢true}
use Rattle.wire.specs.declared.address.Expected.{Expected}
use Rattle.wire.specs.declared.fault.Fault.{Fault}
use Rattle.wire.specs.declared.fault.Refusal.{Refusal}
use Rattle.wire.specs.declared.fault.Refusal.TheVariants.{BlocksDisagree, LongBlock, WrongLength, OutOfRange}
use Rattle.wire.specs.Blocks.{blocks}
use Rattle.wire.specs.Cursor.{numbered}
use Rattle.wire.specs.Faults.{entry_of, fault}
use Rattle.wire.specs.Fields.{field}
use Rattle.wire.specs.Outcomes.{map_ok}
use Rattle.wire.specs.ReadingLaw.{HeaderFault, too_short, too_long, another_version, another_protocol, another_channel, another_session, another_length, no_number, past_numbers, past_offsets, block_start, block_length, Whole, WholeBefore, BlockFault, length_cut, over_long, data_cut, left_over, LaidOut, ByLaw}
use Rattle.wire.specs.Addresses.{other_session}
use Rattle.wire.specs.Segments.{Z, header_checks, segment_of, read_segment}
use Rattle.wire.proofs.Blocks.{first_block_cases, after}
use Rattle.wire.proofs.Outcomes.{NoneFails, Each, Rising, Fails, not_both, first_fault_cases}

-- a session that is another than the expected one
other_session_is : (o : Option ℕ) (s : ℕ) → other_session o s ≡ true → (x : ℕ) × (o ≡ Some x) × (s ≡ x → ⊥)
other_session_is None s t = absurd (false≢true t)
other_session_is (Some x) s t = (x, refl, eqb-false s x (not-true _ t))

is_other_session : (o : Option ℕ) (s x : ℕ) → o ≡ Some x → (s ≡ x → ⊥) → other_session o s ≡ true
is_other_session o s x e h = ap (λ o'. other_session o' s) e ∙ not_from_false _ (ne_eqb s x h)

module _ (e : Expected) (d : List ℕ) where
  abbrev HeaderFaulty : Fault → Type 0
  HeaderFaulty f = HeaderFault e d f.refusal f.place × ((entry_of f.refusal).number ≤ 8)

  each_holds : Each HeaderFaulty (header_checks e d)
  each_holds = (
    λ t. (too_short (ltb-true (length d) 40 t), lit≤ tt),
    λ _. (
      λ t. (too_long (ltb-true 65535 (length d) t), lit≤ tt),
      λ _. (
        λ t. (another_version (eqb-false _ _ (not-true _ t)), lit≤ tt),
        λ _. (
          λ t. (another_protocol (eqb-false _ _ (not-true _ t)), lit≤ tt),
          λ _. (
            λ t. (another_channel (eqb-false _ _ (not-true _ t)), lit≤ tt),
            λ _. (
              λ t. (let s = other_session_is e.session (field d 8 4) t in another_session s.0 s.1 s.2, lit≤ tt),
              λ _. (
                λ t. (another_length (eqb-false _ _ (not-true _ t)), lit≤ tt),
                λ _. (
                  λ t. (⊎_elim (λ a. no_number (ltb-true _ _ a)) (λ a. past_numbers (ltb-true _ _ a)) (or_cases _ _ t), lit≤ tt),
                  λ u. (
                    λ t. (
                      let p = or_parts (ltb (field d 24 8) 1) (ltb Z (field d 24 8 + field d 14 2)) u in
                          past_offsets (ltb-false _ _ p.0) (ltb-false _ _ p.1) (ltb-true _ _ t),
                      lit≤ tt,
                    ),
                    λ _. tt,
                  ),
                ),
              ),
            ),
          ),
        ),
      ),
    ),
  )

  numbers_rise : Rising 1 (header_checks e d)
  numbers_rise =
      (lit≤ tt, (lit≤ tt, (lit≤ tt, (lit≤ tt, (lit≤ tt, (lit≤ tt, (lit≤ tt, (lit≤ tt, (lit≤ tt, tt)))))))))

  fails : (r : Refusal) (p : ℕ) → HeaderFault e d r p → Fails (entry_of r).number (header_checks e d)
  fails _ _ (too_short h) = inl (lt-ltb _ _ h, refl)
  fails _ _ (too_long h) = inr (inl (lt-ltb _ _ h, refl))
  fails _ _ (another_version h) = inr (inr (inl (not_from_false _ (ne_eqb _ _ h), refl)))
  fails _ _ (another_protocol h) = inr (inr (inr (inl (not_from_false _ (ne_eqb _ _ h), refl))))
  fails _ _ (another_channel h) = inr (inr (inr (inr (inl (not_from_false _ (ne_eqb _ _ h), refl)))))
  fails _ _ (another_session s o h) = inr (inr (inr (inr (inr (inl (is_other_session e.session (field d 8 4) s o h, refl))))))
  fails _ _ (another_length h) = inr (inr (inr (inr (inr (inr (inl (not_from_false _ (ne_eqb _ _ h), refl)))))))
  fails _ _ (no_number h) = inr (inr (inr (inr (inr (inr (inr (inl (or_left _ _ (lt-ltb _ _ h), refl))))))))
  fails _ _ (past_numbers h) = inr (inr (inr (inr (inr (inr (inr (inl (or_right _ _ (lt-ltb _ _ h), refl))))))))
  fails _ _ (past_offsets _ _ h) = inr (inr (inr (inr (inr (inr (inr (inr (inl (lt-ltb _ _ h, refl)))))))))

module _ (d : List ℕ) where
  -- what n blocks from a byte on give: all blocks whole, ending where the datagram ends, and their data as it lies there; or the fault
  abbrev BlocksLaw : ℕ → ℕ → Result (List (List ℕ)) Fault → Type 0
  BlocksLaw n at (Ok ms) =
      (length ms ≡ n) × WholeBefore d (field d 14 2) × (block_start d (field d 14 2) ≡ length d)
      × ((m p : ℕ) → LaidOut d at m p (numbered m p ms))
  BlocksLaw n at (Err f) = BlockFault d f.refusal f.place

  one_more : (n at : ℕ) (body : List ℕ) → length body ≡ field d at 2 → body ≡ take (field d at 2) (drop (at + 2) d)
      → (r : Result (List (List ℕ)) Fault) → BlocksLaw n (at + (2 + length body)) r → BlocksLaw (suc n) at (map_ok (λ ms. body ∷ ms) r)
  one_more n at body long is (Ok ms) x =
      (ap suc x.0, x.1, x.2, λ m p. (refl, refl, long, is, x.3 (m + 1) (p + (2 + length body))))
  one_more n at body long is (Err f) x = x

  module _ (k at : ℕ) (bs : List ℕ) (a : at ≡ block_start d k) (b : bs ≡ drop at d) (in_d : at ≤ length d) (w : WholeBefore d k) where
    left : length bs ≡ length d - at
    left = ap length b ∙ length-drop at d

    length_is : field bs 0 2 ≡ field d at 2
    length_is = ap (λ x. field x 0 2) b

    starts_at : (r : Refusal) → BlockFault d r (block_start d k) → BlockFault d r at
    starts_at r = subst (BlockFault d r) (sym a)

    all_done : k ≡ field d 14 2 → BlocksLaw 0 at (blocks 0 at bs)
    all_done c =
        let whole : WholeBefore d (field d 14 2) = subst (WholeBefore d) c w in
        let end : at ≡ block_start d (field d 14 2) = a ∙ ap (block_start d) c in
        let l = left in
        cond_both (not (eqb (length bs) 0)) (Err (fault BlocksDisagree at)) (Ok []) (BlocksLaw 0 at)
        (λ t. let h = eqb-false (length bs) 0 (not-true _ t) in
        let lt : block_start d (field d 14 2) < length d
        = ⊎_elim (λ z. absurd (h z)) (⊎_elim (λ z. omega arith) (λ z. omega arith)) (cases_order (length bs) 0) in
        subst (BlockFault d BlocksDisagree) (sym end) (left_over whole lt))
        (λ t. let h = eqb-true (length bs) 0 (not-false _ t) in
        let all : at ≡ length d = omega arith in
        (refl, whole, sym end ∙ all, λ m p. all))

  blocks_law : (n k at : ℕ) (bs : List ℕ) → k + n ≡ field d 14 2 → at ≡ block_start d k → bs ≡ drop at d → at ≤ length d
      → WholeBefore d k → BlocksLaw n at (blocks n at bs)
  blocks_law zero k at bs c a b in_d w = all_done k at bs a b in_d w (omega arith)
  blocks_law (suc n) k at bs c a b in_d w =
      let l = left k at bs a b in_d w in
      let named = length_is k at bs a b in_d w in
      let named_k : field bs 0 2 ≡ block_length d k = named ∙ ap (λ x. field d x 2) a in
      let body = take (field bs 0 2) (drop 2 bs) in
      let rest = drop (field bs 0 2) (drop 2 bs) in
      let l2 = length-drop 2 bs in
      first_block_cases at bs (λ r. BlocksLaw (suc n) at (after n at r))
      (λ short. starts_at k at bs a b in_d w BlocksDisagree (length_cut k (omega arith) w (omega arith)))
      (λ two long. starts_at k at bs a b in_d w LongBlock (over_long k (omega arith) w (omega arith) (omega arith)))
      (λ two fits cut. starts_at k at bs a b in_d w BlocksDisagree (data_cut k (omega arith) w (omega arith) (omega arith) (omega arith)))
      (λ two short fits.
      let size : length body ≡ field bs 0 2 = length-take-le (field bs 0 2) (drop 2 bs) fits in
      let to = at + (2 + length body) in
      let here : Whole d k = record { inside = omega arith; short = omega arith } in
      let two_on : drop 2 bs ≡ drop (at + 2) d = ap (drop 2) b ∙ drop-drop 2 at d in
      let body_is : body ≡ take (field d at 2) (drop (at + 2) d) = λ i. take (named i) (two_on i) in
      let sum : (at + 2) + field bs 0 2 ≡ to = omega arith in
      let rest_is : rest ≡ drop to d = ap (drop (field bs 0 2)) two_on ∙ (drop-drop (field bs 0 2) (at + 2) d ∙ ap (λ x. drop x d) sum) in
      one_more n at body (size ∙ named) body_is (blocks n to rest)
      (blocks_law n (suc k) to rest (omega arith) (omega arith) rest_is (omega arith) (λ j h. below_more (Whole d) k w here j (omega arith))))

  nine_or_more : (r : Refusal) (p : ℕ) → BlockFault d r p → 9 ≤ (entry_of r).number
  nine_or_more _ _ (length_cut _ _ _ _) = lit≤ tt
  nine_or_more _ _ (over_long _ _ _ _ _) = lit≤ tt
  nine_or_more _ _ (data_cut _ _ _ _ _ _) = lit≤ tt
  nine_or_more _ _ (left_over _ _) = lit≤ tt

  -- where the blocks are whole and end with the datagram, nothing is wrong with them
  nothing_wrong : WholeBefore d (field d 14 2) → block_start d (field d 14 2) ≡ length d → (r : Refusal) (p : ℕ) → BlockFault d r p → ⊥
  nothing_wrong w ends _ _ (length_cut k h _ cut) = let i = (w k h).inside in omega arith
  nothing_wrong w ends _ _ (over_long k h _ _ long) = let s = (w k h).short in omega arith
  nothing_wrong w ends _ _ (data_cut k h _ _ _ cut) = let i = (w k h).inside in omega arith
  nothing_wrong w ends _ _ (left_over _ more) = omega arith

  module _ (k : ℕ) (h : k < field d 14 2) (w : WholeBefore d k) (two : block_start d k + 2 ≤ length d) (long : 1430 < block_length d k) where
    -- block k is not whole, so no block above it is the first such
    not_above : (j : ℕ) → WholeBefore d j → k < j → ⊥
    not_above j v lt = let s = (v k lt).short in omega arith

    -- where block k is the first that is not whole, and too long, no other is cut
    only_long : (r : Refusal) (p : ℕ) → BlockFault d r p → 10 ≤ (entry_of r).number
    only_long _ _ (length_cut j _ v cut) =
        absurd (⊎_elim (λ e. let s = ap (block_start d) e in omega arith)
        (⊎_elim (λ lt. not_above j v lt) (λ lt. let i = (w j lt).inside in omega arith)) (cases_order k j))
    only_long _ _ (over_long _ _ _ _ _) = lit≤ tt
    only_long _ _ (data_cut j _ v _ fits cut) =
        absurd (⊎_elim (λ e. let s = ap (block_length d) e in omega arith)
        (⊎_elim (λ lt. not_above j v lt) (λ lt. let i = (w j lt).inside in omega arith)) (cases_order k j))
    only_long _ _ (left_over v _) = absurd (not_above (field d 14 2) v h)

  lowest_block : (r : Refusal) (p : ℕ) → BlockFault d r p → (q : Refusal) (o : ℕ) → BlockFault d q o → (entry_of r).number ≤ (entry_of q).number
  lowest_block _ _ (length_cut _ _ _ _) q o y = nine_or_more q o y
  lowest_block _ _ (over_long k h w two long) q o y = only_long k h w two long q o y
  lowest_block _ _ (data_cut _ _ _ _ _ _) q o y = nine_or_more q o y
  lowest_block _ _ (left_over _ _) q o y = nine_or_more q o y

module _ (e : Expected) (d : List ℕ) where
  header_right : NoneFails (header_checks e d) → (r : Refusal) (p : ℕ) → HeaderFault e d r p → ⊥
  header_right none r p h = not_both (entry_of r).number (header_checks e d) none (fails e d r p h)

  by_blocks : NoneFails (header_checks e d) → (r : Result (List (List ℕ)) Fault) → BlocksLaw d (field d 14 2) 40 r
      → ByLaw e d (map_ok (segment_of d) r)
  by_blocks none (Ok ms) x =
      let ok : (r : Refusal) (p : ℕ) → HeaderFault e d r p → ⊥ = header_right none in
      let long : length d ≡ 40 + field d 12 2 = ⊎_elim (λ z. z) (λ z. absurd (ok WrongLength 12 (another_length z))) (cases_eq (length d) (40 + field d 12 2)) in
      let one : 1 ≤ field d 24 8 = ⊎_elim (λ z. absurd (ok OutOfRange 24 (no_number z))) (λ z. z) (cases_lt (field d 24 8) 1) in
      let numbers : field d 24 8 + field d 14 2 ≤ Z
      = ⊎_elim (λ z. absurd (ok OutOfRange 24 (past_numbers z))) (λ z. z) (cases_lt Z (field d 24 8 + field d 14 2)) in
      let places : field d 16 8 + field d 12 2 ≤ Z
      = ⊎_elim (λ z. absurd (ok OutOfRange 16 (past_offsets one numbers z))) (λ z. z) (cases_lt Z (field d 16 8 + field d 12 2)) in
      record {
        from_one = one;
        numbers_fit = numbers;
        places_fit = omega arith;
        faultless = λ r p y. ⊎_elim (header_right none r p) (λ b. nothing_wrong d x.1 x.2 r p b) y;
        counted = x.0;
        laid_out = x.3 (field d 24 8) (field d 16 8);
      }
  by_blocks none (Err f) x =
      record {
        holds = inr x;
        lowest = λ r p y. ⊎_elim (λ h. absurd (header_right none r p h)) (λ b. lowest_block d f.refusal f.place x r p b) y;
      }

  pub reads_by_law : ByLaw e d (read_segment e d)
  reads_by_law =
      first_fault_cases (HeaderFaulty e d) 1 (header_checks e d) (each_holds e d) (numbers_rise e d) (ByLaw e d)
      (map_ok (segment_of d) (blocks (field d 14 2) 40 (drop 40 d)))
      (λ none. by_blocks none (blocks (field d 14 2) 40 (drop 40 d))
      (blocks_law d (field d 14 2) 0 40 (drop 40 d) (omega arith) refl refl (ltb-false (length d) 40 none.0) (λ j h. absurd (omega arith))))
      (λ f q lowest. record {
        holds = inl q.0;
        lowest = λ r p y. ⊎_elim (λ h. lowest (entry_of r).number (fails e d r p h)) (λ b. let n = nine_or_more d r p b in let m = q.1 in omega arith) y;
      })
