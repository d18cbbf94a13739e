-- What the reader of requests answers, from what its parts answer.
use Rattle.std.proofs.Common.{◌≡◌, ℕ, ◌+◌, ◌-◌, ◌*◌, ◌/◌, ◌≤◌, ◌&&◌, eqb, ltb, List, [], ◌∷◌, ◌++◌, map, length, take, drop, Some, Ok, Err, Option, Result, sym, ap, ◌∙◌, subst, arith, length-drop}
use Rattle.std.proofs.lemmas.Bool.{eqb-true, ltb-false, not-false, or_parts}
use Rattle.std.specs.Result.{IsErrAnd}
use Rattle.std.proofs.lemmas.Result.{err_from_is_err_and}
use Rattle.std.specs.Simd.{first_chunks}
use Rattle.wire.specs.declared.fault.Fault.{Fault}
use Rattle.wire.specs.declared.fault.Refusal.TheVariants.{ShortRequest}
use Rattle.wire.specs.declared.request.ExpectedRequest.{ExpectedRequest}
use Rattle.wire.specs.declared.request.Range.{Range}
use Rattle.wire.specs.declared.request.ranges.Ranges.{Ranges}
use Rattle.wire.specs.Fields.{field}
use Rattle.wire.specs.Headers.{short_checks, split_header}
use Rattle.wire.specs.Outcomes.{map_ok, Check, first_fault}
use Rattle.wire.specs.RequestLaw.{RequestByLaw}
use Rattle.wire.specs.Requests.{Kind, front_checks, address_checks, is_stream, count_checks, range_of, ranges, checked_ranges, ranges_from, read_request, unread_ranges}
use Rattle.wire.proofs.Blocks.{Pair}
use Rattle.wire.proofs.Headers.{front_checks-take, request_address_checks-take, count_checks-take}
use Rattle.wire.proofs.Outcomes.{passed, ok_not_err, map_ok_from, none_found, fault_found, past_checks}
use Rattle.wire.proofs.RequestLaw.{requests_by_law, checked_range_cases}
use Rattle.wire.proofs.Requests.{after_range, range_of-first_chunks}

abbrev Read : Type 0
Read = Result (List Range) Fault

-- ranges that are accepted are handed out as they are
pub handed_out : (k : Kind) (after : Option ℕ) (at : ℕ) (rs ts : List Range) → ranges k after at rs ≡ Ok ts → rs ≡ ts
handed_out k after at [] ts = λ e. cc
handed_out k after at (r ∷ rs) ts =
    checked_range_cases k after at r (λ x. after_range k at rs x ≡ Ok ts → r ∷ rs ≡ ts)
    (λ _ e. ok_not_err ts _ (sym e)) (λ _ _ e. ok_not_err ts _ (sym e))
    (λ _ _ e.
    let f = map_ok_from (λ (xs : List Range). r ∷ xs) (ranges k (Some r.last) (at + 16) rs) ts e in
    ap (λ (xs : List Range). r ∷ xs) (handed_out k (Some r.last) (at + 16) rs f.0 f.1) ∙ f.2)

same_fault : (x : Read) (f : Fault) → Err f ≡ map_ok {Y = Unit {0}} (λ _. tt) x → Err f ≡ x
same_fault (Ok rs) f h = ok_not_err tt f (sym h)
same_fault (Err g) f h = let q : f ≡ g = cc in ap Err q

module _ (k : Kind) (x : ExpectedRequest) (d : List ℕ) where
  -- a fault as the reader's answer
  pub refused : (f : Fault) → Err f ≡ read_request k x d → RequestByLaw k x d (Err f)
  refused f v = subst (RequestByLaw k x d) (sym v) (requests_by_law k x d)

  -- what holds where the reader answers with it
  pub gives : (r : Result Ranges Fault) (f : Fault) → IsErrAnd r (λ g. g ≡ f) → Err f ≡ read_request k x d
      → (map_ok unread_ranges r ≡ read_request k x d) × RequestByLaw k x d (map_ok unread_ranges r)
  gives r f h v = let p = err_from_is_err_and r h in rw (p.1, p.2) (v, refused f v)

  abbrev behind : List Check
  behind = address_checks x.address d ++ count_checks x.transport d (length d)

  pub by_size : (f : Fault) → Err f ≡ split_header 16 ShortRequest d → Err f ≡ read_request k x d
  by_size f h = fault_found _ (short_checks 16 ShortRequest d) (front_checks k d ++ behind) _ f h

  module _ (head body : List ℕ) (s : Ok (head, body) ≡ split_header 16 ShortRequest d) where
    parts : ◌≡◌ {A = Pair} (head, body) (take 16 d, drop 16 d)
    parts = let p = (past_checks (short_checks 16 ShortRequest d) (Ok (take 16 d, drop 16 d)) (head, body) (sym s)).1 in cc

    head_is : head ≡ take 16 d
    head_is = ap (λ (p : Pair). p.0) parts

    body_is : body ≡ drop 16 d
    body_is = ap (λ (p : Pair). p.1) parts

    front_is : first_fault (front_checks k head) passed ≡ first_fault (front_checks k d) passed
    front_is = ap (λ (cs : List Check). first_fault cs passed) (ap (front_checks k) head_is ∙ front_checks-take d k)

    address_is : first_fault (address_checks x.address head) passed ≡ first_fault (address_checks x.address d) passed
    address_is = ap (λ (cs : List Check). first_fault cs passed) (ap (address_checks x.address) head_is ∙ request_address_checks-take d x.address)

    count_is : first_fault (count_checks x.transport head (length d)) passed ≡ first_fault (count_checks x.transport d (length d)) passed
    count_is =
        ap (λ (cs : List Check). first_fault cs passed)
        (ap (λ h. count_checks x.transport h (length d)) head_is ∙ count_checks-take d x.transport (length d))

    pub by_front : (f : Fault) → Err f ≡ first_fault (front_checks k head) passed → Err f ≡ read_request k x d
    by_front f h = fault_found _ (front_checks k d) behind _ f (h ∙ front_is) ∙ sym (none_found _ _ (short_checks 16 ShortRequest d) (front_checks k d ++ behind) _ s)

    module _ (t : passed ≡ first_fault (front_checks k head) passed) where
      front_passed : (told : Read) → first_fault behind told ≡ first_fault (short_checks 16 ShortRequest d ++ (front_checks k d ++ behind)) told
      front_passed told =
          sym (none_found _ _ (short_checks 16 ShortRequest d) (front_checks k d ++ behind) told s ∙ none_found _ _ (front_checks k d) behind told (t ∙ front_is))

      pub by_address : (f : Fault) → Err f ≡ first_fault (address_checks x.address head) passed → Err f ≡ read_request k x d
      by_address f h = fault_found _ (address_checks x.address d) (count_checks x.transport d (length d)) _ f (h ∙ address_is) ∙ front_passed _

      module _ (a : passed ≡ first_fault (address_checks x.address head) passed) where
        abbrev told : Read
        told = ranges k x.after 16 (ranges_from (field d 12 4) (drop 16 d))

        address_passed : first_fault (count_checks x.transport d (length d)) told ≡ read_request k x d
        address_passed = sym (none_found _ _ (address_checks x.address d) (count_checks x.transport d (length d)) told (a ∙ address_is)) ∙ front_passed told

        pub by_count : (f : Fault) → Err f ≡ first_fault (count_checks x.transport head (length d)) passed → Err f ≡ read_request k x d
        by_count f h = fault_found _ (count_checks x.transport d (length d)) [] told f (h ∙ count_is) ∙ address_passed

        module _ (n : passed ≡ first_fault (count_checks x.transport head (length d)) passed) where
          all_passed : told ≡ read_request k x d
          all_passed = sym (none_found _ _ (count_checks x.transport d (length d)) [] told (n ∙ count_is)) ∙ address_passed

          -- the right length, and no more ranges than there may be
          counted : (length d ≡ 16 + 16 * field d 12 4) × (field d 12 4 ≤ 64)
          counted =
              let p = (past_checks (count_checks x.transport d (length d)) passed tt (sym (n ∙ count_is))).0 in
              let few = or_parts (ltb 64 (field d 12 4)) (eqb (field d 12 4) 0 && is_stream x.transport) p.0 in
              (eqb-true (length d) (16 + 16 * field d 12 4) (not-false _ p.1.0), ltb-false 64 (field d 12 4) few.0)

          long : length body ≡ length d - 16
          long = ap length body_is ∙ length-drop 16 d

          pub few_ranges : length body / 16 ≤ 64
          few_ranges = let n = counted in let l = long in omega arith

          -- the parts behind the header are the ranges
          module _ (ps : List (List ℕ)) (c : ps ≡ first_chunks 16 (length body / 16) body) where
            parts_are : map range_of ps ≡ ranges_from (field d 12 4) (drop 16 d)
            parts_are =
                let n = counted.0 in
                let l = long in
                let many : length body / 16 ≡ field d 12 4 = omega arith in
                ap (map range_of) c ∙ (range_of-first_chunks (length body / 16) body ∙ (λ i. ranges_from (many i) (body_is i)))

            checked_is : checked_ranges k x.after 16 (map range_of ps) ≡ map_ok (λ _. tt) told
            checked_is = ap (checked_ranges k x.after 16) parts_are

            pub by_ranges : (f : Fault) → Err f ≡ checked_ranges k x.after 16 (map range_of ps) → Err f ≡ read_request k x d
            by_ranges f h = same_fault told f (h ∙ checked_is) ∙ all_passed

            -- the answer, and the law
            pub accepted : passed ≡ checked_ranges k x.after 16 (map range_of ps)
                → (Ok (map range_of ps) ≡ read_request k x d) × RequestByLaw k x d (Ok (map range_of ps))
            accepted h =
                let f = map_ok_from (λ _. tt) told tt (sym (h ∙ checked_is)) in
                let is : map range_of ps ≡ f.0 = parts_are ∙ handed_out k x.after 16 (ranges_from (field d 12 4) (drop 16 d)) f.0 f.1 in
                let v : Ok (map range_of ps) ≡ read_request k x d = ap Ok is ∙ (sym f.1 ∙ all_passed) in
                (v, subst (RequestByLaw k x d) (sym v) (requests_by_law k x d))
