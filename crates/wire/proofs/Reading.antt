-- What the reader answers, from what its parts answer.
use Rattle.std.proofs.Common.{◌≡◌, ℕ, zero, suc, ◌+◌, ◌-◌, ◌^◌, ◌<◌, not, eqb, List, [], ◌∷◌, ◌++◌, map, length, take, drop, IfOk, Ok, Err, Result, sym, refl, ap, ◌∙◌, subst, arith, length-drop}
use Rattle.std.proofs.lemmas.List.{length-take-le}
use Rattle.std.specs.Result.{IsErrAnd}
use Rattle.std.proofs.lemmas.Result.{err_from_is_err_and}
use Rattle.std.proofs.lemmas.Bool.{cond_both, cond-true, cond-false, eq-eqb, ne_eqb}
use Rattle.wire.specs.declared.address.Expected.{Expected}
use Rattle.wire.specs.declared.fault.Fault.{Fault}
use Rattle.wire.specs.declared.fault.Refusal.TheVariants.{BlocksDisagree}
use Rattle.wire.specs.declared.segment.Header.{Header}
use Rattle.wire.specs.declared.segment.Segment.{Segment}
use Rattle.wire.specs.Blocks.{blocks, checked_blocks}
use Rattle.wire.specs.Cursor.{Placed, placed_at, numbered, wrap, unread_from}
use Rattle.wire.specs.Faults.{fault}
use Rattle.wire.specs.Fields.{field}
use Rattle.wire.specs.Outcomes.{map_ok, Check, first_fault}
use Rattle.wire.specs.ReadingLaw.{ByLaw, Accepted}
use Rattle.wire.specs.Segments.{Plain, size_checks, split_datagram, address_checks, range_checks, header_of, segment_of, read_segment}
use Rattle.wire.specs.Views.{Handed, messages, carried, messages_of, body_of, plain, HandedInOrder, content_unread}
use Rattle.wire.proofs.Blocks.{Pair, first_block_cases, first_block_good, after}
use Rattle.wire.proofs.Cursor.{unread_more}
use Rattle.wire.proofs.Headers.{address_checks-take, range_checks-take, header_of-take}
use Rattle.wire.proofs.Outcomes.{passed, ok_not_err, map_ok_from, none_found, fault_found, past_checks}
use Rattle.wire.proofs.ReadingLaw.{reads_by_law}

abbrev Bodies : Type 0
Bodies = Result (List (List ℕ)) Fault

-- where the blocks can all be read, and nothing wraps, each is handed out in its place
unread_is : (left n at from : ℕ) (bs : List ℕ) (ms : List (List ℕ)) → blocks left from bs ≡ Ok ms → n + left < 2 ^ 64 → at + length bs < 2 ^ 64
    → unread_from left n at bs ≡ numbered n at ms
unread_is zero n at from bs ms =
    cond_both (not (eqb (length bs) 0)) (Err (fault BlocksDisagree from)) (Ok [])
    (λ (r : Bodies). r ≡ Ok ms → n + 0 < 2 ^ 64 → at + length bs < 2 ^ 64 → [] ≡ numbered n at ms) (λ _ e _ _. ok_not_err ms (fault BlocksDisagree from) (sym e))
    (λ _ e _ _. let q : [] ≡ ms = cc in ap (numbered n at) q)
unread_is (suc left) n at from bs ms =
    let body = take (field bs 0 2) (drop 2 bs) in
    let rest = drop (field bs 0 2) (drop 2 bs) in
    first_block_cases from bs
    (λ r. after left from r ≡ Ok ms → n + suc left < 2 ^ 64 → at + length bs < 2 ^ 64 → unread_from (suc left) n at bs ≡ numbered n at ms)
    (λ _ e _ _. ok_not_err ms (fault BlocksDisagree from) (sym e))
    (λ _ _ e _ _. ok_not_err ms _ (sym e))
    (λ _ _ _ e _ _. ok_not_err ms (fault BlocksDisagree from) (sym e))
    (λ two short fits e h k.
    let size : length body ≡ field bs 0 2 = length-take-le (field bs 0 2) (drop 2 bs) fits in
    let l2 = length-drop 2 bs in
    let lr = length-drop (field bs 0 2) (drop 2 bs) in
    let place = at + (2 + length body) in
    let f = map_ok_from (λ (xs : List (List ℕ)). body ∷ xs) (blocks left (from + (2 + length body)) rest) ms e in
    let one : suc left - 1 ≡ left = omega arith in
    let number_is : wrap (n + 1) ≡ n + 1 = omega arith in
    let place_is : wrap place ≡ place = omega arith in
    let others = unread_is left (n + 1) place (from + (2 + length body)) rest f.0 f.1 (omega arith) (omega arith) in
    unread_more (suc left) n at bs body rest (omega arith) (first_block_good at bs two short fits)
    ∙ ((λ i. placed_at n at body ∷ unread_from (one i) (number_is i) (place_is i) rest)
    ∙ (ap (λ (xs : List Placed). placed_at n at body ∷ xs) others ∙ ap (numbered n at) f.2)))

-- the data of numbered messages is the data that was numbered
numbered_bodies : (n at : ℕ) (ms : List (List ℕ)) → map body_of (numbered n at ms) ≡ ms
numbered_bodies n at [] = refl
numbered_bodies n at (m ∷ ms) = ap (λ l. m ∷ l) (numbered_bodies (n + 1) (at + (2 + length m)) ms)

-- as many messages as are counted are carried as such, and none as a heartbeat
content_carried : (h : Header) (bs : List ℕ) (ms : List (List ℕ)) → length ms ≡ h.count → unread_from h.count h.first h.offset bs ≡ numbered h.first h.offset ms
    → content_unread h bs ≡ carried (numbered h.first h.offset ms)
content_carried h bs [] c e = cond-true _ _ _ (eq-eqb h.count 0 (sym c))
content_carried h bs (m ∷ ms) c e =
    cond-false _ _ _ (ne_eqb h.count 0 (λ z. omega arith)) ∙ ap messages e

carried_messages : (ms : List Placed) → messages_of (carried ms) ≡ ms
carried_messages [] = refl
carried_messages (m ∷ ms) = refl

module _ (e : Expected) (d : List ℕ) where
  -- a fault as the reader's answer
  pub refused : (f : Fault) → Err f ≡ read_segment e d → ByLaw e d (Err f)
  refused f v = subst (ByLaw e d) (sym v) (reads_by_law e d)

  -- what holds where the reader answers with it
  pub gives : (r : Result Segment Fault) (f : Fault) → IsErrAnd r (λ g. g ≡ f) → Err f ≡ read_segment e d
      → (map_ok plain r ≡ read_segment e d) × IfOk r HandedInOrder × ByLaw e d (map_ok plain r)
  gives r f h v = let p = err_from_is_err_and r h in rw (p.1, p.2) (v, tt, refused f v)

  pub by_size : (f : Fault) → Err f ≡ split_datagram d → Err f ≡ read_segment e d
  by_size f h = fault_found _ (size_checks d) (address_checks e d ++ range_checks d (length d)) _ f h

  module _ (head rest : List ℕ) (s : Ok (head, rest) ≡ split_datagram d) where
    parts : ◌≡◌ {A = Pair} (head, rest) (take 40 d, drop 40 d)
    parts = let p = (past_checks (size_checks d) (Ok (take 40 d, drop 40 d)) (head, rest) (sym s)).1 in cc

    head_is : head ≡ take 40 d
    head_is = ap (λ (p : Pair). p.0) parts

    pub rest_is : rest ≡ drop 40 d
    rest_is = ap (λ (p : Pair). p.1) parts

    address_is : first_fault (address_checks e head) passed ≡ first_fault (address_checks e d) passed
    address_is = ap (λ (cs : List Check). first_fault cs passed) (ap (address_checks e) head_is ∙ address_checks-take d e)

    range_is : first_fault (range_checks head (length d)) passed ≡ first_fault (range_checks d (length d)) passed
    range_is = ap (λ (cs : List Check). first_fault cs passed) (ap (λ h. range_checks h (length d)) head_is ∙ range_checks-take d (length d))

    pub header_is : header_of head ≡ header_of d
    header_is = ap header_of head_is ∙ header_of-take d

    pub by_address : (f : Fault) → Err f ≡ first_fault (address_checks e head) passed → Err f ≡ read_segment e d
    by_address f h =
        fault_found _ (address_checks e d) (range_checks d (length d)) _ f (h ∙ address_is)
        ∙ sym (none_found _ _ (size_checks d) (address_checks e d ++ range_checks d (length d)) _ s)

    module _ (a : passed ≡ first_fault (address_checks e head) passed) where
      abbrev told : Result Plain Fault
      told = map_ok (segment_of d) (blocks (field d 14 2) 40 (drop 40 d))

      header_passed : first_fault (range_checks d (length d)) told ≡ read_segment e d
      header_passed =
          sym (none_found _ _ (size_checks d) (address_checks e d ++ range_checks d (length d)) told s
          ∙ none_found _ _ (address_checks e d) (range_checks d (length d)) told (a ∙ address_is))

      pub by_ranges : (f : Fault) → Err f ≡ first_fault (range_checks head (length d)) passed → Err f ≡ read_segment e d
      by_ranges f h = fault_found _ (range_checks d (length d)) [] told f (h ∙ range_is) ∙ header_passed

      module _ (r : passed ≡ first_fault (range_checks head (length d)) passed) where
        all_passed : told ≡ read_segment e d
        all_passed = sym (none_found _ _ (range_checks d (length d)) [] told (r ∙ range_is)) ∙ header_passed

        same_fault : (x : Bodies) (f : Fault) → Err f ≡ map_ok {Y = Unit {0}} (λ _. tt) x → Err f ≡ map_ok (segment_of d) x
        same_fault (Ok ms) f h = ok_not_err tt f (sym h)
        same_fault (Err g) f h = let q : f ≡ g = cc in ap Err q

        module _ (h : Header) (is : h ≡ header_of d) where
          pub by_blocks : (f : Fault) → Err f ≡ checked_blocks h.count 40 rest → Err f ≡ read_segment e d
          by_blocks f b = same_fault (blocks (field d 14 2) 40 (drop 40 d)) f (b ∙ (λ i. checked_blocks (is i).count 40 (rest_is i))) ∙ all_passed

          module _ (out : Handed) (b : passed ≡ checked_blocks h.count 40 rest) (o : out ≡ content_unread h rest) where
            found : (ms : List (List ℕ)) × (blocks (field d 14 2) 40 (drop 40 d) ≡ Ok ms) × (◌≡◌ {A = Unit {0}} tt tt)
            found = map_ok_from (λ _. tt) (blocks (field d 14 2) 40 (drop 40 d)) tt (sym (b ∙ (λ i. checked_blocks (is i).count 40 (rest_is i))))

            abbrev ms : List (List ℕ)
            ms = found.0

            says : Ok (segment_of d ms) ≡ read_segment e d
            says = sym (ap (map_ok (segment_of d)) found.1) ∙ all_passed

            law : Accepted e d (segment_of d ms)
            law = subst (ByLaw e d) (sym says) (reads_by_law e d)

            handed_is : out ≡ carried (numbered (field d 24 8) (field d 16 8) ms)
            handed_is =
                let l = length-drop 40 d in
                let a = law in
                o ∙ ((λ i. content_unread (is i) (rest_is i)) ∙ content_carried (header_of d) (drop 40 d) ms law.counted
                (unread_is (field d 14 2) (field d 24 8) (field d 16 8) 40 (drop 40 d) ms found.1 (omega arith) (omega arith)))

            bodies_are : map body_of (messages_of out) ≡ ms
            bodies_are =
                ap (λ (x : Handed). map body_of (messages_of x)) handed_is
                ∙ (ap (map body_of) (carried_messages (numbered (field d 24 8) (field d 16 8) ms)) ∙ numbered_bodies (field d 24 8) (field d 16 8) ms)

            abbrev seen : Plain
            seen = record { header = h; messages = map body_of (messages_of out) }

            answers : Ok seen ≡ read_segment e d
            answers = (λ i. Ok (record { header = is i; messages = bodies_are i })) ∙ says

            -- the answer, how its messages are handed out, and the law
            pub accepted : (Ok seen ≡ read_segment e d) × (out ≡ carried (numbered h.first h.offset (map body_of (messages_of out)))) × ByLaw e d (Ok seen)
            accepted = (
              answers,
              handed_is ∙ (λ i. carried (numbered (sym is i).first (sym is i).offset (sym bodies_are i))),
              subst (ByLaw e d) (sym answers) (reads_by_law e d),
            )
