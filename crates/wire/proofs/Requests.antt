-- Laws of ranges, one by one.
use Rattle.std.proofs.Common.{◌≡◌, ℕ, zero, suc, ◌+◌, ◌<◌, Bool, true, false, cond, not, ◌||◌, List, [], ◌∷◌, map, length, get_or, take, drop, is_ok, Some, Ok, Err, Option, Result, sym, refl, ap, ◌∙◌}
use Rattle.std.proofs.lemmas.List.{drop_more}
use Rattle.std.specs.Simd.{first_chunks}
use Rattle.wire.specs.declared.fault.Fault.{Fault}
use Rattle.wire.specs.declared.fault.Refusal.TheVariants.{InvalidRange, RangesNotAscending}
use Rattle.wire.specs.declared.request.Range.{Range}
use Rattle.wire.specs.Faults.{fault}
use Rattle.wire.specs.Outcomes.{map_ok, and_then, first_fault}
use Rattle.wire.specs.Requests.{Kind, range_of, invalid, not_above, range_checks, ranges, checked_ranges, ranges_from}
use Rattle.wire.specs.RequestWriting.{unordered}
use Rattle.wire.proofs.Outcomes.{passed, forget, none_found, fault_found}

-- what is read after a first range
abbrev pub after_range : Kind → ℕ → List Range → Result Range Fault → Result (List Range) Fault
after_range k at rs x = and_then x (λ (r : Range). map_ok (λ (ts : List Range). r ∷ ts) (ranges k (Some r.last) (at + 16) rs))

-- range i is refused, or it is not
module _ (k : Kind) (after : Option ℕ) (at : ℕ) (rs : List Range) (i : ℕ) (r : Range) (h : i < length rs) (is : r ≡ get_or rs i r) where
  abbrev rest : List Range
  rest = drop (i + 1) rs

  from_here : checked_ranges k after at (drop i rs) ≡ checked_ranges k after at (r ∷ rest)
  from_here = ap (checked_ranges k after at) (drop_more rs i r h ∙ ap (λ (x : Range). x ∷ rest) (sym is))

  pub checked_err : (f : Fault) → Err f ≡ first_fault (range_checks k after at r) passed → Err f ≡ checked_ranges k after at (drop i rs)
  checked_err f e =
      ap (λ x. map_ok {Y = Unit {0}} (λ _. tt) (after_range k at rest x)) (fault_found _ (range_checks k after at r) [] (Ok r) f e) ∙ sym from_here

  pub checked_more : passed ≡ first_fault (range_checks k after at r) passed
      → checked_ranges k after at (drop i rs) ≡ checked_ranges k (Some r.last) (at + 16) rest
  checked_more e =
      from_here
      ∙ (ap (λ x. map_ok {Y = Unit {0}} (λ _. tt) (after_range k at rest x)) (none_found _ _ (range_checks k after at r) [] (Ok r) e)
      ∙ forget (λ (ts : List Range). r ∷ ts) (ranges k (Some r.last) (at + 16) rest))

twice : (b : Bool) → b ≡ not (not b)
twice true = refl
twice false = refl

-- ranges pass the checks, wherever they stand, exactly when they are in order
first_and_rest : (b c : Bool) (f g : Fault) (r : Range) (go : Range → Result (List Range) Fault)
    → is_ok (map_ok {Y = Unit {0}} (λ _. tt) (and_then (cond b (Err f) (cond c (Err g) (Ok r))) go)) ≡ not (b || (c || not (is_ok (map_ok {Y = Unit {0}} (λ _. tt) (go r)))))
first_and_rest true c f g r go = refl
first_and_rest false true f g r go = refl
first_and_rest false false f g r go = twice (is_ok (map_ok {Y = Unit {0}} (λ _. tt) (go r)))

pub checked-unordered : (k : Kind) (after : Option ℕ) (at : ℕ) (rs : List Range) → is_ok (checked_ranges k after at rs) ≡ not (unordered k after rs)
checked-unordered k after at [] = refl
checked-unordered k after at (r ∷ rs) =
    let go : Range → Result (List Range) Fault = λ x. map_ok (λ (xs : List Range). x ∷ xs) (ranges k (Some x.last) (at + 16) rs) in
    let others : is_ok (map_ok {Y = Unit {0}} (λ _. tt) (go r)) ≡ not (unordered k (Some r.last) rs)
    = ap is_ok (forget (λ (xs : List Range). r ∷ xs) (ranges k (Some r.last) (at + 16) rs)) ∙ checked-unordered k (Some r.last) (at + 16) rs in
    first_and_rest (invalid k r) (not_above after r.first) (fault InvalidRange at) (fault RangesNotAscending at) r go
    ∙ ap (λ b. not (invalid k r || (not_above after r.first || b))) (ap not others ∙ sym (twice (unordered k (Some r.last) rs)))

-- the bytes of ranges, range by range
pub range_of-first_chunks : (n : ℕ) (bs : List ℕ) → map range_of (first_chunks 16 n bs) ≡ ranges_from n bs
range_of-first_chunks zero bs = refl
range_of-first_chunks (suc n) bs = ap (λ (rs : List Range). range_of (take 16 bs) ∷ rs) (range_of-first_chunks n (drop 16 bs))
