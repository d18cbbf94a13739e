use Rattle.std.proofs.Common.{◌≡◌, ℕ, ◌+◌, ◌*◌, ◌<◌, List, map, length, get_or, drop, Some, sym, ap, ◌∙◌, arith}
use Rattle.std.proofs.lemmas.List.{get_or-map, length-map}
use Rattle.std.proofs.lemmas.Result.{err_from_is_err_and}
use Rattle.wire.specs.declared.request.Range.{Range}
use Rattle.wire.specs.Requests.{checked_ranges}
use Rattle.wire.proofs.Requests.{checked_err, checked_more}
use Rattle.wire.proofs.request.ranges.check_ranges.Goals as goal

-- the element of a list of ranges, by what was read of the element that it stands for
element : {X : Type 0} (f : X → Range) (xs : List X) (i : ℕ) (e : X) (r : Range) → i < length xs → e ≡ get_or xs i e → r ≡ f e → r ≡ get_or (map f xs) i r
element f xs i e r h is named = named ∙ (ap f is ∙ sym (get_or-map f xs i e r h))

pub returns-in_err-check_range : goal.returns-in_err-check_range
returns-in_err-check_range g c =
    let k = g.K.RangeKind.kind in
    let f = g.R.AsRange.range in
    let xs = c.args.ranges.now in
    let i = c.loop-i.i in
    let r = c.range-range.result in
    let is = element f xs i c.index-ranges-i.result r (omega arith) c.index-ranges-i.is c.range-range.ensures in
    let p = err_from_is_err_and c.from_residual.result c.from_residual.ensures.1 in
    let l = length-map xs f in
    let e = checked_err k c.loop-i.after (16 + 16 * i) (map f xs) i r (omega arith) is c.in_err-check_range.field-0.0 c.in_err-check_range.ensures in
    rw (p.1, p.2) (e ∙ sym c.loop-i.invariant)

pub loop-i-preserved : goal.loop-i-preserved
loop-i-preserved g c =
    let k = g.K.RangeKind.kind in
    let f = g.R.AsRange.range in
    let xs = c.args.ranges.now in
    let i = c.loop-i.i in
    let r = c.range-range.result in
    let is = element f xs i c.index-ranges-i.result r (omega arith) c.index-ranges-i.is c.range-range.ensures in
    let l = length-map xs f in
    let next : 16 + 16 * i + 16 ≡ 16 + 16 * (i + 1) = omega arith in
    c.loop-i.invariant
    ∙ (checked_more k c.loop-i.after (16 + 16 * i) (map f xs) i r (omega arith) is c.in_ok-check_range.ensures
    ∙ ap (λ n. checked_ranges k (Some r.last) n (drop (i + 1) (map f xs))) next)
