use Rattle.std.proofs.Common.{not, ◌||◌, List, length, is_ok, None, sym, ap, ◌∙◌, arith}
use Rattle.std.proofs.lemmas.Bool.{le-ltb}
use Rattle.std.proofs.lemmas.List.{map-id}
use Rattle.wire.specs.declared.request.Range.{Range}
use Rattle.wire.specs.Requests.{checked_ranges}
use Rattle.wire.specs.RequestWriting.{unordered}
use Rattle.wire.proofs.Requests.{checked-unordered}
use Rattle.wire.proofs.request.writing.within_limits.Goals as goal

pub returns-then-ranges-le-MAX_RANGES : goal.returns-then-ranges-le-MAX_RANGES
returns-then-ranges-le-MAX_RANGES g c =
    let k = g.K.RangeKind.kind in
    let rs = c.args.ranges.now in
    let few = le-ltb 64 (length rs) (omega arith) in
    c.is_ok.ensures.value
    ∙ (ap is_ok (c.check_ranges.ensures ∙ ap (λ (xs : List Range). checked_ranges k None 16 xs) (map-id rs))
    ∙ (checked-unordered k None 16 rs ∙ ap (λ b. not (b || unordered k None rs)) (sym few)))
