-- Laws of writing a request.
use Rattle.std.proofs.Common.{◌≡◌, ℕ, ◌+◌, ◌*◌, ◌<◌, ◌≤◌, List, [], ◌∷◌, length, get_or, take, sym, refl, ap, ◌∙◌, arith}
use Rattle.std.proofs.lemmas.List.{take_more, flat_map_more, length-take-le}
use Rattle.wire.specs.declared.request.Range.{Range}
use Rattle.wire.specs.Fields.{overwritten}
use Rattle.wire.specs.RequestWriting.{range_bytes, ranges_bytes}
use Rattle.wire.proofs.Fields.{overwritten_more}

pub length_ranges : (rs : List Range) → length (ranges_bytes rs) ≡ 16 * length rs
length_ranges [] = refl
length_ranges (r ∷ rs) = let l = length_ranges rs in omega arith

-- the ranges so far, and one more
pub ranges_written : (rs : List Range) (i : ℕ) (r : Range) (start now next : List ℕ) → i < length rs → 16 ≤ length start
    → now ≡ overwritten start 16 (ranges_bytes (take i rs))
    → next ≡ overwritten now (16 + 16 * i) (range_bytes (get_or rs i r)) → next ≡ overwritten start 16 (ranges_bytes (take (i + 1) rs))
ranges_written rs i r start now next h l e f =
    let long = length_ranges (take i rs) in
    let many = length-take-le i rs (omega arith) in
    overwritten_more start now next (ranges_bytes (take i rs)) (range_bytes (get_or rs i r)) 16 (16 + 16 * i) e f (omega arith) l
    ∙ ap (overwritten start 16) (flat_map_more range_bytes [] (take i rs) (get_or rs i r) ∙ ap ranges_bytes (sym (take_more rs i r h)))
