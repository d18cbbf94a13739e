-- What an intake holds once some of it was let go, and once more was read behind it.
use Rattle.std.proofs.Common.{◌≡◌, ℕ, ◌+◌, ◌-◌, ◌≤◌, min, List, length, take, drop, ap, ◌∙◌, sym, ⊎_elim, arith, length-drop}
use lib.Seq.{paste}
use Rattle.std.proofs.lemmas.List.{drop-take, length-take-le, drop_all, with_items_is}
use Rattle.std.proofs.lemmas.List.Edits.{take-paste}
use Rattle.std.proofs.lemmas.Slice.{between_is}
use Rattle.std.proofs.lemmas.Bool.{cases_lt}

-- what is left of the first bytes, moved to the front
pub discarded : (xs last : List ℕ) (held n m : ℕ) → held ≤ length xs → m ≡ min n held → last ≡ paste xs 0 (drop m xs) (held - m)
    → take (held - m) last ≡ drop n (take held xs)
discarded xs last held n m within is after =
    let ld = length-drop m xs in
    let z : held - m ≡ 0 + (held - m) = omega arith in
    let front : take (held - m) last ≡ take (held - m) (drop m xs)
    = (λ i. take (z i) (after i)) ∙ take-paste xs 0 (drop m xs) (held - m) (omega arith) (omega arith) in
    let rest : take (held - m) (drop m xs) ≡ drop n (take held xs)
    = ⊎_elim
    (λ lt. let none : held - m ≡ 0 = omega arith in
    let size : length (take held xs) ≡ held = length-take-le held xs within in
    ap (λ k. take k (drop m xs)) none ∙ sym (drop_all n (take held xs) (omega arith)))
    (λ le. let m_is : m ≡ n = omega arith in (λ i. take (held - m_is i) (drop (m_is i) xs)) ∙ between_is xs n held) (cases_lt held n) in
    front ∙ rest

-- what was read behind them
pub behind : (last : List ℕ) (held k n : ℕ) → k ≡ held → drop k (take (held + n) last) ≡ take n (drop held last)
behind last held k n e = ap (λ i. drop i (take (held + n) last)) e ∙ drop-take held n last

-- what the check is to try at the goals of a fill
pub ruleset filling = (behind, with_items_is, length-take-le)
