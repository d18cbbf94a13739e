-- Laws of the cursor: one message more, and how many at most.
use Rattle.std.proofs.Common.{◌≡◌, ℕ, zero, suc, ◌+◌, ◌-◌, ◌<◌, ◌≤◌, List, ◌∷◌, length, Ok, Err, Result, ap, ◌∙◌, arith}
use Rattle.wire.specs.declared.fault.Fault.{Fault}
use Rattle.wire.specs.Blocks.{first_block}
use Rattle.wire.specs.Cursor.{Placed, placed_at, wrap, if_ok, unread_from}
use Rattle.wire.proofs.Blocks.{Pair}

abbrev after : ℕ → ℕ → ℕ → Result Pair Fault → List Placed
after left n at r = if_ok r (λ (p : Pair). placed_at n at p.0 ∷ unread_from left (wrap (n + 1)) (wrap (at + (2 + length p.0))) p.1)

pub unread_more : (left n at : ℕ) (bs body rest : List ℕ) → 0 < left → first_block at bs ≡ Ok (body, rest)
    → unread_from left n at bs ≡ placed_at n at body ∷ unread_from (left - 1) (wrap (n + 1)) (wrap (at + (2 + length body))) rest
unread_more zero n at bs body rest h e = absurd (omega arith)
unread_more (suc left) n at bs body rest h e =
    let l : left ≡ suc left - 1 = omega arith in
    ap (after left n at) e ∙ ap (λ k. placed_at n at body ∷ unread_from k (wrap (n + 1)) (wrap (at + (2 + length body))) rest) l

-- one message more than follow
after_at_most : (left n at : ℕ) (r : Result Pair Fault)
    → ((n at : ℕ) (bs : List ℕ) → length (unread_from left n at bs) ≤ left) → length (after left n at r) ≤ suc left
after_at_most left n at (Err e) more = omega arith
after_at_most left n at (Ok p) more = omega (arith, more (wrap (n + 1)) (wrap (at + (2 + length p.0))) p.1)

-- as many messages as there are blocks left, at most
pub unread_at_most : (left n at : ℕ) (bs : List ℕ) → length (unread_from left n at bs) ≤ left
unread_at_most zero n at bs = omega arith
unread_at_most (suc left) n at bs = after_at_most left n at (first_block at bs) (unread_at_most left)
