-- Blocks: a length of two bytes, then that many bytes of data.
use Rattle.std.specs.Prelude.{ℕ, zero, suc, ◌+◌, not, List, [], ◌∷◌, length, take, drop, Ok, Result, ◌==◌, nat_lt}
use Rattle.wire.specs.declared.fault.Fault.{Fault}
use Rattle.wire.specs.declared.fault.Refusal.TheVariants.{BlocksDisagree, LongBlock}
use Rattle.wire.specs.Fields.{field}
use Rattle.wire.specs.Outcomes.{map_ok, and_then, Check, check, first_fault}

-- what can be wrong with a block at the front of some bytes, which stand at a place of the datagram
abbrev pub block_checks : ℕ → List ℕ → List Check
block_checks at bs =
    check (nat_lt (length bs) 2) BlocksDisagree at
    ∷ check (nat_lt 1430 (field bs 0 2)) LongBlock at
    ∷ check (nat_lt (length (drop 2 bs)) (field bs 0 2)) BlocksDisagree at
    ∷ []

-- the data of the block at the front, and what follows it
abbrev pub first_block : ℕ → List ℕ → Result (List ℕ × List ℕ) Fault
first_block at bs =
    first_fault (block_checks at bs) (Ok (take (field bs 0 2) (drop 2 bs), drop (field bs 0 2) (drop 2 bs)))

-- the data of as many blocks as are counted, with nothing after them
abbrev pub blocks : ℕ → ℕ → List ℕ → Result (List (List ℕ)) Fault
blocks zero at bs = first_fault (check (not (length bs == 0)) BlocksDisagree at ∷ []) (Ok [])
blocks (suc n) at bs =
    and_then (first_block at bs) (λ p. map_ok (λ ms. p.0 ∷ ms) (blocks n (at + (2 + length p.0)) p.1))

-- whether they are such blocks
abbrev pub checked_blocks : ℕ → ℕ → List ℕ → Result (Unit {0}) Fault
checked_blocks n at bs = map_ok (λ _. tt) (blocks n at bs)
