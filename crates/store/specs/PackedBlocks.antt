-- Blocks one behind another in some bytes: which messages they are, and when they are all there is.
use Rattle.std.specs.Prelude.{◌≡◌, ℕ, zero, suc, Bool, true, false, not, List, [], ◌∷◌, length, take, drop, Ok, Err, Result, ◌==◌}
use Rattle.wire.specs.declared.fault.Fault.{Fault}
use Rattle.wire.specs.declared.fault.Refusal.TheVariants.{NotWholeBlocks}
use Rattle.wire.specs.Blocks.{first_block}
use Rattle.wire.specs.Outcomes.{check, first_fault}
use Rattle.wire.specs.Sessions.{span}
use Rattle.wire.specs.Writing.{payload_bytes, some_long}

-- the data of the whole blocks at the front of some bytes, as far as there are any, looking at most at so many
abbrev pub front_blocks : ℕ → List ℕ → List (List ℕ)
front_blocks zero bs = []
front_blocks (suc more) bs = elim (first_block 0 bs) [ Ok p ↦ p.0 ∷ front_blocks more p.1 | Err f ↦ [] ]

-- the data of all whole blocks at the front of some bytes
abbrev pub packed_in : List ℕ → List (List ℕ)
packed_in bs = front_blocks (length bs) bs

-- whether bytes are whole blocks of at most 1,430 and nothing else
abbrev pub are_blocks : List ℕ → Bool
are_blocks bs = span (packed_in bs) == length bs

-- what stands behind the first n blocks
abbrev pub beyond : ℕ → List ℕ → List ℕ
beyond n bs = drop (span (take n (packed_in bs))) bs

-- the answer to some bytes: a fault where they are not whole blocks
abbrev pub unpack_answer : {X : Type 0} → List ℕ → X → Result X Fault
unpack_answer bs x = first_fault (check (not (are_blocks bs)) NotWholeBlocks 0 ∷ []) (Ok x)

-- the law of it: bytes are whole blocks exactly when they are the blocks of some messages of at most 1,430, and those are the messages
pub record Unpacks (bs : List ℕ) : Type 0 where
  pub packed : are_blocks bs ≡ true → (payload_bytes (packed_in bs) ≡ bs) × (some_long (packed_in bs) ≡ false)
  pub only : (ms : List (List ℕ)) → payload_bytes ms ≡ bs → some_long ms ≡ false → (are_blocks bs ≡ true) × (packed_in bs ≡ ms)
