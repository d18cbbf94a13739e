-- How the answers of a store fit together, whatever its messages are.
use Rattle.std.specs.Prelude.{◌≡◌, ℕ, ◌+◌, ◌<◌, ◌≤◌, List, length, Some, None}
use Rattle.wire.specs.Sessions.{span}
use Rattle.store.specs.Stores.{length_at, place_at, touching_at}

-- message n is k bytes long, and its block begins at place p
pub record Stands (ms : List (List ℕ)) (n p k : ℕ) : Type 0 where
  pub long : length_at ms n ≡ Some k
  pub placed : place_at ms n ≡ Some p

-- the block of message n has byte b
pub record HasByte (ms : List (List ℕ)) (n b : ℕ) : Type 0 where
  pub place : ℕ
  pub size : ℕ
  pub stands : Stands ms n place size
  pub from_place : place ≤ b
  pub before_end : b < place + 2 + size

-- places and lengths: there is an answer for the messages 1 to the count, and for no others; message 1 has place 0, each
-- message's place is that of the one before, plus two, plus the length of that, and the last one ends at the byte total
pub record PlacesFit (ms : List (List ℕ)) : Type 0 where
  pub present : (n : ℕ) → 1 ≤ n → n ≤ length ms → (p : ℕ) × ((k : ℕ) × Stands ms n p k)
  pub absent : (n : ℕ) → (n < 1 → (length_at ms n ≡ None) × (place_at ms n ≡ None)) × (length ms < n → (length_at ms n ≡ None) × (place_at ms n ≡ None))
  pub first : (p k : ℕ) → Stands ms 1 p k → p ≡ 0
  pub next : (n p k q j : ℕ) → Stands ms n p k → Stands ms (n + 1) q j → q ≡ p + 2 + k
  pub last : (p k : ℕ) → Stands ms (length ms) p k → p + 2 + k ≡ span ms

-- bytes: each one below the total touches one message, the one whose block has it, and no other; none from there on touches any
pub record BytesTouchOne (ms : List (List ℕ)) : Type 0 where
  pub touched : (b : ℕ) → b < span ms → (n : ℕ) × ((touching_at ms b ≡ Some n) × HasByte ms n b)
  pub alone : (b n m : ℕ) → HasByte ms n b → HasByte ms m b → n ≡ m
  pub untouched : (b : ℕ) → span ms ≤ b → touching_at ms b ≡ None
