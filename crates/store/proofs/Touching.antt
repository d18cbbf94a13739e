-- Which message has a byte.
use Rattle.std.proofs.Common.{◌≡◌, ℕ, zero, suc, ◌+◌, ◌-◌, ◌<◌, ◌≤◌, List, [], ◌∷◌, length, get_or, take, Some, None, refl, inl, inr, arith}
use Rattle.std.proofs.lemmas.Bool.{cases_lt}
use Rattle.std.proofs.lemmas.Grind.{common_steps}
use Rattle.wire.specs.Sessions.{span}
use Rattle.store.specs.Stores.{touching_from}

-- fewer messages have no more bytes
pub span_rises : (i j : ℕ) (ms : List (List ℕ)) → i ≤ j → span (take i ms) ≤ span (take j ms)
span_rises zero j ms h = omega arith
span_rises (suc i) zero ms h = absurd (omega arith)
span_rises (suc i) (suc j) [] h = omega arith
span_rises (suc i) (suc j) (m ∷ ms) h = omega (arith, span_rises i j ms (omega arith))

pub span_part : (i : ℕ) (ms : List (List ℕ)) → span (take i ms) ≤ span ms
span_part zero ms = omega arith
span_part (suc i) [] = omega arith
span_part (suc i) (m ∷ ms) = omega (arith, span_part i ms)

-- the block of message i, counted from 0, has byte b
pub record Holds (ms : List (List ℕ)) (i b : ℕ) : Type 0 where
  pub within : i < length ms
  pub from_place : span (take i ms) ≤ b
  pub before_end : b < span (take i ms) + (2 + length (get_or ms i []))

-- the message that has a byte is the one it touches
pub touching_is : (n : ℕ) (ms : List (List ℕ)) (i b : ℕ) → Holds ms i b → touching_from n ms b ≡ Some (n + i)
touching_is n [] i b h = absurd (omega arith)
touching_is n (m ∷ ms) zero b h = grind (arith, common_steps)
touching_is n (m ∷ ms) (suc i) b h =
    let rest : Holds ms i (b - (2 + length m)) = record { within = omega arith; from_place = omega arith; before_end = omega arith } in
    grind (arith, common_steps, touching_is (n + 1) ms i (b - (2 + length m)) rest)

-- each byte of the blocks has such a message
pub holder : (ms : List (List ℕ)) (b : ℕ) → b < span ms → (i : ℕ) × Holds ms i b
holder [] b h = absurd (omega arith)
holder (m ∷ ms) b h = elim (cases_lt b (2 + length m)) [
  | inl here ↦ (0, record { within = omega arith; from_place = omega arith; before_end = omega arith })
  | inr past ↦
      let r = holder ms (b - (2 + length m)) (omega arith) in
      let t = r.1 in
      (suc r.0, record { within = omega arith; from_place = omega arith; before_end = omega arith })
]

-- a byte past all blocks touches none
pub touching_none : (n : ℕ) (ms : List (List ℕ)) (b : ℕ) → span ms ≤ b → touching_from n ms b ≡ None
touching_none n [] b h = refl
touching_none n (m ∷ ms) b h = grind (arith, common_steps, touching_none (n + 1) ms (b - (2 + length m)))
