-- What a cursor over messages has still to hand out.
use Rattle.std.specs.Prelude.{ℕ, zero, suc, ◌+◌, ◌%◌, ◌^◌, List, [], ◌∷◌, length, Ok, Err, Result}
use Rattle.wire.specs.declared.messages.Message.{Message}
use Rattle.wire.specs.declared.messages.Messages.{Messages}
use Rattle.wire.specs.Blocks.{first_block}

-- a message: its number, its place (the stream offset of its length field) and its data
pub record Placed : Type 0 where
  pub number : ℕ
  pub place : ℕ
  pub body : List ℕ

-- a message with a number, at a place
abbrev pub placed_at : ℕ → ℕ → List ℕ → Placed
placed_at n at b = record { number = n; place = at; body = b }

-- a message that the cursor handed out
abbrev pub placed : Message → Placed
placed m = placed_at m.number m.place m.body.now

-- some data in a row, as messages: the first with a number and at a place, each other behind the one before
abbrev pub numbered : ℕ → ℕ → List (List ℕ) → List Placed
numbered n at [] = []
numbered n at (b ∷ bs) = placed_at n at b ∷ numbered (n + 1) (at + (2 + length b)) bs

-- a counter of 64 bits; none of an accepted segment's passes the largest Long
abbrev pub wrap : ℕ → ℕ
wrap n = n % 2 ^ 64

-- a list made from an answer; none from a fault
abbrev pub if_ok : {X Y E : Type 0} → Result X E → (X → List Y) → List Y
if_ok (Ok x) f = f x
if_ok (Err e) f = []

-- the blocks of some bytes, as far as they can be read
abbrev pub unread_from : ℕ → ℕ → ℕ → List ℕ → List Placed
unread_from zero n at bs = []
unread_from (suc left) n at bs =
    if_ok (first_block at bs) (λ p. placed_at n at p.0 ∷ unread_from left (wrap (n + 1)) (wrap (at + (2 + length p.0))) p.1)

-- what a cursor has still to hand out
abbrev pub unread : Messages → List Placed
unread m = unread_from m.left m.number m.place m.rest.now
