-- What a store means, and what it answers. `Laws` says in plain words how the answers fit together.
use Rattle.std.specs.Prelude.{◌≡◌, ℕ, ◌+◌, ◌-◌, ◌≤◌, Bool, false, cond, ◌&&◌, List, [], ◌∷◌, length, Some, None, Ok, Option, Result, nat_le, nat_lt}
use Rattle.wire.specs.declared.fault.Fault.{Fault}
use Rattle.wire.specs.declared.fault.Refusal.TheVariants.{ShortBuffer}
use Rattle.wire.specs.Outcomes.{check, first_fault}
use Rattle.wire.specs.Segments.{Z}
use Rattle.wire.specs.Sessions.{span, place_of, message_of}
use Rattle.wire.specs.Writing.{some_long, copied}

-- messages that a store may have: each has 1,430 bytes at most, and their count and the bytes of their blocks are Longs
pub record Storable (ms : List (List ℕ)) : Type 0 where
  pub short : some_long ms ≡ false
  pub countable : length ms ≤ Z
  pub placeable : span ms ≤ Z

-- whether there is a message n; the first is message 1
abbrev pub inside : List (List ℕ) → ℕ → Bool
inside ms n = nat_le 1 n && nat_le n (length ms)

-- an answer about message n, absent where there is none
abbrev pub where_inside : {X : Type 0} → List (List ℕ) → ℕ → X → Option X
where_inside ms n x = cond (inside ms n) (Some x) None

-- the length of message n
abbrev pub length_at : List (List ℕ) → ℕ → Option ℕ
length_at ms n = where_inside ms n (length (message_of ms n))

-- the place of message n: where its block begins
abbrev pub place_at : List (List ℕ) → ℕ → Option ℕ
place_at ms n = where_inside ms n (place_of ms n)

-- the message whose block has byte b, where the messages are numbered from n on
abbrev pub touching_from : ℕ → List (List ℕ) → ℕ → Option ℕ
touching_from n [] b = None
touching_from n (m ∷ ms) b = cond (nat_lt b (2 + length m)) (Some n) (touching_from (n + 1) ms (b - (2 + length m)))

-- the message whose block has byte b
abbrev pub touching_at : List (List ℕ) → ℕ → Option ℕ
touching_at ms b = touching_from 1 ms b

-- what a copy of a message into a buffer answers: how many bytes were written, or that the buffer is short
abbrev pub copy_message : List ℕ → List ℕ → Result (Option ℕ) Fault
copy_message m out = first_fault (check (nat_lt (length out) (length m)) ShortBuffer 0 ∷ []) (Ok (Some (length m)))

-- what a copy of message n answers
abbrev pub copy_answer : List (List ℕ) → ℕ → List ℕ → Result (Option ℕ) Fault
copy_answer ms n out = cond (inside ms n) (copy_message (message_of ms n) out) (Ok None)

-- what a copy of message n leaves in the buffer: the message and what stood behind it; all that stood there, where there is no
-- such message or it does not fit
abbrev pub copy_left : List (List ℕ) → ℕ → List ℕ → List ℕ
copy_left ms n out = cond (inside ms n) (copied (message_of ms n) out) out
