-- Where the data of messages that stand one behind the other ends.
use Rattle.std.specs.Prelude.{ℕ, ◌-◌, Bool, ◌&&◌, List, [], ◌∷◌, take, drop, ◌==◌, nat_le}

-- whether ends rise from where the first message begins to where all data ends; they stay where a message is empty
abbrev pub rise : ℕ → List ℕ → ℕ → Bool
rise from [] last = from == last
rise from (e ∷ es) last = nat_le from e && rise e es last

-- where all data ends: at the last end, or where the first message would begin
abbrev pub last_end : ℕ → List ℕ → ℕ
last_end from [] = from
last_end from (e ∷ es) = last_end e es

-- the data between each end and the one before it
abbrev pub between : ℕ → List ℕ → List ℕ → List (List ℕ)
between from [] bytes = []
between from (e ∷ es) bytes = take (e - from) (drop from bytes) ∷ between e es bytes
