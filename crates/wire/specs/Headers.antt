-- What the headers of segments and of requests have in common.
use Rattle.std.specs.Prelude.{ℕ, List, [], ◌∷◌, length, take, drop, Ok, Result, nat_lt}
use Rattle.wire.specs.declared.fault.Fault.{Fault}
use Rattle.wire.specs.declared.fault.Refusal.{Refusal}
use Rattle.wire.specs.Outcomes.{Check, check, first_fault}

-- what can be wrong with the size of what begins with a header of n bytes
abbrev pub short_checks : ℕ → Refusal → List ℕ → List Check
short_checks n r d = check (nat_lt (length d) n) r (length d) ∷ []

-- the header, and what stands behind it
abbrev pub split_header : ℕ → Refusal → List ℕ → Result (List ℕ × List ℕ) Fault
split_header n r d = first_fault (short_checks n r d) (Ok (take n d, drop n d))
