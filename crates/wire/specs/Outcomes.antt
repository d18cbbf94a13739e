-- Results with a fault.
use Rattle.std.specs.Prelude.{ℕ, Bool, cond, List, [], ◌∷◌, Ok, Err, Result}
use Rattle.wire.specs.declared.fault.Fault.{Fault}
use Rattle.wire.specs.declared.fault.Refusal.{Refusal}
use Rattle.wire.specs.Faults.{fault}

-- the answer with its value changed, where there is one
abbrev pub map_ok : {X Y E : Type 0} → (X → Y) → Result X E → Result Y E
map_ok f (Ok x) = Ok (f x)
map_ok f (Err e) = Err e

-- go on with the value, where there is one
abbrev pub and_then : {X Y E : Type 0} → Result X E → (X → Result Y E) → Result Y E
and_then (Ok x) f = f x
and_then (Err e) f = Err e

-- a test, and the fault that is given where it comes out true
pub record Check : Type 0 where
  pub fails : Bool
  pub gives : Fault

-- a check for a refusal, found at a byte
abbrev pub check : Bool → Refusal → ℕ → Check
check b r n = record { fails = b; gives = fault r n }

-- the fault of the first check that fails; the answer, where none does
abbrev pub first_fault : {X : Type 0} → List Check → Result X Fault → Result X Fault
first_fault [] answer = answer
first_fault (c ∷ cs) answer = cond c.fails (Err c.gives) (first_fault cs answer)
