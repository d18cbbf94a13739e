-- What a writer answers, and what it leaves in the buffer that it is lent.
use Rattle.std.specs.Prelude.{ℕ, Bool, List, [], ◌∷◌, length, Ok, Err, Result, nat_lt}
use Rattle.wire.specs.declared.fault.Fault.{Fault}
use Rattle.wire.specs.declared.fault.Refusal.TheVariants.{SettingOutOfRange, ShortBuffer}
use Rattle.wire.specs.Fields.{overwritten}
use Rattle.wire.specs.Outcomes.{Check, check, first_fault}

-- what can be wrong with writing: the values are past their limits, or the buffer is shorter than what is to be written
abbrev pub write_checks : Bool → ℕ → List ℕ → List Check
write_checks past size out =
    check past SettingOutOfRange 0
    ∷ check (nat_lt (length out) size) ShortBuffer 0
    ∷ []

-- the answer: how many bytes were written, or a fault
abbrev pub write_answer : Bool → ℕ → List ℕ → Result ℕ Fault
write_answer past size out = first_fault (write_checks past size out) (Ok size)

-- the buffer after: the bytes and what stood behind them; on a fault all that stood there
abbrev pub left_by : Result ℕ Fault → List ℕ → List ℕ → List ℕ
left_by (Ok n) bytes out = overwritten out 0 bytes
left_by (Err f) bytes out = out
