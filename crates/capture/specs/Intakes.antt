-- How much a call read.
use Rattle.std.specs.Prelude.{ℕ, Ok, Err, Result}

-- how many bytes a call read; one that failed read none
abbrev pub read_count : {E : Type 0} → Result ℕ E → ℕ
read_count (Ok n) = n
read_count (Err e) = 0
