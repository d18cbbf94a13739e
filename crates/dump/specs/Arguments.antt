-- How an argument writes a number: in decimal, or in hexadecimal after 0x.
use Rattle.std.specs.Prelude.{◌≡◌, ℕ, ◌≤◌, List, ◌++◌, Ok, codes, Result, MatchResult, ◌≢◌}
use Rattle.std.specs.Str.Parse.{ParsesUnsigned}

-- a text that begins with 0x is read in hexadecimal from there on, and any other text in decimal
pub record ReadsNumber {E : Type 0} (bs : List ℕ) (r : Result ℕ E) : Type 0 where
  pub hexadecimal : (ds : List ℕ) → bs ≡ codes "0x" ++ ds → ParsesUnsigned 32 16 ds r
  pub decimal : ((ds : List ℕ) → bs ≢ codes "0x" ++ ds) → ParsesUnsigned 32 10 bs r

-- a text that writes a number of at most a limit gives that number, and any other gives an error
abbrev pub ReadsUpTo : {E : Type 0} → ℕ → List ℕ → Result ℕ E → Type 0
ReadsUpTo most bs r =
    MatchResult r (λ n. ReadsNumber {E = Unit {0}} bs (Ok n) × (n ≤ most)) (λ _. (n : ℕ) → ReadsNumber {E = Unit {0}} bs (Ok n) → n ≤ most → ⊥)
