-- Little-endian numbers in a list of bytes.
use Rattle.std.specs.Prelude.{ℕ, zero, suc, ◌+◌, ◌*◌, ◌/◌, ◌%◌, ◌<◌, List, [], ◌∷◌, ◌++◌, length, take, drop}

-- the number that bytes write, the lowest first
abbrev pub le : List ℕ → ℕ
le [] = 0
le (b ∷ bs) = b + 256 * le bs

-- the lowest bytes of a number, as many as the width, the lowest first
abbrev pub bytes_of : ℕ → ℕ → List ℕ
bytes_of zero n = []
bytes_of (suc width) n = n % 256 ∷ bytes_of width (n / 256)

-- the number in the bytes at a place
abbrev pub field : List ℕ → ℕ → ℕ → ℕ
field d at width = le (take width (drop at d))

-- a list with some bytes in place of those that stood at a place
abbrev pub overwritten : List ℕ → ℕ → List ℕ → List ℕ
overwritten d at bs = take at d ++ (bs ++ drop (at + length bs) d)

-- every number of a list is a byte, as in each slice of the code
abbrev pub Octets : List ℕ → Type 0
Octets [] = Unit {0}
Octets (b ∷ bs) = (b < 256) × Octets bs
