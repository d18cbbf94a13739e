-- A capture as bytes: records one behind the other, each a two-byte little-endian length and that many bytes.
use Rattle.std.specs.Prelude.{◌≡◌, ℕ, ◌+◌, cond, ◌||◌, List, [], ◌∷◌, ◌++◌, length, take, drop, Some, None, Option, nat_lt}
use Rattle.std.specs.Option.{option_to_list}
use Rattle.wire.specs.Fields.{field}
use Rattle.capture.specs.declared.records.Records.{Records}

-- the record at the front of some bytes and what follows it, where all of it is there
abbrev pub first_record : List ℕ → Option (List ℕ × List ℕ)
first_record bs =
    cond (nat_lt (length bs) 2 || nat_lt (length (drop 2 bs)) (field bs 0 2)) None
    (Some (take (field bs 0 2) (drop 2 bs), drop (field bs 0 2) (drop 2 bs)))

-- a record that was cut: the bytes that are there of it; a lone byte of a length is no record
abbrev pub cut_record : List ℕ → Option (List ℕ)
cut_record bs = cond (nat_lt (length bs) 2) None (Some (drop 2 bs))

-- Splits bs rs rest: the bytes bs are the records rs, and then rest, in which no whole record stands first
abbrev pub Splits : List ℕ → List (List ℕ) → List ℕ → Type 0
Splits bs [] rest = (first_record bs ≡ None) × (rest ≡ bs)
Splits bs (r ∷ rs) rest = (after : List ℕ) × (first_record bs ≡ Some (r, after)) × Splits after rs rest

-- Captures bs ds: the records of a whole capture are ds, the last with the bytes that are there where it was cut
pub record Captures (bs : List ℕ) (ds : List (List ℕ)) : Type 0 where
  pub whole : List (List ℕ)
  pub rest : List ℕ
  pub splits : Splits bs whole rest
  pub all : ds ≡ whole ++ option_to_list (cut_record rest)

-- the bytes that a cursor over records has yet to look at
abbrev pub bytes_left : Records → List ℕ
bytes_left s = s.rest.now

-- some bytes split in one way only
abbrev pub SplitsOneWay : Type 0
SplitsOneWay =
    (bs : List ℕ) (rs ts : List (List ℕ)) (x y : List ℕ) → Splits bs rs x → Splits bs ts y → (rs ≡ ts) × (x ≡ y)

-- it does not matter how a capture is cut into reads: what is left of one, with the next behind it, splits as the two together
abbrev pub SplitsInParts : Type 0
SplitsInParts =
    (bs more : List ℕ) (rs ts : List (List ℕ)) (x y : List ℕ) → Splits bs rs x → Splits (x ++ more) ts y → Splits (bs ++ more) (rs ++ ts) y

-- what is left when some bytes are split stands at their end
abbrev pub SplitsOffTheEnd : Type 0
SplitsOffTheEnd =
    (bs : List ℕ) (rs : List (List ℕ)) (x : List ℕ) (n : ℕ) → Splits bs rs x → n + length x ≡ length bs → drop n bs ≡ x
