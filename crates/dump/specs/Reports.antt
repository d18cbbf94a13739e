-- What a report holds: for whom it reads, the counts of the records so far, and the text that is yet to be printed.
use Rattle.std.specs.Prelude.{◌≡◌, ℕ, ◌+◌, List, ◌++◌, map, length, Some, None, codes, decimal, fold, Option}
use Rattle.capture.specs.Records.{Splits, Captures}
use Rattle.wire.specs.declared.address.Expected.{Expected}
use Rattle.wire.specs.Segments.{read_segment}
use Rattle.dump.specs.declared.line.Line.{Line}
use Rattle.dump.specs.declared.totals.Totals.{Totals}
use Rattle.dump.specs.Counts.{added, totals_of, totals_text}
use Rattle.dump.specs.Lines.{line_for, line_text}

-- what a reader expects, the counts and the text of a report
pub record Reported : Type 0 where
  pub expected : Expected
  pub totals : Totals
  pub text : List ℕ

-- a line as it is printed, with the record's number, counted from 1
abbrev pub record_text : ℕ → Line → List ℕ
record_text n l = decimal n ++ (codes ": " ++ (line_text l ++ codes "\n"))

-- one line more, with the number that the record then has
abbrev pub with_line : Reported → Line → Reported
with_line p l = record p { totals = added p.totals l; text = p.text ++ record_text (added p.totals l).records l }

-- the line of a record, for a reader that expects e
abbrev pub line_of : Expected → List ℕ → Line
line_of e d = line_for (read_segment e d)

-- one record more
abbrev pub with_record : Reported → List ℕ → Reported
with_record p d = with_line p (line_of p.expected d)

-- several records more
abbrev pub with_records : Reported → List (List ℕ) → Reported
with_records p ds = fold with_record p ds

-- one record more, if there is one
abbrev pub with_cut : Reported → Option (List ℕ) → Reported
with_cut p None = p
with_cut p (Some d) = with_record p d

-- the end of a report
abbrev pub with_totals : Reported → Reported
with_totals p = record p { text = p.text ++ (codes "total: " ++ (totals_text p.totals ++ codes "\n")) }

-- what a report holds after some bytes of a capture, of which it used the first n
pub record Reports (before after : Reported) (bs : List ℕ) (n : ℕ) : Type 0 where
  pub records : List (List ℕ)
  pub rest : List ℕ
  pub splits : Splits bs records rest
  pub used : n + length rest ≡ length bs
  pub reported : after ≡ with_records before records
  pub counted : (ls : List Line) → before.totals ≡ totals_of ls → after.totals ≡ totals_of (ls ++ map (line_of before.expected) records)

-- a report follows a capture: of the bytes read so far, its counts are those of the whole records, and what is held is what follows these
pub record Follows (seen held : List ℕ) (p : Reported) : Type 0 where
  pub records : List (List ℕ)
  pub splits : Splits seen records held
  pub counted : p.totals ≡ totals_of (map (line_of p.expected) records)

-- reading goes on, by n bytes: what followed a capture follows it still
abbrev pub FollowsOn : List ℕ → Reported → List ℕ → Reported → ℕ → Type 0
FollowsOn held p held' p' n =
    (seen : List ℕ) → Follows seen held p → (more : List ℕ) × (length more ≡ n) × Follows (seen ++ more) held' p'

-- the counts of a whole capture
abbrev pub CountsCapture : List ℕ → Reported → Type 0
CountsCapture bs p = (ds : List (List ℕ)) × Captures bs ds × (p.totals ≡ totals_of (map (line_of p.expected) ds))

-- at the end of the input, what followed a capture has its counts
abbrev pub EndsWithCounts : List ℕ → Reported → Reported → Type 0
EndsWithCounts rest p p' = (seen : List ℕ) → Follows seen rest p → CountsCapture seen p'
