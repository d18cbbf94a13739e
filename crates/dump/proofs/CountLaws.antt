-- The counts of a list with one line more.
use Rattle.std.proofs.Common.{◌≡◌, ℕ, ◌+◌, List, [], ◌∷◌, ◌++◌, length, arith, length-append}
use Rattle.std.proofs.lemmas.List.Sums.{sum_by_push}
use Rattle.std.specs.List.{sum_by}
use Rattle.dump.specs.declared.line.Line.{Line}
use Rattle.dump.specs.Counts.{counts_in, capped, totals_of, added}

capped_more : (f : Line → ℕ) (ls : List Line) (l : Line) → capped (capped (sum_by f ls) + f l) ≡ capped (sum_by f (ls ++ l ∷ []))
capped_more f ls l = let s = sum_by_push f ls l in omega arith

pub one_more : (ls : List Line) (l : Line) → added (totals_of ls) l ≡ totals_of (ls ++ l ∷ [])
one_more ls l =
    let n = length-append ls (l ∷ []) in
    let records_are : capped (capped (length ls) + 1) ≡ capped (length (ls ++ l ∷ [])) = omega arith in
    λ i. record {
      records = records_are i;
      segments = capped_more (λ x. (counts_in x).segments) ls l i;
      heartbeats = capped_more (λ x. (counts_in x).heartbeats) ls l i;
      refusals = capped_more (λ x. (counts_in x).refusals) ls l i;
      messages = capped_more (λ x. (counts_in x).messages) ls l i;
    }
